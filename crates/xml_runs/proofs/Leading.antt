-- What the first byte of a character of several bytes asks for after it, and which bytes are characters by themselves. Assumes nothing.
use Prim.Native.Nat.{ℕ, suc, ◌+◌, ◌≤◌, ◌<◌}
use native.Mathlib.Omega.{arith}
use borrow.Author.Tests.{leb-true, leb-false, le-leb, lt-leb, ne_eqb}
use mathlib.Core.Path.{◌≡◌, refl, ◌∙◌, ap}
use mathlib.Core.Bool.{Bool, true, false, ◌&&◌, cond}
use mathlib.Core.List.{List}
use mathlib.Core.Logic.{⊎_elim}
use Rattle.paper.proofs.Tests.{decide}
use mathlib.Core.Option.{none, some}
use lib.Dec.{eqb, leb}
use lib.ListN.{length, get_or}
use Rattle.paper.specs.Xml.{from, plain, Pattern, done, tail, wide, is_done, after, reference, squares, Frame, stands, run, partly, goes_on, step_mode}
use Rattle.xml_runs.specs.Runs.{Crosses, squares_after}
use Rattle.std.specs.Prelude.{Err}
use Rattle.paper.specs.declared.Refusal.TheVariants.{NoXml}
use Rattle.xml_bytes.specs.Promised.{Reach}
use Rattle.xml_bytes.proofs.Steps.{Calm}
use Rattle.xml_bytes.proofs.Steps.{opens_not}
use Rattle.xml_runs.proofs.Holding.{run_on, run_stuck}

pub in_from : (low high b : ℕ) → low ≤ b → b ≤ high → from low high b ≡ true
in_from low high b l h = rw (le-leb low b l, le-leb b high h)

below_from : (low high b : ℕ) → b < low → from low high b ≡ false
below_from low high b l = rw (lt-leb low b l)

above_from : (low high b : ℕ) → high < b → from low high b ≡ false
above_from low high b l = rw (lt-leb b high l) (go (leb low b))
  where
    go : (t : Bool) → (t && false) ≡ false
    go true = refl
    go false = refl

-- A number from n on other than n is past it.
pub past : (n b : ℕ) → n ≤ b → (b ≡ n → ⊥) → n < b
past n b l e =
    ⊎_elim (λ t. leb-true (suc n) b t) (λ t. absurd (e (let u : b < suc n = leb-false (suc n) b t in omega arith))) (decide (leb (suc n) b))

-- The bytes that lead two, three and four.
pub wide_two : (b : ℕ) → 194 ≤ b → b ≤ 223 → after wide b ≡ some (tail done)
wide_two b l h =
    rw (
      in_from 194 223 b l h,
      ne_eqb 224 b (λ e. omega arith),
      below_from 225 236 b (omega arith),
      ne_eqb 237 b (λ e. omega arith),
      ne_eqb 238 b (λ e. omega arith),
      ne_eqb 239 b (λ e. omega arith),
      ne_eqb 240 b (λ e. omega arith),
      below_from 241 243 b (omega arith),
      ne_eqb 244 b (λ e. omega arith),
    )

pub wide_three : (b : ℕ) → 225 ≤ b → b ≤ 236 → after wide b ≡ some (tail (tail done))
wide_three b l h =
    rw (
      above_from 194 223 b (omega arith),
      ne_eqb 224 b (λ e. omega arith),
      in_from 225 236 b l h,
      ne_eqb 237 b (λ e. omega arith),
      ne_eqb 238 b (λ e. omega arith),
      ne_eqb 239 b (λ e. omega arith),
      ne_eqb 240 b (λ e. omega arith),
      below_from 241 243 b (omega arith),
      ne_eqb 244 b (λ e. omega arith),
    )

pub wide_four : (b : ℕ) → 241 ≤ b → b ≤ 243 → after wide b ≡ some (tail (tail (tail done)))
wide_four b l h =
    rw (
      above_from 194 223 b (omega arith),
      ne_eqb 224 b (λ e. omega arith),
      above_from 225 236 b (omega arith),
      ne_eqb 237 b (λ e. omega arith),
      ne_eqb 238 b (λ e. omega arith),
      ne_eqb 239 b (λ e. omega arith),
      ne_eqb 240 b (λ e. omega arith),
      in_from 241 243 b l h,
      ne_eqb 244 b (λ e. omega arith),
    )

pub wide_low : (b : ℕ) → b < 194 → after wide b ≡ none
wide_low b l =
    rw (
      below_from 194 223 b l,
      ne_eqb 224 b (λ e. omega arith),
      below_from 225 236 b (omega arith),
      ne_eqb 237 b (λ e. omega arith),
      ne_eqb 238 b (λ e. omega arith),
      ne_eqb 239 b (λ e. omega arith),
      ne_eqb 240 b (λ e. omega arith),
      below_from 241 243 b (omega arith),
      ne_eqb 244 b (λ e. omega arith),
    )

pub wide_high : (b : ℕ) → 244 < b → after wide b ≡ none
wide_high b l =
    rw (
      above_from 194 223 b (omega arith),
      ne_eqb 224 b (λ e. omega arith),
      above_from 225 236 b (omega arith),
      ne_eqb 237 b (λ e. omega arith),
      ne_eqb 238 b (λ e. omega arith),
      ne_eqb 239 b (λ e. omega arith),
      ne_eqb 240 b (λ e. omega arith),
      above_from 241 243 b (omega arith),
      ne_eqb 244 b (λ e. omega arith),
    )

-- No byte from 128 on is a character by itself.
not_plain : (b : ℕ) → 128 ≤ b → plain b ≡ false
not_plain b l = rw (above_from 32 127 b (omega arith), ne_eqb b 9 (λ e. omega arith), ne_eqb b 10 (λ e. omega arith), ne_eqb b 13 (λ e. omega arith))

-- In a run such a byte begins a character of several.
pub high_step : (begin k at b : ℕ) (frames : List Frame) → 128 ≤ b → step_mode (run begin k) at frames b ≡ goes_on begin frames (after wide b)
high_step begin k at b frames l =
    rw (ne_eqb b 60 (λ e. omega arith), ne_eqb b 38 (λ e. omega arith), ne_eqb b 93 (λ e. omega arith), ne_eqb b 62 (λ e. omega arith), not_plain b l)

-- A byte below 128 other than `<`, `&` and the `>` of `]]>` goes on with the run exactly if it is a character.
pub plain_step : (begin k at b : ℕ) (frames : List Frame) → (b ≡ 60 → ⊥) → (b ≡ 38 → ⊥) → (eqb b 62 && eqb k 2) ≡ false → plain b ≡ true → step_mode (run begin k) at frames b ≡ stands (run begin (squares_after b k)) frames
plain_step begin k at b frames tag amp mark p = rw (ne_eqb b 60 tag, ne_eqb b 38 amp, mark, p) (go (eqb b 93))
  where
    go : (t : Bool) → cond t (stands (run begin (squares k)) frames) (stands (run begin 0) frames) ≡ stands (run begin (cond t (squares k) 0)) frames
    go true = refl
    go false = refl

pub marked_step : (begin k at b : ℕ) (frames : List Frame) → (b ≡ 60 → ⊥) → (b ≡ 38 → ⊥) → (eqb b 62 && eqb k 2) ≡ true → (b ≡ 93 → ⊥) → step_mode (run begin k) at frames b ≡ none
marked_step begin k at b frames tag amp mark other = rw (ne_eqb b 60 tag, ne_eqb b 38 amp, ne_eqb b 93 other, mark)

pub wrong_step : (begin k at b : ℕ) (frames : List Frame) → b < 128 → (b ≡ 60 → ⊥) → (b ≡ 38 → ⊥) → (b ≡ 93 → ⊥) → (eqb b 62 && eqb k 2) ≡ false → plain b ≡ false → step_mode (run begin k) at frames b ≡ none
wrong_step begin k at b frames l tag amp other mark p = rw (ne_eqb b 60 tag, ne_eqb b 38 amp, ne_eqb b 93 other, mark, p) (rw (wide_low b (omega arith)))

pub reference_step : (begin k at b : ℕ) (frames : List Frame) → b ≡ 38 → step_mode (run begin k) at frames b ≡ stands (partly begin reference) frames
reference_step begin k at b frames e = rw e

-- IN A RUN, BY THE FIRST BYTE OF A CHARACTER OF SEVERAL.
module _ (text : List ℕ) (at : ℕ) (inside : at < length text) (high : 128 ≤ get_or text at 0) where
  high_calm : Calm (get_or text at 0)
  high_calm = record { no_tag = λ e. omega arith; no-reference = λ e. omega arith }

  pub high_on : (q : Pattern) (r : Reach) → after wide (get_or text at 0) ≡ some q → is_done q ≡ false → Crosses text (at + 1) (λ begin. partly begin q) (λ begin. run begin 0) r
      → (k : ℕ) → Crosses text at (λ begin. run begin k) (λ begin. run begin 0) r
  high_on q r e more h k =
      run_on text at inside k q r high_calm.no_tag (opens_not text at inside high_calm)
      (λ begin frames. high_step begin k at (get_or text at 0) frames high ∙ ap (goes_on begin frames) e ∙ rw more) h

  pub high_wrong : after wide (get_or text at 0) ≡ none → (k : ℕ) → Crosses text at (λ begin. run begin k) (λ begin. run begin 0) (Err (NoXml at))
  high_wrong e k =
      run_stuck text at inside k (λ begin. run begin 0) high_calm (λ begin frames. high_step begin k at (get_or text at 0) frames high ∙ ap (goes_on begin frames) e)
