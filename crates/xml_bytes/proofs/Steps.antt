-- How reading goes on from a byte of the text: the text ends, a thing that is left out opens, the byte is taken, or it is another. Assumes nothing.
use Prim.Native.Nat.{ℕ, suc, ◌+◌, ◌≤◌, ◌<◌}
use native.Mathlib.Omega.{arith}
use borrow.Author.Tests.{ne_eqb, eq-eqb, leb-true, leb-false}
use mathlib.Core.Path.{◌≡◌, refl, sym, ◌∙◌, ap}
use mathlib.Core.Bool.{Bool, true, false, ◌&&◌, cond, false≢true}
use mathlib.Core.List.{List, [], ◌∷◌}
use mathlib.Core.Logic.{⊎_elim}
use mathlib.Core.Option.{none, some}
use lib.Dec.{leb}
use Rattle.std.specs.Prelude.{Err}
use lib.ListN.{length, get_or, drop, drop_of_length-le, length-drop}
use lib.Seq.{drop-cons, get_or-drop}
use Rattle.paper.specs.Tools.{run_of}
use Rattle.paper.specs.Xml.{State, step, left_out, left_out_anywhere}
use Rattle.xml_bytes.specs.Seeking.{refused, settled}
use Rattle.xml_bytes.specs.Promised.{seek_at, reached, refusal_at, calm}
use Rattle.paper.proofs.Tests.{decide}
use Rattle.paper.proofs.Lexing.{run_within, run-stops}

-- A byte with which nothing opens that is left out everywhere.
pub record Calm (b : ℕ) : Type 0 where
  pub no_tag : b ≡ 60 → ⊥
  pub no-reference : b ≡ 38 → ⊥

-- A byte that passes the test is calm.
pub is_calm : (b : ℕ) → calm b ≡ true → Calm b
is_calm b h = record { no_tag = λ e. false≢true (sym (rw (eq-eqb b 60 e)) ∙ h); no-reference = λ e. false≢true (sym (both e) ∙ h) }
  where
    both : b ≡ 38 → calm b ≡ false
    both e = rw (e)

pub calm_opens : (b : ℕ) (bs : List ℕ) → Calm b → left_out_anywhere (b ∷ bs) ≡ false
calm_opens b bs c = rw (ne_eqb b 60 c.no_tag, ne_eqb b 38 c.no-reference)

-- One byte opens nothing.
pub alone_opens : (b : ℕ) → left_out_anywhere (b ∷ []) ≡ false
alone_opens b = simp and_zero
  where
    and_zero : (x : Bool) → (x && false) ≡ false
    and_zero true = refl
    and_zero false = refl

-- What stands at a place decides.
pub in_or_out : (at long : ℕ) {C : Type 0} → (at < long → C) → (long ≤ at → C) → C
in_or_out at long inside outside = ⊎_elim (λ t. inside (leb-true (suc at) long t)) (λ t. outside (let l : long < suc at = leb-false (suc at) long t in omega arith)) (decide (leb (suc at) long))

-- A run of bytes of a set ends within the text, and before another byte.
module _ (set : ℕ → Bool) (text : List ℕ) (at to : ℕ) (e : to ≡ at + run_of set (drop at text)) where
  pub run_inside : at ≤ length text → to ≤ length text
  run_inside l = omega (arith, run_within set (drop at text), length-drop at text)

  pub stops_run : to < length text → set (get_or text to 0) ≡ false
  stops_run inside =
      ap set (ap (λ n. get_or text n 0) e ∙ sym (get_or-drop at text (run_of set (drop at text)) 0)) ∙ run-stops set (drop at text) (omega (arith, length-drop at text))

module _ (text : List ℕ) (at : ℕ) (s : State) where
  -- The text ends where no piece ends.
  pub text_ends : length text ≤ at → settled s.mode at s.frames [] ≡ none → seek_at text at s ≡ refused 11 at
  text_ends l h = rw (drop_of_length-le text l, h)

  module _ (inside : at < length text) (h : settled s.mode at s.frames (drop at text) ≡ none) where
    -- A thing that is left out opens.
    pub opens_here : left_out s.mode (drop at text) ≡ true → seek_at text at s ≡ refused 12 at
    opens_here o =
        let h' = rw (drop-cons text at 0 inside) at h in
        let o' = rw (drop-cons text at 0 inside) at o in
        rw (drop-cons text at 0 inside, h', o')

    -- The byte is taken.
    pub steps_on : (t : State) → left_out s.mode (drop at text) ≡ false → step at s (get_or text at 0) ≡ some t → seek_at text at s ≡ seek_at text (suc at) t
    steps_on t o e =
        let h' = rw (drop-cons text at 0 inside) at h in
        let o' = rw (drop-cons text at 0 inside) at o in
        rw (drop-cons text at 0 inside, h', o', e)

    -- No wanted text goes on with it.
    pub no_step : left_out s.mode (drop at text) ≡ false → step at s (get_or text at 0) ≡ none → seek_at text at s ≡ refused 11 at
    no_step o e =
        let h' = rw (drop-cons text at 0 inside) at h in
        let o' = rw (drop-cons text at 0 inside) at o in
        rw (drop-cons text at 0 inside, h', o', e)

    -- So it is refused, by what opens there.
    pub refused_here : (u : State) → left_out s.mode (drop at text) ≡ left_out_anywhere (drop at text) → step at s (get_or text at 0) ≡ none
        → seek_at text at s ≡ reached text u (Err (refusal_at (left_out_anywhere (drop at text)) at))
    refused_here u o e = go (left_out_anywhere (drop at text)) refl
      where
        go : (b : Bool) → left_out_anywhere (drop at text) ≡ b → seek_at text at s ≡ reached text u (Err (refusal_at b at))
        go true p = opens_here (o ∙ p)
        go false p = no_step (o ∙ p) e

-- WAITING FOR A BYTE OF A SET. A state does, and opens nothing of its own.
pub record Waits (s : State) (at : ℕ) (set : ℕ → Bool) (t : State) : Type 0 where
  pub unsettled : (bs : List ℕ) → settled s.mode at s.frames bs ≡ none
  pub goes : (b : ℕ) → step at s b ≡ cond (set b) (some t) none
  pub opens : (bs : List ℕ) → left_out s.mode bs ≡ left_out_anywhere bs

module _ (text : List ℕ) (at : ℕ) (set : ℕ → Bool) (s t : State) (w : Waits s at set t) where
  pub wait_ends : length text ≤ at → seek_at text at s ≡ refused 11 at
  wait_ends l = text_ends text at s l (w.unsettled [])

  pub wait_over : at < length text → set (get_or text at 0) ≡ true → Calm (get_or text at 0) → seek_at text at s ≡ seek_at text (suc at) t
  wait_over inside h c =
      let o : left_out_anywhere (drop at text) ≡ false = ap left_out_anywhere (drop-cons text at 0 inside) ∙ calm_opens (get_or text at 0) (drop (suc at) text) c in
      steps_on text at s inside (w.unsettled (drop at text)) t (w.opens (drop at text) ∙ o) (w.goes (get_or text at 0) ∙ rw h)

  pub wait_refused : (u : State) → at < length text → set (get_or text at 0) ≡ false → seek_at text at s ≡ reached text u (Err (refusal_at (left_out_anywhere (drop at text)) at))
  wait_refused u inside h = refused_here text at s inside (w.unsettled (drop at text)) u (w.opens (drop at text)) (w.goes (get_or text at 0) ∙ rw h)

-- A calm byte opens nothing where it stands.
pub opens_not : (text : List ℕ) (at : ℕ) → at < length text → Calm (get_or text at 0) → left_out_anywhere (drop at text) ≡ false
opens_not text at inside calm = ap left_out_anywhere (drop-cons text at 0 inside) ∙ calm_opens (get_or text at 0) (drop (suc at) text) calm
