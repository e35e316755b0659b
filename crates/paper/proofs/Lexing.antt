-- How the tokens of a text go on from byte to byte. By induction over the bytes that belong to the token before. Assumes nothing.
use Prim.Native.Nat.{ℕ, zero, suc, ◌+◌, ◌≤◌, ◌<◌}
use native.Mathlib.Omega.{arith}
use native.Mathlib.Nat.{add-zero}
use mathlib.Core.Path.{◌≡◌, refl, ◌∙◌, ap}
use mathlib.Core.Bool.{Bool, true, false, cond, false≢true}
use mathlib.Core.List.{List, [], ◌∷◌}
use lib.ListN.{length, get_or, drop, length-drop}
use lib.Seq.{drop-cons, drop-drop}
use Rattle.paper.specs.Tools.{begins, run_of}
use Rattle.paper.specs.Tokens.{white, token_at, beyond, tokens_from, Token}

-- To pass the bytes that belong to the token before is to drop them.
pub passed : (taken at : ℕ) (bs : List ℕ) → taken ≤ length bs → tokens_from taken at bs ≡ tokens_from 0 (at + taken) (drop taken bs)
passed zero at bs l = rw (add-zero at)
passed (suc taken) at [] l = absurd (omega arith)
passed (suc taken) at (b ∷ bs) l =
    let e : suc at + taken ≡ at + suc taken = omega arith in
    passed taken (suc at) bs (omega arith) ∙ ap (λ n. tokens_from 0 n (drop taken bs)) e

module _ (text : List ℕ) (at : ℕ) (inside : at < length text) where
  -- White space holds no token.
  pub blank : white (get_or text at 0) ≡ true → tokens_from 0 at (drop at text) ≡ tokens_from 0 (suc at) (drop (suc at) text)
  blank h = rw (drop-cons text at 0 inside, h)

  -- At another byte stands the longest token that starts with it, and the tokens go on past its bytes.
  pub stands : (t : Token) (width : ℕ) → white (get_or text at 0) ≡ false → t ≡ token_at (get_or text at 0) (drop (suc at) text) → width ≡ suc (beyond t) → at + width ≤ length text
      → tokens_from 0 at (drop at text) ≡ record { place = at; token = t } ∷ tokens_from 0 (at + width) (drop (at + width) text)
  stands t width h e w l =
      let rest = drop (suc at) text in
      let past : suc at + beyond t ≡ at + width = omega arith in
      let room : beyond t ≤ length rest = simp length-drop (omega arith) in
      let later : tokens_from (beyond t) (suc at) rest ≡ tokens_from 0 (at + width) (drop (at + width) text) =
      passed (beyond t) (suc at) rest room ∙ ap (λ l. tokens_from 0 (suc at + beyond t) l) (drop-drop (beyond t) (suc at) text) ∙ ap (λ n. tokens_from 0 n (drop n text)) past in
      rw (drop-cons text at 0 inside, h, ← e) (ap (λ l. record { place = at; token = t } ∷ l) later)

  -- A byte that passes the test makes a run one longer; another ends it.
  pub run_more : (test : ℕ → Bool) → test (get_or text at 0) ≡ true → run_of test (drop at text) ≡ suc (run_of test (drop (suc at) text))
  run_more test h = rw (drop-cons text at 0 inside, h)

  pub run_ends_lem : (test : ℕ → Bool) → test (get_or text at 0) ≡ false → run_of test (drop at text) ≡ 0
  run_ends_lem test h = rw (drop-cons text at 0 inside, h)

-- A run lies within its bytes.
pub run_within : (test : ℕ → Bool) (bs : List ℕ) → run_of test bs ≤ length bs
run_within test [] = omega arith
run_within test (b ∷ bs) = one (test b) (run_of test bs) (length bs) (run_within test bs)
  where
    one : (t : Bool) (m n : ℕ) → m ≤ n → cond t (suc m) 0 ≤ suc n
    one true m n l = omega arith
    one false m n l = omega arith

-- A byte that stands somewhere stands within the text.
pub begins_within : (b at : ℕ) (text : List ℕ) → begins b (drop at text) ≡ true → at < length text
begins_within b zero [] h = absurd (false≢true h)
begins_within b zero (x ∷ xs) h = omega arith
begins_within b (suc at) [] h = absurd (false≢true h)
begins_within b (suc at) (x ∷ xs) h = let l : at < length xs = begins_within b at xs h in omega arith

-- White space holds no token.
pub blanks : (at : ℕ) (bs : List ℕ) → tokens_from 0 at bs ≡ tokens_from 0 (at + run_of white bs) (drop (run_of white bs) bs)
blanks at [] = rw (add-zero at)
blanks at (b ∷ bs) = go (white b) refl (blanks (suc at) bs)
  where
    go : (t : Bool) → white b ≡ t → tokens_from 0 (suc at) bs ≡ tokens_from 0 (suc at + run_of white bs) (drop (run_of white bs) bs)
        → tokens_from 0 at (b ∷ bs) ≡ tokens_from 0 (at + run_of white (b ∷ bs)) (drop (run_of white (b ∷ bs)) (b ∷ bs))
    go true h later =
        let e : suc at + run_of white bs ≡ at + suc (run_of white bs) = omega arith in
        rw h (later ∙ ap (λ n. tokens_from 0 n (drop (run_of white bs) bs)) e)
    go false h later = rw (h, add-zero at, h)

-- A run ends with its bytes, or at a byte that fails the test.
pub run-stops : (test : ℕ → Bool) (bs : List ℕ) → run_of test bs < length bs → test (get_or bs (run_of test bs) 0) ≡ false
run-stops test [] l = absurd (omega arith)
run-stops test (b ∷ bs) l = go (test b) refl (run-stops test bs)
  where
    go : (t : Bool) → test b ≡ t → (run_of test bs < length bs → test (get_or bs (run_of test bs) 0) ≡ false) → test (get_or (b ∷ bs) (run_of test (b ∷ bs)) 0) ≡ false
    go true h later = rw h (later (omega (arith, rw h at l)))
    go false h later = rw h h
