-- How long the run at the start of a list is whose items pass a test: up to the first that fails it, or to the end. Assumes nothing.
use Rattle.std.proofs.Common.{ℕ, suc, ◌+◌, ◌≡◌, refl, List, Bool, true, false, not, cond, length, arith, Option, Some, None}
use Rattle.std.specs.List.{position_or_len}
use Rattle.std.specs.Option.{unwrap_or}
use Rattle.std.proofs.lemmas.List.Recursion.{is_position_or_len}
use lib.Dec.{ltb}
use borrow.Author.Tests.{ltb-false}
use Rattle.paper.specs.Tools.{run_of}
use Rattle.paper.proofs.Lexing.{run_within}

module _ (test : ℕ → Bool) where
  abbrev pub fails : ℕ → Bool
  fails x = not (test x)

  run_is_first : (xs : List ℕ) → run_of test xs ≡ position_or_len fails xs
  run_is_first = is_position_or_len (run_of test) fails refl (λ x xs. turned (test x) (run_of test xs))
    where
      turned : (b : Bool) (n : ℕ) → cond b (suc n) 0 ≡ cond (not b) 0 (1 + n)
      turned true n = omega arith
      turned false n = refl

  -- The place of the first that fails, or the number of all.
  pub run_found : (xs : List ℕ) (r : Option ℕ) → r ≡ cond (ltb (position_or_len fails xs) (length xs)) (Some (position_or_len fails xs)) None → unwrap_or r (length xs) ≡ run_of test xs
  run_found xs r e = rw (e, ← run_is_first xs) (go (ltb (run_of test xs) (length xs)) refl)
    where
      go : (b : Bool) → ltb (run_of test xs) (length xs) ≡ b → unwrap_or (cond b (Some (run_of test xs)) None) (length xs) ≡ run_of test xs
      go true h = refl
      go false h = omega (arith, ltb-false _ _ h, run_within test xs)
