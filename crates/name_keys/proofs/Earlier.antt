-- What the lines before one say: how many they are, and whether one of them passes a test. Assumes nothing.
use Prim.Native.Nat.{ℕ, zero, suc, ◌<◌}
use native.Mathlib.Omega.{arith}
use native.Mathlib.Decide.{ℕ_discrete}
use mathlib.Core.Path.{◌≡◌, refl, sym, ◌∙◌, ap, subst}
use mathlib.Core.Bool.{Bool, true, false}
use mathlib.Core.List.{List}
use mathlib.Core.Logic.{by_cases}
use lib.ListN.{length}
use Rattle.paper.specs.Tools.{same, some_of, first_below}
use Rattle.paper.proofs.Tests.{or_left, or_right}
use Rattle.paper.proofs.Same.{same_turned}
use Rattle.paper.proofs.Searches.{first_none}
use Rattle.paper.specs.Told.{found}
use Rattle.std.proofs.Common.{Option, Some, None, is_some}
use Rattle.name_lines.specs.Lines.{said}
use Rattle.name_lines.proofs.Firsts.{first_some}
use Rattle.name_keys.specs.Keys.{earlier}

module _ (list starts : List ℕ) where
  -- As many lines are earlier as were counted.
  pub earlier_length : (count : ℕ) → length (earlier list starts count) ≡ count
  earlier_length zero = refl
  earlier_length (suc count) = ap suc (earlier_length count)

  -- An earlier line that passes a test is found, and where none passes none is.
  earlier_some : (test : List ℕ → Bool) (count v : ℕ) → v < count → test (said list starts v) ≡ true → some_of test (earlier list starts count) ≡ true
  earlier_some test zero v l h = absurd (omega arith)
  earlier_some test (suc count) v l h =
      by_cases (ℕ_discrete v count) (λ e. or_left (some_of test (earlier list starts count)) (subst (λ u. test (said list starts u) ≡ true) e h))
      (λ e. or_right (test (said list starts count)) (earlier_some test count v (omega arith) h))

  pub earlier_none : (test : List ℕ → Bool) (count : ℕ) → ((u : ℕ) → u < count → test (said list starts u) ≡ false) → some_of test (earlier list starts count) ≡ false
  earlier_none test zero h = refl
  earlier_none test (suc count) h = rw (h count (omega arith)) (earlier_none test count (λ u l. h u (omega arith)))

  -- A word repeats an earlier line exactly if a first line that says it is found.
  pub repeats_first : (count : ℕ) (word : List ℕ) (r : Option ℕ) → found r ≡ first_below count (λ v. same (said list starts v) word)
      → some_of (same word) (earlier list starts count) ≡ is_some r
  repeats_first count word None f =
      earlier_none (same word) count
      (λ u l. same_turned word (said list starts u) ∙ first_none count 0 (λ v. same (said list starts v) word) (sym f) u (omega arith) (omega arith))
  repeats_first count word (Some v) f =
      let first = first_some count 0 (λ u. same (said list starts u) word) v (sym f) in
      earlier_some (same word) count v (omega (arith, first.most)) (same_turned word (said list starts v) ∙ first.here)
