-- The first bad node is the one before which all nodes are good. By induction over the nodes. Assumes nothing.
use Prim.Native.Nat.{ℕ, zero, suc, ◌+◌, ◌≤◌, ◌<◌}
use native.Mathlib.Omega.{arith}
use native.Mathlib.Decide.{ℕ_discrete}
use mathlib.Core.Path.{◌≡◌, sym, ap, subst}
use mathlib.Core.Bool.{Bool, true, false, not}
use mathlib.Core.Logic.{by_cases}
use mathlib.Core.Option.{none, some}
use Rattle.paper.specs.Tools.{first_from, first_below}
use Rattle.paper.proofs.Searches.{none_first}

-- The first number that passes a test is the one before which none does.
first_at : (n at i : ℕ) (test : ℕ → Bool) → at ≤ i → i < at + n → ((k : ℕ) → k < i → test k ≡ false) → test i ≡ true → first_from n at test ≡ some i
first_at zero at i test a l none_before here = absurd (omega arith)
first_at (suc n) at i test a l none_before here =
    by_cases (ℕ_discrete i at) (λ e. rw (subst (λ k. test k ≡ true) e here) (ap some (sym e)))
    (λ e. rw (none_before at (omega arith)) (first_at n (suc at) i test (omega arith) (omega arith) none_before here))

-- No node is bad,
pub no_fault : (n : ℕ) (good : ℕ → Bool) → ((k : ℕ) → k < n → good k ≡ true) → first_below n (λ i. not (good i)) ≡ none
no_fault n good all = none_first n 0 (λ i. not (good i)) (λ k a l. ap not (all k (omega arith)))

-- or this one is the first.
pub fault_at : (n i : ℕ) (good : ℕ → Bool) → i < n → ((k : ℕ) → k < i → good k ≡ true) → good i ≡ false → first_below n (λ i. not (good i)) ≡ some i
fault_at n i good l all bad = first_at n 0 i (λ i. not (good i)) (omega arith) (omega arith) (λ k h. ap not (all k h)) (ap not bad)
