-- A search from a number on: one step of it, and what it finds. By induction over the numbers. Assumes nothing.
use Prim.Native.Nat.{ℕ, zero, suc, ◌+◌, ◌-◌, ◌≤◌, ◌<◌}
use native.Mathlib.Omega.{arith}
use native.Mathlib.Decide.{ℕ_discrete}
use mathlib.Core.Path.{◌≡◌, refl, sym, subst}
use mathlib.Core.Bool.{Bool, true, false}
use mathlib.Core.Logic.{by_cases}
use mathlib.Core.Option.{some}
use Rattle.paper.specs.Tools.{first_from}
use Rattle.paper.proofs.Tests.{none-some, some_inj}

-- The number that stands next passes the test,
pub first_here : (n at : ℕ) (test : ℕ → Bool) → at < n → test at ≡ true → first_from (n - at) at test ≡ some at
first_here n at test l h = let left : n - at ≡ suc (n - suc at) = omega arith in rw (left, h)

-- or it is passed over.
pub first_on : (n at : ℕ) (test : ℕ → Bool) → at < n → test at ≡ false → first_from (n - at) at test ≡ first_from (n - suc at) (suc at) test
first_on n at test l h = let left : n - at ≡ suc (n - suc at) = omega arith in rw (left, h)

-- What a search finds passes the test, and nothing before it does.
pub record Finds (at n : ℕ) (test : ℕ → Bool) (v : ℕ) : Type 0 where
  pub least : at ≤ v
  pub most : v < at + n
  pub here : test v ≡ true
  pub before : (j : ℕ) → at ≤ j → j < v → test j ≡ false

pub first_some : (n at : ℕ) (test : ℕ → Bool) (v : ℕ) → first_from n at test ≡ some v → Finds at n test v
first_some zero at test v e = none-some e
first_some (suc n) at test v e = go (test at) refl e (λ f. first_some n (suc at) test v f)
  where
    go : (b : Bool) → test at ≡ b → first_from (suc n) at test ≡ some v → (first_from n (suc at) test ≡ some v → Finds (suc at) n test v) → Finds at (suc n) test v
    go true p f g =
        let same_place : at ≡ v = some_inj (rw p at f) in
        record { least = omega arith; most = omega arith; here = subst (λ k. test k ≡ true) same_place p; before = λ j a l. absurd (omega arith) }
    go false p f g =
        let h = g (rw p at f) in
        record {
          least = omega (arith, h.least);
          most = omega (arith, h.most);
          here = h.here;
          before = λ j a l. by_cases (ℕ_discrete j at) (λ e. subst (λ k. test k ≡ false) (sym e) p) (λ e. h.before j (omega arith) l);
        }
