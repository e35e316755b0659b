-- The digits of a number: the last one follows those of a tenth, and a number below 10 ^ k has at most k. By induction over the bound. Assumes nothing.
use Prim.Native.Nat.{ℕ, zero, suc, ◌+◌, ◌^◌, ◌/◌, ◌%◌, ◌≤◌, ◌<◌}
use native.Mathlib.Omega.{arith}
use native.Mathlib.Nat.{pow-suc, div-lt_iff_lt-mul}
use mathlib.Core.Path.{◌≡◌, refl, ap}
use mathlib.Core.Bool.{Bool, true, false, cond}
use mathlib.Core.List.{List, [], ◌∷◌, ◌++◌}
use lib.Dec.{ltb}
use lib.ListN.{length, length-append}
use borrow.Author.Tests.{lt-ltb, le-ltb, ltb-true, ltb-false}
use Rattle.paper.specs.Program.{digits, decimal}

-- Two bounds that suffice give the same digits.
digits_same : (k m n : ℕ) → n < k → n < m → digits k n ≡ digits m n
digits_same zero m n h l = absurd (omega arith)
digits_same (suc k) zero n h l = absurd (omega arith)
digits_same (suc k) (suc m) n h l = ap (λ (x : List ℕ). x ++ ((48 + n % 10) ∷ [])) (go (digits_same k m (n / 10)) (ltb n 10) refl)
  where
    go : (n / 10 < k → n / 10 < m → digits k (n / 10) ≡ digits m (n / 10)) → (b : Bool) → ltb n 10 ≡ b → cond b [] (digits k (n / 10)) ≡ cond b [] (digits m (n / 10))
    go again true p = refl
    go again false p = let more : 10 ≤ n = ltb-false n 10 p in again (omega arith) (omega arith)

pub decimal_one : (n : ℕ) → n < 10 → decimal n ≡ (48 + n) ∷ []
unfolding decimal
decimal_one n l = let whole : n % 10 ≡ n = omega arith in rw (lt-ltb n 10 l, whole)

pub decimal_more : (n : ℕ) → 10 ≤ n → decimal n ≡ decimal (n / 10) ++ ((48 + n % 10) ∷ [])
unfolding decimal
decimal_more n l = rw (le-ltb n 10 l) (ap (λ (x : List ℕ). x ++ ((48 + n % 10) ∷ [])) (digits_same n (suc (n / 10)) (n / 10) (omega arith) (omega arith)))

-- A number below 10 ^ k has at most k digits.
pub decimal_few : (k n : ℕ) → n < 10 ^ suc k → length (decimal n) ≤ suc k
decimal_few zero n h = omega (arith, ap length (decimal_one n (omega arith)))
decimal_few (suc k) n h = go (decimal_few k (n / 10)) (ltb n 10) refl
  where
    go : (n / 10 < 10 ^ suc k → length (decimal (n / 10)) ≤ suc k) → (b : Bool) → ltb n 10 ≡ b → length (decimal n) ≤ suc (suc k)
    go again true p = omega (arith, ap length (decimal_one n (ltb-true n 10 p)))
    go again false p =
        let tenth : n / 10 < 10 ^ suc k = (div-lt_iff_lt-mul {k = 10} {x = n} {y = 10 ^ suc k} (omega arith)).1 (rw (pow-suc 10 (suc k)) at h) in
        omega (
          arith,
          again tenth,
          ap length (decimal_more n (ltb-false n 10 p)),
          length-append (decimal (n / 10)) ((48 + n % 10) ∷ []),
        )
