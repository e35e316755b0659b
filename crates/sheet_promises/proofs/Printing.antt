-- What is printed goes by the numbers of the names and of the refusals alone: functions that agree there print the same. By induction over the names and the numbers. Assumes nothing.
use Prim.Native.Nat.{ℕ, zero, suc, ◌+◌, ◌<◌, ◌≤◌}
use native.Mathlib.Omega.{arith}
use mathlib.Core.Path.{◌≡◌, refl, ap₂}
use mathlib.Core.List.{List, [], ◌∷◌, ◌++◌}
use lib.ListN.{length}
use Rattle.paper.specs.Sheet.{number_limit, sum_below, sheet_line, refused_line, refused_lines, name_lines, tallied}

-- Two functions agree below a number.
abbrev pub Agree : ℕ → (ℕ → ℕ) → (ℕ → ℕ) → Type 0
Agree n f g = (v : ℕ) → v < n → f v ≡ g v

sums_agree : (n : ℕ) (f g : ℕ → ℕ) → Agree n f g → sum_below n f ≡ sum_below n g
sums_agree zero f g h = refl
sums_agree (suc n) f g h = ap₂ ◌+◌ (sums_agree n f g (λ v l. h v (omega arith))) (h n (omega arith))

refusals_agree : (n : ℕ) (f g : ℕ → ℕ) → Agree n f g → refused_lines n f ≡ refused_lines n g
refusals_agree zero f g h = refl
refusals_agree (suc n) f g h = rw (refusals_agree n f g (λ v l. h v (omega arith)), h n (omega arith))

module _ (all kept hidden all' kept' hidden' : ℕ → ℕ) where
  names_agree : (n v : ℕ) (names : List (List ℕ)) → v + length names ≤ n → Agree n all all' → Agree n kept kept' → Agree n hidden hidden' →
      name_lines all kept hidden v names ≡ name_lines all' kept' hidden' v names
  names_agree n v [] l a k h = refl
  names_agree n v (name ∷ names) l a k h =
      rw (a v (omega arith), k v (omega arith), h v (omega arith), names_agree n (suc v) names (omega arith) a k h)

  pub tallied_agree : (names : List (List ℕ)) (refused refused' : ℕ → ℕ) → Agree (length names) all all' → Agree (length names) kept kept' → Agree (length names) hidden hidden' →
      Agree (suc number_limit) refused refused' → tallied all kept hidden names refused ≡ tallied all' kept' hidden' names refused'
  unfolding tallied
  tallied_agree names refused refused' a k h r =
      let n = length names in
      rw (
        names_agree n 0 names (omega arith) a k h,
        sums_agree n all all' a,
        sums_agree n kept kept' k,
        sums_agree n hidden hidden' h,
        refusals_agree (suc number_limit) refused refused' r,
      )
