-- What a view keeps and what it hides are together all there is: node by node for a document, and document by document over a run. Assumes nothing.
use Prim.Native.Nat.{ℕ, zero, suc, ◌+◌}
use native.Mathlib.Omega.{arith}
use mathlib.Core.Path.{◌≡◌, refl}
use mathlib.Core.Bool.{Bool, true, false, not, ◌&&◌, cond}
use mathlib.Core.List.{List, [], ◌∷◌}
use Rattle.paper.specs.Document.{nodes, marked}
use Rattle.paper.specs.Sheet.{count_below, has_name, all_of, kept_of, hidden_of, Outcome, shown, turned_down, adds, sum_over, sum_below}
use Rattle.sheet_theorems.specs.Sheets.{KeptAndHidden, SumsTogether}

-- Those that pass two tests and those that pass the first alone are those that pass the first.
count_parts : (n : ℕ) (a b : ℕ → Bool) → count_below n (λ i. a i && b i) + count_below n (λ i. a i && not (b i)) ≡ count_below n a
count_parts zero a b = refl
count_parts (suc n) a b = go (a n) (b n) _ _ _ (count_parts n a b)
  where
    go : (p q : Bool) (k h m : ℕ) → k + h ≡ m → cond (p && q) (suc k) k + cond (p && not q) (suc h) h ≡ cond p (suc m) m
    go true true k h m e = omega arith
    go true false k h m e = omega arith
    go false true k h m e = e
    go false false k h m e = e

pub kept_and_hidden : KeptAndHidden
unfolding all_of kept_of hidden_of
kept_and_hidden t marks v = count_parts (nodes t) (has_name t v) (marked marks)

-- What one document adds.
adds_parts : (v : ℕ) (o : Outcome) → adds kept_of v o + adds hidden_of v o ≡ adds all_of v o
adds_parts v (shown t marks) = kept_and_hidden t marks v
adds_parts v (turned_down number) = refl

sum_parts : (v : ℕ) (os : List Outcome) → sum_over (adds kept_of v) os + sum_over (adds hidden_of v) os ≡ sum_over (adds all_of v) os
sum_parts v [] = refl
sum_parts v (o ∷ os) = omega (arith, adds_parts v o, sum_parts v os)

-- The first sums of three rows, of which two make the third.
below_parts : (n : ℕ) (f g h : ℕ → ℕ) → ((v : ℕ) → f v + g v ≡ h v) → sum_below n f + sum_below n g ≡ sum_below n h
below_parts zero f g h e = refl
below_parts (suc n) f g h e = omega (arith, e n, below_parts n f g h e)

pub sums_together : SumsTogether
sums_together os = (
  λ v. sum_parts v os,
  λ names.
      below_parts names (λ v. sum_over (adds kept_of v) os) (λ v. sum_over (adds hidden_of v) os) (λ v. sum_over (adds all_of v) os) (λ v. sum_parts v os),
)
