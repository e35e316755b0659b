-- When two lists of numbers agree, byte by byte. By induction over both. Assumes nothing.
use Prim.Native.Nat.{ℕ, ◌+◌, ◌≤◌, ◌<◌}
use native.Mathlib.Omega.{arith}
use borrow.Author.Tests.{eq-eqb, eqb-true}
use mathlib.Core.Path.{◌≡◌, refl, sym, ◌∙◌, ap, ap₂, subst}
use mathlib.Core.Bool.{true, false, ◌&&◌, false≢true}
use mathlib.Core.List.{List, [], ◌∷◌}
use mathlib.Core.Logic.{⊎_elim}
use lib.Dec.{eqb}
use lib.Pointwise.{pointwise}
use lib.ListN.{length, get_or, take, drop, length-drop}
use lib.Seq.{length-take-le, get_or-take, get_or-drop, ext_get_or}
use Rattle.paper.specs.Tools.{same}
use Rattle.paper.proofs.Tests.{and_true, true_and, decide, agree}

-- Lists that agree are equal, and equal lists agree.
pub same_equal : (a b : List ℕ) → same a b ≡ true → a ≡ b
same_equal [] [] h = refl
same_equal [] (y ∷ ys) h = absurd (false≢true h)
same_equal (x ∷ xs) [] h = absurd (false≢true h)
same_equal (x ∷ xs) (y ∷ ys) h =
    let (p, q) = and_true (eqb x y) (same xs ys) h in
    ap₂ ◌∷◌ (eqb-true x y p) (same_equal xs ys q)

pub same_refl : (a : List ℕ) → same a a ≡ true
same_refl [] = refl
same_refl (x ∷ xs) = true_and (eq-eqb x x refl) (same_refl xs)

-- Lists that are not equal do not agree.
pub not_same : (a b : List ℕ) → (a ≡ b → ⊥) → same a b ≡ false
not_same a b h = ⊎_elim (λ p. absurd (h (same_equal a b p))) (λ p. p) (decide (same a b))

-- Which of the two comes first does not matter.
pub same_turned : (a b : List ℕ) → same a b ≡ same b a
same_turned a b = agree (same a b) (same b a) (λ h. rw (same_equal a b h) (same_refl b)) (λ h. rw (same_equal b a h) (same_refl a))

-- `==` on slices asks the same.
pub same_pointwise : (a b : List ℕ) → pointwise eqb a b ≡ same a b
same_pointwise [] [] = refl
same_pointwise [] (y ∷ ys) = refl
same_pointwise (x ∷ xs) [] = refl
same_pointwise (x ∷ xs) (y ∷ ys) = ap (λ b. eqb x y && b) (same_pointwise xs ys)

-- A part of a list against a word.
module _ (list word : List ℕ) (from len : ℕ) (inside : from + len ≤ length list) where
  -- It is as long as it says.
  pub part_length : length (take len (drop from list)) ≡ len
  part_length = length-take-le len (drop from list) (simp length-drop (omega arith))

  part_at : (k : ℕ) → k < len → get_or (take len (drop from list)) k 0 ≡ get_or list (from + k) 0
  part_at k l = get_or-take len (drop from list) k 0 l ∙ get_or-drop from list k 0

  -- They agree if they are as long and every byte agrees.
  pub part_same : len ≡ length word → ((k : ℕ) → k < len → get_or list (from + k) 0 ≡ get_or word k 0) → same (take len (drop from list)) word ≡ true
  part_same e h =
      let equal : take len (drop from list) ≡ word =
      ext_get_or 0 (take len (drop from list)) word (part_length ∙ e) (λ k l. let b : k < len = subst (λ n. k < n) part_length l in part_at k b ∙ h k b) in
      rw equal (same_refl word)

  -- They do not if the lengths differ, or a byte does.
  pub part_length_differs : (len ≡ length word → ⊥) → same (take len (drop from list)) word ≡ false
  part_length_differs h = not_same (take len (drop from list)) word (λ e. h (sym part_length ∙ ap length e))

  pub part_differs : (k : ℕ) → k < len → (get_or list (from + k) 0 ≡ get_or word k 0 → ⊥) → same (take len (drop from list)) word ≡ false
  part_differs k l h = not_same (take len (drop from list)) word (λ e. h (sym (part_at k l) ∙ ap (λ w. get_or w k 0) e))
