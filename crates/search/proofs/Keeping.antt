-- The nodes kept for the selected nodes below a number. Assumes nothing.
use Prim.Native.Nat.{ℕ, zero, suc, ◌+◌}
use native.Mathlib.Numerals.{add-one}
use mathlib.Core.Path.{◌≡◌, refl, sym, ◌∙◌, ap}
use mathlib.Core.Bool.{Bool, true, false, ◌&&◌, ◌||◌, cond}
use mathlib.Core.List.{List, ◌∷◌}
use lib.ListN.{replicate}
use Rattle.paper.specs.Tools.{some_below, column, column_from}
use Rattle.paper.specs.Query.{Query}
use Rattle.paper.specs.Document.{Table, nodes, marked, over}
use Rattle.paper.specs.Selection.{selects, keeps, kept}
use Rattle.paper.proofs.Searches.{column_same}

-- Marks that are filled with 0.
pub cleared : (n at : ℕ) → replicate {A = ℕ} n 0 ≡ column_from n at (λ i. 0)
cleared zero at = refl
cleared (suc n) at = ap (λ (xs : List ℕ). 0 ∷ xs) (cleared n (suc at))

module _ (t : Table) (m : List ℕ) (q : Query) where
  -- Is the node i marked, and above or below a selected node that is before k, or one?
  abbrev pub up_to : ℕ → ℕ → Bool
  up_to k i = marked m i && some_below k (λ j. selects t m q j && (over t i j || over t j i))

  abbrev pub marks_up_to : ℕ → ℕ → List ℕ
  marks_up_to n k = column n (λ i. cond (up_to k i) 1 0)

  no_marks : (b : Bool) → ◌≡◌ {A = ℕ} 0 (cond (b && false) 1 0)
  no_marks true = refl
  no_marks false = refl

  pub up_to_none : (n : ℕ) → column n (λ i. 0) ≡ marks_up_to n 0
  up_to_none n = column_same n 0 (λ i. 0) (λ i. cond (up_to 0 i) 1 0) (λ i a l. no_marks (marked m i))

  -- A selected node more, and a node more that is not selected.
  shared : (b r e : Bool) → (b && r || b && e) ≡ (b && (true && r || e))
  shared true r e = refl
  shared false r e = refl

  pub up_to_more : (n k : ℕ) → selects t m q k ≡ true → column n (λ i. cond (marked m i && (over t i k || over t k i) || up_to k i) 1 0) ≡ marks_up_to n (k + 1)
  up_to_more n k h =
      column_same n 0 _ _
      (λ i a l.
      ap (λ b. cond b 1 0)
      (shared (marked m i) (over t i k || over t k i) (some_below k (λ j. selects t m q j && (over t i j || over t j i)))
      ∙ ap (λ s. marked m i && (s && (over t i k || over t k i) || some_below k (λ j. selects t m q j && (over t i j || over t j i)))) (sym h)
      ∙ ap (λ j. up_to j i) (sym (add-one k))))

  pub up_to_same : (n k : ℕ) → selects t m q k ≡ false → marks_up_to n k ≡ marks_up_to n (k + 1)
  up_to_same n k h =
      column_same n 0 _ _
      (λ i a l.
      ap (λ b. cond b 1 0)
      (ap (λ s. marked m i && (s && (over t i k || over t k i) || some_below k (λ j. selects t m q j && (over t i j || over t j i)))) (sym h) ∙ ap (λ j. up_to j i) (sym (add-one k))))

  -- With all nodes these are the marks that a run writes.
  pub up_to_all : marks_up_to (nodes t) (nodes t) ≡ kept t m q
  unfolding kept keeps
  up_to_all = refl
