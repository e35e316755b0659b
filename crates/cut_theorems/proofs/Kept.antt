-- What a query keeps of a whole document has a child of every node that has one: below what is selected all is kept, and above it the child on the way. Assumes nothing.
use Prim.Native.Nat.{ℕ, ◌<◌}
use native.Mathlib.Omega.{arith}
use mathlib.Core.Path.{◌≡◌, sym, ◌∙◌, ap}
use mathlib.Core.Bool.{true, false, not, ◌&&◌, false≢true}
use mathlib.Core.Logic.{⊎_elim}
use mathlib.Core.Option.{none}
use lib.Dec.{eqb}
use lib.ListN.{get_or, get_or-replicate}
use borrow.Author.Tests.{eq-eqb, ne_eqb}
use Rattle.paper.specs.Query.{Query}
use Rattle.paper.specs.Document.{Table, nodes, parent_of, over, table_fault, marked, good_mark, marks_fault}
use Rattle.paper.specs.Selection.{child_of, keeps, kept}
use Rattle.paper.specs.Cut.{has_child}
use Rattle.paper.proofs.Tests.{true_and, or_left, or_right, decide}
use Rattle.paper.proofs.Searches.{some_intro, none_first}
use Rattle.paper.proofs.Trees.{Tree, parent_le, over_self, over_parent, over-cases, climb, tree}
use Rattle.paper.proofs.Keeping.{marked_kept, keeps_intro, keeps-elim, kept_good}
use Rattle.paper.proofs.Cutting.{child_elim}
use Rattle.theorems.specs.Demands.{all_marked}
use Rattle.cut_theorems.specs.Cuts.{keeps_child, KeptLeaves, KeptYes}
use Rattle.cut_theorems.proofs.Converse.{extracted_yes}

all_on : (t : Table) (i : ℕ) → i < nodes t → marked (all_marked t) i ≡ true
all_on t i l = eq-eqb (get_or (all_marked t) i 0) 1 (get_or-replicate (nodes t) i 1 0 l)

-- Every mark 1 is without fault.
all-good : (t : Table) → table_fault t ≡ none → marks_fault t (all_marked t) ≡ none
unfolding marks_fault good_mark
all-good t ft =
    none_first (nodes t) 0 (λ i. not (good_mark t (all_marked t) i))
    (λ i a l.
    ap not
    (or_right (eqb (get_or (all_marked t) i 0) 0)
    (true_and (all_on t i (omega arith)) (all_on t (parent_of t i) (omega (arith, parent_le t (tree t ft) i (omega arith)))))))

module _ (t : Table) (w : Tree t) where
  -- Below a node there is a child of it on the way to each node below.
  toward {ℓ} : {C : Type ℓ} (i k : ℕ) → k < nodes t → over t k i ≡ true → (k ≡ i → C) → ((j : ℕ) → 0 < j → j < nodes t → parent_of t j ≡ i → over t k j ≡ true → C) → C
  toward {C} i =
      climb t w (λ k. over t k i ≡ true → (k ≡ i → C) → ((j : ℕ) → 0 < j → j < nodes t → parent_of t j ≡ i → over t k j ≡ true → C) → C)
      (λ k l up h here below.
      over-cases t w k i l h here
      (λ z p.
      up z p (λ e. below k z l e (over_self t w k l)) (λ j zj lj e o. below j zj lj e (over_parent t w k j l o))))

-- A kept child is a child kept.
child_kept : (t : Table) (q : Query) (i j : ℕ) → 0 < j → j < nodes t → parent_of t j ≡ i → keeps t (all_marked t) q j ≡ true → keeps_child t (kept t (all_marked t) q) i ≡ true
child_kept t q i j z l e h =
    some_intro (nodes t) (λ j. marked (kept t (all_marked t) q) j && child_of t i j) j l
    (true_and (marked_kept t (all_marked t) q j l ∙ h) (true_and (ap not (ne_eqb j 0 (λ x. omega arith))) (eq-eqb (parent_of t j) i e)))

-- KEPT LEAVES ARE LEAVES.
pub kept_leaves : KeptLeaves
kept_leaves t q ft i l m childless =
    let w = tree t ft in
    ⊎_elim
    (λ has.
    absurd
    (false≢true
    (sym childless
    ∙ child_elim t i has
    (λ j z lj e.
    keeps-elim t (all_marked t) q i (sym (marked_kept t (all_marked t) q i l) ∙ m)
    (λ on k lk s o.
    let below : over t i k ≡ true → keeps_child t (kept t (all_marked t) q) i ≡ true =
    λ a. child_kept t q i j z lj e (keeps_intro t (all_marked t) q j k lk (all_on t j lj) s (or_left (over t k j) (over_parent t w j k lj (ap (λ x. over t x k) e ∙ a)))) in
    ⊎_elim below
    (λ b.
    toward t w i k lk b (λ same. below (ap (over t i) same ∙ over_self t w i l))
    (λ c zc lc ec oc. child_kept t q i c zc lc ec (keeps_intro t (all_marked t) q c k lk (all_on t c lc) s (or_right (over t c k) oc))))
    o)))))
    (λ has. has) (decide (has_child t i))

-- SO THE EXTRACT IS A CUT.
pub kept_yes : KeptYes
kept_yes t q ft = extracted_yes t (kept t (all_marked t) q) ft (kept_good t (all_marked t) q ft (all-good t ft)) (kept_leaves t q ft)
