-- The laws of an axis that the theorems use, beside those of `paper`: it stays inside closed marks if it rises, it rises if it is not guarded, and renumbering keeps it. Assumes nothing.
use Prim.Native.Nat.{ℕ, ◌<◌}
use mathlib.Core.Path.{◌≡◌, refl, subst}
use mathlib.Core.Bool.{true, not, false≢true}
use mathlib.Core.List.{List}
use lib.Dec.{eqb}
use borrow.Author.Tests.{eqb-true}
use Rattle.paper.specs.Query.{Axis, self, child, parent, descendant_or_self, ancestor_or_self, descendant, ancestor, following_sibling, preceding_sibling, following, preceding}
use Rattle.paper.specs.Document.{Table, nodes, parent_of, over, marked}
use Rattle.paper.specs.Selection.{leads}
use Rattle.paper.specs.Extraction.{rank, extracted}
use Rattle.paper.proofs.Tests.{and_true}
use Rattle.paper.proofs.Axes as axes
use Rattle.paper.proofs.Trees.{Tree, Closed, over_marked, tree, closed}
use Rattle.theorems.specs.Demands.{Converse, rises, StaysInside, Unguarded, Renumbered}
use Rattle.theorems.proofs.Renumber.{rank_same, over_renumbered, child_renumbered, below_renumbered, sibling_renumbered, after_renumbered, marks_root}

-- THE TURNED AXIS IS THE CONVERSE.
pub converse : Converse
converse = axes.converse

-- AN AXIS THAT RISES STAYS INSIDE CLOSED MARKS.
pub leads_inside : (t : Table) → Tree t → (m : List ℕ) → Closed t m → (a : Axis) → rises a ≡ true → (i j : ℕ) → i < nodes t → marked m i ≡ true
    → leads t a i j ≡ true → marked m j ≡ true
leads_inside t w m c self r i j l h d = subst (λ k. marked m k ≡ true) (eqb-true i j d) h
leads_inside t w m c child r i j l h d = absurd (false≢true r)
leads_inside t w m c parent r i j l h d = subst (λ k. marked m k ≡ true) (eqb-true (parent_of t i) j (and_true (not (eqb i 0)) (eqb (parent_of t i) j) d).1) (c i l h)
leads_inside t w m c descendant_or_self r i j l h d = absurd (false≢true r)
leads_inside t w m c ancestor_or_self r i j l h d = over_marked t w m c j i l h d
leads_inside t w m c descendant r i j l h d = absurd (false≢true r)
leads_inside t w m c ancestor r i j l h d = over_marked t w m c j i l h (and_true (over t i j) (not (eqb j i)) d).0
leads_inside t w m c following_sibling r i j l h d = absurd (false≢true r)
leads_inside t w m c preceding_sibling r i j l h d = absurd (false≢true r)
leads_inside t w m c following r i j l h d = absurd (false≢true r)
leads_inside t w m c preceding r i j l h d = absurd (false≢true r)

pub stays_inside : StaysInside
stays_inside t m a i j ft fm r l h d = leads_inside t (tree t ft) m (closed t m fm) a r i j l h d

-- THE AXES THAT RISE ARE THOSE THAT ARE NOT GUARDED.
pub unguarded : Unguarded
unguarded self = refl
unguarded child = refl
unguarded parent = refl
unguarded descendant_or_self = refl
unguarded ancestor_or_self = refl
unguarded descendant = refl
unguarded ancestor = refl
unguarded following_sibling = refl
unguarded preceding_sibling = refl
unguarded following = refl
unguarded preceding = refl

-- RENUMBERING KEEPS THE AXIS: it leads from a marked node to a marked node exactly if it leads from the one's new number to the other's.
pub leads_renumbered : (t : Table) → Tree t → (m : List ℕ) → Closed t m → marked m 0 ≡ true → (a : Axis) (i j : ℕ) → i < nodes t → j < nodes t
    → marked m i ≡ true → marked m j ≡ true → leads (extracted t m) a (rank m i) (rank m j) ≡ leads t a i j
leads_renumbered t w m c root self i j li lj hi hj = rank_same m i j hi hj
leads_renumbered t w m c root child i j li lj hi hj = child_renumbered t w m c root i j lj hi hj
leads_renumbered t w m c root parent i j li lj hi hj = child_renumbered t w m c root j i li hj hi
leads_renumbered t w m c root descendant_or_self i j li lj hi hj = over_renumbered t w m c root i hi j lj hj
leads_renumbered t w m c root ancestor_or_self i j li lj hi hj = over_renumbered t w m c root j hj i li hi
leads_renumbered t w m c root descendant i j li lj hi hj = below_renumbered t w m c root i j lj hi hj
leads_renumbered t w m c root ancestor i j li lj hi hj = below_renumbered t w m c root j i li hj hi
leads_renumbered t w m c root following_sibling i j li lj hi hj = sibling_renumbered t w m c root i j li lj hi hj
leads_renumbered t w m c root preceding_sibling i j li lj hi hj = sibling_renumbered t w m c root j i lj li hj hi
leads_renumbered t w m c root following i j li lj hi hj = after_renumbered t w m c root i j lj hi hj
leads_renumbered t w m c root preceding i j li lj hi hj = after_renumbered t w m c root j i li hj hi

pub renumbered : Renumbered
renumbered t m a i j ft fm li lj hi hj =
    let w = tree t ft in
    let c = closed t m fm in
    leads_renumbered t w m c (marks_root t w m c i li hi) a i j li lj hi hj
