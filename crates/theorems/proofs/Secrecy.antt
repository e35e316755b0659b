-- The composed query tells nothing of what the inner query hides.
-- By exactness and extraction, what it keeps is what the outer query keeps of the sub-document that the inner query keeps, and so depends on that alone. Assumes nothing.
use Prim.Native.Nat.{◌<◌}
use native.Mathlib.Omega.{arith}
use mathlib.Core.Path.{◌≡◌, sym, ◌∙◌, ap}
use mathlib.Core.Bool.{not}
use mathlib.Core.Option.{none}
use lib.Dec.{eqb}
use lib.ListN.{get_or}
use Rattle.paper.specs.Query.{Query}
use Rattle.paper.specs.Document.{Table, nodes, parent_of, good_mark, table_fault, marks_fault}
use Rattle.paper.specs.Selection.{kept}
use Rattle.paper.specs.Extraction.{extracted}
use Rattle.paper.specs.Composition.{composed}
use Rattle.paper.proofs.Tests.{true_and, or_right}
use Rattle.paper.proofs.Searches.{none_first}
use Rattle.paper.proofs.Trees.{parent_le, tree}
use Rattle.paper.proofs.Keeping.{kept_good}
use Rattle.theorems.specs.Demands.{all_marked, view, Secrecy}
use Rattle.theorems.proofs.Exact.{exactness}
use Rattle.theorems.proofs.Extract.{all-marked, extraction}

-- Marks that mark every node have no fault.
pub all-good : (t : Table) → table_fault t ≡ none → marks_fault t (all_marked t) ≡ none
unfolding marks_fault good_mark
all-good t ft =
    let w = tree t ft in
    none_first (nodes t) 0 (λ i. not (good_mark t (all_marked t) i))
    (λ i a l.
    let on : i < nodes t = omega arith in
    ap not
    (or_right (eqb (get_or (all_marked t) i 0) 0)
    (true_and (all-marked t i on) (all-marked t (parent_of t i) (omega (arith, parent_le t w i on))))))

-- What the composed query shows is what the outer query shows of what the inner query shows.
pub view_composed : (t : Table) (outer inner : Query) → table_fault t ≡ none → view t (composed outer inner) ≡ view (view t inner) outer
view_composed t outer inner ft =
    let fm = all-good t ft in
    ap (extracted t) (exactness t (all_marked t) outer inner ft fm) ∙
    extraction t (kept t (all_marked t) inner) outer ft (kept_good t (all_marked t) inner ft fm)

-- DOCUMENTS THAT THE INNER QUERY SHOWS ALIKE, THE COMPOSED QUERY SHOWS ALIKE.
pub secrecy : Secrecy
secrecy t u outer inner ft fu h = view_composed t outer inner ft ∙ ap (λ v. view v outer) h ∙ sym (view_composed u outer inner fu)
