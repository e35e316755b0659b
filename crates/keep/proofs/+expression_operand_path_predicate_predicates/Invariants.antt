-- What the functions of `keep` that call each other keep: what was read so far has its set, what is left to read gives the answer of the whole, and the sets kept are still those of their entries.
-- The measure of a call is the number of items left, an expression's after the operators that it begins with, then the order predicates, predicate, expression, operand, path.
use Rattle.std.proofs.Common.{◌≡◌, length, drop, ◌+◌, ◌-◌, ◌*◌}
use Rattle.paper.specs.Items.{take_preds, take_within}
use Rattle.paper.specs.Document.{table_of}
use Rattle.shape.specs.Walks.{operators}
use Rattle.places.specs.Standing.{Known}
use Rattle.keep.specs.Recall.{Kept}
use Rattle.keep.proofs.Running.{Turn}
use Rattle.keep.proofs.Rows.{PredSet, PathSet}
use Rattle.keep.proofs.+expression_operand_path_predicate_predicates.Given as goal

abbrev pub decreases-expression : goal.decreases-expression
decreases-expression l = (length l.items.now - l.at - operators (drop l.at l.items.now)) * 5 + 2

abbrev pub decreases-operand : goal.decreases-operand
decreases-operand l = (length l.items.now - l.at) * 5 + 1

abbrev pub decreases-path : goal.decreases-path
decreases-path l = (length l.items.now - l.at) * 5

abbrev pub decreases-predicate : goal.decreases-predicate
decreases-predicate l = (length l.items.now - l.at) * 5 + 3

abbrev pub decreases-predicates : goal.decreases-predicates
decreases-predicates l = (length l.items.now - l.at) * 5 + 4

abbrev pub invariant-expression-loop-ands : goal.invariant-expression-loop-ands
invariant-expression-loop-ands l =
    (length l.sets ≡ length l.fn.sets) × Turn (table_of l.parent l.kind) l.given l.depth l.items l.at (length l.parent) l.place l.base l.held l.ands l.ors l.sets × (length l.known ≡ length l.fn.known) × Kept (table_of l.parent l.kind) l.given l.items (length l.parent) l.known l.sets

abbrev pub decreases-expression-loop-ands : goal.decreases-expression-loop-ands
decreases-expression-loop-ands l = length l.items - l.place

abbrev pub invariant-path-loop-left : goal.invariant-path-loop-left
invariant-path-loop-left l =
    (length l.sets ≡ length l.fn.sets) × PathSet (table_of l.parent l.kind) l.given l.items l.at (length l.parent) l.depth l.count l.left l.sets × Known l.items l.at l.depth l.left l.places × (length l.known ≡ length l.fn.known) × Kept (table_of l.parent l.kind) l.given l.items (length l.parent) l.known l.sets

abbrev pub decreases-path-loop-left : goal.decreases-path-loop-left
decreases-path-loop-left l = l.left

abbrev pub invariant-predicates-loop : goal.invariant-predicates-loop
invariant-predicates-loop l =
    (length l.sets ≡ length l.fn.sets) × PredSet (table_of l.parent l.kind) l.given l.items l.at (length l.parent) l.depth (take_preds (take_within l.depth) l.count (drop l.at l.items)) l.place (l.count - l.counter) l.fn.sets l.sets × (length l.known ≡ length l.fn.known) × Kept (table_of l.parent l.kind) l.given l.items (length l.parent) l.known l.sets
