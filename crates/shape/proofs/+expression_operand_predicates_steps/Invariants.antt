-- What the functions that walk over items and call each other keep: what is left to read gives the answer of the whole.
-- The measure of a call is the number of items left, an expression's after the operators that it begins with, then the order predicates, expression, operand, steps.
use Rattle.std.proofs.Common.{length, drop, ◌+◌, ◌-◌, ◌*◌}
use Rattle.paper.specs.Items.{take_preds, take_steps, take_within}
use Rattle.shape.specs.Walks.{operators}
use Rattle.shape.proofs.Walking.{Turn, Row, step_rows, pred_rows}
use Rattle.shape.proofs.+expression_operand_predicates_steps.Given as goal

abbrev pub decreases-expression : goal.decreases-expression
decreases-expression l = (length l.items.now - l.at - operators (drop l.at l.items.now)) * 4 + 2

abbrev pub decreases-operand : goal.decreases-operand
decreases-operand l = (length l.items.now - l.at) * 4 + 1

abbrev pub decreases-predicates : goal.decreases-predicates
decreases-predicates l = (length l.items.now - l.at) * 4 + 3

abbrev pub decreases-steps : goal.decreases-steps
decreases-steps l = (length l.items.now - l.at) * 4

abbrev pub invariant-expression-loop-one : goal.invariant-expression-loop-one
invariant-expression-loop-one l = Turn l.depth l.items l.at l.place l.deep l.high l.guarded l.term l.ands l.ors

abbrev pub decreases-expression-loop-one : goal.decreases-expression-loop-one
decreases-expression-loop-one l = length l.items - l.place

abbrev pub invariant-predicates-loop : goal.invariant-predicates-loop
invariant-predicates-loop l =
    Row (pred_rows l.depth) l.items l.at l.depth (take_preds (take_within l.depth) l.count (drop l.at l.items)) l.place l.deep l.high l.guarded (l.count - l.counter)

abbrev pub invariant-steps-loop : goal.invariant-steps-loop
invariant-steps-loop l =
    Row (step_rows l.depth) l.items l.at l.depth (take_steps (take_within l.depth) l.count (drop l.at l.items)) l.place l.deep l.high l.guarded (l.count - l.counter)
