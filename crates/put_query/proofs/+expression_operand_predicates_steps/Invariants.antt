-- What the functions that print items and call each other keep: what is left to print gives the text of the whole.
-- The measure of a call is the number of items left, an expression's after the operators that it begins with, then the order predicates, expression, operand, steps.
use Rattle.std.proofs.Common.{length, drop, ◌+◌, ◌-◌, ◌*◌}
use Rattle.paper.specs.Names.{names_of}
use Rattle.paper.specs.Items.{take_preds, take_steps, take_within}
use Rattle.paper.specs.Printing.{relative_pieces, preds_pieces}
use Rattle.shape.specs.Walks.{operators}
use Rattle.put_query.proofs.Chains.{Turn}
use Rattle.put_query.proofs.Rows.{Rest}
use Rattle.put_query.proofs.+expression_operand_predicates_steps.Given as goal

abbrev pub decreases-expression : goal.decreases-expression
decreases-expression l = (length l.source.now.items.now - l.at - operators (drop l.at l.source.now.items.now)) * 4 + 2

abbrev pub decreases-operand : goal.decreases-operand
decreases-operand l = (length l.source.now.items.now - l.at) * 4 + 1

abbrev pub decreases-predicates : goal.decreases-predicates
decreases-predicates l = (length l.source.now.items.now - l.at) * 4 + 3

abbrev pub decreases-steps : goal.decreases-steps
decreases-steps l = (length l.source.now.items.now - l.at) * 4

abbrev pub invariant-expression-loop-ands : goal.invariant-expression-loop-ands
invariant-expression-loop-ands l =
    Turn l.source.brief (names_of l.source.names.now) l.depth l.source.items.now l.at l.pen l.fn.out l.out l.place l.byte l.ands l.ors

abbrev pub decreases-expression-loop-ands : goal.decreases-expression-loop-ands
decreases-expression-loop-ands l = length l.source.items.now - l.place

abbrev pub invariant-predicates-loop : goal.invariant-predicates-loop
invariant-predicates-loop l =
    Rest (take_preds (take_within l.depth)) (preds_pieces l.source.brief) (names_of l.source.names.now) l.source.items.now l.at l.pen
    (take_preds (take_within l.depth) l.number (drop l.at l.source.items.now)) l.fn.out l.out l.place l.byte (l.number - l.counter)

abbrev pub invariant-steps-loop-owed : goal.invariant-steps-loop-owed
invariant-steps-loop-owed l =
    Rest (take_steps (take_within l.depth)) (relative_pieces l.source.brief) (names_of l.source.names.now) l.source.items.now l.at l.pen
    (take_steps (take_within l.depth) l.number (drop l.at l.source.items.now)) l.fn.out l.out l.place l.byte l.owed

abbrev pub decreases-steps-loop-owed : goal.decreases-steps-loop-owed
decreases-steps-loop-owed l = l.owed
