-- The functions of `read_paths` that call each other: what each loop keeps, and what falls with each call.
-- Each loop's invariant is that what is left to read gives the answer of the whole (`Turn` of an expression, `PredRow` and `StepRow`).
-- The measure of a call is the number of bytes left, then the order bracketed, expression, operand, steps, step. Assumes nothing.
use Rattle.std.proofs.Common.{◌+◌, ◌*◌, ◌-◌, ◌≡◌, length}
use Rattle.paper.specs.Reading.{then, got, read_steps, read_within}
use Rattle.marks.specs.Marks.{tokens_at}
use Rattle.heads.specs.Heads.{look_of}
use Rattle.read_paths.specs.Parts.{deep_if}
use Rattle.read_paths.proofs.Runs.{Turn}
use Rattle.read_paths.proofs.Rows.{PredRow, StepRow}
use Rattle.read_paths.proofs.+bracketed_expression_operand_predicates_step_steps.Given as goal

abbrev pub decreases-bracketed : goal.decreases-bracketed
decreases-bracketed l = (length l.text.now - l.cursor.at) * 8 + 5

abbrev pub decreases-expression : goal.decreases-expression
decreases-expression l = (length l.text.now - l.cursor.at) * 8 + 4

abbrev pub decreases-operand : goal.decreases-operand
decreases-operand l = (length l.text.now - l.cursor.at) * 8 + 2

abbrev pub decreases-predicates : goal.decreases-predicates
decreases-predicates l = (length l.text.now - l.cursor.at) * 8 + 0

abbrev pub decreases-step : goal.decreases-step
decreases-step l = (length l.text.now - l.cursor.at) * 8 + 0

abbrev pub decreases-steps : goal.decreases-steps
decreases-steps l = (length l.text.now - l.cursor.at) * 8 + 1

abbrev pub invariant-expression-loop-one : goal.invariant-expression-loop-one
invariant-expression-loop-one l =
    (length l.out ≡ length l.fn.out) × Turn l.newer (look_of l.names) (read_within l.newer (look_of l.names) l.depth) l.text l.fn.out l.fn.cursor.at l.slot l.out l.here.at l.filled l.begun l.ands l.ors

abbrev pub decreases-expression-loop-one : goal.decreases-expression-loop-one
decreases-expression-loop-one l = length l.text - l.here.at

abbrev pub invariant-predicates-loop-square : goal.invariant-predicates-loop-square
invariant-predicates-loop-square l =
    (length l.out ≡ length l.fn.out) × PredRow l.newer (look_of l.names) (read_within l.newer (look_of l.names) l.depth) l.text l.fn.out l.out l.fn.cursor.at l.slot l.here.at l.filled l.taken

abbrev pub decreases-predicates-loop-square : goal.decreases-predicates-loop-square
decreases-predicates-loop-square l = length l.text - l.here.at

abbrev pub invariant-steps-loop-one : goal.invariant-steps-loop-one
invariant-steps-loop-one l =
    (length l.out ≡ length l.fn.out)
    × StepRow l.newer (look_of l.names) (read_within l.newer (look_of l.names) l.depth) l.text l.fn.out l.out l.fn.cursor.at l.slot
    (then (read_steps l.newer (look_of l.names) (read_within l.newer (look_of l.names) l.depth) (length (tokens_at l.text l.fn.cursor.at)) (tokens_at l.text l.fn.cursor.at)) (λ s. got (deep_if l.deep s)))
    l.here.at l.filled l.lead l.taken

abbrev pub decreases-steps-loop-one : goal.decreases-steps-loop-one
decreases-steps-loop-one l = length l.text - l.here.at
