-- `report::report_by` meets its contract: an input too long is refused, and any other is cut into its lines. Assumes nothing.
use native.Mathlib.Omega.{arith}
use mathlib.Core.Path.{◌∙◌, ap}
use Rattle.paper.specs.declared.Refusal.TheVariants.{TooLong}
use Rattle.paper.specs.Program.{first_line, after_line}
use Rattle.lines.specs.Lines.{report_limit}
use Rattle.lines.proofs.Splitting.{next_whole}
use Rattle.lines.proofs.Reported.{refused_part, given_part}
use Rattle.report.specs.Printing.{program_prints_by}
use Rattle.report.proofs.Inputs.{input_long, input_taken}
use Rattle.report.proofs.report_by.Goals as goal

pub returns-then-input-gt-INPUT_LIMIT : goal.returns-then-input-gt-INPUT_LIMIT
unfolding program_prints_by
returns-then-input-gt-INPUT_LIMIT c =
    refused_part "input" _ _ report_limit _ _ _ (omega arith) TooLong (input_long c.args.input.now (omega (arith, c.if-input-gt-INPUT_LIMIT.true))) c.put_refusal.ensures

pub returns : goal.returns
unfolding program_prints_by
returns c =
    let input = c.args.input.now in
    let first = c.line_end-outer_end.ensures in
    let second = c.line_end-inner_end.ensures in
    let after = next_whole input _ _ c.line_start-inner_start.ensures ∙ first.rest in
    let inner = second.says ∙ ap first_line after in
    let list = next_whole _ _ _ c.line_start-list_start.ensures ∙ second.rest ∙ ap after_line after in
    given_part "input" _ _ _ _ _ _ _ (input_taken input (omega (arith, c.if-input-gt-INPUT_LIMIT.false)))
    (rw (first.says, inner, list) at c.report_texts.ensures)
