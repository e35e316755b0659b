-- `query_report::report_query` meets its contract: the line of a refusal, or the text with its size and nesting. Assumes nothing.
use native.Mathlib.Omega.{arith}
use mathlib.Core.Path.{◌≡◌, sym, ◌∙◌, ap}
use lib.ListN.{replicate}
use Rattle.paper.specs.Limits.{text_limit}
use Rattle.paper.specs.Printing.{long_form}
use Rattle.paper.specs.Told.{told}
use Rattle.paper.specs.Program.{query_prints}
use Rattle.paper.proofs.Giving.{print_gives}
use Rattle.lines.specs.Lines.{report_limit}
use Rattle.lines.proofs.Reported.{refused_answer, given_part}
use Rattle.query_report.proofs.report_query.Goals as goal

pub returns-in_default : goal.returns-in_default
unfolding query_prints
returns-in_default c =
    refused_answer "print" _ _ report_limit _ _ _ (omega arith) c.print_long-answer.result c.in_default.field-0 c.in_default.is c.print_long-answer.ensures.result_value c.put_refusal.ensures

pub slice_bounds-text-end : goal.slice_bounds-text-end
slice_bounds-text-end c =
    let a = c.args in
    (print_gives c.in-Ok.count (replicate text_limit 0) _ long_form a.query.now a.list.now (ap told (sym c.in-Ok.is) ∙ c.print_long-answer.ensures.result_value) c.print_long-answer.ensures.out_after).inside

pub slice_bounds-put_result-end : goal.slice_bounds-put_result-end
slice_bounds-put_result-end c =
    let a = c.args in
    (print_gives c.in-Ok.count (replicate text_limit 0) _ long_form a.query.now a.list.now (ap told (sym c.in-Ok.is) ∙ c.print_long-answer.ensures.result_value) c.print_long-answer.ensures.out_after).counts

pub returns : goal.returns
unfolding query_prints
returns c =
    let a = c.args in
    let says = ap told (sym c.in-Ok.is) ∙ c.print_long-answer.ensures.result_value in
    let gives = print_gives c.in-Ok.count (replicate text_limit 0) _ long_form a.query.now a.list.now says c.print_long-answer.ensures.out_after in
    given_part "print" _ _ _ _ _ _ _ says (rw (gives.starts, c.requires) at c.put_result.ensures)
