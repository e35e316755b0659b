-- `query_report::report_queries` meets its contract: the line of a refusal, or the report on the composed query. Assumes nothing.
use native.Mathlib.Omega.{arith}
use mathlib.Core.Path.{◌≡◌, sym, ◌∙◌, ap}
use lib.ListN.{replicate}
use Rattle.paper.specs.Limits.{item_limit}
use Rattle.paper.specs.Told.{told}
use Rattle.query_report.specs.Ways.{queries_print_by}
use Rattle.query_report.proofs.Composing.{compose_gives}
use Rattle.lines.specs.Lines.{report_limit}
use Rattle.lines.proofs.Reported.{refused_answer, given_part}
use Rattle.query_report.proofs.report_queries.Goals as goal

pub returns-in_default : goal.returns-in_default
unfolding queries_print_by
returns-in_default c =
    refused_answer "compose" _ _ report_limit _ _ _ (omega arith) c.compose_way-answer.result c.in_default.field-0 c.in_default.is c.compose_way-answer.ensures.0 c.put_refusal.ensures

pub slice_bounds-room-end : goal.slice_bounds-room-end
slice_bounds-room-end c =
    let a = c.args in
    (compose_gives c.in-Ok.size (replicate item_limit 0) _ a.lean a.outer.now a.inner.now (ap told (sym c.in-Ok.is) ∙ c.compose_way-answer.ensures.0) c.compose_way-answer.ensures.1).inside

pub slice_bounds-query-end : goal.slice_bounds-query-end
slice_bounds-query-end c =
    let a = c.args in
    (compose_gives c.in-Ok.size (replicate item_limit 0) _ a.lean a.outer.now a.inner.now (ap told (sym c.in-Ok.is) ∙ c.compose_way-answer.ensures.0) c.compose_way-answer.ensures.1).counts

pub returns : goal.returns
unfolding queries_print_by
returns c =
    let a = c.args in
    let says = ap told (sym c.in-Ok.is) ∙ c.compose_way-answer.ensures.0 in
    let gives = compose_gives c.in-Ok.size (replicate item_limit 0) _ a.lean a.outer.now a.inner.now says c.compose_way-answer.ensures.1 in
    given_part "compose" _ _ _ _ _ _ _ says (rw gives.starts at c.report_query.ensures)
