-- `text_report::report_texts` meets its contract: the line of the first refusal, or the report on the two queries. Assumes nothing.
use native.Mathlib.Omega.{arith}
use mathlib.Core.Path.{sym, ◌∙◌, ap}
use lib.ListN.{replicate}
use Rattle.paper.specs.Limits.{item_limit}
use Rattle.paper.specs.Told.{told}
use Rattle.paper.proofs.Giving.{read_gives}
use Rattle.lines.specs.Lines.{report_limit}
use Rattle.lines.proofs.Reported.{refused_answer, given_part}
use Rattle.text_report.specs.Texts.{texts_print_by}
use Rattle.text_report.proofs.report_texts.Goals as goal

pub returns-in_default : goal.returns-in_default
unfolding texts_print_by
returns-in_default c =
    refused_answer "outer" _ _ report_limit _ _ _ (omega arith) c.read-outer_answer.result _ c.in_default.is c.read-outer_answer.ensures.result_value c.put_refusal.ensures

pub returns-in_default-inner_answer : goal.returns-in_default-inner_answer
unfolding texts_print_by
returns-in_default-inner_answer c =
    given_part "outer" _ _ _ _ _ _ _ (ap told (sym c.in-Ok.is) ∙ c.read-outer_answer.ensures.result_value)
    (refused_answer "inner" _ _ report_limit _ _ _ (omega arith) c.read-inner_answer.result _ c.in_default-inner_answer.is c.read-inner_answer.ensures.result_value c.put_refusal-in_default-inner_answer.ensures)

pub slice_bounds-outer_room-end : goal.slice_bounds-outer_room-end
slice_bounds-outer_room-end c =
    (read_gives c.in-Ok.outer_size (replicate item_limit 0) _ _ _ (ap told (sym c.in-Ok.is) ∙ c.read-outer_answer.ensures.result_value) c.read-outer_answer.ensures.out_after).inside

pub slice_bounds-inner_room-end : goal.slice_bounds-inner_room-end
slice_bounds-inner_room-end c =
    (read_gives c.in-Ok-inner_answer.inner_size (replicate item_limit 0) _ _ _ (ap told (sym c.in-Ok-inner_answer.is) ∙ c.read-inner_answer.ensures.result_value) c.read-inner_answer.ensures.out_after).inside

pub returns : goal.returns
unfolding texts_print_by
returns c =
    let outer = ap told (sym c.in-Ok.is) ∙ c.read-outer_answer.ensures.result_value in
    let inner = ap told (sym c.in-Ok-inner_answer.is) ∙ c.read-inner_answer.ensures.result_value in
    given_part "outer" _ _ _ _ _ _ _ outer
    (given_part "inner" _ _ _ _ _ _ _ inner
    (rw (
      (read_gives c.in-Ok.outer_size (replicate item_limit 0) _ _ _ outer c.read-outer_answer.ensures.out_after).starts,
      (read_gives c.in-Ok-inner_answer.inner_size (replicate item_limit 0) _ _ _ inner c.read-inner_answer.ensures.out_after).starts,
    ) at c.report_queries.ensures))

pub slice_bounds-outer_query-end : goal.slice_bounds-outer_query-end
slice_bounds-outer_query-end c =
    (read_gives c.in-Ok.outer_size (replicate item_limit 0) _ _ _ (ap told (sym c.in-Ok.is) ∙ c.read-outer_answer.ensures.result_value) c.read-outer_answer.ensures.out_after).counts

pub slice_bounds-inner_query-end : goal.slice_bounds-inner_query-end
slice_bounds-inner_query-end c =
    (read_gives c.in-Ok-inner_answer.inner_size (replicate item_limit 0) _ _ _ (ap told (sym c.in-Ok-inner_answer.is) ∙ c.read-inner_answer.ensures.result_value) c.read-inner_answer.ensures.out_after).counts
