-- `follow::follow`: a call that is refused leaves all as it was; one that is not marks what its query keeps, and counts.
use Rattle.std.proofs.Common.{rules, ◌≡◌, length, ℕ, arith, sym, ap, ◌∙◌}
use Rattle.std.specs.Prelude.{Err}
use mathlib.Core.Path.{ap₂}
use Rattle.paper.specs.Document.{table_of}
use Rattle.paper.specs.Answers.{value}
use Rattle.paper.specs.Told.{told}
use Rattle.paper.specs.Extraction.{rank}
use Rattle.paper.specs.Selection.{kept}
use Rattle.judge.proofs.Answering.{accepted, runs, refused_answer, marks_stay, run-marks}
use Rattle.follow.proofs.Answering.{enough_for, searchable}
use Rattle.follow.proofs.follow.Goals as goal

pub returns-in_err-judge-clause-result_value : goal.returns-in_err-judge-clause-result_value
returns-in_err-judge-clause-result_value c =
    let e = c.in_err-judge in
    let w : c.from_residual.result ≡ Err e.field-0.0 = search rules in
    ap told w ∙ refused_answer _ _ _ c.args.marks.now _ e.field-0.0 e.ensures

pub returns-in_err-judge-clause-marks_after : goal.returns-in_err-judge-clause-marks_after
returns-in_err-judge-clause-marks_after c =
    let e = c.in_err-judge in
    marks_stay _ _ _ _ _ e.field-0.0 (refused_answer _ _ _ c.args.marks.now _ e.field-0.0 e.ensures)

pub mark_kept-requires-clause-ready : goal.mark_kept-requires-clause-ready
mark_kept-requires-clause-ready c = searchable _ _ _ _ _ _ (accepted _ _ _ _ _ c.in_ok-judge.ensures)

pub mark_kept-requires-clause-marks_len : goal.mark_kept-requires-clause-marks_len
mark_kept-requires-clause-marks_len c =
    let ok = accepted _ _ _ _ _ c.in_ok-judge.ensures in
    (ok.agree.marks_all, omega (arith, ok.agree.items_few), (ok.query_is, ok.decodes))

pub count-requires : goal.count-requires
count-requires c =
    let ok = accepted _ _ _ _ _ c.in_ok-judge.ensures in
    omega (arith, c.mark_kept.auto.marks, ok.agree.marks_all, ok.agree.nodes_few)

pub returns-clause-result_value : goal.returns-clause-result_value
returns-clause-result_value c =
    let a = c.args in
    let t = table_of a.parent.now a.kind.now in
    let ok = accepted _ _ _ _ _ c.in_ok-judge.ensures in
    let same : c.mark_kept.new.marks ≡ kept t a.given.now ok.query_is = c.mark_kept.ensures ok.query_is ok.decodes in
    let many : length c.mark_kept.new.marks ≡ length a.parent.now = c.mark_kept.auto.marks ∙ ok.agree.marks_all in
    ap value (c.count.ensures ∙ ap₂ rank same many) ∙ sym (runs _ _ _ _ _ _ ok (enough_for a.query.now t ok.query_is ok.decodes))

pub returns-clause-marks_after : goal.returns-clause-marks_after
returns-clause-marks_after c =
    let a = c.args in
    let ok = accepted _ _ _ _ _ c.in_ok-judge.ensures in
    c.mark_kept.ensures ok.query_is ok.decodes ∙ run-marks _ _ _ a.marks.now _ _ ok (enough_for a.query.now (table_of a.parent.now a.kind.now) ok.query_is ok.decodes)
