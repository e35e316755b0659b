-- `run::run`: a run that is refused leaves all as it was; one that is not keeps what its query keeps, clears the scratch it needed and counts.
use Rattle.std.proofs.Common.{rules, ◌≡◌, length, List, ℕ, ◌+◌, ◌*◌, replicate, arith, sym, ap, ◌∙◌}
use Rattle.std.specs.Prelude.{Err}
use mathlib.Core.Path.{ap₂}
use lib.Seq.{length-take-le}
use Rattle.paper.specs.Document.{Table, nodes, table_of}
use Rattle.paper.specs.Answers.{value, refusal, scratch_of}
use Rattle.paper.specs.Told.{told}
use Rattle.paper.specs.declared.Refusal.TheVariants.{Short}
use Rattle.paper.specs.Extraction.{rank}
use Rattle.paper.specs.Selection.{kept}
use Rattle.paper.proofs.Sizes.{size_decoded, height_size}
use Rattle.judge.proofs.Answering.{Accepted, accepted, runs, short_of, scratch_small, refused_answer, marks_stay, run-marks}
use Rattle.run.proofs.Answering.{searchable, runnable, scratch_stays, scratch_cleared}
use Rattle.run.proofs.run.Goals as goal

-- What a run needs, by the height that was judged.
needs : {query : List ℕ} {t : Table} {given : List ℕ} {room tall : ℕ} (ok : Accepted query t given room tall) → nodes t * 2 * (tall + 1) ≡ scratch_of t ok.query_is
needs {t = t} ok = ap (λ (k : ℕ). nodes t * 2 * (k + 1)) ok.tall_is

pub returns-in_err-height-clause-result_value : goal.returns-in_err-height-clause-result_value
returns-in_err-height-clause-result_value c =
    let e = c.in_err-height in
    let w : c.from_residual.result ≡ Err e.field-0.0 = search rules in
    ap told w ∙ refused_answer _ _ _ c.args.marks.now _ e.field-0.0 e.ensures

pub returns-in_err-height-clause-marks_after : goal.returns-in_err-height-clause-marks_after
returns-in_err-height-clause-marks_after c =
    let e = c.in_err-height in
    marks_stay _ _ _ _ _ e.field-0.0 (refused_answer _ _ _ c.args.marks.now _ e.field-0.0 e.ensures)

pub returns-in_err-height-clause-scratch_after : goal.returns-in_err-height-clause-scratch_after
returns-in_err-height-clause-scratch_after c =
    let e = c.in_err-height in
    scratch_stays _ _ _ c.args.marks.now c.args.scratch.now e.field-0.0 (refused_answer _ _ _ c.args.marks.now _ e.field-0.0 e.ensures)

pub overflow_add-needed : goal.overflow_add-needed
overflow_add-needed c =
    let ok = accepted _ _ _ _ _ c.in_ok-height.ensures in
    omega (arith, ok.tall_is, height_size ok.query_is, size_decoded _ _ ok.decodes, ok.agree.items_few)

pub overflow_mul-needed-2 : goal.overflow_mul-needed-2
overflow_mul-needed-2 c =
    let ok = accepted _ _ _ _ _ c.in_ok-height.ensures in
    omega (arith, needs ok, scratch_small c.args.query.now (table_of c.args.parent.now c.args.kind.now) ok.query_is ok.agree.items_few ok.agree.nodes_few ok.decodes)

pub returns-then-scratch-needed-clause-result_value : goal.returns-then-scratch-needed-clause-result_value
returns-then-scratch-needed-clause-result_value c =
    let ok = accepted _ _ _ _ _ c.in_ok-height.ensures in
    ap (refusal 10) (needs ok) ∙ sym (short_of _ _ _ _ _ _ ok (omega (arith, needs ok, c.if-scratch-needed.true)))

pub returns-then-scratch-needed-clause-marks_after : goal.returns-then-scratch-needed-clause-marks_after
returns-then-scratch-needed-clause-marks_after c =
    let ok = accepted _ _ _ _ _ c.in_ok-height.ensures in
    marks_stay _ _ _ c.args.marks.now _ (Short _) (sym (short_of _ _ _ _ _ _ ok (omega (arith, needs ok, c.if-scratch-needed.true))))

pub returns-then-scratch-needed-clause-scratch_after : goal.returns-then-scratch-needed-clause-scratch_after
returns-then-scratch-needed-clause-scratch_after c =
    let ok = accepted _ _ _ _ _ c.in_ok-height.ensures in
    scratch_stays _ _ _ c.args.marks.now c.args.scratch.now (Short _) (sym (short_of _ _ _ _ _ _ ok (omega (arith, needs ok, c.if-scratch-needed.true))))

pub keep-requires-clause-ready : goal.keep-requires-clause-ready
keep-requires-clause-ready c = searchable _ _ _ _ _ _ (accepted _ _ _ _ _ c.in_ok-height.ensures)

pub keep-requires-clause-marks_len : goal.keep-requires-clause-marks_len
keep-requires-clause-marks_len c = (accepted _ _ _ _ _ c.in_ok-height.ensures).agree.marks_all

pub keep-requires-clause-runs : goal.keep-requires-clause-runs
keep-requires-clause-runs c =
    let ok = accepted _ _ _ _ _ c.in_ok-height.ensures in
    runnable _ _ _ _ _ _ ok c.args.scratch.now _ (needs ok) c.if-scratch-needed.false

pub count-requires : goal.count-requires
count-requires c =
    let ok = accepted _ _ _ _ _ c.in_ok-height.ensures in
    omega (arith, c.keep.auto.marks, ok.agree.marks_all, ok.agree.nodes_few)

pub returns-clause-result_value : goal.returns-clause-result_value
returns-clause-result_value c =
    let a = c.args in
    let t = table_of a.parent.now a.kind.now in
    let ok = accepted _ _ _ _ _ c.in_ok-height.ensures in
    let same : c.keep.new.marks ≡ kept t a.given.now ok.query_is = c.keep.ensures.marks_after ok.query_is ok.decodes in
    let many : length c.keep.new.marks ≡ length a.parent.now = c.keep.auto.marks ∙ ok.agree.marks_all in
    ap value (c.count.ensures ∙ ap₂ rank same many) ∙ sym (runs _ _ _ _ _ _ ok (omega (arith, needs ok, c.if-scratch-needed.false)))

pub returns-clause-marks_after : goal.returns-clause-marks_after
returns-clause-marks_after c =
    let a = c.args in
    let ok = accepted _ _ _ _ _ c.in_ok-height.ensures in
    c.keep.ensures.marks_after ok.query_is ok.decodes ∙ run-marks _ _ _ a.marks.now _ _ ok (omega (arith, needs ok, c.if-scratch-needed.false))

pub returns-clause-scratch_after : goal.returns-clause-scratch_after
returns-clause-scratch_after c =
    let a = c.args in
    let ok = accepted _ _ _ _ _ c.in_ok-height.ensures in
    let room = c.if-scratch-needed.false in
    scratch_cleared _ _ _ a.marks.now a.scratch.now _ _ ok (needs ok) room c.keep.new.sets (c.keep.ensures.sets_after ∙ ap (λ (k : ℕ). replicate k 0) (length-take-le _ a.scratch.now room))
