-- `judge::judge`: its tests are the lines of a run, in their order.
use Rattle.std.proofs.Common.{rules, ◌≡◌, arith, sym, ap, ◌∙◌}
use Rattle.std.specs.Prelude.{Err}
use Rattle.paper.specs.declared.Refusal.TheVariants.{BadQuery}
use Rattle.paper.specs.Items.{decode}
use Rattle.paper.specs.Document.{table_of}
use Rattle.paper.specs.Told.{told, told_refusal, found}
use Rattle.paper.specs.Answers.{value}
use Rattle.table.proofs.Nodes.{inside}
use Rattle.judge.proofs.Answering.{Agree, measured_none, measured_some, items_many, nodes_many, kinds_other, given_other, marks_other, judged_six, judged_seven, judged_eight, judged_value}
use Rattle.judge.proofs.judge.Goals as goal
use Rattle.judge.proofs.judge.Goals.{then-n-gt-NODE_LIMIT-via-then-n-gt-NODE_LIMIT, then-n-gt-NODE_LIMIT-via-else-n-gt-NODE_LIMIT+then-kind-n, then-n-gt-NODE_LIMIT-via-else-n-gt-NODE_LIMIT+else-kind-n+then-given-n, then-n-gt-NODE_LIMIT-via-else-n-gt-NODE_LIMIT+else-kind-n+else-given-n+then-marks_room-n}

pub returns-then-query-gt-ITEM_LIMIT : goal.returns-then-query-gt-ITEM_LIMIT
returns-then-query-gt-ITEM_LIMIT c = items_many _ _ _ _ c.if-query-gt-ITEM_LIMIT.true

pub returns-then-n-gt-NODE_LIMIT : goal.returns-then-n-gt-NODE_LIMIT
returns-then-n-gt-NODE_LIMIT c =
    elim c.then-n-gt-NODE_LIMIT.branch [
      | then-n-gt-NODE_LIMIT-via-then-n-gt-NODE_LIMIT w ↦ nodes_many _ _ _ _ w.if-n-gt-NODE_LIMIT.true
      | then-n-gt-NODE_LIMIT-via-else-n-gt-NODE_LIMIT+then-kind-n w ↦ kinds_other _ _ _ _ w.if-kind-n.true
      | then-n-gt-NODE_LIMIT-via-else-n-gt-NODE_LIMIT+else-kind-n+then-given-n w ↦ given_other _ _ _ _ w.if-given-n.true
      | then-n-gt-NODE_LIMIT-via-else-n-gt-NODE_LIMIT+else-kind-n+else-given-n+then-marks_room-n w ↦ marks_other _ _ _ _ w.if-marks_room-n.true
    ]

pub returns-in_err-shape : goal.returns-in_err-shape
returns-in_err-shape c =
    let a = c.args in
    let agree : Agree a.query.now (table_of a.parent.now a.kind.now) a.given.now a.marks_room =
    record { items_few = omega arith; nodes_few = omega arith; kinds_all = c.if-kind-n.false; given_all = c.if-given-n.false; marks_all = c.if-marks_room-n.false } in
    let m = measured_none (decode a.query.now) c.measure.result c.in_err-shape.field-0.0 (BadQuery 0) c.measure.ensures c.in_err-shape.ensures.value in
    let w : c.from_residual.result ≡ Err c.in_err-shape.field-0.0 = search rules in
    ap told w ∙ ap told_refusal m.1 ∙ judged_six _ _ _ _ agree m.0

pub returns-in-Some : goal.returns-in-Some
returns-in-Some c =
    let a = c.args in
    let agree : Agree a.query.now (table_of a.parent.now a.kind.now) a.given.now a.marks_room =
    record { items_few = omega arith; nodes_few = omega arith; kinds_all = c.if-kind-n.false; given_all = c.if-given-n.false; marks_all = c.if-marks_room-n.false } in
    let q = measured_some (decode a.query.now) c.measure.result c.in_ok-shape.shape (BadQuery 0) c.measure.ensures c.in_ok-shape.ensures.value in
    judged_seven _ _ _ _ q.0 _ agree q.1 (sym c.table_fault.ensures ∙ ap found c.in-Some.is)

pub marks_fault-requires : goal.marks_fault-requires
marks_fault-requires c = (c.if-given-n.false, inside c.args.parent.now c.args.kind.now (sym c.table_fault.ensures ∙ ap found c.in_default.is))

pub returns-in-Some-marks_fault : goal.returns-in-Some-marks_fault
returns-in-Some-marks_fault c =
    let a = c.args in
    let agree : Agree a.query.now (table_of a.parent.now a.kind.now) a.given.now a.marks_room =
    record { items_few = omega arith; nodes_few = omega arith; kinds_all = c.if-kind-n.false; given_all = c.if-given-n.false; marks_all = c.if-marks_room-n.false } in
    let q = measured_some (decode a.query.now) c.measure.result c.in_ok-shape.shape (BadQuery 0) c.measure.ensures c.in_ok-shape.ensures.value in
    judged_eight _ _ _ _ q.0 _ agree q.1 (sym c.table_fault.ensures ∙ ap found c.in_default.is) (sym (c.marks_fault.ensures a.kind.now) ∙ ap found c.in-Some-marks_fault.is)

pub returns : goal.returns
returns c =
    let a = c.args in
    let agree : Agree a.query.now (table_of a.parent.now a.kind.now) a.given.now a.marks_room =
    record { items_few = omega arith; nodes_few = omega arith; kinds_all = c.if-kind-n.false; given_all = c.if-given-n.false; marks_all = c.if-marks_room-n.false } in
    let q = measured_some (decode a.query.now) c.measure.result c.in_ok-shape.shape (BadQuery 0) c.measure.ensures c.in_ok-shape.ensures.value in
    ap value q.2 ∙ judged_value _ _ _ _ q.0 agree q.1 (sym c.table_fault.ensures ∙ ap found c.in_default.is) (sym (c.marks_fault.ensures a.kind.now) ∙ ap found c.in_default-marks_fault.is)
