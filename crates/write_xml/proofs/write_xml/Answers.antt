-- The lines 1 and 2, then what stands where the list is good.
use Rattle.std.proofs.Common.{◌∙◌, ap, rules}
use Rattle.paper.specs.Told.{told_refusal}
use Rattle.write_listed.proofs.Lines.{too_long_lem, bad_list}
use Rattle.write_xml.proofs.write_xml.Goals as goal

-- LINE 1.
pub returns-then-text-list : goal.returns-then-text-list
returns-then-text-list c =
    let h = too_long_lem c.args.text.now c.args.list.now c.args.parent.now c.args.kind.now c.args.begin.now c.args.end.now c.args.marks.now c.args.out.now c.if-text-list.true in
    record { result_value = h.0; out_after = h.1 }

-- LINE 2.
pub returns-in_err-new-clause-result_value : goal.returns-in_err-new-clause-result_value
returns-in_err-new-clause-result_value c =
    let bad = c.in_err-new.ensures.bad in
    let h =
    bad_list c.args.text.now c.args.list.now c.args.parent.now c.args.kind.now c.args.begin.now c.args.end.now c.args.marks.now c.args.out.now bad.start c.if-text-list.false bad.fault in
    let said = ap told_refusal bad.refused ∙ h.0 in search rules

pub returns-in_err-new-clause-out_after : goal.returns-in_err-new-clause-out_after
returns-in_err-new-clause-out_after c =
    let bad = c.in_err-new.ensures.bad in
    (bad_list c.args.text.now c.args.list.now c.args.parent.now c.args.kind.now c.args.begin.now c.args.end.now c.args.marks.now c.args.out.now bad.start c.if-text-list.false bad.fault).1
