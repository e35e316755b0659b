-- The lines 1 and 2, then what stands where the list is good.
use Rattle.std.proofs.Common.{◌≡◌, ◌∙◌, sym, ap, refl, length, rules}
use Rattle.paper.specs.Answers.{read_xml_column}
use Rattle.paper.specs.Told.{told_refusal}
use Rattle.xml_lines.specs.Kept.{Columns, columns, xml_answer}
use Rattle.xml_lines.proofs.Answered.{too_long_lem, bad_list, good_list, refused_exit}
use Rattle.read_xml.proofs.read_xml.Goals as goal

-- LINE 1.
pub returns-then-text-list : goal.returns-then-text-list
unfolding read_xml_column
returns-then-text-list c =
    record {
      result_value = too_long_lem c.args.text.now c.args.list.now (length c.args.parent.now) (length c.args.kind.now) (length c.args.begin.now) (length c.args.end.now) c.if-text-list.true;
      parent_after = refl;
      kind_after = refl;
      begin_after = refl;
      end_after = refl;
    }

-- LINE 2.
pub returns-in_err-new-clause-result_value : goal.returns-in_err-new-clause-result_value
returns-in_err-new-clause-result_value c =
    let bad = c.in_err-new.ensures.bad in
    let said =
    ap told_refusal bad.refused
    ∙ bad_list c.args.text.now c.args.list.now (length c.args.parent.now) (length c.args.kind.now) (length c.args.begin.now) (length c.args.end.now) bad.start c.if-text-list.false (sym bad.fault) in
    search rules

pub returns-in_err-new-clause-parent_after : goal.returns-in_err-new-clause-parent_after
returns-in_err-new-clause-parent_after c =
    let same = ap (λ (w : Columns). w.parents) (refused_exit c.args.text.now c.args.list.now (columns c.args.parent.now c.args.kind.now c.args.begin.now c.args.end.now) c.in_err-new.field-0.0) in search rules

pub returns-in_err-new-clause-kind_after : goal.returns-in_err-new-clause-kind_after
returns-in_err-new-clause-kind_after c =
    let same = ap (λ (w : Columns). w.kinds) (refused_exit c.args.text.now c.args.list.now (columns c.args.parent.now c.args.kind.now c.args.begin.now c.args.end.now) c.in_err-new.field-0.0) in search rules

pub returns-in_err-new-clause-begin_after : goal.returns-in_err-new-clause-begin_after
returns-in_err-new-clause-begin_after c =
    let same = ap (λ (w : Columns). w.begins) (refused_exit c.args.text.now c.args.list.now (columns c.args.parent.now c.args.kind.now c.args.begin.now c.args.end.now) c.in_err-new.field-0.0) in search rules

pub returns-in_err-new-clause-end_after : goal.returns-in_err-new-clause-end_after
returns-in_err-new-clause-end_after c =
    let same = ap (λ (w : Columns). w.ends) (refused_exit c.args.text.now c.args.list.now (columns c.args.parent.now c.args.kind.now c.args.begin.now c.args.end.now) c.in_err-new.field-0.0) in search rules

-- THE LIST IS GOOD.
pub returns-clause-result_value : goal.returns-clause-result_value
returns-clause-result_value c =
    let good = c.in_ok-new.ensures.good in
    let same : c.new-names.result ≡ c.args.list.now = c.new-names.ensures ∙ c.into_listed.ensures ∙ good.0 in
    c.fill.ensures.result_value ∙ ap (λ l. xml_answer c.args.text.now l (length c.args.parent.now)) same
    ∙ good_list c.args.text.now c.args.list.now (length c.args.parent.now) (length c.args.kind.now) (length c.args.begin.now) (length c.args.end.now) c.if-text-list.false (sym good.1)
