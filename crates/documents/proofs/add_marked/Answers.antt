-- `documents::add_marked`: a run that is refused adds one to its number, and one that is not adds the elements of the table.
use Rattle.std.proofs.Common.{arith, ap, ◌∙◌}
use Rattle.paper.specs.Document.{table_of}
use Rattle.paper.specs.Answers.{run_answer}
use Rattle.paper.specs.Sheet.{all_marked, scratch_room}
use Rattle.whole.proofs.Kept.{marks_kept}
use Rattle.documents.proofs.Adding.{table_refused, table_shown, refusal_adds, shown_adds}
use Rattle.documents.proofs.add_marked.Goals as goal

pub returns-in-Err : goal.returns-in-Err
returns-in-Err c =
    let a = c.args in
    let t = table_of a.parent.now a.kind.now in
    let e = c.in-Err in
    refusal_adds _ _ _ _ _ _ _
    (table_refused a.view.now t e.why (e.ensures.result_value ∙ ap (λ many. run_answer a.view.now t (all_marked t) many scratch_room) c.requires.2))
    (λ v l. omega (arith, c.type_inv.all v)) (λ v l. omega (arith, c.type_inv.kept v)) (λ v l. omega (arith, c.type_inv.hidden v))
    (rw c.number_of.ensures at c.add_refusal.ensures)

pub returns-in-Ok : goal.returns-in-Ok
returns-in-Ok c =
    let a = c.args in
    let t = table_of a.parent.now a.kind.now in
    let e = c.in-Ok.ensures in
    let accepted = e.result_value ∙ ap (λ many. run_answer a.view.now t (all_marked t) many scratch_room) c.requires.2 in
    let marks = marks_kept a.view.now t scratch_room a.marks.now c.run_within.new.marks _ e.result_value c.requires.2 e.marks_after in
    shown_adds _ _ _ _ _ t _ _ _ _ (table_shown a.view.now t _ accepted) (λ n l. omega (arith, c.type_inv.refusals n)) (rw (marks, c.requires.1) at c.add_nodes.ensures)
