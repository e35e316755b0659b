-- A value says that all that the writing asks was found; a refusal that nothing is written.
use Rattle.std.proofs.Common.{◌≡◌, List, ℕ, ◌∙◌, length, get_or, arith, sym, ap}
use Rattle.paper.specs.Tools.{written}
use Rattle.paper.specs.Document.{table_of}
use Rattle.paper.specs.Extraction.{pick_from, extracted}
use Rattle.paper.specs.Answers.{value, extract_answer}
use Rattle.extract.proofs.Ordering.{ordered}
use Rattle.extract.proofs.Lines.{Accepted, accepted, refused, wrote}
use Rattle.extract.proofs.extract.Goals as goal

-- What a value says.
got : (parents kinds marks : List ℕ) (a b n : ℕ) → value n ≡ extract_answer (table_of parents kinds) marks a b → Accepted (table_of parents kinds) marks a b
got parents kinds marks a b n e = accepted (table_of parents kinds) marks a b n (sym e)

pub returns-in_err-number-clause-out_parent_after : goal.returns-in_err-number-clause-out_parent_after
returns-in_err-number-clause-out_parent_after c =
    let a = c.args in
    (refused (table_of a.parent.now a.kind.now) a.marks.now a.out_parent.now a.out_kind.now c.in_err-number.field-0.0 c.in_err-number.ensures).0

pub returns-in_err-number-clause-out_kind_after : goal.returns-in_err-number-clause-out_kind_after
returns-in_err-number-clause-out_kind_after c =
    let a = c.args in
    (refused (table_of a.parent.now a.kind.now) a.marks.now a.out_parent.now a.out_kind.now c.in_err-number.field-0.0 c.in_err-number.ensures).1

pub copy_parents-requires-clause-ordered : goal.copy_parents-requires-clause-ordered
copy_parents-requires-clause-ordered c =
    let a = c.args in
    let g = got a.parent.now a.kind.now a.marks.now (length a.out_parent.now) (length a.out_kind.now) c.in_ok-number.number c.in_ok-number.ensures in
    ordered a.parent.now a.kind.now a.marks.now g.table g.closed

pub copy_parents-requires-clause-marks_len : goal.copy_parents-requires-clause-marks_len
copy_parents-requires-clause-marks_len c =
    let a = c.args in
    let g = got a.parent.now a.kind.now a.marks.now (length a.out_parent.now) (length a.out_kind.now) c.in_ok-number.number c.in_ok-number.ensures in
    (g.agree.marks_long, g.fits)

pub copy_kinds-requires : goal.copy_kinds-requires
copy_kinds-requires c =
    let a = c.args in
    let g = got a.parent.now a.kind.now a.marks.now (length a.out_parent.now) (length a.out_kind.now) c.in_ok-number.number c.in_ok-number.ensures in
    (g.agree.marks_long ∙ sym g.agree.kinds_long, omega (arith, g.fits, g.agree.rooms))

pub returns-clause-out_parent_after : goal.returns-clause-out_parent_after
unfolding extracted
returns-clause-out_parent_after c =
    let a = c.args in
    c.copy_parents.ensures ∙ (wrote (table_of a.parent.now a.kind.now) a.marks.now a.out_parent.now a.out_kind.now c.in_ok-number.number (sym c.in_ok-number.ensures)).0

pub returns-clause-out_kind_after : goal.returns-clause-out_kind_after
unfolding extracted
returns-clause-out_kind_after c =
    let a = c.args in
    let g = got a.parent.now a.kind.now a.marks.now (length a.out_parent.now) (length a.out_kind.now) c.in_ok-number.number c.in_ok-number.ensures in
    c.copy_kinds.ensures ∙ ap (λ k. written (pick_from a.marks.now k 0 (λ i. get_or a.kind.now i 0)) a.out_kind.now) g.agree.kinds_long
    ∙ (wrote (table_of a.parent.now a.kind.now) a.marks.now a.out_parent.now a.out_kind.now c.in_ok-number.number (sym c.in_ok-number.ensures)).1
