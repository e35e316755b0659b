-- The tests are the lines 7, 8, 13 and 14 in their order, and `file` is line 10.
use Rattle.std.proofs.Common.{sym, ◌∙◌}
use Rattle.table.proofs.Nodes.{inside}
use Rattle.file_theorems.proofs.Answered.{reads}
use Rattle.put_tags.specs.Lending.{marked_text}
use Rattle.put_kept.proofs.Walking.{walk_lent}
use Rattle.paper.specs.Document.{table_of}
use Rattle.write_listed.proofs.Lines.{bad_table, bad_marks, no_element, other_text, filed}
use Rattle.write_listed.proofs.judge.Goals as goal

pub returns-in-Some : goal.returns-in-Some
returns-in-Some c =
    let h = bad_table _ _ _ _ _ _ _ c.args.out.now c.requires.lengths c.requires.good _ c.in-Some.ensures in record { result_value = h.0; out_after = h.1 }

pub marks_fault-requires : goal.marks_fault-requires
marks_fault-requires c = (c.requires.lengths.marks_long, inside _ _ (sym c.in_default.ensures))

pub returns-in-Some-marks_fault : goal.returns-in-Some-marks_fault
returns-in-Some-marks_fault c =
    let h = bad_marks _ _ _ _ _ _ _ c.args.out.now c.requires.lengths c.requires.good c.in_default.ensures _ (c.in-Some-marks_fault.ensures c.args.kind.now) in
    record { result_value = h.0; out_after = h.1 }

pub returns-then-not-element_marked : goal.returns-then-not-element_marked
returns-then-not-element_marked c =
    let marked = c.element_marked.ensures c.args.parent.now (sym c.requires.lengths.kinds_long) in
    let h =
    no_element _ _ _ _ _ _ _ c.args.out.now c.requires.lengths c.requires.good c.in_default.ensures (c.in_default-marks_fault.ensures c.args.kind.now)
    (sym c.if-not-element_marked.true ∙ marked) in
    record { result_value = h.0; out_after = h.1 }

pub returns-then-not-reads_as : goal.returns-then-not-reads_as
returns-then-not-reads_as c =
    let marked = c.element_marked.ensures c.args.parent.now (sym c.requires.lengths.kinds_long) in
    let h =
    other_text _ _ _ _ _ _ _ c.args.out.now c.requires.lengths c.requires.good c.in_default.ensures (c.in_default-marks_fault.ensures c.args.kind.now)
    (sym c.if-not-element_marked.false ∙ marked) (sym c.if-not-reads_as.true ∙ c.reads_as.ensures) in
    record { result_value = h.0; out_after = h.1 }

pub new-kept-requires : goal.new-kept-requires
new-kept-requires c =
    let right = c.requires.lengths in
    walk_lent (marked_text c.args.text.now c.args.parent.now c.args.kind.now c.args.begin.now c.args.end.now c.args.marks.now) c.args.names.now
    (reads c.args.text.now c.args.names.now (table_of c.args.parent.now c.args.kind.now) c.args.begin.now c.args.end.now right.kinds_long right.begins_long right.ends_long
    (sym c.reads_as.ensures ∙ c.if-not-reads_as.false))
    (sym (c.in_default-marks_fault.ensures c.args.kind.now)) right.marks_long right.text_short

pub returns : goal.returns
returns c =
    let marked = c.element_marked.ensures c.args.parent.now (sym c.requires.lengths.kinds_long) in
    let h =
    filed _ _ _ _ _ _ _ c.args.out.now c.requires.lengths c.requires.good c.in_default.ensures (c.in_default-marks_fault.ensures c.args.kind.now)
    (sym c.if-not-element_marked.false ∙ marked) (sym c.if-not-reads_as.false ∙ c.reads_as.ensures) (rw c.new-kept.ensures at c.file.ensures) in
    record { result_value = h.0; out_after = h.1 }
