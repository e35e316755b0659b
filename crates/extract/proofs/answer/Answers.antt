-- Each test is a line of an extract, in their order.
use Rattle.std.proofs.Common.{◌≡◌, ◌≤◌, ◌<◌, ℕ, List, ◌∙◌, length, sym, ap}
use mathlib.Core.Bool.{not, ◌||◌}
use mathlib.Core.Option.{none, some}
use borrow.Author.Tests.{lt-ltb, le-ltb, ne_eqb}
use lib.Dec.{eqb, ltb}
use Rattle.paper.specs.Tools.{when}
use Rattle.paper.specs.Limits.{node_limit}
use Rattle.paper.specs.Document.{Table, nodes, table_fault, marks_fault, table_of}
use Rattle.paper.specs.Extraction.{rank}
use Rattle.paper.specs.Answers.{value, refusal, line, short, marked_count, extract_answer}
use Rattle.paper.proofs.Tests.{or_left, or_right}
use Rattle.table.proofs.Nodes.{inside}
use Rattle.extract.proofs.Lines.{too_long_lem, Agree, right_lengths}
use Rattle.extract.proofs.answer.Goals as goal

agreed : (t : Table) (marks : List ℕ) (a b : ℕ) → nodes t ≤ node_limit → length t.kinds ≡ nodes t → length marks ≡ nodes t → a ≡ b → Agree t marks a b
agreed t marks a b few kinds_long marks_long rooms = record { few = few; kinds_long = kinds_long; marks_long = marks_long; rooms = rooms }

-- Past line 1.
module _ (t : Table) (marks : List ℕ) (a b : ℕ) (g : Agree t marks a b) where
  seven : (i : ℕ) → some i ≡ table_fault t → refusal 7 i ≡ extract_answer t marks a b
  seven i e = ap (λ o. line 7 o (line 8 (marks_fault t marks) (line 10 (short a (marked_count t marks)) (value (marked_count t marks))))) e ∙ sym (right_lengths t marks a b g)

  module _ (sound : none ≡ table_fault t) where
    eight : (i : ℕ) → some i ≡ marks_fault t marks → refusal 8 i ≡ extract_answer t marks a b
    eight i e =
        let last = line 10 (short a (marked_count t marks)) (value (marked_count t marks)) in
        ap (λ o. line 8 o last) e ∙ ap (λ o. line 7 o (line 8 (marks_fault t marks) last)) sound ∙ sym (right_lengths t marks a b g)

    module _ (closed : none ≡ marks_fault t marks) (n : ℕ) (counted : n ≡ rank marks (length marks)) where
      ten : line 10 (short a n) (value n) ≡ extract_answer t marks a b
      ten =
          let last = line 10 (short a (marked_count t marks)) (value (marked_count t marks)) in
          ap (λ k. line 10 (short a k) (value k)) (counted ∙ ap (rank marks) g.marks_long) ∙ ap (λ o. line 8 o last) closed ∙ ap (λ o. line 7 o (line 8 (marks_fault t marks) last)) sound
          ∙ sym (right_lengths t marks a b g)

      no_room : a < n → refusal 10 n ≡ extract_answer t marks a b
      no_room l = sym (ap (λ w. line 10 (when w n) (value n)) (lt-ltb a n l)) ∙ ten

      enough : n ≤ a → value n ≡ extract_answer t marks a b
      enough l = sym (ap (λ w. line 10 (when w n) (value n)) (le-ltb a n l)) ∙ ten

pub returns-then-parent-gt-NODE_LIMIT : goal.returns-then-parent-gt-NODE_LIMIT
returns-then-parent-gt-NODE_LIMIT c =
    let t = table_of c.args.parent.now c.args.kind.now in
    let marks = c.args.marks.now in
    let a = c.args.parent_room in
    let b = c.args.kind_room in
    sym (too_long_lem t marks a b (or_left (not (eqb a b)) (or_left (not (eqb (length marks) (nodes t))) (or_left (not (eqb (length t.kinds) (nodes t))) (lt-ltb node_limit (nodes t) c.if-parent-gt-NODE_LIMIT.true)))))

pub returns-then-kind-parent : goal.returns-then-kind-parent
returns-then-kind-parent c =
    let t = table_of c.args.parent.now c.args.kind.now in
    let marks = c.args.marks.now in
    let a = c.args.parent_room in
    let b = c.args.kind_room in
    sym (too_long_lem t marks a b (or_left (not (eqb a b)) (or_left (not (eqb (length marks) (nodes t))) (or_right (ltb node_limit (nodes t)) (ap not (ne_eqb (length t.kinds) (nodes t) c.if-kind-parent.true))))))

pub returns-then-marks-parent : goal.returns-then-marks-parent
returns-then-marks-parent c =
    let t = table_of c.args.parent.now c.args.kind.now in
    let marks = c.args.marks.now in
    let a = c.args.parent_room in
    let b = c.args.kind_room in
    sym (too_long_lem t marks a b (or_left (not (eqb a b)) (or_right (ltb node_limit (nodes t) || not (eqb (length t.kinds) (nodes t))) (ap not (ne_eqb (length marks) (nodes t) c.if-marks-parent.true)))))

pub returns-then-parent_room-kind_room : goal.returns-then-parent_room-kind_room
returns-then-parent_room-kind_room c =
    let t = table_of c.args.parent.now c.args.kind.now in
    let marks = c.args.marks.now in
    let a = c.args.parent_room in
    let b = c.args.kind_room in
    sym (too_long_lem t marks a b (or_right (ltb node_limit (nodes t) || not (eqb (length t.kinds) (nodes t)) || not (eqb (length marks) (nodes t))) (ap not (ne_eqb a b c.if-parent_room-kind_room.true))))

pub returns-in-Some : goal.returns-in-Some
returns-in-Some c =
    let right = agreed (table_of c.args.parent.now c.args.kind.now) c.args.marks.now c.args.parent_room c.args.kind_room c.if-parent-gt-NODE_LIMIT.false c.if-kind-parent.false c.if-marks-parent.false c.if-parent_room-kind_room.false in
    seven (table_of c.args.parent.now c.args.kind.now) c.args.marks.now c.args.parent_room c.args.kind_room right c.in-Some.i c.in-Some.ensures

pub marks_fault-requires : goal.marks_fault-requires
marks_fault-requires c = (c.if-marks-parent.false, inside c.args.parent.now c.args.kind.now (sym c.in_default.ensures))

pub returns-in-Some-marks_fault : goal.returns-in-Some-marks_fault
returns-in-Some-marks_fault c =
    let right = agreed (table_of c.args.parent.now c.args.kind.now) c.args.marks.now c.args.parent_room c.args.kind_room c.if-parent-gt-NODE_LIMIT.false c.if-kind-parent.false c.if-marks-parent.false c.if-parent_room-kind_room.false in
    eight (table_of c.args.parent.now c.args.kind.now) c.args.marks.now c.args.parent_room c.args.kind_room right c.in_default.ensures c.in-Some-marks_fault.i (c.in-Some-marks_fault.ensures c.args.kind.now)

pub returns-then-parent_room-needed : goal.returns-then-parent_room-needed
returns-then-parent_room-needed c =
    let right = agreed (table_of c.args.parent.now c.args.kind.now) c.args.marks.now c.args.parent_room c.args.kind_room c.if-parent-gt-NODE_LIMIT.false c.if-kind-parent.false c.if-marks-parent.false c.if-parent_room-kind_room.false in
    no_room (table_of c.args.parent.now c.args.kind.now) c.args.marks.now c.args.parent_room c.args.kind_room right c.in_default.ensures (c.in_default-marks_fault.ensures c.args.kind.now) c.count-needed.result c.count-needed.ensures c.if-parent_room-needed.true

pub returns : goal.returns
returns c =
    let right = agreed (table_of c.args.parent.now c.args.kind.now) c.args.marks.now c.args.parent_room c.args.kind_room c.if-parent-gt-NODE_LIMIT.false c.if-kind-parent.false c.if-marks-parent.false c.if-parent_room-kind_room.false in
    enough (table_of c.args.parent.now c.args.kind.now) c.args.marks.now c.args.parent_room c.args.kind_room right c.in_default.ensures (c.in_default-marks_fault.ensures c.args.kind.now) c.count-needed.result c.count-needed.ensures c.if-parent_room-needed.false
