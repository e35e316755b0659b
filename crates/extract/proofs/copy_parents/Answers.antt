-- There is room for the new parent of a marked node, which is written behind the others and is then the last; an unmarked node is passed over.
use Rattle.std.proofs.Common.{◌≡◌, ◌+◌, ◌<◌, ◌≤◌, ◌∙◌, List, ℕ, length, get_or, arith, sym, ap, subst}
use Rattle.paper.specs.Tools.{written}
use Rattle.paper.specs.Extraction.{pick_from, rank}
use Rattle.extract.specs.Numbering.{Last, new_parent}
use Rattle.extract.proofs.Writes.{Written, room, one_more, no_more, found_at, last_new, last_kept}
use Rattle.extract.proofs.copy_parents.Goals as goal
use Rattle.extract.proofs.copy_parents.Goals.{then-marks-i-eq1, else-marks-i-eq1}

-- There is room.
fits : (parents marks old out : List ℕ) (n i : ℕ) → Written marks (new_parent parents marks) old out n i → rank marks (length marks) ≤ length old → i < length marks → get_or marks i 0 ≡ 1 → n < length old
fits parents marks old out n i w = room marks (new_parent parents marks) old out n i w

pub new_parent-requires-clause-numbered : goal.new_parent-requires-clause-numbered
new_parent-requires-clause-numbered c =
    let parents = c.args.parent.now in
    let marks = c.args.marks.now in
    let old = c.args.out.now in
    let l = c.loop-i in
    let so_far = l.invariant.so_far in
    record {
      room = omega (arith, so_far.count, fits parents marks old l.out l.n l.i so_far c.requires.marks_len.1 c.loop-i-test.true c.if-marks-i-eq1.true);
      at = found_at marks (new_parent parents marks) old l.out l.n l.i so_far;
    }

pub offset_bounds-out-n : goal.offset_bounds-out-n
offset_bounds-out-n c = omega (arith, fits c.args.parent.now c.args.marks.now c.args.out.now c.loop-i.out c.loop-i.n c.loop-i.i c.loop-i.invariant.so_far c.requires.marks_len.1 c.loop-i-test.true c.if-marks-i-eq1.true)

pub bounds-out-n : goal.bounds-out-n
bounds-out-n c = omega (arith, fits c.args.parent.now c.args.marks.now c.args.out.now c.loop-i.out c.loop-i.n c.loop-i.i c.loop-i.invariant.so_far c.requires.marks_len.1 c.loop-i-test.true c.if-marks-i-eq1.true)

pub overflow_add-n : goal.overflow_add-n
overflow_add-n c = omega (arith, fits c.args.parent.now c.args.marks.now c.args.out.now c.loop-i.out c.loop-i.n c.loop-i.i c.loop-i.invariant.so_far c.requires.marks_len.1 c.loop-i-test.true c.if-marks-i-eq1.true)

pub loop-i-preserved : goal.loop-i-preserved
loop-i-preserved c =
    let parents = c.args.parent.now in
    let marks = c.args.marks.now in
    let old = c.args.out.now in
    let l = c.loop-i in
    let so_far = l.invariant.so_far in
    let j = c.if-marks-i-eq1 in
    elim j.branch [
      | then-marks-i-eq1 w ↦ record {
        so_far = one_more marks (new_parent parents marks) old l.out l.n l.i so_far j.out j.n w.new_parent.result (fits parents marks old l.out l.n l.i so_far c.requires.marks_len.1 c.loop-i-test.true w.if-marks-i-eq1.true) w.if-marks-i-eq1.true w.new_parent.ensures w.out-is w.n-is;
        before = λ z. subst (Last marks (l.i + 1)) (sym w.last-is) (last_new marks l.i w.if-marks-i-eq1.true);
      }
      | else-marks-i-eq1 w ↦ record {
        so_far = no_more marks (new_parent parents marks) old l.out l.n l.i so_far j.out j.n w.if-marks-i-eq1.false w.out-is w.n-is;
        before = λ z. subst (Last marks (l.i + 1)) (sym w.last-is) (last_kept marks l.i l.last w.if-marks-i-eq1.false (l.invariant.before (omega (arith, w.n-is))));
      }
    ]

pub returns : goal.returns
returns c =
    let marks = c.args.marks.now in
    let e : c.loop-i.i ≡ length c.args.parent.now = omega arith in
    c.loop-i.invariant.so_far.is ∙ ap (λ k. written (pick_from marks k 0 (new_parent c.args.parent.now marks)) c.args.out.now) e
