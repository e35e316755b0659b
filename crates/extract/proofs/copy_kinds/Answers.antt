-- There is room for the kind of a marked node, which is written behind the others; an unmarked one is passed over.
use Rattle.std.proofs.Common.{◌≡◌, ◌<◌, ◌≤◌, ◌∙◌, List, ℕ, length, get_or, refl, arith, ap}
use Rattle.paper.specs.Tools.{written}
use Rattle.paper.specs.Extraction.{pick_from, rank}
use Rattle.extract.proofs.Writes.{Written, room, one_more, no_more}
use Rattle.extract.proofs.copy_kinds.Goals as goal
use Rattle.extract.proofs.copy_kinds.Goals.{then-marks-i-eq1, else-marks-i-eq1}

-- There is room.
fits : (kinds marks old out : List ℕ) (n i : ℕ) → Written marks (λ k. get_or kinds k 0) old out n i → rank marks (length marks) ≤ length old → i < length marks → get_or marks i 0 ≡ 1 → n < length old
fits kinds marks old out n i w = room marks (λ k. get_or kinds k 0) old out n i w

pub offset_bounds-out-n : goal.offset_bounds-out-n
offset_bounds-out-n c = omega (arith, fits c.args.kind.now c.args.marks.now c.args.out.now c.loop-i.out c.loop-i.n c.loop-i.i c.loop-i.invariant c.requires.1 c.loop-i-test.true c.if-marks-i-eq1.true)

pub bounds-out-n : goal.bounds-out-n
bounds-out-n c = omega (arith, fits c.args.kind.now c.args.marks.now c.args.out.now c.loop-i.out c.loop-i.n c.loop-i.i c.loop-i.invariant c.requires.1 c.loop-i-test.true c.if-marks-i-eq1.true)

pub overflow_add-n : goal.overflow_add-n
overflow_add-n c = omega (arith, fits c.args.kind.now c.args.marks.now c.args.out.now c.loop-i.out c.loop-i.n c.loop-i.i c.loop-i.invariant c.requires.1 c.loop-i-test.true c.if-marks-i-eq1.true)

pub loop-i-preserved : goal.loop-i-preserved
loop-i-preserved c =
    let kinds = c.args.kind.now in
    let marks = c.args.marks.now in
    let old = c.args.out.now in
    let l = c.loop-i in
    let j = c.if-marks-i-eq1 in
    elim j.branch [
      | then-marks-i-eq1 w ↦
          one_more marks (λ k. get_or kinds k 0) old l.out l.n l.i l.invariant j.out j.n (get_or kinds l.i 0) (fits kinds marks old l.out l.n l.i l.invariant c.requires.1 c.loop-i-test.true w.if-marks-i-eq1.true) w.if-marks-i-eq1.true refl w.out-is w.n-is
      | else-marks-i-eq1 w ↦ no_more marks (λ k. get_or kinds k 0) old l.out l.n l.i l.invariant j.out j.n w.if-marks-i-eq1.false w.out-is w.n-is
    ]

pub returns : goal.returns
returns c =
    let marks = c.args.marks.now in
    let e : c.loop-i.i ≡ length c.args.kind.now = omega arith in
    c.loop-i.invariant.is ∙ ap (λ k. written (pick_from marks k 0 (λ i. get_or c.args.kind.now i 0)) c.args.out.now) e
