-- The new number of a marked node is a place of what is written, and there stands that of its parent, which is marked too.
use Rattle.std.proofs.Common.{◌≡◌, ◌+◌, ◌∙◌, length, get_or, arith, sym, ap}
use Rattle.paper.specs.Document.{over, marked}
use Rattle.paper.specs.Extraction.{rank}
use Rattle.paper.proofs.Extracting.{rank_less}
use Rattle.extract.specs.Numbering.{shape_of}
use Rattle.table.proofs.Ways.{way_up, way_low}
use Rattle.extract.proofs.new_number.Goals as goal

pub offset_bounds-out-new : goal.offset_bounds-out-new
offset_bounds-out-new c = omega (arith, rank_less c.args.marks.now c.loop-at.at (c.args.from + 1) (omega arith) c.loop-at.invariant.on)

pub bounds-out-new : goal.bounds-out-new
bounds-out-new c = omega (arith, rank_less c.args.marks.now c.loop-at.at (c.args.from + 1) (omega arith) c.loop-at.invariant.on)

pub loop-at-smaller : goal.loop-at-smaller
loop-at-smaller c = omega (arith, c.requires.ordered.tree.falls c.loop-at.at (omega arith) (omega arith))

pub loop-at-preserved : goal.loop-at-preserved
loop-at-preserved c =
    let l = c.loop-at in
    let parents = c.args.parent.now in
    let marks = c.args.marks.now in
    let up = c.from-at.ensures in
    let tree = c.requires.ordered.tree in
    record {
      low = omega (arith, tree.falls l.at (omega arith) (omega arith));
      on = ap (marked marks) up ∙ c.requires.ordered.closed l.at (omega arith) l.invariant.on;
      number = c.from-new.ensures ∙ ap (λ k. get_or c.args.out.now k 0) l.invariant.number ∙ c.requires.numbered.at l.at (omega arith) l.invariant.on ∙ ap (rank marks) (sym up);
      above = ap (λ k. over (shape_of parents) k c.args.wanted) up ∙ sym (way_up (shape_of parents) (length parents) tree l.at c.args.wanted (omega arith) (omega arith)) ∙ l.invariant.above;
    }

pub returns : goal.returns
returns c =
    let l = c.loop-at in
    let parents = c.args.parent.now in
    let low = way_low (shape_of parents) (length parents) c.requires.ordered.tree l.at c.args.wanted (omega arith) l.invariant.above in
    let e : l.at ≡ c.args.wanted = omega arith in
    l.invariant.number ∙ ap (rank c.args.marks.now) e
