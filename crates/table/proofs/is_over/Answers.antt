-- The way up goes on below `wanted`, and ends where it is met or passed.
use Rattle.std.proofs.Common.{◌+◌, ◌∙◌, arith, sym, ap}
use Rattle.paper.specs.Document.{over, table_of}
use Rattle.table.proofs.Ways.{way_up, way_end}
use Rattle.table.proofs.is_over.Goals as goal

pub loop-at-smaller : goal.loop-at-smaller
loop-at-smaller c = omega (arith, c.requires.falls c.loop-at.at (omega arith) (omega arith))

pub loop-at-preserved : goal.loop-at-preserved
loop-at-preserved c =
    let l = c.loop-at in
    let parents = c.args.parent.now in
    record {
      low = omega (arith, c.requires.falls l.at (omega arith) (omega arith));
      alike = λ kinds. l.invariant.alike kinds ∙ way_up (table_of parents kinds) (c.args.from + 1) c.requires l.at c.args.wanted (omega arith) (omega arith) ∙ ap (λ k. over (table_of parents kinds) k c.args.wanted) (sym c.from-at.ensures);
    }

pub returns : goal.returns
returns c = λ kinds. sym (c.loop-at.invariant.alike kinds ∙ way_end (table_of c.args.parent.now kinds) (c.args.from + 1) c.requires c.loop-at.at c.args.wanted (omega arith) (omega arith))
