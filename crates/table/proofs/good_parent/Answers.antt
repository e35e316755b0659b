-- A parent found over the node before is no greater than that node, and so has a kind.
use Rattle.std.proofs.Common.{◌-◌, ◌∙◌, arith, sym}
use Rattle.paper.specs.Document.{table_of}
use Rattle.table.proofs.Ways.{way_low}
use Rattle.table.proofs.good_parent.Goals as goal

pub bounds-kind-above : goal.bounds-kind-above
bounds-kind-above c =
    let i = c.args.i in
    let kinds = c.args.kind.now in
    omega (arith, way_low (table_of c.args.parent.now kinds) i c.requires.falls (i - 1) c.from-above.result (omega arith) (sym (c.is_over.ensures kinds) ∙ c.if-is_over.true))
