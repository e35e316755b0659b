-- The tests after the root are those of `later`.
use Rattle.std.proofs.Common.{◌∙◌, arith, sym, ap}
use mathlib.Core.Bool.{◌&&◌}
use Rattle.paper.specs.Document.{table_of}
use Rattle.table.specs.Passing.{good_parent}
use Rattle.table.proofs.Nodes.{later}
use Rattle.table.proofs.good_node.Goals as goal

pub returns-then-fits : goal.returns-then-fits
returns-then-fits c =
    let t = table_of c.args.parent.now c.args.kind.now in
    let i = c.args.i in
    c.good_parent.ensures ∙ sym (later t i (omega arith) ∙ ap (λ b. b && good_parent t i) (sym c.fits.ensures ∙ c.if-fits.true))

pub returns-else-fits : goal.returns-else-fits
returns-else-fits c =
    let t = table_of c.args.parent.now c.args.kind.now in
    let i = c.args.i in
    c.if-fits.false ∙ sym (later t i (omega arith) ∙ ap (λ b. b && good_parent t i) (sym c.fits.ensures ∙ c.if-fits.false))
