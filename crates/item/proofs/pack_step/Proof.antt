-- `item::pack_step` meets its contract: the fields do not overlap. Assumes nothing.
use Rattle.item.proofs.Unpacking.{together}
use borrow.Author.Rules.{rules}
use Rattle.item.proofs.pack_step.Statement.{statement}
use Rattle.item.proofs.pack_step.Tie as tie

cast-result : tie.Need-overflow_cast-result
cast-result c = search rules

returns : tie.Need-returns
returns c =
    let p = c.requires in
    together c.args.step p.0 p.1 p.2

pub pack_step_spec : {M : Type 1} → statement M
pack_step_spec = tie.close (tie.spec cast-result returns)
