-- `item::operator` meets its contract: each case of the match is one of `operator_of`. Assumes nothing.
use borrow.Author.Tests.{ne_eqb}
use Rattle.item.proofs.Unpacking.{operator_kind}
use Rattle.item.proofs.operator.Statement.{statement}
use Rattle.item.proofs.operator.Tie as tie

returns : tie.Need-returns-in-2
returns c = rw (operator_kind c.args.w c.requires, c.in-2.is)

returns-2 : tie.Need-returns-in-3
returns-2 c = rw (operator_kind c.args.w c.requires, c.in-3.is)

returns-3 : tie.Need-returns-in-4
returns-3 c = rw (operator_kind c.args.w c.requires, c.in-4.is)

returns-4 : tie.Need-returns-in_default
returns-4 c =
    let w = c.args.w in
    rw (operator_kind w c.requires, ne_eqb w 2 c.in_default.in_default-own.rest.0.0.1, ne_eqb w 3 c.in_default.in_default-own.rest.0.1, ne_eqb w 4 c.in_default.in_default-own.rest.1)

pub operator_spec : {M : Type 1} → statement M
operator_spec = tie.close (tie.spec returns returns-2 returns-3 returns-4)
