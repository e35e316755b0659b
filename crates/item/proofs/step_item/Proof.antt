-- `item::step_item` meets its contract: each test on the way rules a bad field out. Assumes nothing.
use mathlib.Core.Path.{sym}
use Rattle.item.proofs.Unpacking.{step_long, step_axis, step_test, step_kind}
use borrow.Author.Rules.{rules}
use Rattle.item.proofs.step_item.Statement.{statement}
use Rattle.item.proofs.step_item.Tie as tie

returns : tie.Need-returns-then-w-ge536870912
returns c = sym (step_long c.args.w c.requires c.if-w-ge536870912.true)

returns-2 : tie.Need-returns-then-axis-ge-AXES
returns-2 c = sym (step_axis c.args.w c.requires c.if-axis-ge-AXES.true)

returns-3 : tie.Need-returns-then-test-gt-ANY_ELEMENT
returns-3 c = sym (step_test c.args.w c.requires c.if-test-gt-ANY_ELEMENT.true)

cast-t6 : tie.Need-overflow_cast-result
cast-t6 c = search rules

returns-4 : tie.Need-returns
returns-4 c =
    sym
    (step_kind c.args.w c.requires c.if-w-ge536870912.false c.if-axis-ge-AXES.false c.if-test-gt-ANY_ELEMENT.false)

pub step_item_spec : {M : Type 1} → statement M
step_item_spec = tie.close (tie.spec returns returns-2 returns-3 cast-t6 returns-4)
