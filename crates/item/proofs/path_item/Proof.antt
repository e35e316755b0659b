-- `item::path_item` meets its contract: a kind 0 below 65,536 is a path. Assumes nothing.
use mathlib.Core.Path.{sym}
use Rattle.item.proofs.Unpacking.{path_kind, path_long}
use borrow.Author.Rules.{rules}
use Rattle.item.proofs.path_item.Statement.{statement}
use Rattle.item.proofs.path_item.Tie as tie

cast-t5 : tie.Need-overflow_cast-result
cast-t5 c = search rules

returns : tie.Need-returns-then-w-lt65536
returns c = sym (path_kind c.args.w c.requires c.if-w-lt65536.true)

returns-2 : tie.Need-returns-else-w-lt65536
returns-2 c = sym (path_long c.args.w c.requires c.if-w-lt65536.false)

pub path_item_spec : {M : Type 1} → statement M
path_item_spec = tie.close (tie.spec cast-t5 returns returns-2)
