-- `down_item` meets its contract: an item is no step, or a step whose axis says whether it goes down. Assumes nothing.
use Rattle.lean_marks.proofs.Telling.{step_down, no_step_down}
use borrow.Author.Rules.{rules}
use Rattle.lean_marks.proofs.down_item.Statement.{statement}
use Rattle.lean_marks.proofs.down_item.Tie as tie
use Rattle.lean_marks.proofs.down_item.Reads as reads
use Rattle.lean_marks.proofs.down_item.Lts as lts
use Rattle.item.proofs.unpack.Reads as unpack-reads
use Rattle.lean_marks.proofs.goes_down.Reads as goes-down-reads

unpack-requires : tie.Need-unpack-item-requires
unpack-requires c κs = search rules

enum-known-item : tie.Need-enum_known-item
enum-known-item c = search rules

returns : tie.Need-returns-in_default
returns c = no_step_down _ _ c.unpack-item.ensures c.in_default.in_default-own.keys2

goes-down-requires : tie.Need-goes_down-requires
goes-down-requires c κs = search rules

returns-2 : tie.Need-returns
returns-2 c = step_down _ _ _ _ c.unpack-item.ensures c.in-Step.is c.goes_down.ensures

pub down_item_spec : {M : Type 1} → statement M
down_item_spec =
    tie.close (tie.spec unpack-requires enum-known-item returns goes-down-requires returns-2)
