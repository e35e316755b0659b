-- `reverse::as_step` meets its contract. Assumes nothing.
use Rattle.reverse.proofs.Reading.{said_step, said_none}
use borrow.Author.Rules.{rules}
use Rattle.reverse.proofs.as_step.Statement.{statement}
use Rattle.reverse.proofs.as_step.Tie as tie

unpack-requires : tie.Need-unpack-item-requires
unpack-requires c κs = search rules

enum-known-item : tie.Need-enum_known-item
enum-known-item c = search rules

returns : tie.Need-returns-in_default
returns c = said_none _ _ c.unpack-item.ensures c.in_default.in_default-own.keys2

returns-2 : tie.Need-returns
returns-2 c = said_step _ _ _ c.unpack-item.ensures c.in-Step.is

pub as_step_spec : {M : Type 1} → statement M
as_step_spec = tie.close (tie.spec unpack-requires enum-known-item returns returns-2)
