-- What `halyardfig_for_role` promises, as facts: its contract as the toolchain reads it.
use contract.Lifetimes.{Lfts}
use denote.Triple.Clauses.{AtExit}
use borrow.Fn.World.{ArgsD, ResD}
use Rattle.halyardfig.specs.contracts.halyardfig_for_role
use Rattle.halyardfig.proofs.halyardfig_for_role as reading

abbrev pub RoleForCPost : (κs : Lfts 5) → ArgsD halyardfig_for_role.signature κs → ResD halyardfig_for_role.signature κs → AtExit halyardfig_for_role.ended κs → Type 0
RoleForCPost κs a r x = reading.Reads.Post κs a r x
