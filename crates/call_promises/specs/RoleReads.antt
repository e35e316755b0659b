-- What `roles::for_role` promises, as facts: its contract as the toolchain reads it.
use contract.Lifetimes.{Lfts}
use denote.Triple.Clauses.{AtExit}
use borrow.Fn.World.{ArgsD, ResD}
use Rattle.roles.specs.contracts.for_role
use Rattle.roles.proofs.for_role as reading

abbrev pub RolePost : (κs : Lfts 5) → ArgsD for_role.signature κs → ResD for_role.signature κs → AtExit for_role.ended κs → Type 0
RolePost κs a r x = reading.Reads.Post κs a r x
