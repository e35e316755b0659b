-- The loop of `link`: the names from `v` on are linked.
use Rattle.paper.specs.Names.{names_of}
use Rattle.initials.proofs.Linking.{Upto}
use Rattle.initials.proofs.link.Given as goal

abbrev pub invariant-loop-v : goal.invariant-loop-v
invariant-loop-v l = Upto (names_of l.names) l.chains l.v
