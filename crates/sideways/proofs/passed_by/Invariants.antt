-- The invariant: the nodes from `at` on are done, and `low` is the least parent of the set's nodes there that the way up has passed.
use Rattle.sideways.proofs.PrecedingPass.{Heading}
use Rattle.sideways.proofs.passed_by.Given as goal

abbrev pub invariant-loop-at : goal.invariant-loop-at
invariant-loop-at l = Heading l.parent l.initial.set l.set l.low l.at
