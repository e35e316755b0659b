-- The invariant: the first unknown item of all is that of the items left.
use Rattle.std.proofs.Common.{◌≡◌, drop}
use Rattle.paper.specs.Answers.{unknown_from}
use Rattle.unknown_names.proofs.first_unknown.Given as goal

abbrev pub invariant-loop-at : goal.invariant-loop-at
invariant-loop-at l = unknown_from l.count 0 l.items ≡ unknown_from l.count l.at (drop l.at l.items)
