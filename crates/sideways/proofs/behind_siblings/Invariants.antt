-- The invariant: the nodes before `younger` have been told of the siblings before them (`behind_state`).
use Rattle.sideways.proofs.Twins.{Telling}
use Rattle.sideways.proofs.BehindPass.{behind_state}
use Rattle.sideways.proofs.behind_siblings.Given as goal

abbrev pub invariant-loop-younger : goal.invariant-loop-younger
invariant-loop-younger l = Telling behind_state l.parent l.initial.set l.set l.younger
