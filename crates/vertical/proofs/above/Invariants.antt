-- The invariant: the nodes from `giver` on have handed on what they have, which is all that they get.
use Rattle.vertical.proofs.Axes.{Moving}
use Rattle.vertical.proofs.AbovePass.{above_state}
use Rattle.vertical.proofs.above.Given as goal

abbrev pub invariant-loop-giver : goal.invariant-loop-giver
invariant-loop-giver l = Moving above_state l.parent l.initial.set l.set l.giver
