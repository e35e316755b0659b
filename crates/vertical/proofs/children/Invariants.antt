-- The invariant: the nodes from `taker` on have what their parents had, the others what they had.
use Rattle.vertical.proofs.Axes.{Moving}
use Rattle.vertical.proofs.ChildPass.{child_state}
use Rattle.vertical.proofs.children.Given as goal

abbrev pub invariant-loop-taker : goal.invariant-loop-taker
invariant-loop-taker l = Moving child_state l.parent l.initial.set l.set l.taker
