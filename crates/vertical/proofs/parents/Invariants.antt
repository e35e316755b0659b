-- The invariant: the nodes before `i` have handed on what they had, the others have what they had.
use Rattle.vertical.proofs.Axes.{Moving}
use Rattle.vertical.proofs.ParentPass.{parent_state}
use Rattle.vertical.proofs.parents.Given as goal

abbrev pub invariant-loop-i : goal.invariant-loop-i
invariant-loop-i l = Moving parent_state l.parent l.initial.set l.set l.i
