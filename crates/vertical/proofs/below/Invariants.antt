-- The invariant: the nodes before `i` are done, the others have what they had.
use Rattle.vertical.proofs.Axes.{Moving}
use Rattle.vertical.proofs.BelowPass.{below_state}
use Rattle.vertical.proofs.below.Given as goal

abbrev pub invariant-loop-i : goal.invariant-loop-i
invariant-loop-i l = Moving below_state l.parent l.initial.set l.set l.i
