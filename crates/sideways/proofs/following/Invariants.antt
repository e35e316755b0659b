-- The invariant: the nodes before `i` are done, and `last` is the last of the set before it.
use Rattle.sideways.proofs.FollowingPass.{Trailing}
use Rattle.sideways.proofs.following.Given as goal

abbrev pub invariant-loop-i : goal.invariant-loop-i
invariant-loop-i l = Trailing l.parent l.initial.set l.set l.last l.i
