-- The invariant: the nodes before `i` have what the other set has, the others what they had (`Passed`).
use Rattle.std.proofs.Common.{get_or}
use Rattle.sets.proofs.Passes.{Passed}
use Rattle.sets.proofs.copy.Given as goal

abbrev pub invariant-loop-i : goal.invariant-loop-i
invariant-loop-i l = Passed (λ k. get_or l.from k 0) l.fn.set l.set l.i
