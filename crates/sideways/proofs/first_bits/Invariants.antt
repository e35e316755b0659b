-- The invariant: the nodes before `i` have their first bit alone, the others what they had.
use Rattle.std.proofs.Common.{◌%◌, get_or}
use Rattle.sets.proofs.Passes.{Passed}
use Rattle.sideways.proofs.first_bits.Given as goal

abbrev pub invariant-loop-i : goal.invariant-loop-i
invariant-loop-i l = Passed (λ k. get_or l.fn.set k 0 % 2) l.fn.set l.set l.i
