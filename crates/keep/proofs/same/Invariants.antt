-- The invariant: the first `i` items from both places on are equal.
use Rattle.std.proofs.Common.{◌≡◌, take, drop}
use Rattle.keep.proofs.same.Given as goal

abbrev pub invariant-loop-i : goal.invariant-loop-i
invariant-loop-i l = take l.i (drop l.a l.items) ≡ take l.i (drop l.b l.items)
