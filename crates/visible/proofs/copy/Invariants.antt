-- The invariant: so many items are copied; those still to be copied are as they were, since they stand further on.
use Rattle.std.proofs.Common.{◌≡◌, length, take, drop}
use lib.Seq.{paste}
use Rattle.visible.proofs.copy.Given as goal

abbrev pub invariant-loop-done : goal.invariant-loop-done
invariant-loop-done l = (length l.out ≡ length l.fn.out) × (l.out ≡ paste l.fn.out l.at (take l.count (drop l.from l.fn.out)) l.done)
