-- The invariant: so many bytes are copied, all others are as they were.
use Rattle.std.proofs.Common.{◌≡◌, length}
use Rattle.keep.specs.Recall.{Copied}
use Rattle.keep.proofs.copy_set.Given as goal

abbrev pub invariant-loop-i : goal.invariant-loop-i
invariant-loop-i l = (length l.sets ≡ length l.fn.sets) × Copied l.from l.to l.i l.fn.sets l.sets
