-- The paths read so far, and those that are left, are those of the whole.
use Rattle.std.proofs.Common.{length, ◌-◌}
use Rattle.shape.proofs.Queries.{PathsLeft}
use Rattle.shape.proofs.measure.Given as goal

abbrev pub invariant-loop-place : goal.invariant-loop-place
invariant-loop-place l = PathsLeft l.items l.place l.deep l.high l.guarded

abbrev pub decreases-loop-place : goal.decreases-loop-place
decreases-loop-place l = length l.items - l.place
