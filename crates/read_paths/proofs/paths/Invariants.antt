-- The loop of `read_paths::paths`: what is left to read gives the answer of the whole, and falls. Assumes nothing.
use Rattle.std.proofs.Common.{◌-◌, ◌≡◌, length}
use Rattle.paper.specs.Limits.{bracket_limit}
use Rattle.paper.specs.Reading.{read_within, read_text}
use Rattle.heads.specs.Heads.{look_of}
use Rattle.read_paths.proofs.Queries.{PathRow}
use Rattle.read_paths.proofs.paths.Given as goal

abbrev pub invariant-loop-one : goal.invariant-loop-one
invariant-loop-one l =
    (length l.out ≡ length l.fn.out)
    × PathRow l.newer (look_of l.names) (read_within l.newer (look_of l.names) bracket_limit) l.text l.fn.out l.out (read_text l.newer (look_of l.names) l.text) l.here.at l.filled

abbrev pub decreases-loop-one : goal.decreases-loop-one
decreases-loop-one l = length l.text - l.here.at
