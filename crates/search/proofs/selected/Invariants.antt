-- `search::selected`: the paths read so far do not lead to the node, and what is left to read are the others (`PathsLeft`).
use Rattle.std.proofs.Common.{length, ◌-◌}
use Rattle.paper.specs.Document.{table_of}
use Rattle.search.proofs.Selecting.{PathsLeft}
use Rattle.search.proofs.selected.Given as goal

abbrev pub invariant-loop-place : goal.invariant-loop-place
invariant-loop-place l = PathsLeft (table_of l.parent l.kind) l.given l.items l.wanted l.place

abbrev pub decreases-loop-place : goal.decreases-loop-place
decreases-loop-place l = length l.items - l.place
