-- The loop of `paths`: what is printed, with the text of the paths left, is the text of the query. The measure is what is left of the items.
use Rattle.std.proofs.Common.{length, ◌-◌}
use Rattle.paper.specs.Names.{names_of}
use Rattle.put_query.proofs.Queries.{PathsRest}
use Rattle.put_query.proofs.listed_paths.Given as goal

abbrev pub invariant-loop-place : goal.invariant-loop-place
invariant-loop-place l = PathsRest l.source.brief (names_of l.source.names.now) l.source.items.now l.fn.out l.out l.place l.byte

abbrev pub decreases-loop-place : goal.decreases-loop-place
decreases-loop-place l = length l.items - l.place
