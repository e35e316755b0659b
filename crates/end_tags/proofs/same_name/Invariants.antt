-- `end_tags::same_name` meets its contract: the letters before `letter` have come again, up to `place`. Assumes nothing.
use Rattle.std.specs.Prelude.{◌-◌, length}
use Rattle.end_tags.proofs.Ending.{Renaming}
use Rattle.end_tags.proofs.same_name.Given as goal

abbrev pub invariant-loop-place : goal.invariant-loop-place
invariant-loop-place l = Renaming l.text l.at l.inner l.place l.letter

abbrev pub decreases-loop-place : goal.decreases-loop-place
decreases-loop-place l = length l.text - l.letter
