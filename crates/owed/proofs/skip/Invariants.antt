-- What was passed and what is left make up what is owed in all.
use Rattle.std.proofs.Common.{◌≡◌, ◌≤◌, ◌+◌, ◌-◌, ◌*◌, drop}
use Rattle.paper.specs.Items.{count_limit}
use Rattle.owed.specs.Owing.{eaten}
use Rattle.owed.proofs.skip.Given as goal

abbrev pub invariant-loop-place : goal.invariant-loop-place
invariant-loop-place l = (l.place + eaten (drop l.place l.items) l.owed ≡ l.at + eaten (drop l.at l.items) l.count) × (l.owed ≤ count_limit + count_limit * (l.place - l.at))
