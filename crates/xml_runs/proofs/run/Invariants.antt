-- `xml_runs::run` meets its contract: reading stands in the run that begins at `begin`, and so many `]` end it. Assumes nothing.
use Rattle.std.specs.Prelude.{◌-◌, length}
use Rattle.xml_runs.proofs.Running.{Running}
use Rattle.xml_runs.proofs.run.Given as goal

abbrev pub invariant-loop-at : goal.invariant-loop-at
invariant-loop-at l = Running l.text l.begin l.at l.squares

abbrev pub decreases-loop-at : goal.decreases-loop-at
decreases-loop-at l = length l.text - l.at
