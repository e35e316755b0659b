-- `xml_runs::ordinary_end` meets its contract, which is the loop's invariant. Assumes nothing.
use Rattle.std.specs.Prelude.{◌-◌, length}
use Rattle.xml_runs.specs.Runs.{OrdinaryEnds}
use Rattle.xml_runs.proofs.ordinary_end.Given as goal

abbrev pub invariant-loop-at : goal.invariant-loop-at
invariant-loop-at l = OrdinaryEnds l.text l.from l.at

abbrev pub decreases-loop-at : goal.decreases-loop-at
decreases-loop-at l = length l.text - l.at
