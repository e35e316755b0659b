-- `xml_runs::ordinary_block` meets its contract: the bytes before `stop` that were looked at are ordinary. Assumes nothing.
use Rattle.xml_runs.specs.Runs.{ordinary_from}
use Rattle.xml_bytes.proofs.Blocks.{Fit}
use Rattle.xml_runs.proofs.ordinary_block.Given as goal

abbrev pub invariant-loop-i : goal.invariant-loop-i
invariant-loop-i l = Fit (ordinary_from l.text l.at) l.i l.stop
