-- `end_tags::same_block` meets its contract: the bytes before `stop` that were looked at are of a name and the same. Assumes nothing.
use Rattle.end_tags.specs.Renaming.{repeated_from}
use Rattle.xml_bytes.proofs.Blocks.{Fit}
use Rattle.end_tags.proofs.same_block.Given as goal

abbrev pub invariant-loop-i : goal.invariant-loop-i
invariant-loop-i l = Fit (repeated_from l.text l.place l.letter) l.i l.stop
