-- `read::measure` meets its contract: the end of what was read is the number of items. Assumes nothing.
use Rattle.read.proofs.Answering.{whole_sized}
use Rattle.read.proofs.measure.Goals as goal

pub returns : goal.returns
returns c = whole_sized _ _ _ _ c.in_ok-whole.ensures.reads_all
