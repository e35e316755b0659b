-- `read::write` meets its contract: what is read again is what was kept. Assumes nothing.
use Rattle.read.proofs.Answering.{reread}
use Rattle.read.proofs.write.Goals as goal

pub returns-else-end-few : goal.returns-else-end-few
returns-else-end-few c = reread _ _ _ _ _ c.paths.result c.requires.kept.1 c.requires.kept.0 c.paths.ensures.reads_all
