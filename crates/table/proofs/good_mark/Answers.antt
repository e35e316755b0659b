-- The tests are those of the definition.
use Rattle.std.proofs.Common.{rules}
use Rattle.paper.specs.Document.{good_mark}
use Rattle.table.proofs.good_mark.Goals as goal

pub returns : goal.returns
unfolding good_mark
returns c = search rules
