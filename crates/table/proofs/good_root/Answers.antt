-- The tests are those of the definition.
use Rattle.std.proofs.Common.{rules}
use Rattle.paper.specs.Document.{good_node}
use Rattle.table.proofs.good_root.Goals as goal

pub returns : goal.returns
unfolding good_node
returns c = search rules
