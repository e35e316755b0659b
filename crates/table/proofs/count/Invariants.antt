-- `n` is the number of marked nodes so far.
use Rattle.std.proofs.Common.{◌≡◌}
use Rattle.paper.specs.Extraction.{rank}
use Rattle.table.proofs.count.Given as goal

abbrev pub invariant-loop-mark : goal.invariant-loop-mark
invariant-loop-mark l = l.n ≡ rank l.marks l.mark-index
