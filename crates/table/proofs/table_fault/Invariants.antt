-- All nodes before `i` are good.
use Rattle.std.proofs.Common.{◌≡◌, true, ℕ, ◌<◌}
use Rattle.paper.specs.Document.{good_node, table_of}
use Rattle.table.proofs.table_fault.Given as goal

abbrev pub invariant-loop-i : goal.invariant-loop-i
invariant-loop-i l = (k : ℕ) → k < l.i → good_node (table_of l.parent l.kind) k ≡ true
