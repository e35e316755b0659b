-- `at` is no greater than `from`, and `wanted` is over the one exactly if it is over the other.
use Rattle.std.proofs.Common.{◌≡◌, List, ℕ, ◌≤◌}
use Rattle.paper.specs.Document.{over, table_of}
use Rattle.table.proofs.is_over.Given as goal

abbrev pub invariant-loop-at : goal.invariant-loop-at
invariant-loop-at l = record {
  low : l.at ≤ l.from;
  alike : (kinds : List ℕ) → over (table_of l.parent kinds) l.from l.wanted ≡ over (table_of l.parent kinds) l.at l.wanted;
}

abbrev pub decreases-loop-at : goal.decreases-loop-at
decreases-loop-at l = l.at
