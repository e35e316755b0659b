-- `at` is a marked node no greater than `from`, `new` is its new number, and `wanted` is over it.
use Rattle.std.proofs.Common.{◌≡◌, true, ◌≤◌}
use Rattle.paper.specs.Document.{over, marked}
use Rattle.paper.specs.Extraction.{rank}
use Rattle.extract.specs.Numbering.{shape_of}
use Rattle.extract.proofs.new_number.Given as goal

abbrev pub invariant-loop-at : goal.invariant-loop-at
invariant-loop-at l = record {
  low : l.at ≤ l.from;
  on : marked l.marks l.at ≡ true;
  number : l.new ≡ rank l.marks l.at;
  above : over (shape_of l.parent) l.at l.wanted ≡ true;
}

abbrev pub decreases-loop-at : goal.decreases-loop-at
decreases-loop-at l = l.at
