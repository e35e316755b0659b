-- The marks of all nodes before `i` are good.
use Rattle.std.proofs.Common.{◌≡◌, true, List, ℕ, ◌<◌}
use Rattle.paper.specs.Document.{good_mark, table_of}
use Rattle.table.proofs.marks_fault.Given as goal

abbrev pub invariant-loop-i : goal.invariant-loop-i
invariant-loop-i l = (k : ℕ) → k < l.i → (kinds : List ℕ) → good_mark (table_of l.parent kinds) l.marks k ≡ true
