-- All rows before `r` stand.
use Rattle.std.proofs.Common.{◌≡◌, true, ℕ, ◌<◌}
use Rattle.paper.specs.Document.{table_of}
use Rattle.cut_row.specs.Rows.{row_stands}
use Rattle.cut_rows.proofs.all_stand.Given as goal

abbrev pub invariant-loop-r : goal.invariant-loop-r
invariant-loop-r l = (k : ℕ) → k < l.r → row_stands (table_of l.parent l.kind) (table_of l.cut_parent l.cut_kind) l.cut_node k ≡ true
