-- `search::keep`: the marks are those of the nodes kept for the selected nodes before `k` (`up_to`).
use Rattle.std.proofs.Common.{◌≡◌, length}
use Rattle.std.proofs.Math.Option.{some}
use Rattle.paper.specs.Query.{Query}
use Rattle.paper.specs.Items.{decode}
use Rattle.paper.specs.Document.{table_of}
use Rattle.search.proofs.Keeping.{marks_up_to}
use Rattle.search.proofs.keep.Given as goal

abbrev pub invariant-loop-k : goal.invariant-loop-k
invariant-loop-k l = (q : Query) → decode l.items ≡ some q → l.marks ≡ marks_up_to (table_of l.parent l.kind) l.given q (length l.parent) l.k
