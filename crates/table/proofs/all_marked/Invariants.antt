-- Where `all` holds, the nodes so far are marked.
use Rattle.std.proofs.Common.{◌≡◌, true, ℕ, ◌<◌}
use Rattle.paper.specs.Document.{marked}
use Rattle.table.proofs.all_marked.Given as goal

abbrev pub invariant-loop-mark : goal.invariant-loop-mark
invariant-loop-mark l = l.all ≡ true → (k : ℕ) → k < l.mark-index → marked l.marks k ≡ true
