-- `lines::line_start` meets its contract. Assumes nothing.
use Rattle.lines.proofs.Splitting.{starts_after, starts_nowhere}
use borrow.Author.Rules.{rules}
use Rattle.lines.proofs.line_start.Statement.{statement}
use Rattle.lines.proofs.line_start.Tie as tie

add-result : tie.Need-overflow_add-result
add-result c = search rules

returns : tie.Need-returns-then-end-bytes
returns c = starts_after _ _ c.if-end-bytes.true

returns-2 : tie.Need-returns-else-end-bytes
returns-2 c = starts_nowhere _ _ c.requires c.if-end-bytes.false

pub line_start_spec : {M : Type 1} → statement M
line_start_spec = tie.close (tie.spec add-result returns returns-2)
