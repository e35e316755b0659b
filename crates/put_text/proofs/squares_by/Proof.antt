-- `put_text::squares_by` meets its contract. Assumes nothing.
use Rattle.put_text.proofs.Texts.{no_square, first_square, next_square}
use Rattle.put_text.proofs.squares_by.Statement.{statement}
use Rattle.put_text.proofs.squares_by.Tie as tie

returns : tie.Need-returns-then-b-ne93
returns c = let a = c.args in no_square a.squares a.b c.if-b-ne93.true

returns-2 : tie.Need-returns-then-squares-eq0
returns-2 c = let a = c.args in first_square a.squares a.b c.if-b-ne93.false c.if-squares-eq0.true

returns-3 : tie.Need-returns-else-squares-eq0
returns-3 c = let a = c.args in next_square a.squares a.b c.if-b-ne93.false c.if-squares-eq0.false

pub squares_by_spec : {M : Type 1} → statement M
squares_by_spec = tie.close (tie.spec returns returns-2 returns-3)
