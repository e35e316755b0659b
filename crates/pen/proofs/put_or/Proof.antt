-- `put_or` meets its contract: the bytes are those of ` or `. Assumes nothing.
use borrow.Author.Rules.{rules}
use Rattle.pen.proofs.put_or.Statement.{statement}
use Rattle.pen.proofs.put_or.Tie as tie

put-requires : tie.Need-put-requires
put-requires c κs = search rules

same_length : tie.Need-shape_of-out
same_length c = search rules

returns : tie.Need-returns
returns c = c.put.ensures

pub put_or_spec : {M : Type 1} → statement M
put_or_spec = tie.close (tie.spec put-requires same_length returns)
