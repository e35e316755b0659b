-- `put_bar` meets its contract: the bytes are those of `|`. Assumes nothing.
use borrow.Author.Rules.{rules}
use Rattle.pen.proofs.put_bar.Statement.{statement}
use Rattle.pen.proofs.put_bar.Tie as tie

put-between-requires : tie.Need-put_between-requires
put-between-requires c κs = search rules

same_length : tie.Need-shape_of-out
same_length c = search rules

returns : tie.Need-returns
returns c = c.put_between.ensures

pub put_bar_spec : {M : Type 1} → statement M
put_bar_spec =
    tie.close (tie.spec put-between-requires same_length returns)
