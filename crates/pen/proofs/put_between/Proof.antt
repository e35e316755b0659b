-- `pen::put_between` meets its contract. Assumes nothing.
use borrow.Author.Tests.{lt-ltb, le-ltb}
use borrow.Author.Rules.{rules}
use Rattle.pen.proofs.Putting.{puts_none}
use Rattle.pen.proofs.put_between.Statement.{statement}
use Rattle.pen.proofs.put_between.Tie as tie

put-requires : tie.Need-put-requires
put-requires c κs = search rules

same_length : tie.Need-shape_of-out
same_length c = search rules

returns : tie.Need-returns-then-left-gt0
returns c =
    let a = c.args in
    rw (lt-ltb 0 a.left c.if-left-gt0.true) c.put.ensures

returns-2 : tie.Need-returns-else-left-gt0
returns-2 c =
    let a = c.args in
    rw (le-ltb 0 a.left c.if-left-gt0.false) (puts_none a.pen a.out.now)

pub put_between_spec : {M : Type 1} → statement M
put_between_spec = tie.close (tie.spec put-requires same_length returns returns-2)
