-- `sheet::put_refused` meets its contract: a number that was not given has no line. Assumes nothing.
use native.Mathlib.Omega.{arith}
use borrow.Author.Tests.{eq-eqb, ne_eqb}
use Rattle.pen.proofs.Putting.{puts_none, puts_both}
use borrow.Author.Rules.{rules}
use Rattle.sheet.proofs.put_refused.Statement.{statement}
use Rattle.sheet.proofs.put_refused.Tie as tie

returns : tie.Need-returns-then-times-eq0
returns c = (rw (eq-eqb _ 0 c.if-times-eq0.true) (puts_none _ _), omega arith)

put-requires : tie.Need-put-begun-requires
put-requires c κs = search rules

put-decimal-requires : tie.Need-put_decimal-numbered-requires
put-decimal-requires c κs = search rules

put-requires-2 : tie.Need-put-apart-requires
put-requires-2 c κs = search rules

put-decimal-requires-2 : tie.Need-put_decimal-counted-requires
put-decimal-requires-2 c κs = search rules

put-requires-3 : tie.Need-put-requires
put-requires-3 c κs = search rules

same_length : tie.Need-shape_of-out
same_length c = search rules

returns-2 : tie.Need-returns
returns-2 c =
    let ended = c in
    let counted = ended in
    let apart = counted in
    let numbered = apart in
    let begun = numbered in
    let given = begun in (
      rw (ne_eqb _ 0 given.if-times-eq0.false) (puts_both (puts_both (puts_both (puts_both begun.put-begun.ensures numbered.put_decimal-numbered.ensures.0) apart.put-apart.ensures) counted.put_decimal-counted.ensures.0) ended.put.ensures),
      omega (arith, begun.put-begun.ensures.moved, numbered.put_decimal-numbered.ensures.1, apart.put-apart.ensures.moved, counted.put_decimal-counted.ensures.1, ended.put.ensures.moved),
    )

pub put_refused_spec : {M : Type 1} → statement M
put_refused_spec =
    tie.close
    (tie.spec
    returns
    put-requires
    put-decimal-requires
    put-requires-2
    put-decimal-requires-2
    put-requires-3
    same_length
    returns-2)
