-- `put_axes::put_along` meets its contract: nothing where the short form leaves the axis out, and otherwise its word and `::`. Assumes nothing.
use native.Mathlib.Omega.{arith}
use borrow.Author.Rules.{rules}
use Rattle.pen.proofs.Putting.{puts_none, puts_both, puts_as}
use Rattle.put_axes.proofs.Words.{along_none, along_told}
use Rattle.put_axes.proofs.put_along.Statement.{statement}
use Rattle.put_axes.proofs.put_along.Tie as tie

returns : tie.Need-returns-then-child
returns c =
    let a = c.args in
    (λ x e. puts_as (along_none a.brief x a.axis e c.if-child.true) (puts_none a.pen a.out.now), omega arith)

-- Past the test the axis is put, and then two bytes.
abbrev named : tie.After-slice_known-4-1 → tie.After-put_axis-named
named c = c.before.before.before.before.before.before.before.before.before.before

abbrev start : tie.After-put_axis-named → tie.Start
start c = c.before.before.before.before

put-axis-requires : tie.Need-put_axis-named-requires
put-axis-requires c κs = search rules

put-byte-requires : tie.Need-put_byte-colon-requires
put-byte-requires c κs = search rules

put-byte-requires-2 : tie.Need-put_byte-requires
put-byte-requires-2 c κs = search rules

same_length : tie.Need-shape_of-out
same_length c = search rules

returns-2 : tie.Need-returns
returns-2 c =
    let n = named c in
    let a = (start n).args in
    let one = c.put_byte-colon.ensures in
    let two = c.put_byte.ensures in (
      λ x e. puts_as (along_told a.brief x a.axis e n.if-child.false) (puts_both (puts_both (n.put_axis-named.ensures.0 x e) one) two),
      omega (arith, n.put_axis-named.ensures.1, one.moved, two.moved),
    )

pub put_along_spec : {M : Type 1} → statement M
put_along_spec =
    tie.close
    (tie.spec
    returns
    put-axis-requires
    put-byte-requires
    put-byte-requires-2
    same_length
    returns-2)
