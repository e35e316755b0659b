-- `put_text::put_char` meets its contract. Assumes nothing.
use native.Mathlib.Omega.{arith}
use borrow.Author.Rules.{rules}
use Rattle.pen.proofs.Putting.{puts_as}
use Rattle.put_text.proofs.Texts.{as_reference, as_other, as_it_is}
use Rattle.put_text.proofs.put_char.Statement.{statement}
use Rattle.put_text.proofs.put_char.Tie as tie

-- A byte that is no `>`, a `>` that may stand, and one that may not.
abbrev other : tie.After-slice_known-then-b-ne62-1 → tie.Then-b-ne62
other c = c.before.before.before.before

abbrev angle : tie.Else-b-ne62 → tie.Start
angle c = c.before.before

abbrev allowed : tie.After-slice_known-then-squares-ne2-1 → tie.Then-squares-ne2
allowed c = c.before.before.before.before

abbrev forbidden : tie.After-slice_known-2-1 → tie.Else-squares-ne2
forbidden c = c.before.before.before.before.before.before

put-byte-requires : tie.Need-put_byte-requires
put-byte-requires c κs = search rules

same_length : tie.Need-shape_of-out-then-b-ne62
same_length c = search rules

returns : tie.Need-returns-then-b-ne62
returns c =
    let a = (other c).args in
    puts_as (as_other a.squares a.b (other c).if-b-ne62.true) c.put_byte.ensures

put-byte-requires-2 : tie.Need-put_byte-requires-then-squares-ne2
put-byte-requires-2 c κs = search rules

same-length-2 : tie.Need-shape_of-out-then-squares-ne2
same-length-2 c = search rules

returns-2 : tie.Need-returns-then-squares-ne2
returns-2 c =
    let e = (allowed c).before in
    let a = (angle e).args in
    puts_as (as_it_is a.squares a.b e.if-b-ne62.false (λ two. omega (arith, two, (allowed c).if-squares-ne2.true))) c.put_byte-then-squares-ne2.ensures

put-requires : tie.Need-put-requires
put-requires c κs = search rules

same-length-3 : tie.Need-shape_of-out
same-length-3 c = search rules

returns-3 : tie.Need-returns
returns-3 c =
    let e = (forbidden c).before in
    let a = (angle e).args in
    puts_as (as_reference a.squares a.b e.if-b-ne62.false (omega (arith, (forbidden c).if-squares-ne2.false))) c.put.ensures

pub put_char_spec : {M : Type 1} → statement M
put_char_spec =
    tie.close
    (tie.spec
    put-byte-requires
    same_length
    returns
    put-byte-requires-2
    same-length-2
    returns-2
    put-requires
    same-length-3
    returns-3)
