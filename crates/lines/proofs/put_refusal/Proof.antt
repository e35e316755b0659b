-- `lines::put_refusal` meets its contract: the words and numbers of the line one after the other. Assumes nothing.
use Prim.Native.Nat.{◌<◌}
use native.Mathlib.Omega.{arith}
use mathlib.Core.Path.{ap}
use Rattle.pen.proofs.Putting.{puts_as, puts_both}
use Rattle.paper.specs.Program.{decimal}
use borrow.Author.Rules.{rules}
use Rattle.lines.specs.Lines.{line_room}
use Rattle.lines.proofs.put_refusal.Statement.{statement}
use Rattle.lines.proofs.put_refusal.Tie as tie

number-of-requires : tie.Need-number_of-number-requires
number-of-requires c κs = search rules

place-of-requires : tie.Need-place_of-place-requires
place-of-requires c κs = search rules

put-requires : tie.Need-put-begun-requires
put-requires c κs = search rules

put-requires-2 : tie.Need-put-named-requires
put-requires-2 c κs = search rules

put-requires-3 : tie.Need-put-spaced-requires
put-requires-3 c κs = search rules

put-decimal-requires : tie.Need-put_decimal-numbered-requires
put-decimal-requires c κs = search rules

put-requires-4 : tie.Need-put-apart-requires
put-requires-4 c κs = search rules

put-decimal-requires-2 : tie.Need-put_decimal-placed-requires
put-decimal-requires-2 c κs = search rules

-- Where the place is put, there is room for the end of the line.
short : (c : tie.After-put_decimal-placed) → c.put_decimal-placed.result < line_room
short c =
    let apart = c in
    let numbered = apart in
    let spaced = numbered in
    let named = spaced in
    let begun = named in
    omega (
      arith,
      begun.put-begun.ensures.moved,
      named.put-named.ensures.moved,
      spaced.put-spaced.ensures.moved,
      numbered.put_decimal-numbered.ensures.1,
      apart.put-apart.ensures.moved,
      c.put_decimal-placed.ensures.1,
      begun.requires,
    )

put-requires-5 : tie.Need-put-requires
put-requires-5 c κs = omega (arith, short c.before.before.before.before.before)

same_length : tie.Need-shape_of-out
same_length c = search rules

returns : tie.Need-returns
returns c =
    let ended = c in
    let placed = ended in
    let apart = placed in
    let numbered = apart in
    let spaced = numbered in
    let named = spaced in
    let begun = named in
    let number = puts_as (ap decimal begun.number_of-number.ensures) numbered.put_decimal-numbered.ensures.0 in
    let place = puts_as (ap decimal begun.place_of-place.ensures) placed.put_decimal-placed.ensures.0 in
    record {
      puts = puts_both (puts_both (puts_both (puts_both (puts_both (puts_both begun.put-begun.ensures named.put-named.ensures) spaced.put-spaced.ensures) number) apart.put-apart.ensures) place) ended.put.ensures;
      few = omega (arith, short placed.before.before.before.before.before.before.before.before, ended.put.ensures.moved);
    }

pub put_refusal_spec : {M : Type 1} → statement M
put_refusal_spec =
    tie.close
    (tie.spec
    number-of-requires
    place-of-requires
    put-requires
    put-requires-2
    put-requires-3
    put-decimal-requires
    put-requires-4
    put-decimal-requires-2
    put-requires-5
    same_length
    returns)
