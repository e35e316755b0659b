-- `pass_on` meets its contract: with no step left nothing is told, and otherwise the next one is told the number. Assumes nothing.
use native.Mathlib.Omega.{arith}
use mathlib.Core.Path.{refl, ap}
use Prim.Native.Nat.{◌+◌, ◌-◌, ◌*◌}
use Rattle.lean_marks.proofs.Telling.{pass_some, two_most}
use borrow.Author.Rules.{rules}
use Rattle.lean_marks.proofs.pass_on.Statement.{statement}
use Rattle.lean_marks.proofs.pass_on.Tie as tie
use Rattle.lean_marks.proofs.pass_on.Reads as reads
use Rattle.lean_marks.proofs.pass_on.Lts as lts
use Rattle.lean_marks.proofs.tell.Reads as tell-reads
use Rattle.lean_marks.proofs.twice.Reads as twice-reads

returns : tie.Need-returns-then-left-eq0
returns c = search rules

sub-said : tie.Need-overflow_sub-said
sub-said c = search rules

mul-said : tie.Need-overflow_mul-said
mul-said c = search rules

twice-requires : tie.Need-twice-requires
twice-requires c κs = search rules

add-said : tie.Need-overflow_add-said
add-said c = omega (arith, c.twice.ensures, two_most c.args.loose, c.requires.0)

add-said-2 : tie.Need-overflow_add-said-2
add-said-2 c = omega (arith, c.twice.ensures, two_most c.args.loose, c.requires.0, c.requires.1)

cast-tell : tie.Need-overflow_cast-said
cast-tell c = omega (arith, c.twice.ensures, two_most c.args.loose, c.requires.0, c.requires.1)

tell-requires : tie.Need-tell-requires
tell-requires c κs = search rules

same_length : tie.Need-shape_of-marks
same_length c = search rules

returns-2 : tie.Need-returns
returns-2 c = let put = c in
    let more = put in
    let a = more.args in
    pass_some a.marks.now put.tell.new.marks a.next a.left _ a.loose a.last more.if-left-eq0.false (ap (λ n. (a.left - 1) * 4 + n + a.last) more.twice.ensures) put.tell.ensures

pub pass_on_spec : {M : Type 1} → statement M
pass_on_spec =
    tie.close
    (tie.spec
    returns
    sub-said
    mul-said
    twice-requires
    add-said
    add-said-2
    cast-tell
    tell-requires
    same_length
    returns-2)
