-- `reverse::put_reverses` meets its contract. The invariant: what was written and the reverses of the paths left are all the reverses. The measure is what is left of the items. Assumes nothing.
use borrow.Author.Rules.{rules}
use Prim.Native.Nat.{◌+◌, ◌-◌}
use native.Mathlib.Omega.{arith}
use mathlib.Core.Path.{ap}
use mathlib.Core.List.{List}
use lib.ListN.{length, length-append}
use Rattle.paper.specs.Query.{Steps}
use Rattle.reverse.specs.Reverses.{reversed_items, each_path}
use Rattle.reverse.proofs.Paths.{Writing, writing_start, writing_more, writing_done, room_left, top}
use Rattle.reverse.proofs.WayBack.{part_size, reversed_length}
use Rattle.reverse.proofs.put_reverses.Statement.{statement}
use Rattle.reverse.proofs.put_reverses.Tie as tie

abbrev invariant-loop : tie.invariant-loop-place
invariant-loop inner out₀ start place₀ at₀ out place at = Writing reversed_items inner out₀ out start place at

abbrev decreases-loop : tie.decreases-loop-place
decreases-loop inner out₀ start place₀ at₀ out place at = length inner - place

abbrev Start : Type 0
Start = tie.Start invariant-loop decreases-loop

-- Of what is lent nothing is read yet.
abbrev Lent : Type 0
Lent = tie.After-slice_known-1 invariant-loop decreases-loop

abbrev begun-of : Lent → Start
begun-of c = c.before.before

-- The paths before this place are reversed.
abbrev Turn : Type 0
Turn = tie.At-loop-place invariant-loop decreases-loop

abbrev lent_of : Turn → Lent
lent_of c = c.before

-- There is one more,
abbrev Inside : Type 0
Inside = tie.In-loop-place invariant-loop decreases-loop

abbrev turn-of : Inside → Turn
turn-of c = c.before

-- its steps are counted,
abbrev Counted : Type 0
Counted = tie.After-owes-count invariant-loop decreases-loop

abbrev inside_of : Counted → Inside
inside_of c = c.before.before

-- where they end is known,
abbrev Ended : Type 0
Ended = tie.After-skip-next invariant-loop decreases-loop

abbrev counted_of : Ended → Counted
counted_of c = c.before

-- and its reverse is put.
abbrev Put : Type 0
Put = tie.After-put_reverse invariant-loop decreases-loop

abbrev ended_of : Put → Ended
ended_of c = c.before.before.before

loop-holds : tie.Need-loop-place-init invariant-loop decreases-loop
loop-holds c =
    let begun = begun-of c in
    writing_start reversed_items begun.args.inner.now begun.args.out.now begun.args.start begun.requires.0

mul-owes : tie.Need-offset_bounds-inner-place invariant-loop decreases-loop
mul-owes c = omega arith

shared-slice-read-owes : tie.Need-bounds-inner-place invariant-loop decreases-loop
shared-slice-read-owes c = omega arith

owes-requires : tie.Need-owes-count-requires invariant-loop decreases-loop
owes-requires c κs = search rules

add-skip : tie.Need-overflow_add-place invariant-loop decreases-loop
add-skip c = omega arith

skip-requires : tie.Need-skip-next-requires invariant-loop decreases-loop
skip-requires c κs =
    let inside = inside_of c in
    ((begun-of (lent_of (turn-of inside))).requires.1, omega (arith, inside.loop-place-test.true), c.owes-count.ensures.1)

add-put-reverse : tie.Need-overflow_add-place-in-loop-place invariant-loop decreases-loop
add-put-reverse c = omega arith

mul-put-reverse : tie.Need-offset_bounds-inner-place-in-loop-place invariant-loop decreases-loop
mul-put-reverse c = omega arith

sub-put-reverse : tie.Need-slice_bounds-put_reverse-count invariant-loop decreases-loop
sub-put-reverse c = omega (arith, c.skip-next.ensures.0)

part-put-reverse-start : tie.Need-slice_bounds-put_reverse-start invariant-loop decreases-loop
part-put-reverse-start c = omega (arith, c.skip-next.ensures.0)

part-put-reverse-end : tie.Need-slice_bounds-put_reverse-end invariant-loop decreases-loop
part-put-reverse-end c = omega (arith, c.skip-next.ensures.1)

put-reverse-requires : tie.Need-put_reverse-requires invariant-loop decreases-loop
put-reverse-requires c κs =
    let counted = counted_of c.before.before in
    let inside = inside_of counted in
    let turn = turn-of inside in
    let begun = begun-of (lent_of turn) in
    let a = begun.args in
    let l = turn.loop-place in
    top a.inner.now l.place c.skip-next.result counted.owes-count.result l.invariant.rest inside.loop-place-test.true l.invariant.walks counted.owes-count.ensures.0 c.skip-next.ensures.0
    (λ p ps e t.
    let n = part_size a.inner.now (l.place + 1) c.skip-next.result (omega (arith, c.skip-next.ensures.0)) c.skip-next.ensures.1 in (
      omega (arith, n, c.skip-next.ensures.1, begun.requires.1),
      omega (arith, t.counts, t.few, t.ends, c.skip-next.ensures.1, begun.requires.1),
      omega (
        arith,
        n,
        t.ends,
        reversed_length p,
        room_left reversed_items a.inner.now a.out.now l.out a.start l.place l.at l.invariant,
        ap (λ (x : List Steps). length (each_path reversed_items x)) e,
        length-append (reversed_items p) (each_path reversed_items ps),
        l.invariant.size,
        begun.requires.2,
      ),
    ))

sub_at : tie.Need-overflow_sub-at invariant-loop decreases-loop
sub_at c = omega (arith, (ended_of c.before.before).skip-next.ensures.0)

add_at : tie.Need-overflow_add-at invariant-loop decreases-loop
add_at c =
    let ended = ended_of c.before.before in
    omega (arith, ended.skip-next.ensures.0, ended.skip-next.ensures.1, (begun-of (lent_of (turn-of (inside_of (counted_of ended))))).requires.1)

add-at-2 : tie.Need-overflow_add-at-in-loop-place invariant-loop decreases-loop
add-at-2 c =
    let ended = ended_of c.before.before in
    let counted = counted_of ended in
    let inside = inside_of counted in
    let turn = turn-of inside in
    let begun = begun-of (lent_of turn) in
    let a = begun.args in
    let l = turn.loop-place in
    top a.inner.now l.place ended.skip-next.result counted.owes-count.result l.invariant.rest inside.loop-place-test.true l.invariant.walks counted.owes-count.ensures.0 ended.skip-next.ensures.0
    (λ p ps e t.
    omega (
      arith,
      t.ends,
      reversed_length p,
      room_left reversed_items a.inner.now a.out.now l.out a.start l.place l.at l.invariant,
      ap (λ (x : List Steps). length (each_path reversed_items x)) e,
      length-append (reversed_items p) (each_path reversed_items ps),
      begun.requires.2,
    ))

loop-less : tie.Need-loop-place-smaller invariant-loop decreases-loop
loop-less c =
    let ended = ended_of c.before.before in
    omega (arith, ended.skip-next.ensures.0, ended.skip-next.ensures.1, (inside_of (counted_of ended)).loop-place-test.true)

loop-again : tie.Need-loop-place-preserved invariant-loop decreases-loop
loop-again c =
    let ended = ended_of c.before.before in
    let counted = counted_of ended in
    let inside = inside_of counted in
    let turn = turn-of inside in
    let begun = begun-of (lent_of turn) in
    let a = begun.args in
    let l = turn.loop-place in
    top a.inner.now l.place ended.skip-next.result counted.owes-count.result l.invariant.rest inside.loop-place-test.true l.invariant.walks counted.owes-count.ensures.0 ended.skip-next.ensures.0
    (λ p ps e t.
    writing_more reversed_items a.inner.now a.out.now l.out c.put_reverse.new.out a.start l.place l.at ended.skip-next.result (l.at + (ended.skip-next.result - l.place + 4)) counted.owes-count.result
    p ps l.invariant e t begun.requires.2 (c.put_reverse.ensures.1 p t.part t.fine t.counts) (omega (arith, t.ends, reversed_length p)))

same_length : tie.Need-shape_of-out invariant-loop decreases-loop
same_length c = c.loop-place.invariant.size

returns : tie.Need-returns invariant-loop decreases-loop
returns c =
    let begun = begun-of (lent_of c.before) in
    writing_done reversed_items begun.args.inner.now begun.args.out.now c.loop-place.out begun.args.start c.loop-place.place c.loop-place.at c.loop-place-test.false c.loop-place.invariant

pub put_reverses_spec : {M : Type 1} → statement M
put_reverses_spec =
    tie.close
    (tie.spec
    invariant-loop
    decreases-loop
    loop-holds
    mul-owes
    shared-slice-read-owes
    owes-requires
    add-skip
    skip-requires
    add-put-reverse
    mul-put-reverse
    sub-put-reverse
    part-put-reverse-start
    part-put-reverse-end
    put-reverse-requires
    sub_at
    add_at
    add-at-2
    loop-less
    loop-again
    same_length
    returns)
