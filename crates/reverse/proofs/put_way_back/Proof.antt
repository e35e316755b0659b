-- `reverse::put_way_back` meets its contract. The invariant: what is written from `back` on is the way back over the steps passed, but for the first item of the step passed last. The measure is what is left of the items. Assumes nothing.
use borrow.Author.Rules.{rules}
use Prim.Native.Nat.{◌+◌, ◌-◌}
use native.Mathlib.Omega.{arith}
use mathlib.Core.Path.{refl}
use lib.ListN.{length, length-set}
use Rattle.paper.specs.Items.{encode_expr}
use Rattle.paper.specs.Composition.{turned, at_root}
use Rattle.paper.proofs.Axes.{axis_small}
use Rattle.item.proofs.Placing.{same_size}
use Rattle.reverse.proofs.WayBack.{TurnedTo, turned_start, turned_more, turned_done, part_size}
use Rattle.reverse.proofs.put_way_back.Statement.{statement}
use Rattle.reverse.proofs.put_way_back.Tie as tie

abbrev invariant-loop : tie.invariant-loop-place
invariant-loop steps out₀ at back₀ place₀ test₀ count₀ out back place test count = TurnedTo steps out₀ out at back place test count

abbrev decreases-loop : tie.decreases-loop-place
decreases-loop steps out₀ at back₀ place₀ test₀ count₀ out back place test count = length steps - place

abbrev Start : Type 0
Start = tie.Start invariant-loop decreases-loop

-- Of what is lent nothing is read yet.
abbrev Lent : Type 0
Lent = tie.After-slice_known-1 invariant-loop decreases-loop

abbrev begun-of : Lent → Start
begun-of c = c.before.before

-- The last predicate is put.
abbrev Rooted : Type 0
Rooted = tie.After-put_at_root invariant-loop decreases-loop

abbrev lent_of : Rooted → Lent
lent_of c = c.before.before

-- The steps before this place are put.
abbrev Turn : Type 0
Turn = tie.At-loop-place invariant-loop decreases-loop

abbrev rooted_of : Turn → Rooted
rooted_of c = c.before.before.before

-- There is one more,
abbrev Inside : Type 0
Inside = tie.In-loop-place invariant-loop decreases-loop

abbrev turn-of : Inside → Turn
turn-of c = c.before

-- its item is read,
abbrev Read : Type 0
Read = tie.After-as_step-step invariant-loop decreases-loop

abbrev inside_of : Read → Inside
inside_of c = c.before.before

-- where its predicates end is known,
abbrev Ended : Type 0
Ended = tie.After-skip-next invariant-loop decreases-loop

abbrev read_of : Ended → Read
read_of c = c.before

-- its new item is made,
abbrev Packed : Type 0
Packed = tie.After-pack_step invariant-loop decreases-loop

abbrev ended_of : Packed → Ended
ended_of c = c.before.before

-- and its predicates are put.
abbrev Put : Type 0
Put = tie.After-put_items invariant-loop decreases-loop

abbrev packed_of : Put → Packed
packed_of c = c.before.before.before

add_back : tie.Need-overflow_add-back invariant-loop decreases-loop
add_back c = omega arith

add-back-2 : tie.Need-overflow_add-back-2 invariant-loop decreases-loop
add-back-2 c = omega arith

put-at-root-requires : tie.Need-put_at_root-requires invariant-loop decreases-loop
put-at-root-requires c κs = omega arith

loop-holds : tie.Need-loop-place-init invariant-loop decreases-loop
loop-holds c =
    let begun = begun-of (lent_of c.before.before) in
    turned_start begun.args.steps.now begun.args.out.now c.put_at_root.new.out begun.args.at (begun.args.at + 1 + length begun.args.steps.now) refl begun.requires.1 c.put_at_root.ensures

mul-as-step : tie.Need-offset_bounds-steps-place invariant-loop decreases-loop
mul-as-step c = omega arith

shared-slice-read-as-step : tie.Need-bounds-steps-place invariant-loop decreases-loop
shared-slice-read-as-step c = omega arith

as-step-requires : tie.Need-as_step-step-requires invariant-loop decreases-loop
as-step-requires c κs = search rules

add-skip : tie.Need-overflow_add-place invariant-loop decreases-loop
add-skip c = omega arith

skip-requires : tie.Need-skip-next-requires invariant-loop decreases-loop
skip-requires c κs = (omega arith, omega arith, omega (arith, c.as_step-step.ensures.small))

turn-requires : tie.Need-turn-requires invariant-loop decreases-loop
turn-requires c κs = search rules

pack-step-requires : tie.Need-pack_step-requires invariant-loop decreases-loop
pack-step-requires c κs =
    let read = read_of c.before in
    let turn = turn-of (inside_of read) in
    (omega (arith, c.turn.ensures read.as_step-step.ensures.axis read.as_step-step.ensures.axis_is, axis_small (turned read.as_step-step.ensures.axis)), turn.loop-place.invariant.test_small, turn.loop-place.invariant.count_small)

sub_out : tie.Need-overflow_sub-out invariant-loop decreases-loop
sub_out c = omega (arith, (turn-of (inside_of (read_of (ended_of c)))).loop-place.invariant.room)

mul-out : tie.Need-offset_bounds-out-back invariant-loop decreases-loop
mul-out c =
    let turn = turn-of (inside_of (read_of (ended_of c))) in
    omega (arith, turn.loop-place.invariant.room, turn.loop-place.invariant.size, turn.loop-place.invariant.fits)

slice-write-out : tie.Need-bounds-out-back invariant-loop decreases-loop
slice-write-out c =
    let turn = turn-of (inside_of (read_of (ended_of c))) in
    omega (arith, turn.loop-place.invariant.room, turn.loop-place.invariant.size, turn.loop-place.invariant.fits)

sub_back : tie.Need-overflow_sub-back invariant-loop decreases-loop
sub_back c = omega (arith, (ended_of c).skip-next.ensures.0)

sub-back-2 : tie.Need-overflow_sub-back-in-loop-place invariant-loop decreases-loop
sub-back-2 c =
    let ended = ended_of c in
    omega (arith, ended.skip-next.ensures.0, ended.skip-next.ensures.1, (turn-of (inside_of (read_of ended))).loop-place.invariant.room)

add-put-items : tie.Need-overflow_add-place-in-loop-place invariant-loop decreases-loop
add-put-items c = omega arith

mul-put-items : tie.Need-offset_bounds-steps-place-in-loop-place invariant-loop decreases-loop
mul-put-items c = omega arith

sub-put-items : tie.Need-slice_bounds-put_items-count invariant-loop decreases-loop
sub-put-items c = omega (arith, (ended_of c).skip-next.ensures.0)

part-put-items-start : tie.Need-slice_bounds-put_items-start invariant-loop decreases-loop
part-put-items-start c = omega (arith, (ended_of c).skip-next.ensures.0)

part-put-items-end : tie.Need-slice_bounds-put_items-end invariant-loop decreases-loop
part-put-items-end c = omega (arith, (ended_of c).skip-next.ensures.1)

put-items-requires : tie.Need-put_items-requires invariant-loop decreases-loop
put-items-requires c κs =
    let ended = ended_of c.before.before in
    let turn = turn-of (inside_of (read_of ended)) in
    simp length-set (omega (arith, part_size (begun-of (lent_of (rooted_of turn))).args.steps.now (turn.loop-place.place + 1) ended.skip-next.result (omega (arith, ended.skip-next.ensures.0)) ended.skip-next.ensures.1, ended.skip-next.ensures.0, ended.skip-next.ensures.1, turn.loop-place.invariant.room, turn.loop-place.invariant.size, turn.loop-place.invariant.fits))

loop-less : tie.Need-loop-place-smaller invariant-loop decreases-loop
loop-less c =
    let ended = ended_of (packed_of c.before.before) in
    omega (arith, ended.skip-next.ensures.0, ended.skip-next.ensures.1, (inside_of (read_of ended)).loop-place-test.true)

loop-again : tie.Need-loop-place-preserved invariant-loop decreases-loop
loop-again c =
    let packed = packed_of c.before.before in
    let ended = ended_of packed in
    let read = read_of ended in
    let inside = inside_of read in
    let turn = turn-of inside in
    let rooted = rooted_of turn in
    let a = (begun-of (lent_of rooted)).args in
    let l = turn.loop-place in
    turned_more a.steps.now rooted.put_at_root.new.out l.out c.put_items.new.out a.at l.back (l.back - (ended.skip-next.result - l.place)) l.place ended.skip-next.result
    l.test l.count packed.pack_step.result packed.turn.result read.as_step-step.result inside.loop-place-test.true l.invariant read.as_step-step.ensures ended.skip-next.ensures.0 ended.skip-next.ensures.1 packed.turn.ensures
    packed.pack_step.ensures refl c.put_items.ensures

pack-step-requires-2 : tie.Need-pack_step-requires-2 invariant-loop decreases-loop
pack-step-requires-2 c κs = (omega arith, c.loop-place.invariant.test_small, c.loop-place.invariant.count_small)

mul-out-2 : tie.Need-offset_bounds-out-at invariant-loop decreases-loop
mul-out-2 c = omega (arith, c.loop-place.invariant.size, c.loop-place.invariant.fits)

slice-write-out-2 : tie.Need-bounds-out-at invariant-loop decreases-loop
slice-write-out-2 c = omega (arith, c.loop-place.invariant.size, c.loop-place.invariant.fits)

same_length : tie.Need-shape_of-out invariant-loop decreases-loop
same_length c =
    let rooted = rooted_of c.before.before in
    let begun = begun-of (lent_of rooted) in
    let same = same_size (encode_expr at_root) begun.args.out.now rooted.put_at_root.new.out (begun.args.at + 1 + length begun.args.steps.now) rooted.put_at_root.ensures (omega arith) in
    simp length-set (omega (arith, c.loop-place.invariant.size))

returns : tie.Need-returns invariant-loop decreases-loop
returns c =
    let rooted = rooted_of c.before.before in
    let begun = begun-of (lent_of rooted) in
    let same = same_size (encode_expr at_root) begun.args.out.now rooted.put_at_root.new.out (begun.args.at + 1 + length begun.args.steps.now) rooted.put_at_root.ensures (omega arith) in (
      simp length-set (omega (arith, c.loop-place.invariant.size)),
      turned_done begun.args.steps.now begun.args.out.now rooted.put_at_root.new.out c.loop-place.out begun.args.at (begun.args.at + 1 + length begun.args.steps.now) c.loop-place.back c.loop-place.place
          c.loop-place.test c.loop-place.count c.pack_step-2.result c.loop-place-test.false c.loop-place.invariant refl rooted.put_at_root.ensures begun.requires.1 c.pack_step-2.ensures,
    )

pub put_way_back_spec : {M : Type 1} → statement M
put_way_back_spec =
    tie.close
    (tie.spec
    invariant-loop
    decreases-loop
    add_back
    add-back-2
    put-at-root-requires
    loop-holds
    mul-as-step
    shared-slice-read-as-step
    as-step-requires
    add-skip
    skip-requires
    turn-requires
    pack-step-requires
    sub_out
    mul-out
    slice-write-out
    sub_back
    sub-back-2
    add-put-items
    mul-put-items
    sub-put-items
    part-put-items-start
    part-put-items-end
    put-items-requires
    loop-less
    loop-again
    pack-step-requires-2
    mul-out-2
    slice-write-out-2
    same_length
    returns)
