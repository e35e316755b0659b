-- `composed::guard_paths` meets its contract. The invariant: what was written and what is made of the paths left are what is made of all. The measure is what is left of the items. Assumes nothing.
use borrow.Author.Rules.{rules}
use Prim.Native.Nat.{ℕ, ◌+◌, ◌-◌, ◌≤◌}
use native.Mathlib.Omega.{arith}
use mathlib.Core.Path.{◌≡◌, ◌∙◌, ap}
use mathlib.Core.List.{List}
use lib.ListN.{length, take, drop}
use Rattle.paper.specs.Query.{Steps}
use Rattle.reverse.proofs.Paths.{writing_done, top}
use Rattle.composed.specs.Pieces.{flags_paths, guarded_path, Says}
use Rattle.composed.proofs.Counting.{says_length}
use Rattle.composed.proofs.Outer.{Walking, walking_start, Guards, named, raised_few, path_room, steps_ask, last_asks, path_done}
use Rattle.composed.proofs.guard_paths.Statement.{statement}
use Rattle.composed.proofs.guard_paths.Tie as tie

abbrev invariant-loop : tie.invariant-loop-place
invariant-loop outer out₀ from count says place₀ at₀ out place at = (g : Says outer says) → Walking g.decides outer says out₀ out from count place at

abbrev decreases-loop : tie.decreases-loop-place
decreases-loop outer out₀ from count says place₀ at₀ out place at = length outer - place

-- What is lent, and what is made of a path.
abbrev Start : Type 0
Start = tie.Start invariant-loop decreases-loop

abbrev outer : Start → List ℕ
outer start = start.args.outer.now

abbrev old : Start → List ℕ
old start = start.args.out.now

abbrev says : Start → List ℕ
says start = start.args.says.now

abbrev Said : Start → Type 0
Said start = Says (outer start) (says start)

abbrev made : (start : Start) → Said start → Steps → List ℕ
made start g = guarded_path g.decides (take start.args.count (drop start.args.from (old start)))

-- At the head of a turn.
abbrev Turn : Type 0
Turn = tie.At-loop-place invariant-loop decreases-loop

abbrev begun : Turn → Start
begun c = c.before.before.before.before

-- The end of a path is found.
abbrev Found : Type 0
Found = tie.After-skip-next invariant-loop decreases-loop

abbrev turn : Found → Turn
turn c = c.before.before.before.before

guards : (c : Found) (g : Said (begun (turn c)))
    → Guards g.decides (outer (begun (turn c))) (says (begun (turn c))) (old (begun (turn c))) (turn c).loop-place.out (begun (turn c)).args.from (begun (turn c)).args.count (turn c).loop-place.place (turn c).loop-place.at c.skip-next.result c.owes-steps.result
guards c g =
    let l = (turn c).loop-place in
    let start = begun (turn c) in
    let w = l.invariant g in
    top (outer start) l.place c.skip-next.result c.owes-steps.result w.writes.rest c.loop-place-test.true w.writes.walks c.owes-steps.ensures.0 c.skip-next.ensures.0
    (λ p ps e t.
    record {
      writes = w.writes;
      path = p;
      later = ps;
      here = e;
      top = t;
      few = start.requires.1;
      flags = w.flags ∙ ap (flags_paths g.decides) e;
      room = start.requires.2 g;
      fits = start.requires.3;
    })

-- By what it is lent.
abbrev lent : (c : Found) → Said (begun (turn c))
lent c = (begun (turn c)).requires.0

room : (c : Found) → (turn c).loop-place.at + 4 ≤ length (turn c).loop-place.out
room c = omega (arith, path_room (guards c (lent c)), ((turn c).loop-place.invariant (lent c)).writes.size, (begun (turn c)).requires.3)

same : (c : Found) → length (turn c).loop-place.out ≡ length (old (begun (turn c)))
same c = ((turn c).loop-place.invariant (lent c)).writes.size

many : (c : Found) → length (says (begun (turn c))) ≡ length (outer (begun (turn c)))
many c = says_length (outer (begun (turn c))) (says (begun (turn c))) (lent c)

-- Its steps, and what is said of them.
abbrev part : (c : Found) → List ℕ → List ℕ
part c items = take (c.skip-next.result - ((turn c).loop-place.place + 1)) (drop ((turn c).loop-place.place + 1) items)

-- The path's item is packed, its steps are written.
abbrev Packed : Type 0
Packed = tie.After-pack_path invariant-loop decreases-loop

abbrev Guarded : Type 0
Guarded = tie.After-guard_steps-end invariant-loop decreases-loop

abbrev packed : Guarded → Packed
packed c = c.before.before.before.before

loop-holds : tie.Need-loop-place-init invariant-loop decreases-loop
loop-holds c =
    let start = c in
    λ g. walking_start (outer start.before.before.before) (says start.before.before.before) (old start.before.before.before) start.args.from start.args.count g

mul-owes : tie.Need-offset_bounds-outer-place invariant-loop decreases-loop
mul-owes c = omega arith

shared-slice-read-owes : tie.Need-bounds-outer-place invariant-loop decreases-loop
shared-slice-read-owes c = omega arith

owes-requires : tie.Need-owes-steps-requires invariant-loop decreases-loop
owes-requires c κs = search rules

add-skip : tie.Need-overflow_add-place invariant-loop decreases-loop
add-skip c = omega arith

skip-requires : tie.Need-skip-next-requires invariant-loop decreases-loop
skip-requires c κs =
    let inside = c in
    ((begun inside.before.before.before).requires.1, omega (arith, inside.loop-place-test.true), c.owes-steps.ensures.1)

add-pack-path : tie.Need-overflow_add-steps invariant-loop decreases-loop
add-pack-path c = omega (arith, c.owes-steps.ensures.1)

pack-path-requires : tie.Need-pack_path-requires invariant-loop decreases-loop
pack-path-requires c κs = raised_few (guards c (lent c))

mul-out : tie.Need-offset_bounds-out-at invariant-loop decreases-loop
mul-out c = omega (arith, room c.before, same c.before)

slice-write-out : tie.Need-bounds-out-at invariant-loop decreases-loop
slice-write-out c = omega (arith, room c.before, same c.before)

add-guard-steps : tie.Need-overflow_add-place-in-loop-place invariant-loop decreases-loop
add-guard-steps c = omega arith

mul-guard-steps : tie.Need-offset_bounds-outer-place-in-loop-place invariant-loop decreases-loop
mul-guard-steps c = omega arith

sub-guard-steps : tie.Need-slice_bounds-guard_steps-count invariant-loop decreases-loop
sub-guard-steps c = omega (arith, c.skip-next.ensures.0)

part-guard-steps-start : tie.Need-slice_bounds-guard_steps-start invariant-loop decreases-loop
part-guard-steps-start c = omega (arith, c.skip-next.ensures.0)

part-guard-steps-end : tie.Need-slice_bounds-guard_steps-end invariant-loop decreases-loop
part-guard-steps-end c = omega (arith, c.skip-next.ensures.1)

add-guard-steps-2 : tie.Need-overflow_add-at invariant-loop decreases-loop
add-guard-steps-2 c = omega (arith, room c.before.before.before, same c.before.before.before)

add-guard-steps-3 : tie.Need-overflow_add-place-in-loop-place-2 invariant-loop decreases-loop
add-guard-steps-3 c = omega arith

mul-guard-steps-2 : tie.Need-offset_bounds-says-place invariant-loop decreases-loop
mul-guard-steps-2 c = omega arith

sub-guard-steps-2 : tie.Need-slice_bounds-guard_steps-count-in-loop-place invariant-loop decreases-loop
sub-guard-steps-2 c = omega (arith, c.skip-next.ensures.0)

part-guard-steps-start-2 : tie.Need-slice_bounds-guard_steps-start-in-loop-place invariant-loop decreases-loop
part-guard-steps-start-2 c = omega (arith, c.skip-next.ensures.0)

part-guard-steps-end-2 : tie.Need-slice_bounds-guard_steps-end-in-loop-place invariant-loop decreases-loop
part-guard-steps-end-2 c = omega (arith, c.skip-next.ensures.1, many c.before.before.before)

guard-steps-requires : tie.Need-guard_steps-end-requires invariant-loop decreases-loop
guard-steps-requires c κs =
    let one = c in
    let path = guards one.before.before.before.before (lent one.before.before.before.before) in
    steps_ask path one.pack_path.result one.pack_path.ensures (part one.before.before.before.before (outer (begun (turn one.before.before.before.before)))) (part one.before.before.before.before (says (begun (turn one.before.before.before.before)))) path.top.part (named path)

put-last-requires : tie.Need-put_last-at-requires invariant-loop decreases-loop
put-last-requires c κs =
    let two = c in
    let one = packed two.before.before.before in
    let path = guards one.before (lent one.before) in
    last_asks path one.pack_path.result one.pack_path.ensures (part one.before (outer (begun (turn one.before)))) (part one.before (says (begun (turn one.before)))) path.top.part (named path) two.guard_steps-end.new.out two.guard_steps-end.result two.guard_steps-end.ensures.0 two.guard_steps-end.ensures.1

loop-less : tie.Need-loop-place-smaller invariant-loop decreases-loop
loop-less c =
    let found = (packed c.before.before.before.before.before.before).before in
    omega (arith, found.skip-next.ensures.0, found.skip-next.ensures.1, found.loop-place-test.true)

loop-again : tie.Need-loop-place-preserved invariant-loop decreases-loop
loop-again c =
    let three = c in
    let two = three in
    let one = packed two.before.before.before.before.before.before in
    λ g.
    let path = guards one.before g in
    path_done path one.pack_path.result one.pack_path.ensures (part one.before (outer (begun (turn one.before)))) (part one.before (says (begun (turn one.before)))) path.top.part (named path) two.guard_steps-end.new.out two.guard_steps-end.result two.guard_steps-end.ensures.0 two.guard_steps-end.ensures.1
    three.put_last-at.new.out three.put_last-at.result three.put_last-at.ensures.0 three.put_last-at.ensures.1

same_length : tie.Need-shape_of-out invariant-loop decreases-loop
same_length c = (c.loop-place.invariant (begun c.before).requires.0).writes.size

returns : tie.Need-returns invariant-loop decreases-loop
returns c =
    let l = c.loop-place in
    let start = begun c.before in
    λ g. writing_done (made start g) (outer start) (old start) l.out 0 l.place l.at c.loop-place-test.false (l.invariant g).writes

pub guard_paths_spec : {M : Type 1} → statement M
guard_paths_spec =
    tie.close
    (tie.spec
    invariant-loop
    decreases-loop
    loop-holds
    mul-owes
    shared-slice-read-owes
    owes-requires
    add-skip
    skip-requires
    add-pack-path
    pack-path-requires
    mul-out
    slice-write-out
    add-guard-steps
    mul-guard-steps
    sub-guard-steps
    part-guard-steps-start
    part-guard-steps-end
    add-guard-steps-2
    add-guard-steps-3
    mul-guard-steps-2
    sub-guard-steps-2
    part-guard-steps-start-2
    part-guard-steps-end-2
    guard-steps-requires
    put-last-requires
    loop-less
    loop-again
    same_length
    returns)
