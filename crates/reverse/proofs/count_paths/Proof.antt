-- `reverse::count_paths` meets its contract. The invariant: the paths counted and the paths left are those of the query. The measure is what is left of the items. Assumes nothing.
use borrow.Author.Rules.{rules}
use Prim.Native.Nat.{◌-◌}
use native.Mathlib.Omega.{arith}
use lib.ListN.{length}
use Rattle.reverse.proofs.Paths.{Counted, counted_start, counted_more, counted_done}
use Rattle.reverse.proofs.count_paths.Statement.{statement}
use Rattle.reverse.proofs.count_paths.Tie as tie

abbrev invariant-loop : tie.invariant-loop-place
invariant-loop items place₀ paths₀ place paths = Counted items place paths

abbrev decreases-loop : tie.decreases-loop-place
decreases-loop items place₀ paths₀ place paths = length items - place

loop-holds : tie.Need-loop-place-init invariant-loop decreases-loop
loop-holds c = counted_start c.args.items.now c.requires.0

add-skip : tie.Need-overflow_add-place invariant-loop decreases-loop
add-skip c = omega arith

mul-owes : tie.Need-offset_bounds-items-place invariant-loop decreases-loop
mul-owes c = omega arith

shared-slice-read-owes : tie.Need-bounds-items-place invariant-loop decreases-loop
shared-slice-read-owes c = omega arith

owes-requires : tie.Need-owes-requires invariant-loop decreases-loop
owes-requires c κs = search rules

skip-requires : tie.Need-skip-place-requires invariant-loop decreases-loop
skip-requires c κs = (omega (arith, c.requires.1), omega (arith, c.loop-place-test.true), c.owes.ensures.1)

add-paths : tie.Need-overflow_add-paths invariant-loop decreases-loop
add-paths c = omega (arith, c.loop-place.invariant.low, c.loop-place.invariant.walks.inside, c.requires.1)

loop-less : tie.Need-loop-place-smaller invariant-loop decreases-loop
loop-less c = omega (arith, c.skip-place.ensures.0, c.loop-place-test.true)

loop-again : tie.Need-loop-place-preserved invariant-loop decreases-loop
loop-again c = counted_more c.args.items.now c.loop-place.place c.skip-place.result c.owes.result c.loop-place.paths c.loop-place-test.true c.loop-place.invariant c.owes.ensures.0 c.skip-place.ensures.0

returns : tie.Need-returns invariant-loop decreases-loop
returns c = counted_done c.args.items.now c.loop-place.place c.loop-place.paths c.loop-place-test.false c.loop-place.invariant

pub count_paths_spec : {M : Type 1} → statement M
count_paths_spec =
    tie.close
    (tie.spec
    invariant-loop
    decreases-loop
    loop-holds
    add-skip
    mul-owes
    shared-slice-read-owes
    owes-requires
    skip-requires
    add-paths
    loop-less
    loop-again
    returns)
