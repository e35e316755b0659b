-- `keep::narrow` meets its contract: the two sets are lent from `base` on and come back joined, or nothing is done. Assumes nothing.
use native.Mathlib.Omega.{arith}
use mathlib.Core.Path.{refl}
use mathlib.Core.Bool.{◌&&◌}
use mathlib.Core.List.{[]}
use borrow.Author.Rules.{rules}
use Rattle.keep.proofs.Slices.{part_length, part_joined}
use Rattle.keep.proofs.narrow.Statement.{statement}
use Rattle.keep.proofs.narrow.Tie as tie

sub-keep-second : tie.Need-slice_bounds-keep_second-count
sub-keep-second c = omega (arith, c.requires c.if-held-gt0.true)

part-keep-second-start : tie.Need-slice_bounds-keep_second-start
part-keep-second-start c = omega (arith, c.requires c.if-held-gt0.true)

part-keep-second-end : tie.Need-slice_bounds-keep_second-end
part-keep-second-end c = search rules

keep-second-requires : tie.Need-keep_second-requires
keep-second-requires c κs =
    let start = c in
    let a = start.args in
    let two = start.requires c.if-held-gt0.true in
    omega (arith, two, part_length a.base a.sets.now [] (omega (arith, two)))

same_length : tie.Need-shape_of-sets
same_length c = search rules

returns : tie.Need-returns-then-held-gt0
returns c =
    let start = c in
    let a = start.args in
    let two = c.if-held-gt0.true in
    part_joined a.n a.base a.held ◌&&◌ a.sets.now c.keep_second.new.sets two (start.requires two) c.keep_second.ensures.0 c.keep_second.ensures.1

returns-2 : tie.Need-returns-else-held-gt0
returns-2 c = record { front = refl; behind = refl; first = λ z. refl; later = λ z. absurd (omega (arith, z, c.if-held-gt0.false)) }

pub narrow_spec : {M : Type 1} → statement M
narrow_spec =
    tie.close
    (tie.spec
    sub-keep-second
    part-keep-second-start
    part-keep-second-end
    keep-second-requires
    same_length
    returns
    returns-2)
