-- `mark_step` meets its contract: what the step is told and what follows decide its axis, and the next step is told. Assumes nothing.
use native.Mathlib.Omega.{arith}
use mathlib.Core.Path.{◌∙◌, ap}
use mathlib.Core.Bool.{not, ◌&&◌}
use lib.ListN.{length}
use Rattle.lean_marks.proofs.Telling.{one_most, step_done, step_length}
use borrow.Author.Rules.{rules}
use Rattle.lean_marks.proofs.mark_step.Statement.{statement}
use Rattle.lean_marks.proofs.mark_step.Tie as tie
use Rattle.lean_marks.proofs.mark_step.Reads as reads
use Rattle.lean_marks.proofs.mark_step.Lts as lts
use Rattle.item.proofs.pack_step.Reads as pack-step-reads
use Rattle.lean_marks.proofs.down_at.Reads as down-at-reads
use Rattle.lean_marks.proofs.may_hide.Reads as may-hide-reads
use Rattle.lean_marks.proofs.pass_on.Reads as pass-on-reads
use Rattle.lean_marks.proofs.saying.Reads as saying-reads
use Rattle.owed.proofs.skip.Reads as skip-reads

mul-told : tie.Need-offset_bounds-marks-place
mul-told c = search rules

slice-read-told : tie.Need-bounds-marks-place
slice-read-told c = search rules

cast-told : tie.Need-overflow_cast-told
cast-told c = omega (arith, c.slice_known-2-1.given c.args.place)

add-skip : tie.Need-overflow_add-place
add-skip c = search rules

skip-requires : tie.Need-skip-next-requires
skip-requires c κs = search rules

down-at-requires : tie.Need-down_at-down-requires
down-at-requires c κs = search rules

may-hide-requires : tie.Need-may_hide-hidden-requires
may-hide-requires c κs = search rules

saying-requires : tie.Need-saying-axis-requires
saying-requires c κs = search rules

pack-step-requires : tie.Need-pack_step-requires
pack-step-requires c κs = let pre = c.requires in
    (omega (arith, c.saying-axis.ensures, one_most (c.may_hide-hidden.result && not c.down_at-down.result)), pre.0, omega (arith, pre.1))

mul-marks : tie.Need-offset_bounds-marks-place-2
mul-marks c = search rules

slice-write-marks : tie.Need-bounds-marks-place-2
slice-write-marks c = search rules

pass-on-requires : tie.Need-pass_on-requires
pass-on-requires c κs = let read = c in
    let told = read.slice_known-2-1.given read.args.place in
    (omega (arith, told), omega arith)

same_length : tie.Need-shape_of-marks
same_length c = let put = c in
    let packs = put in
    let hides = packs in
    let downs = hides in
    let skips = downs in
    let a = skips.args in
    ap length
    (step_done a.items.now a.marks.now put.pass_on.new.marks a.place a.step skips.skip-next.result downs.down_at-down.result hides.may_hide-hidden.result packs.saying-axis.result packs.pack_step.result
    skips.skip-next.ensures.0 downs.down_at-down.ensures hides.may_hide-hidden.ensures packs.saying-axis.ensures packs.pack_step.ensures put.pass_on.ensures) ∙
    step_length a.items.now a.place a.step a.marks.now

returns : tie.Need-returns
returns c = let put = c in
    let packs = put in
    let hides = packs in
    let downs = hides in
    let skips = downs in
    let a = skips.args in
    step_done a.items.now a.marks.now put.pass_on.new.marks a.place a.step skips.skip-next.result downs.down_at-down.result hides.may_hide-hidden.result packs.saying-axis.result packs.pack_step.result
    skips.skip-next.ensures.0 downs.down_at-down.ensures hides.may_hide-hidden.ensures packs.saying-axis.ensures packs.pack_step.ensures put.pass_on.ensures

pub mark_step_spec : {M : Type 1} → statement M
mark_step_spec =
    tie.close
    (tie.spec
    mul-told
    slice-read-told
    cast-told
    add-skip
    skip-requires
    down-at-requires
    may-hide-requires
    saying-requires
    pack-step-requires
    mul-marks
    slice-write-marks
    pass-on-requires
    same_length
    returns)
