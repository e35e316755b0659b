-- `mark_item` meets its contract: a path and a step have their own turns, any other item stays as it is. Assumes nothing.
use native.Mathlib.Omega.{arith}
use mathlib.Core.Path.{◌∙◌, ap, sym}
use lib.ListN.{length, get_or}
use Rattle.owed.proofs.Passing.{owes_as}
use Rattle.item.specs.declared.Item.TheVariants.{Path, Step as StepItem}
use Rattle.lean_marks.proofs.Telling.{turn_path, turn_step, turn_other, step_fits}
use borrow.Author.Rules.{rules}
use Rattle.lean_marks.proofs.mark_item.Statement.{statement}
use Rattle.lean_marks.proofs.mark_item.Tie as tie
use Rattle.lean_marks.proofs.mark_item.Reads as reads
use Rattle.lean_marks.proofs.mark_item.Lts as lts
use Rattle.item.proofs.unpack.Reads as unpack-reads
use Rattle.lean_marks.proofs.mark_path.Reads as mark-path-reads
use Rattle.lean_marks.proofs.mark_step.Reads as mark-step-reads

mul-w : tie.Need-offset_bounds-items-place
mul-w c = search rules

shared-slice-read-w : tie.Need-bounds-items-place
shared-slice-read-w c = search rules

unpack-requires : tie.Need-unpack-said-requires
unpack-requires c κs = search rules

enum-known-said : tie.Need-enum_known-said
enum-known-said c = search rules

mul-last : tie.Need-offset_bounds-marks-place
mul-last c = search rules

slice-read-last : tie.Need-bounds-marks-place
slice-read-last c = search rules

cast-last : tie.Need-overflow_cast-last
cast-last c = omega (arith, c.slice_known-in-Path-1.given c.args.place)

mark-path-requires : tie.Need-mark_path-requires
mark-path-requires c κs = let known = c in
    let unpacks = known in
    let pre = unpacks.requires in
    ((owes_as _ _ (Path _) unpacks.unpack-said.ensures known.in-Path.is).1, omega arith, pre.0, pre.1, pre.2)

enum-known-said-2 : tie.Need-enum_known-said-in-Step-1
enum-known-said-2 c = search rules

mark-step-requires : tie.Need-mark_step-requires
mark-step-requires c κs = let known = c in
    let unpacks = known in
    let pre = unpacks.requires in
    ((step_fits _ _ _ unpacks.unpack-said.ensures known.in-Step.is).0, (step_fits _ _ _ unpacks.unpack-said.ensures known.in-Step.is).1, pre.0, pre.1, pre.2)

mul-marks : tie.Need-offset_bounds-marks-place-in_default
mul-marks c = search rules

slice-write-marks : tie.Need-bounds-marks-place-in_default
slice-write-marks c = search rules

same_length : tie.Need-shape_of-marks-in-Path
same_length c = search rules

returns : tie.Need-returns-in-Path
returns c = let put = c in
    let known = put in
    let unpacks = known in
    put.mark_path.ensures ∙ turn_path _ _ _ _ _ _ unpacks.unpack-said.ensures known.in-Path.is

same-length-2 : tie.Need-shape_of-marks-in-Step
same-length-2 c = search rules

returns-2 : tie.Need-returns-in-Step
returns-2 c = let put = c in
    let known = put in
    let unpacks = known in
    put.mark_step.ensures ∙ turn_step _ _ _ _ _ _ unpacks.unpack-said.ensures known.in-Step.is

same-length-3 : tie.Need-shape_of-marks-in_default
same-length-3 c = search rules

returns-3 : tie.Need-returns-in_default
returns-3 c = turn_other _ _ _ _ _ c.unpack-said.ensures c.in_default.in_default-own.keys3

pub mark_item_spec : {M : Type 1} → statement M
mark_item_spec =
    tie.close
    (tie.spec
    mul-w
    shared-slice-read-w
    unpack-requires
    enum-known-said
    mul-last
    slice-read-last
    cast-last
    mark-path-requires
    enum-known-said-2
    mark-step-requires
    mul-marks
    slice-write-marks
    same_length
    returns
    same-length-2
    returns-2
    same-length-3
    returns-3)
