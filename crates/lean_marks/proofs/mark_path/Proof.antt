-- `mark_path` meets its contract: the first step is told, and behind a top-level path the next one. Assumes nothing.
use mathlib.Core.Path.{sym, ◌∙◌, ap}
use lib.ListN.{length}
use Rattle.lean_marks.proofs.Telling.{path_top, path_inner, path_length}
use borrow.Author.Rules.{rules}
use Rattle.lean_marks.proofs.mark_path.Statement.{statement}
use Rattle.lean_marks.proofs.mark_path.Tie as tie
use Rattle.lean_marks.proofs.mark_path.Reads as reads
use Rattle.lean_marks.proofs.mark_path.Lts as lts
use Rattle.lean_marks.proofs.pass_on.Reads as pass-on-reads
use Rattle.lean_marks.proofs.tell.Reads as tell-reads
use Rattle.owed.proofs.skip.Reads as skip-reads

mul-marks : tie.Need-offset_bounds-marks-place
mul-marks c = search rules

slice-write-marks : tie.Need-bounds-marks-place
slice-write-marks c = search rules

add-pass-on : tie.Need-overflow_add-place
add-pass-on c = search rules

pass-on-requires : tie.Need-pass_on-requires
pass-on-requires c κs = search rules

add-skip : tie.Need-overflow_add-place-then-last-eq1
add-skip c = search rules

skip-requires : tie.Need-skip-next-requires
skip-requires c κs = search rules

tell-requires : tie.Need-tell-requires
tell-requires c κs = search rules

same_length : tie.Need-shape_of-marks-then-last-eq1
same_length c = let put = c in
    let top = put in
    let passed = top in
    let a = passed.args in
    ap length (path_top a.items.now a.marks.now passed.pass_on.new.marks put.tell.new.marks a.place a.w a.count a.last _ top.if-last-eq1.true passed.pass_on.ensures put.skip-next.ensures.0 put.tell.ensures) ∙ path_length a.items.now a.place a.w a.count a.last a.marks.now

returns : tie.Need-returns-then-last-eq1
returns c = let put = c in
    let top = put in
    let passed = top in
    let a = passed.args in
    path_top a.items.now a.marks.now passed.pass_on.new.marks put.tell.new.marks a.place a.w a.count a.last _ top.if-last-eq1.true passed.pass_on.ensures put.skip-next.ensures.0 put.tell.ensures

same-length-2 : tie.Need-shape_of-marks-else-last-eq1
same-length-2 c = let passed = c in
    let a = passed.args in
    ap length (path_inner a.items.now a.marks.now passed.pass_on.new.marks a.place a.w a.count a.last c.if-last-eq1.false passed.pass_on.ensures) ∙ path_length a.items.now a.place a.w a.count a.last a.marks.now

returns-2 : tie.Need-returns-else-last-eq1
returns-2 c = let passed = c in
    let a = passed.args in
    path_inner a.items.now a.marks.now passed.pass_on.new.marks a.place a.w a.count a.last c.if-last-eq1.false passed.pass_on.ensures

pub mark_path_spec : {M : Type 1} → statement M
mark_path_spec =
    tie.close
    (tie.spec
    mul-marks
    slice-write-marks
    add-pass-on
    pass-on-requires
    add-skip
    skip-requires
    tell-requires
    same_length
    returns
    same-length-2
    returns-2)
