-- `tell` meets its contract: where nothing stands, nothing is stored. Assumes nothing.
use mathlib.Core.Path.{sym}
use lib.Seq.{set_out}
use borrow.Author.Rules.{rules}
use Rattle.lean_marks.proofs.tell.Statement.{statement}
use Rattle.lean_marks.proofs.tell.Tie as tie
use Rattle.lean_marks.proofs.tell.Reads as reads
use Rattle.lean_marks.proofs.tell.Lts as lts

mul-marks : tie.Need-offset_bounds-marks-at
mul-marks c = search rules

slice-write-marks : tie.Need-bounds-marks-at
slice-write-marks c = search rules

same_length : tie.Need-shape_of-marks
same_length c = search rules

returns : tie.Need-returns-then-at-marks
returns c = search rules

returns-2 : tie.Need-returns-else-at-marks
returns-2 c = sym (set_out _ _ _ c.if-at-marks.false)

pub tell_spec : {M : Type 1} → statement M
tell_spec = tie.close (tie.spec mul-marks slice-write-marks same_length returns returns-2)
