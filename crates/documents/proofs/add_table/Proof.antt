-- `documents::add_table` meets its contract: the marks lent are as many as the nodes. Assumes nothing.
use native.Mathlib.Omega.{arith}
use mathlib.Core.Path.{sym}
use lib.Seq.{length-take-le}
use borrow.Author.Rules.{rules}
use Rattle.documents.proofs.add_table.Statement.{statement}
use Rattle.documents.proofs.add_table.Tie as tie

array-borrow-prefix-marks : tie.Need-slice_bounds-marks-end
array-borrow-prefix-marks c = search rules

slice-aggregate-add-marked : tie.Need-slice_bounds-add_marked-end
slice-aggregate-add-marked c = sym (length-take-le _ _ (search rules))

add-marked-requires : tie.Need-add_marked-requires
add-marked-requires c κs =
    let start = c in
    (start.requires.0, start.requires.1, length-take-le _ _ (omega (arith, start.requires.0)))

same_length : tie.Need-shape_of-all
same_length c = search rules

same-length-2 : tie.Need-shape_of-kept
same-length-2 c = search rules

same-length-3 : tie.Need-shape_of-hidden
same-length-3 c = search rules

same-length-4 : tie.Need-shape_of-refusals
same-length-4 c = search rules

returns : tie.Need-returns
returns c = c.add_marked.ensures

pub add_table_spec : {M : Type 1} → statement M
add_table_spec =
    tie.close
    (tie.spec
    array-borrow-prefix-marks
    slice-aggregate-add-marked
    add-marked-requires
    same_length
    same-length-2
    same-length-3
    same-length-4
    returns)
