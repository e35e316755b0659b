-- `whole::run_whole` meets its contract: what it lends for the given marks is a one for each node. Assumes nothing.
use mathlib.Core.Path.{sym}
use lib.ListN.{length}
use lib.Seq.{length-take-le}
use Rattle.paper.specs.Limits.{node_limit}
use Rattle.whole.proofs.Ones.{take_ones}
use borrow.Author.Rules.{rules}
use Rattle.whole.proofs.run_whole.Statement.{statement}
use Rattle.whole.proofs.run_whole.Tie as tie

array-share-prefix-given : tie.Need-slice_bounds-given-end
array-share-prefix-given c = search rules

slice-aggregate-run : tie.Need-slice_bounds-run-end
slice-aggregate-run c = sym (length-take-le _ _ (search rules))

run-requires : tie.Need-run-requires
run-requires c κs = search rules

same_length : tie.Need-shape_of-marks
same_length c = search rules

same-length-2 : tie.Need-shape_of-scratch
same-length-2 c = search rules

returns : tie.Need-returns
returns c =
    let ran = c in
    let start = ran in
    rw (take_ones (length start.args.parent.now) node_limit start.requires) at ran.run.ensures

pub run_whole_spec : {M : Type 1} → statement M
run_whole_spec =
    tie.close (tie.spec array-share-prefix-given slice-aggregate-run run-requires same_length same-length-2 returns)
