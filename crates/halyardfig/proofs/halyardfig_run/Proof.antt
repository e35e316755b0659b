-- `halyardfig_run` meets its contract: the code of what `run::run` answers, which is small, and what that writes. Assumes nothing.
use borrow.Author.Rules.{rules}
use Rattle.answer_bounds.proofs.Bounds.{run_small}
use Rattle.code.proofs.Coding.{coded}
use Rattle.halyardfig.proofs.halyardfig_run.Statement.{statement}
use Rattle.halyardfig.proofs.halyardfig_run.Tie as tie

run-requires : tie.Need-run-requires
run-requires c κs = search rules

code-requires : tie.Need-code-requires
code-requires c κs = search rules

same_length : tie.Need-shape_of-marks
same_length c = search rules

same-length-2 : tie.Need-shape_of-scratch
same-length-2 c = search rules

returns : tie.Need-returns
returns c =
    let said = c.run.ensures in
    (coded said.0 (run_small _ _ _ _ _) c.code.ensures.0, said.1)

pub halyardfig_run_spec : {M : Type 1} → statement M
halyardfig_run_spec = tie.close (tie.spec run-requires code-requires same_length same-length-2 returns)
