-- `halyardfig_follow` meets its contract: the code of what `follow::follow` answers, which is small, and what that writes. Assumes nothing.
use borrow.Author.Rules.{rules}
use Rattle.answer_bounds.proofs.Bounds.{run_small}
use Rattle.code.proofs.Coding.{coded}
use Rattle.halyardfig.proofs.halyardfig_follow.Statement.{statement}
use Rattle.halyardfig.proofs.halyardfig_follow.Tie as tie

follow-requires : tie.Need-follow-requires
follow-requires c κs = search rules

code-requires : tie.Need-code-requires
code-requires c κs = search rules

same_length : tie.Need-shape_of-marks
same_length c = search rules

returns : tie.Need-returns
returns c =
    let said = c.follow.ensures in
    (coded said.0 (run_small _ _ _ _ _) c.code.ensures.0, said.1)

pub halyardfig_follow_spec : {M : Type 1} → statement M
halyardfig_follow_spec = tie.close (tie.spec follow-requires code-requires same_length returns)
