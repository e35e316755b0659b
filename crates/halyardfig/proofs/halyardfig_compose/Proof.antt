-- `halyardfig_compose` meets its contract: the code of what `compose::compose` answers, which is small, and what that writes. Assumes nothing.
use borrow.Author.Rules.{rules}
use Rattle.answer_bounds.proofs.Bounds.{compose_small}
use Rattle.code.proofs.Coding.{coded}
use Rattle.halyardfig.proofs.halyardfig_compose.Statement.{statement}
use Rattle.halyardfig.proofs.halyardfig_compose.Tie as tie

compose-requires : tie.Need-compose-requires
compose-requires c κs = search rules

code-requires : tie.Need-code-requires
code-requires c κs = search rules

same_length : tie.Need-shape_of-out
same_length c = search rules

returns : tie.Need-returns
returns c =
    let said = c.compose.ensures in
    (coded said.0 (compose_small _ _ _) c.code.ensures.0, said.1)

pub halyardfig_compose_spec : {M : Type 1} → statement M
halyardfig_compose_spec = tie.close (tie.spec compose-requires code-requires same_length returns)
