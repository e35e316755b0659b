-- `halyardfig_compose_lean` meets its contract: the code of what `compose_lean::compose_lean` answers, which is small, and what that writes. Assumes nothing.
use borrow.Author.Rules.{rules}
use Rattle.lean_theorems.proofs.Bounded.{lean_small}
use Rattle.code.proofs.Coding.{coded}
use Rattle.halyardfig.proofs.halyardfig_compose_lean.Statement.{statement}
use Rattle.halyardfig.proofs.halyardfig_compose_lean.Tie as tie

compose-lean-requires : tie.Need-compose_lean-requires
compose-lean-requires c κs = search rules

code-requires : tie.Need-code-requires
code-requires c κs = search rules

same_length : tie.Need-shape_of-out
same_length c = search rules

returns : tie.Need-returns
returns c =
    let said = c.compose_lean.ensures in
    (coded said.0 (lean_small _ _ _) c.code.ensures.0, said.1)

pub halyardfig_compose_lean_spec : {M : Type 1} → statement M
halyardfig_compose_lean_spec = tie.close (tie.spec compose-lean-requires code-requires same_length returns)
