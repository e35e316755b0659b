-- `halyardfig_read` meets its contract: the code of what `read::read` answers, which is small, and what that writes. Assumes nothing.
use borrow.Author.Rules.{rules}
use Rattle.answer_bounds.proofs.Bounds.{read_small}
use Rattle.code.proofs.Coding.{coded}
use Rattle.halyardfig.proofs.halyardfig_read.Statement.{statement}
use Rattle.halyardfig.proofs.halyardfig_read.Tie as tie

read-requires : tie.Need-read-requires
read-requires c κs = search rules

code-requires : tie.Need-code-requires
code-requires c κs = search rules

same_length : tie.Need-shape_of-out
same_length c = search rules

returns : tie.Need-returns
returns c =
    let said = c.read.ensures in
    (coded said.0 (read_small _ _ _ _) c.code.ensures.0, said.1)

pub halyardfig_read_spec : {M : Type 1} → statement M
halyardfig_read_spec = tie.close (tie.spec read-requires code-requires same_length returns)
