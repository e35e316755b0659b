-- `halyardfig_paths` meets its contract: the code of what `room::paths` answers, which is small. Assumes nothing.
use borrow.Author.Rules.{rules}
use Rattle.answer_bounds.proofs.Bounds.{paths_small}
use Rattle.code.proofs.Coding.{coded}
use Rattle.halyardfig.proofs.halyardfig_paths.Statement.{statement}
use Rattle.halyardfig.proofs.halyardfig_paths.Tie as tie

paths-requires : tie.Need-paths-requires
paths-requires c κs = search rules

code-requires : tie.Need-code-requires
code-requires c κs = search rules

returns : tie.Need-returns
returns c = coded c.paths.ensures (paths_small _) c.code.ensures.0

pub halyardfig_paths_spec : {M : Type 1} → statement M
halyardfig_paths_spec = tie.close (tie.spec paths-requires code-requires returns)
