-- `halyardfig_is_cut` meets its contract: the code of what `cut::is_cut` answers, which is small. Assumes nothing.
use borrow.Author.Rules.{rules}
use Rattle.cut_theorems.proofs.Bounds.{is_cut_small}
use Rattle.code.proofs.Coding.{coded}
use Rattle.halyardfig.proofs.halyardfig_is_cut.Statement.{statement}
use Rattle.halyardfig.proofs.halyardfig_is_cut.Tie as tie

is-cut-requires : tie.Need-is_cut-requires
is-cut-requires c κs = search rules

code-requires : tie.Need-code-requires
code-requires c κs = search rules

returns : tie.Need-returns
returns c = coded c.is_cut.ensures (is_cut_small _ _ _) c.code.ensures.0

pub halyardfig_is_cut_spec : {M : Type 1} → statement M
halyardfig_is_cut_spec = tie.close (tie.spec is-cut-requires code-requires returns)
