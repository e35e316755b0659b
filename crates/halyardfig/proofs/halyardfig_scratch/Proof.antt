-- `halyardfig_scratch` meets its contract: the code of what `room::scratch` answers, which is small. Assumes nothing.
use borrow.Author.Rules.{rules}
use Rattle.answer_bounds.proofs.Bounds.{scratch_small}
use Rattle.code.proofs.Coding.{coded}
use Rattle.halyardfig.proofs.halyardfig_scratch.Statement.{statement}
use Rattle.halyardfig.proofs.halyardfig_scratch.Tie as tie

scratch-requires : tie.Need-scratch-requires
scratch-requires c κs = search rules

code-requires : tie.Need-code-requires
code-requires c κs = search rules

returns : tie.Need-returns
returns c = coded c.scratch.ensures (scratch_small _ _ _ _ _) c.code.ensures.0

pub halyardfig_scratch_spec : {M : Type 1} → statement M
halyardfig_scratch_spec = tie.close (tie.spec scratch-requires code-requires returns)
