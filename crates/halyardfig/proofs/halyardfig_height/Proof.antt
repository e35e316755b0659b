-- `halyardfig_height` meets its contract: the code of what `room::height` answers, which is small. Assumes nothing.
use borrow.Author.Rules.{rules}
use Rattle.answer_bounds.proofs.Bounds.{height_small}
use Rattle.code.proofs.Coding.{coded}
use Rattle.halyardfig.proofs.halyardfig_height.Statement.{statement}
use Rattle.halyardfig.proofs.halyardfig_height.Tie as tie

height-requires : tie.Need-height-requires
height-requires c κs = search rules

code-requires : tie.Need-code-requires
code-requires c κs = search rules

returns : tie.Need-returns
returns c = coded c.height.ensures (height_small _) c.code.ensures.0

pub halyardfig_height_spec : {M : Type 1} → statement M
halyardfig_height_spec = tie.close (tie.spec height-requires code-requires returns)
