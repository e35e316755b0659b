-- `halyardfig_extract` meets its contract: the code of what `extract::extract` answers, which is small, and what that writes. Assumes nothing.
use borrow.Author.Rules.{rules}
use Rattle.answer_bounds.proofs.Bounds.{extract_small}
use Rattle.code.proofs.Coding.{coded}
use Rattle.halyardfig.proofs.halyardfig_extract.Statement.{statement}
use Rattle.halyardfig.proofs.halyardfig_extract.Tie as tie

extract-requires : tie.Need-extract-requires
extract-requires c κs = search rules

code-requires : tie.Need-code-requires
code-requires c κs = search rules

same_length : tie.Need-shape_of-out_parent
same_length c = search rules

same-length-2 : tie.Need-shape_of-out_kind
same-length-2 c = search rules

returns : tie.Need-returns
returns c =
    let said = c.extract.ensures in
    (coded said.0 (extract_small _ _ _ _) c.code.ensures.0, said.1)

pub halyardfig_extract_spec : {M : Type 1} → statement M
halyardfig_extract_spec = tie.close (tie.spec extract-requires code-requires same_length same-length-2 returns)
