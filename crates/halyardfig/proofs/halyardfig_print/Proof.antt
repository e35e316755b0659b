-- `halyardfig_print` meets its contract: the code of what `print::print` answers, which is small, and what that writes. Assumes nothing.
use borrow.Author.Rules.{rules}
use Rattle.answer_bounds.proofs.Bounds.{print_small}
use Rattle.code.proofs.Coding.{coded}
use Rattle.halyardfig.proofs.halyardfig_print.Statement.{statement}
use Rattle.halyardfig.proofs.halyardfig_print.Tie as tie

print-requires : tie.Need-print-requires
print-requires c κs = search rules

code-requires : tie.Need-code-requires
code-requires c κs = search rules

same_length : tie.Need-shape_of-out
same_length c = search rules

returns : tie.Need-returns
returns c =
    let said = c.print.ensures in
    (coded said.0 (print_small _ _ _ _) c.code.ensures.0, said.1)

pub halyardfig_print_spec : {M : Type 1} → statement M
halyardfig_print_spec = tie.close (tie.spec print-requires code-requires same_length returns)
