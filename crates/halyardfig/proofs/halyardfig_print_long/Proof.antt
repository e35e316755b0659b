-- `halyardfig_print_long` meets its contract: the code of what `print::print_long` answers, which is small, and what that writes. Assumes nothing.
use borrow.Author.Rules.{rules}
use Rattle.answer_bounds.proofs.Bounds.{print_small}
use Rattle.code.proofs.Coding.{coded}
use Rattle.halyardfig.proofs.halyardfig_print_long.Statement.{statement}
use Rattle.halyardfig.proofs.halyardfig_print_long.Tie as tie

print-long-requires : tie.Need-print_long-requires
print-long-requires c κs = search rules

code-requires : tie.Need-code-requires
code-requires c κs = search rules

same_length : tie.Need-shape_of-out
same_length c = search rules

returns : tie.Need-returns
returns c =
    let said = c.print_long.ensures in
    (coded said.0 (print_small _ _ _ _) c.code.ensures.0, said.1)

pub halyardfig_print_long_spec : {M : Type 1} → statement M
halyardfig_print_long_spec = tie.close (tie.spec print-long-requires code-requires same_length returns)
