-- `reverse::selected_size` meets its contract: a query has at least one path and no more paths than items. Assumes nothing.
use native.Mathlib.Omega.{arith}
use Rattle.reverse.proofs.Selected.{paths-got, selected-got}
use Rattle.reverse.proofs.selected_size.Statement.{statement}
use Rattle.reverse.proofs.selected_size.Tie as tie

mul-result : tie.Need-overflow_mul-result
mul-result c = let few = paths-got c.args.inner.now c.requires.0 in omega (arith, c.requires.1, c.requires.2)

add-result : tie.Need-overflow_add-result
add-result c = let few = paths-got c.args.inner.now c.requires.0 in omega (arith, c.requires.1, c.requires.2)

sub-result : tie.Need-overflow_sub-result
sub-result c = let few = paths-got c.args.inner.now c.requires.0 in omega (arith, c.requires.1, c.requires.2)

returns : tie.Need-returns
returns c = let few = paths-got c.args.inner.now c.requires.0 in
    let is = selected-got c.args.inner.now c.requires.0 in
    (omega (arith, c.requires.2), omega (arith, c.requires.1, c.requires.2))

pub selected_size_spec : {M : Type 1} → statement M
selected_size_spec = tie.close (tie.spec mul-result add-result sub-result returns)
