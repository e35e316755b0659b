-- `guards::keep_item` meets its contract: one item is written at its place. Assumes nothing.
use mathlib.Core.Path.{refl}
use Rattle.item.proofs.Placing.{placed_one}
use borrow.Author.Rules.{rules}
use Rattle.guards.proofs.keep_item.Statement.{statement}
use Rattle.guards.proofs.keep_item.Tie as tie

mul-out : tie.Need-offset_bounds-out-at
mul-out c = search rules

slice-write-out : tie.Need-bounds-out-at
slice-write-out c = search rules

add-result : tie.Need-overflow_add-result
add-result c = search rules

same_length : tie.Need-shape_of-out
same_length c = search rules

returns : tie.Need-returns
returns c =
    let a = c.args in
    (placed_one a.out.now a.at a.w c.requires, refl)

pub keep_item_spec : {M : Type 1} → statement M
keep_item_spec = tie.close (tie.spec mul-out slice-write-out add-result same_length returns)
