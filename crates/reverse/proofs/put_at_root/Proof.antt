-- `reverse::put_at_root` meets its contract: three items, one after the other. Assumes nothing.
use Prim.Native.Nat.{ℕ, ◌+◌}
use native.Mathlib.Omega.{arith}
use mathlib.Core.Path.{refl, ◌∙◌, ap}
use mathlib.Core.List.{List, [], ◌∷◌}
use lib.ListN.{set, length-set}
use Rattle.paper.specs.Items.{pack_path, not_item}
use Rattle.item.specs.Placed.{placed}
use Rattle.item.proofs.Placing.{then_one, two_put}
use borrow.Author.Rules.{rules}
use Rattle.reverse.proofs.put_at_root.Statement.{statement}
use Rattle.reverse.proofs.put_at_root.Tie as tie

mul-out : tie.Need-offset_bounds-out-at
mul-out c = search rules

slice-write-out : tie.Need-bounds-out-at
slice-write-out c = search rules

pack-path-requires : tie.Need-pack_path-requires
pack-path-requires c κs = search rules

add-out : tie.Need-overflow_add-out
add-out c = search rules

mul-out-2 : tie.Need-offset_bounds-out-at-2
mul-out-2 c = search rules

slice-write-out-2 : tie.Need-bounds-out-at-2
slice-write-out-2 c = simp length-set (omega arith)

pack-step-requires : tie.Need-pack_step-requires
pack-step-requires c κs = search rules

add-out-2 : tie.Need-overflow_add-out-2
add-out-2 c = search rules

mul-out-3 : tie.Need-offset_bounds-out-at-3
mul-out-3 c = search rules

slice-write-out-3 : tie.Need-bounds-out-at-3
slice-write-out-3 c = simp length-set (omega arith)

same_length : tie.Need-shape_of-out
same_length c = search rules

returns : tie.Need-returns
returns c =
    let old = c.args.out.now in
    let at = c.args.at in
    ap (λ (x : List ℕ). set x (at + 2) c.pack_step.result) (two_put old at not_item c.pack_path.result not_item (pack_path 1) refl c.pack_path.ensures (omega arith)) ∙
    ap (set (placed (not_item ∷ pack_path 1 ∷ []) at old) (at + 2)) c.pack_step.ensures ∙
    then_one (not_item ∷ pack_path 1 ∷ []) old at (at + 2) 17 refl (omega arith)

pub put_at_root_spec : {M : Type 1} → statement M
put_at_root_spec =
    tie.close
    (tie.spec
    mul-out
    slice-write-out
    pack-path-requires
    add-out
    mul-out-2
    slice-write-out-2
    pack-step-requires
    add-out-2
    mul-out-3
    slice-write-out-3
    same_length
    returns)
