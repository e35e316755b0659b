-- `visible::put_some_node` meets its contract: two items, then S. Assumes nothing.
use Prim.Native.Nat.{ℕ, ◌+◌}
use native.Mathlib.Omega.{arith}
use mathlib.Core.Path.{◌≡◌, refl}
use mathlib.Core.List.{List, [], ◌∷◌}
use lib.ListN.{take, drop, length-set}
use Rattle.paper.specs.Items.{pack_path}
use Rattle.item.specs.Unpacked.{packed}
use Rattle.item.specs.Placed.{placed}
use Rattle.item.proofs.Placing.{two_put, same_size}
use Rattle.visible.specs.Visible.{some_node_items}
use Rattle.visible.proofs.Copying.{then_chosen, part_length}
use borrow.Author.Rules.{rules}
use Rattle.visible.proofs.put_some_node.Statement.{statement}
use Rattle.visible.proofs.put_some_node.Tie as tie

-- What is lent: the items as they were, and S among them.
abbrev old : tie.Start → List ℕ
old start = start.args.out.now

abbrev chosen : tie.Start → List ℕ
chosen start = take start.args.count (drop start.args.from (old start))

-- After all is written.
abbrev begun : tie.After-copy → tie.Start
begun c = c.before.before.before.before.before

wrote : (c : tie.After-copy) → c.copy.new.out ≡ placed (some_node_items (begun c).args.axis (chosen (begun c))) (begun c).args.at (old (begun c))
wrote c =
    let start = begun c in
    let at = start.args.at in
    let step = packed (record { axis = start.args.axis; test = 0; count = 1 }) in
    let path = c.pack_path in
    let stepped = c.pack_step in
    then_chosen (λ x. x) (pack_path 1 ∷ step ∷ []) (old start) _ c.copy.new.out at (at + 2) start.args.from start.args.count
    (two_put (old start) at path.result stepped.result (pack_path 1) step path.ensures stepped.ensures (omega arith)) c.copy.ensures refl (omega arith) (omega arith)

pack-path-requires : tie.Need-pack_path-requires
pack-path-requires c κs = search rules

mul-out : tie.Need-offset_bounds-out-at
mul-out c = search rules

slice-write-out : tie.Need-bounds-out-at
slice-write-out c = search rules

pack-step-requires : tie.Need-pack_step-requires
pack-step-requires c κs = search rules

add-out : tie.Need-overflow_add-out
add-out c = search rules

mul-out-2 : tie.Need-offset_bounds-out-at-2
mul-out-2 c = search rules

slice-write-out-2 : tie.Need-bounds-out-at-2
slice-write-out-2 c = simp length-set (omega arith)

add-copy : tie.Need-overflow_add-at
add-copy c = search rules

copy-requires : tie.Need-copy-requires
copy-requires c κs = (omega arith, simp length-set (omega arith))

add-result : tie.Need-overflow_add-result
add-result c = search rules

add-result-2 : tie.Need-overflow_add-result-2
add-result-2 c = search rules

same_length : tie.Need-shape_of-out
same_length c =
    let start = begun c.before.before in
    same_size (some_node_items start.args.axis (chosen start)) (old start) _ start.args.at (wrote c.before.before) (omega (arith, part_length (old start) start.args.from start.args.count (omega arith)))

returns : tie.Need-returns
returns c = (wrote c.before.before, refl)

pub put_some_node_spec : {M : Type 1} → statement M
put_some_node_spec =
    tie.close
    (tie.spec
    pack-path-requires
    mul-out
    slice-write-out
    pack-step-requires
    add-out
    mul-out-2
    slice-write-out-2
    add-copy
    copy-requires
    add-result
    add-result-2
    same_length
    returns)
