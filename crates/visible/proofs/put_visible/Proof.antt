-- `visible::put_visible` meets its contract: `or`, then the two axes, each with S. Assumes nothing.
use Prim.Native.Nat.{ℕ, ◌+◌}
use native.Mathlib.Omega.{arith}
use mathlib.Core.Path.{◌≡◌, refl}
use mathlib.Core.List.{List, [], ◌∷◌}
use lib.ListN.{length, take, drop, length-set, length-append}
use Rattle.paper.specs.Query.{descendant_or_self, ancestor_or_self}
use Rattle.paper.specs.Items.{or_item, axis_number}
use Rattle.item.specs.Placed.{placed}
use Rattle.item.proofs.Placing.{placed_one, same_size}
use Rattle.visible.specs.Visible.{some_node_items, visible_items}
use Rattle.visible.proofs.Copying.{then_chosen, part_length}
use borrow.Author.Rules.{rules}
use Rattle.visible.proofs.put_visible.Statement.{statement}
use Rattle.visible.proofs.put_visible.Tie as tie

-- What is lent: the items as they were, and S among them.
abbrev old : tie.Start → List ℕ
old start = start.args.out.now

abbrev chosen : tie.Start → List ℕ
chosen start = take start.args.count (drop start.args.from (old start))

long : (start : tie.Start) → length (chosen start) ≡ start.args.count
long start = part_length (old start) start.args.from start.args.count (omega arith)

-- After the first half: `or`, and all below with S.
abbrev begun : tie.After-put_some_node-second → tie.Start
begun c = c.before.before.before

first : (c : tie.After-put_some_node-second) → c.put_some_node-second.new.out ≡ placed (or_item ∷ some_node_items (axis_number descendant_or_self) (chosen (begun c))) (begun c).args.at (old (begun c))
first c =
    let start = begun c in
    let at = start.args.at in
    then_chosen (some_node_items (axis_number descendant_or_self)) (or_item ∷ []) (old start) _ c.put_some_node-second.new.out at (at + 1) start.args.from start.args.count (placed_one (old start) at or_item (omega arith)) c.put_some_node-second.ensures.0 refl
    (omega arith) (omega arith)

-- After the second: all above with S.
abbrev half : tie.After-put_some_node → tie.After-put_some_node-second
half c = c.before.before.before.before

wrote : (c : tie.After-put_some_node) → c.put_some_node.new.out ≡ placed (visible_items (chosen (begun (half c)))) (begun (half c)).args.at (old (begun (half c)))
wrote c =
    let start = begun (half c) in
    let at = start.args.at in
    let len = long start in
    let ends = (half c).put_some_node-second.ensures.1 in
    then_chosen (some_node_items (axis_number ancestor_or_self)) (or_item ∷ some_node_items (axis_number descendant_or_self) (chosen start)) (old start) _ c.put_some_node.new.out at (half c).put_some_node-second.result start.args.from start.args.count (first (half c)) c.put_some_node.ensures.0
    (omega arith) (omega arith) (omega arith)

mul-out : tie.Need-offset_bounds-out-at
mul-out c = search rules

slice-write-out : tie.Need-bounds-out-at
slice-write-out c = search rules

add-put-some-node : tie.Need-overflow_add-at
add-put-some-node c = search rules

put-some-node-requires : tie.Need-put_some_node-second-requires
put-some-node-requires c κs = (omega arith, omega arith, simp length-set (omega arith))

put-some-node-requires-2 : tie.Need-put_some_node-requires
put-some-node-requires-2 c κs =
    let one = c in
    let start = begun one.before.before.before in
    let len = long start in
    (omega arith, omega (arith, one.put_some_node-second.ensures.1), omega (arith, same_size (or_item ∷ some_node_items (axis_number descendant_or_self) (chosen start)) (old start) _ start.args.at (first one.before.before.before) (omega arith)))

same_length : tie.Need-shape_of-out
same_length c =
    let both = c in
    let start = begun (half both.before.before) in
    let len = long start in
    same_size (visible_items (chosen start)) (old start) _ start.args.at (wrote both.before.before) (omega (arith, length-append (some_node_items (axis_number descendant_or_self) (chosen start)) (some_node_items (axis_number ancestor_or_self) (chosen start))))

returns : tie.Need-returns
returns c =
    let both = c in
    (wrote both.before.before, omega (arith, (half both.before.before).put_some_node-second.ensures.1, both.put_some_node.ensures.1))

pub put_visible_spec : {M : Type 1} → statement M
put_visible_spec =
    tie.close
    (tie.spec
    mul-out
    slice-write-out
    add-put-some-node
    put-some-node-requires
    put-some-node-requires-2
    same_length
    returns)
