-- `visible::put_last` meets its contract: the step, then the path with S. Assumes nothing.
use Prim.Native.Nat.{ℕ, ◌+◌}
use native.Mathlib.Omega.{arith}
use mathlib.Core.Path.{◌≡◌, refl, ◌∙◌, ap}
use mathlib.Core.List.{List, [], ◌∷◌}
use lib.ListN.{length, take, drop, set, length-set}
use Rattle.paper.specs.Query.{descendant_or_self, ancestor_or_self, any_node}
use Rattle.paper.specs.Items.{axis_number, test_number}
use Rattle.item.specs.Unpacked.{packed}
use Rattle.item.specs.Placed.{placed}
use Rattle.item.proofs.Placing.{placed_one, same_size}
use Rattle.visible.specs.Visible.{some_node_items, last_items}
use Rattle.visible.proofs.Copying.{then_chosen, part_length}
use borrow.Author.Rules.{rules}
use Rattle.visible.proofs.put_last.Statement.{statement}
use Rattle.visible.proofs.put_last.Tie as tie

-- What is lent: the items as they were, and S among them.
abbrev old : tie.Start → List ℕ
old start = start.args.out.now

abbrev chosen : tie.Start → List ℕ
chosen start = take start.args.count (drop start.args.from (old start))

long : (start : tie.Start) → length (chosen start) ≡ start.args.count
long start = part_length (old start) start.args.from start.args.count (omega arith)

-- After both are written.
abbrev begun : tie.After-put_some_node → tie.Start
begun c = c.before.before.before.before

wrote : (c : tie.After-put_some_node) → c.put_some_node.new.out ≡ placed (last_items (chosen (begun c))) (begun c).args.at (old (begun c))
wrote c =
    let start = begun c in
    let at = start.args.at in
    let head = packed (record { axis = axis_number descendant_or_self; test = test_number any_node; count = 1 }) in
    then_chosen (some_node_items (axis_number ancestor_or_self)) (head ∷ []) (old start) _ c.put_some_node.new.out at (at + 1) start.args.from start.args.count
    (ap (set (old start) at) c.pack_step.ensures ∙ placed_one (old start) at head (omega arith)) c.put_some_node.ensures.0 refl (omega arith) (omega arith)

pack-step-requires : tie.Need-pack_step-requires
pack-step-requires c κs = search rules

mul-out : tie.Need-offset_bounds-out-at
mul-out c = search rules

slice-write-out : tie.Need-bounds-out-at
slice-write-out c = search rules

add-put-some-node : tie.Need-overflow_add-at
add-put-some-node c = search rules

put-some-node-requires : tie.Need-put_some_node-requires
put-some-node-requires c κs = (omega arith, omega arith, simp length-set (omega arith))

same_length : tie.Need-shape_of-out
same_length c =
    let start = begun c.before.before in
    let len = long start in
    same_size (last_items (chosen start)) (old start) _ start.args.at (wrote c.before.before) (omega arith)

returns : tie.Need-returns
returns c = (wrote c.before.before, omega (arith, c.put_some_node.ensures.1))

pub put_last_spec : {M : Type 1} → statement M
put_last_spec =
    tie.close
    (tie.spec
    pack-step-requires
    mul-out
    slice-write-out
    add-put-some-node
    put-some-node-requires
    same_length
    returns)
