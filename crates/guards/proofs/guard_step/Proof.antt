-- `guards::guard_step` meets its contract: the step with its count raised, then V. Assumes nothing.
use Prim.Native.Nat.{ℕ, ◌+◌}
use native.Mathlib.Omega.{arith}
use mathlib.Core.Path.{◌≡◌, refl, ◌∙◌, ap}
use mathlib.Core.List.{List, [], ◌∷◌}
use lib.ListN.{take, drop, set, length-set, length-append}
use Rattle.paper.specs.Query.{descendant_or_self, ancestor_or_self}
use Rattle.paper.specs.Items.{axis_number}
use Rattle.item.specs.Unpacked.{packed}
use Rattle.item.specs.Placed.{placed}
use Rattle.item.proofs.Placing.{placed_one, same_size}
use Rattle.visible.specs.Visible.{some_node_items, visible_items}
use Rattle.guards.specs.Guarded.{guarded_step}
use Rattle.visible.proofs.Copying.{then_chosen, part_length}
use borrow.Author.Rules.{rules}
use Rattle.guards.proofs.guard_step.Statement.{statement}
use Rattle.guards.proofs.guard_step.Tie as tie

-- What is lent: the items as they were, and S among them.
abbrev old : tie.Start → List ℕ
old start = start.args.out.now

abbrev chosen : tie.Start → List ℕ
chosen start = take start.args.count (drop start.args.from (old start))

-- After both are written.
abbrev begun : tie.After-put_visible → tie.Start
begun c = c.before.before.before.before.before

abbrev new : tie.After-put_visible → List ℕ
new c = c.put_visible.new.out

wrote : (c : tie.After-put_visible) → new c ≡ placed (guarded_step (chosen (begun c)) (begun c).args.step) (begun c).args.at (old (begun c))
wrote c =
    let start = begun c in
    let at = start.args.at in
    let from = start.args.from in
    let count = start.args.count in
    let step = start.args.step in
    let head = packed (record { axis = step.axis; test = step.test; count = step.count + 1 }) in
    then_chosen visible_items (head ∷ []) (old start) _ (new c) at (at + 1) from count (ap (set (old start) at) c.pack_step.ensures ∙ placed_one (old start) at head (omega arith)) c.put_visible.ensures.0
    refl (omega arith) (omega arith)

add-put-visible : tie.Need-overflow_add-step
add-put-visible c = search rules

pack-step-requires : tie.Need-pack_step-requires
pack-step-requires c κs = search rules

mul-out : tie.Need-offset_bounds-out-at
mul-out c = search rules

slice-write-out : tie.Need-bounds-out-at
slice-write-out c = search rules

add-put-visible-2 : tie.Need-overflow_add-at
add-put-visible-2 c = search rules

put-visible-requires : tie.Need-put_visible-requires
put-visible-requires c κs = (omega arith, simp length-set (omega arith))

same_length : tie.Need-shape_of-out
same_length c =
    let put = c in
    let start = begun put.before.before in
    let len = part_length (old start) start.args.from start.args.count (omega arith) in
    same_size (guarded_step (chosen start) start.args.step) (old start) _ start.args.at (wrote put.before.before)
    (omega (arith, length-append (some_node_items (axis_number descendant_or_self) (chosen start)) (some_node_items (axis_number ancestor_or_self) (chosen start))))

returns : tie.Need-returns
returns c = (wrote c.before.before, omega (arith, c.put_visible.ensures.1))

pub guard_step_spec : {M : Type 1} → statement M
guard_step_spec =
    tie.close
    (tie.spec
    add-put-visible
    pack-step-requires
    mul-out
    slice-write-out
    add-put-visible-2
    put-visible-requires
    same_length
    returns)
