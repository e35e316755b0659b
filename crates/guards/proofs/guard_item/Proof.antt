-- `guards::guard_item` meets its contract: a step that the item beside it names gets V, another item stays as it is. Assumes nothing.
use Prim.Native.Nat.{ℕ, ◌+◌, ◌<◌}
use native.Mathlib.Omega.{arith}
use mathlib.Core.Path.{◌≡◌, sym, ◌∙◌, ap}
use mathlib.Core.List.{List, [], ◌∷◌}
use lib.ListN.{length, take, drop}
use Rattle.item.specs.Placed.{placed}
use Rattle.item.proofs.Placing.{same_size}
use Rattle.guards.specs.Guarded.{guard_item, guarded_step, guarded_item}
use Rattle.visible.proofs.Copying.{part_length}
use Rattle.guards.proofs.Reading.{guarded_room, step_fields, unnamed_stays, no_step_guarded, step_guarded}
use borrow.Author.Rules.{rules}
use Rattle.guards.proofs.guard_item.Statement.{statement}
use Rattle.guards.proofs.guard_item.Tie as tie

-- What is lent: the items as they were, and S among them.
abbrev old : tie.Start → List ℕ
old start = start.args.out.now

abbrev chosen : tie.Start → List ℕ
chosen start = take start.args.count (drop start.args.from (old start))

abbrev flag : tie.Start → ℕ
flag start = guard_item start.args.says

abbrev items : tie.Start → List ℕ
items start = guarded_item (chosen start) (flag start) start.args.w

long : (start : tie.Start) → length (chosen start) ≡ start.args.count
long start = part_length (old start) start.args.from start.args.count (omega arith)

-- The item stays as it is: there is room for it, and where it is written the contract holds.
module _ (start : tie.Start) (stays : items start ≡ start.args.w ∷ []) where
  one_fits : start.args.at < length (old start)
  one_fits = omega (arith, ap length stays)

  module _ (out : List ℕ) (next : ℕ) (wrote : out ≡ placed (start.args.w ∷ []) start.args.at (old start)) (reached : next ≡ start.args.at + 1) where
    one_length : length out ≡ length (old start)
    one_length = same_size (start.args.w ∷ []) (old start) out start.args.at wrote (omega (arith, one_fits))

    one_done : (out ≡ placed (items start) start.args.at (old start)) × (next ≡ start.args.at + length (items start))
    one_done = (wrote ∙ ap (λ (x : List ℕ). placed x start.args.at (old start)) (sym stays), omega (arith, reached, ap length stays))

-- It is not named.
abbrev unnamed : tie.Then-guards-eq0 → tie.Start
unnamed c = c.before.before.before

unnamed_same : (c : tie.Then-guards-eq0) → items (unnamed c) ≡ (unnamed c).args.w ∷ []
unnamed_same c = unnamed_stays (chosen (unnamed c)) (flag (unnamed c)) _ (omega (arith, c.one_guard-guards.ensures, c.if-guards-eq0.true))

-- It is named.
abbrev begun : tie.Else-guards-eq0 → tie.Start
begun c = c.before.before.before

named : (c : tie.Else-guards-eq0) → flag (begun c) ≡ 0 → ⊥
named c e = omega (arith, c.one_guard-guards.ensures, c.if-guards-eq0.false, e)

-- It is no step.
abbrev other : tie.In_default → tie.Start
other c = begun c.before.before

other_stays : (c : tie.In_default) → items (other c) ≡ (other c).args.w ∷ []
other_stays c = no_step_guarded (chosen (other c)) (flag (other c)) _ _ c.unpack-said.ensures c.in_default.in_default-own.keys2

-- A step is written with V.
abbrev named_step : tie.In-Step → tie.Else-guards-eq0
named_step c = c.before.before

abbrev step_start : tie.In-Step → tie.Start
step_start c = begun (named_step c)

same_items : (c : tie.In-Step) → items (step_start c) ≡ guarded_step (chosen (step_start c)) c.in-Step.step
same_items c =
    step_guarded (chosen (step_start c)) (flag (step_start c)) _ _ _ (λ e. named (named_step c) e) c.unpack-said.ensures c.in-Step.is

room : (c : tie.In-Step) → length (items (step_start c)) ≡ 6 + length (chosen (step_start c)) + length (chosen (step_start c))
room c = guarded_room (chosen (step_start c)) (flag (step_start c)) _ _ (same_items c)

abbrev said : tie.After-guard_step → tie.In-Step
said c = c.before.before

wrote : (c : tie.After-guard_step) → c.guard_step.new.out ≡ placed (items (step_start (said c))) (step_start (said c)).args.at (old (step_start (said c)))
wrote c =
    let start = step_start (said c) in
    c.guard_step.ensures.0 ∙ ap (λ (x : List ℕ). placed x start.args.at (old start)) (sym (same_items (said c)))

one-guard-requires : tie.Need-one_guard-guards-requires
one-guard-requires c κs = search rules

keep-item-requires : tie.Need-keep_item-requires
keep-item-requires c κs = one_fits (unnamed c.before) (unnamed_same c.before)

same_length : tie.Need-shape_of-out-then-guards-eq0
same_length c =
    let put = c in
    let then = put in
    one_length (unnamed then.before.before.before.before) (unnamed_same then.before.before.before.before) _ _ put.keep_item.ensures.0 put.keep_item.ensures.1

returns : tie.Need-returns-then-guards-eq0
returns c =
    let put = c in
    let then = put in
    one_done (unnamed then.before.before.before.before) (unnamed_same then.before.before.before.before) _ _ put.keep_item.ensures.0 put.keep_item.ensures.1

unpack-requires : tie.Need-unpack-said-requires
unpack-requires c κs = search rules

enum-known-said : tie.Need-enum_known-said
enum-known-said c = search rules

keep-item-requires-2 : tie.Need-keep_item-requires-in_default
keep-item-requires-2 c κs = one_fits (other c.before) (other_stays c.before)

same-length-2 : tie.Need-shape_of-out-in_default
same-length-2 c =
    let put = c in
    let none = put in
    one_length (other none.before.before.before.before) (other_stays none.before.before.before.before) _ _ put.keep_item-in_default.ensures.0 put.keep_item-in_default.ensures.1

returns-2 : tie.Need-returns-in_default
returns-2 c =
    let put = c in
    let none = put in
    one_done (other none.before.before.before.before) (other_stays none.before.before.before.before) _ _ put.keep_item-in_default.ensures.0 put.keep_item-in_default.ensures.1

guard-step-requires : tie.Need-guard_step-requires
guard-step-requires c κs =
    let s = c in
    let len = long (step_start s.before) in
    let f = step_fields _ _ _ s.unpack-said.ensures s.in-Step.is in
    (f.0, f.1, omega (arith, f.2), omega (arith, room s.before), omega arith)

same-length-3 : tie.Need-shape_of-out
same-length-3 c =
    let put = c in
    let start = step_start (said put.before.before) in
    let len = long start in
    same_size (items start) (old start) _ start.args.at (wrote put.before.before) (omega arith)

returns-3 : tie.Need-returns
returns-3 c =
    let put = c in
    let len = long (step_start (said put.before.before)) in
    (wrote put.before.before, omega (arith, put.guard_step.ensures.1, room (said put.before.before)))

pub guard_item_spec : {M : Type 1} → statement M
guard_item_spec =
    tie.close
    (tie.spec
    one-guard-requires
    keep-item-requires
    same_length
    returns
    unpack-requires
    enum-known-said
    keep-item-requires-2
    same-length-2
    returns-2
    guard-step-requires
    same-length-3
    returns-3)
