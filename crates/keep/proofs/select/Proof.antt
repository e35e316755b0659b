-- `keep::select` meets its contract. The invariant: the marks are what the paths read so far have selected, and what is left to read are the other paths of the query; the sets kept are those of their entries.
-- The measure is what is left of the items. Assumes nothing.
use Prim.Native.Nat.{ℕ, ◌+◌, ◌-◌, ◌≤◌}
use native.Mathlib.Omega.{arith}
use borrow.Author.Rules.{rules}
use mathlib.Core.Path.{◌≡◌, refl, sym, ◌∙◌, ap, subst}
use mathlib.Core.Bool.{Bool, ◌&&◌, ◌||◌}
use mathlib.Core.List.{List, ◌++◌}
use lib.Dec.{eqb}
use lib.ListN.{length, take, drop, replicate}
use lib.Seq.{length-take-le}
use Rattle.paper.specs.Limits.{bracket_limit}
use Rattle.paper.specs.Items.{take_steps, take_within}
use Rattle.paper.specs.Measures.{height_steps, height}
use Rattle.paper.specs.Document.{Table, nodes, marked, table_of}
use Rattle.paper.proofs.Tests.{some_inj}
use Rattle.sets.specs.Sets.{bits}
use Rattle.keep.specs.Evals.{Fits, Runs}
use Rattle.keep.specs.Recall.{spare, Kept}
use Rattle.keep.proofs.Slices.{front_length, front_back}
use Rattle.keep.proofs.Running.{one_fits}
use Rattle.keep.proofs.Selecting.{PathsDone, NextPath, paths_begin, next-path, path_added, paths_selected, some_tall}
use Rattle.keep.proofs.Recalling.{spare_same, kept_same, kept_front}
use Rattle.keep.proofs.select.Statement.{statement}
use Rattle.keep.proofs.select.Tie as tie

abbrev invariant-loop : tie.invariant-loop-place
invariant-loop items parent kind given marks₀ sets₀ known₀ n place₀ marks sets known place =
    (length sets ≡ length sets₀) × (length marks ≡ length parent) × PathsDone (table_of parent kind) given items place marks × (length known ≡ length known₀) × Kept (table_of parent kind) given items (length parent) known sets

abbrev decreases-loop : tie.decreases-loop-place
decreases-loop items parent kind given marks₀ sets₀ known₀ n place₀ marks sets known place = length items - place

-- What is lent.
abbrev Start : Type 0
Start = tie.Start invariant-loop decreases-loop

abbrev table : Start → Table
table start = table_of start.args.parent.now start.args.kind.now

abbrev given : Start → List ℕ
given start = start.args.given.now

abbrev items : Start → List ℕ
items start = start.args.items.now

-- The bytes before the sets kept.
abbrev lent : Start → ℕ
lent start = spare (length start.args.known.now) (nodes (table start)) start.args.sets.now

abbrev runs : (start : Start) → Runs (items start) (nodes (table start)) (lent start)
runs start = start.requires.1.1.0

-- At the head of a turn: there is room for one set of all nodes, before those kept.
abbrev Turn : Type 0
Turn = tie.At-loop-place invariant-loop decreases-loop

abbrev begun : Turn → Start
begun c = c.before.before.before.before.before.before.before.before.before.before.before.before

abbrev all : Turn → ℕ
all c = nodes (table (begun c))

room : (c : Turn) → all c ≤ spare (length c.loop-place.known) (all c) c.loop-place.sets
room c =
    let start = begun c in
    omega (arith, spare_same (all c) c.loop-place.sets start.args.sets.now c.loop-place.invariant.3 c.loop-place.invariant.0, one_fits (all c) (height (runs start).query) (lent start) (runs start).room_for (some_tall (runs start).query))

front : (c : Turn) → length (take (all c) c.loop-place.sets) ≡ all c
front c = length-take-le (all c) c.loop-place.sets (omega (arith, room c))

-- A path is read.
abbrev read-in : tie.After-path_at-count invariant-loop decreases-loop → Turn
read-in c = c.before.before

next : (c : tie.After-path_at-count invariant-loop decreases-loop)
    → NextPath (table (begun (read-in c))) (items (begun (read-in c))) (read-in c).loop-place.place (lent (begun (read-in c))) (read-in c).loop-place.invariant.2.ahead c.path_at-count.result
next c =
    let l = (read-in c).loop-place in
    let start = begun (read-in c) in
    next-path (table start) (given start) (items start) (lent start) (runs start) l.place l.marks c.loop-place-test.true l.invariant.2
    (λ count p found. subst (NextPath (table start) (items start) l.place (lent start) l.invariant.2.ahead) (some_inj (sym p ∙ c.path_at-count.ensures)) found)

-- The first set is that of the root.
abbrev rooted-in : tie.After-start invariant-loop decreases-loop → tie.After-path_at-count invariant-loop decreases-loop
rooted-in c = c.before.before

abbrev rooted : tie.After-start invariant-loop decreases-loop → List ℕ
rooted c = c.start.new.set ++ drop (all (read-in (rooted-in c))) (read-in (rooted-in c)).loop-place.sets

rooted_length : (c : tie.After-start invariant-loop decreases-loop) → length (rooted c) ≡ length (begun (read-in (rooted-in c))).args.sets.now
rooted_length c =
    let turn = read-in (rooted-in c) in
    front_length (all turn) turn.loop-place.sets c.start.new.set (omega (arith, room turn)) c.start.auto.set ∙ turn.loop-place.invariant.0

rooted_kept : (c : tie.After-start invariant-loop decreases-loop)
    → Kept (table (begun (read-in (rooted-in c)))) (given (begun (read-in (rooted-in c)))) (items (begun (read-in (rooted-in c)))) (all (read-in (rooted-in c))) (read-in (rooted-in c)).loop-place.known (rooted c)
rooted_kept c =
    let turn = read-in (rooted-in c) in
    kept_same turn.loop-place.known turn.loop-place.sets (rooted c)
    (kept_front (length turn.loop-place.known) (all turn) (all turn) turn.loop-place.sets c.start.new.set (room turn) (c.start.auto.set ∙ front turn)) turn.loop-place.invariant.4

-- It is moved along the path.
abbrev moved_in : tie.After-forward-place invariant-loop decreases-loop → tie.After-start invariant-loop decreases-loop
moved_in c = c.before.before.before.before.before

abbrev moved-turn : tie.After-forward-place invariant-loop decreases-loop → Turn
moved-turn c = read-in (rooted-in (moved_in c))

abbrev moved : tie.After-forward-place invariant-loop decreases-loop → List ℕ
moved c = c.forward-place.new.sets

moved_length : (c : tie.After-forward-place invariant-loop decreases-loop) → length (moved c) ≡ length (begun (moved-turn c)).args.sets.now
moved_length c = c.forward-place.auto.sets ∙ rooted_length (moved_in c)

moved_room : (c : tie.After-forward-place invariant-loop decreases-loop) → all (moved-turn c) ≤ length (moved c)
moved_room c = omega (arith, moved_length c, (moved-turn c).loop-place.invariant.0, room (moved-turn c))

fill-requires : tie.Need-fill-requires invariant-loop decreases-loop
fill-requires c κs = search rules

loop-holds : tie.Need-loop-place-init invariant-loop decreases-loop
loop-holds c =
    let filled = c.fill in
    let start = c in (
      refl,
      filled.auto.set ∙ start.requires.1.0,
      paths_begin (table start.before.before.before.before.before.before.before.before.before.before.before) (given start.before.before.before.before.before.before.before.before.before.before.before) (items start.before.before.before.before.before.before.before.before.before.before.before) _ _ (runs start.before.before.before.before.before.before.before.before.before.before.before) (filled.ensures ∙ ap (λ (k : ℕ). replicate k 0) start.requires.1.0),
      refl,
      start.requires.1.1.1,
    )

path-at-requires : tie.Need-path_at-count-requires invariant-loop decreases-loop
path-at-requires c κs =
    let l = c.loop-place in
    let start = begun c.before in
    let on = c.loop-place-test.true in
    next-path (table start) (given start) (items start) (lent start) (runs start) l.place l.marks on l.invariant.2 (λ count p found. (on, (count, p)))

slice-relend-prefix-start : tie.Need-slice_bounds-start-end invariant-loop decreases-loop
slice-relend-prefix-start c = omega (arith, room (read-in c))

slice-aggregate-start : tie.Need-slice_bounds-start-end-in-loop-place invariant-loop decreases-loop
slice-aggregate-start c = sym (front (read-in c.before))

start-requires : tie.Need-start-requires invariant-loop decreases-loop
start-requires c κs =
    let turn = read-in c.before in
    let ready = (begun turn).requires.0 in
    let as_long = sym (front turn) in
    (omega (arith, as_long, ready.tree.rooted), ready.marks_all ∙ as_long, ready.marks_bits ∙ ap (λ (k : ℕ). bits k (marked (given (begun turn)))) as_long)

add-forward : tie.Need-overflow_add-place invariant-loop decreases-loop
add-forward c = omega arith

forward-requires : tie.Need-forward-place-requires invariant-loop decreases-loop
forward-requires c κs =
    let root = c in
    let path = rooted-in root.before.before.before.before in
    let l = (read-in path).loop-place in
    let start = begun (read-in path) in (
      start.requires.0,
      (
        subst (λ (r : ℕ). Fits (items start) (l.place + 1) (nodes (table start)) r (take_steps (take_within bracket_limit) path.path_at-count.result (drop (l.place + 1) (items start))) (λ s. 1 + height_steps s))
            (sym (spare_same (nodes (table start)) (rooted root.before.before.before.before) start.args.sets.now l.invariant.3 (rooted_length root.before.before.before.before))) (next path).steps,
        rooted_kept root.before.before.before.before,
      ),
    )

slice-reshare-prefix-add : tie.Need-slice_bounds-add-end invariant-loop decreases-loop
slice-reshare-prefix-add c = moved_room c.before.before.before.before

slice-aggregate-add : tie.Need-slice_bounds-add-end-in-loop-place invariant-loop decreases-loop
slice-aggregate-add c = sym (length-take-le _ _ (moved_room c.before.before.before.before))

add-requires : tie.Need-add-requires invariant-loop decreases-loop
add-requires c κs =
    let gone = c in
    length-take-le _ (moved gone.before.before.before.before.before) (moved_room gone.before.before.before.before.before) ∙ sym (moved-turn gone.before.before.before.before.before).loop-place.invariant.1

loop-less : tie.Need-loop-place-smaller invariant-loop decreases-loop
loop-less c =
    let gone = c in
    omega (arith, gone.forward-place.ensures.0.onward, gone.forward-place.ensures.0.inside, (rooted-in (moved_in gone.before.before.before.before.before.before.before.before)).loop-place-test.true)

loop-again : tie.Need-loop-place-preserved invariant-loop decreases-loop
loop-again c =
    let added = c.add in
    let gone = c in
    let root = moved_in gone.before.before.before.before.before.before.before.before in
    let turn = moved-turn gone.before.before.before.before.before.before.before.before in
    let l = turn.loop-place in
    let start = begun turn in
    let t = table start in
    let from_root : ℕ → Bool = λ i. eqb i 0 && marked (given start) 0 in (
      moved_length gone.before.before.before.before.before.before.before.before,
      added.auto.set ∙ l.invariant.1,
      path_added t (given start) (items start) (lent start) (runs start) l.place gone.forward-place.result _ l.marks l.sets (rooted root) (moved gone.before.before.before.before.before.before.before.before) added.new.set l.invariant.2 (next (rooted-in root))
          (front_back (nodes t) from_root root.start.new.set _ (root.start.ensures ∙ ap (λ (k : ℕ). bits k from_root) (front turn)))
          gone.forward-place.ensures.0
          (λ f g x y.
          added.ensures f g (x ∙ ap (λ (k : ℕ). bits k f) (sym l.invariant.1)) (y ∙ ap (λ (k : ℕ). bits k g) (sym l.invariant.1)) ∙ ap (λ (k : ℕ). bits k (λ i. f i || g i)) l.invariant.1)
          start.requires.0.tree.rooted,
      gone.forward-place.auto.known ∙ l.invariant.3,
      gone.forward-place.ensures.1,
    )

same_length : tie.Need-shape_of-marks invariant-loop decreases-loop
same_length c = search rules

same-length-2 : tie.Need-shape_of-sets invariant-loop decreases-loop
same-length-2 c = search rules

same-length-3 : tie.Need-shape_of-known invariant-loop decreases-loop
same-length-3 c = c.loop-place.invariant.3

returns : tie.Need-returns invariant-loop decreases-loop
returns c =
    let l = c.loop-place in
    let start = begun c.before in
    paths_selected (table start) (given start) (items start) (lent start) (runs start) l.place l.marks c.loop-place-test.false l.invariant.2

pub select_spec : {M : Type 1} → statement M
select_spec =
    tie.close
    (tie.spec
    invariant-loop
    decreases-loop
    fill-requires
    loop-holds
    path-at-requires
    slice-relend-prefix-start
    slice-aggregate-start
    start-requires
    add-forward
    forward-requires
    slice-reshare-prefix-add
    slice-aggregate-add
    add-requires
    loop-less
    loop-again
    same_length
    same-length-2
    same-length-3
    returns)
