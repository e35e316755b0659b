-- `keep::keep` meets its contract: at first no set is kept; what is selected is spread over the document, with the first set for what lies below, and all sets are cleared. Assumes nothing.
use Prim.Native.Nat.{ℕ, ◌*◌, ◌/◌, ◌≤◌, ◌<◌}
use native.Mathlib.Omega.{arith}
use mathlib.Core.Path.{◌≡◌, refl, sym, ◌∙◌, ap}
use mathlib.Core.List.{List, ◌++◌}
use lib.ListN.{length, get_or, take, drop, replicate}
use lib.Seq.{length-take-le}
use Rattle.paper.specs.Document.{table_of}
use Rattle.paper.specs.Measures.{height}
use Rattle.paper.specs.Selection.{selects, keeps, kept}
use Rattle.spread.specs.Spreading.{keeps_by}
use Rattle.keep.proofs.Slices.{front_length}
use Rattle.keep.proofs.Running.{one_fits}
use Rattle.keep.proofs.Selecting.{some_tall}
use Rattle.keep.proofs.Recalling.{none_kept}
use borrow.Author.Rules.{rules}
use Rattle.keep.proofs.keep.Statement.{statement}
use Rattle.keep.proofs.keep.Tie as tie

-- What is lent.
abbrev all : tie.Start → ℕ
all start = length start.args.parent.now

room : (start : tie.Start) → all start ≤ length start.args.sets.now
room start = one_fits (all start) (height start.requires.1.1.query) _ start.requires.1.1.room_for (some_tall start.requires.1.1.query)

left-over-requires : tie.Need-left_over-left-requires
left-over-requires c κs = c.requires.1.1

slots-in-requires : tie.Need-slots_in-slots-requires
slots-in-requires c κs = c.requires.0.tree.rooted

array-borrow-prefix-known : tie.Need-slice_bounds-known-end
array-borrow-prefix-known c = c.slots_in-slots.ensures.0

-- As many entries are lent as sets are kept.
as_many : (slots : ℕ) (entries : List ℕ) → slots ≤ 32 → length entries ≡ 32 → length (take slots entries) ≡ slots
as_many slots entries l e = length-take-le slots entries (omega arith)

slice-aggregate-select : tie.Need-slice_bounds-select-end
slice-aggregate-select c = sym (as_many c.slots_in-slots.result _ c.slots_in-slots.ensures.0 refl)

select-requires : tie.Need-select-requires
select-requires c κs =
    let runs = c.requires.1.1 in
    let slots = c.slots_in-slots in (
      c.requires.0,
      (
        c.requires.1.0,
        (
          record {
            query = runs.query;
            decodes = runs.decodes;
            room_for =
                omega (arith, c.left_over-left.ensures runs.query runs.decodes, slots.ensures.1, ap (λ (k : ℕ). length c.args.parent.now * k) (as_many slots.result (replicate {A = ℕ} 32 0) slots.ensures.0 refl));
          },
          none_kept 32 slots.result,
        ),
      ),
    )

-- The nodes are selected.
abbrev chosen-in : tie.After-select → tie.Start
chosen-in c = c.before.before.before.before.before.before.before.before.before.before.before.before

chosen_room : (c : tie.After-select) → all (chosen-in c) ≤ length c.select.new.sets
chosen_room c = omega (arith, room (chosen-in c), c.select.auto.sets)

chosen_front : (c : tie.After-select) → length (take (all (chosen-in c)) c.select.new.sets) ≡ all (chosen-in c)
chosen_front c = length-take-le (all (chosen-in c)) c.select.new.sets (chosen_room c)

slice-relend-prefix-spread : tie.Need-slice_bounds-spread-end
slice-relend-prefix-spread c = chosen_room c.before.before.before.before.before.before

slice-aggregate-spread : tie.Need-slice_bounds-spread-end-2
slice-aggregate-spread c = sym (chosen_front c.before.before.before.before.before.before.before)

spread-requires : tie.Need-spread-requires
spread-requires c κs =
    let chosen = c in
    let start = chosen-in chosen.before.before.before.before.before.before.before in
    (start.requires.0, (chosen.select.auto.marks ∙ start.requires.1.0, chosen_front chosen.before.before.before.before.before.before.before))

fill-requires : tie.Need-fill-requires
fill-requires c κs = search rules

same_length : tie.Need-shape_of-marks
same_length c = search rules

same-length-2 : tie.Need-shape_of-sets
same-length-2 c = search rules

returns : tie.Need-returns
unfolding kept keeps keeps_by
returns c =
    let over = c in
    let chosen = over in
    let start = chosen-in chosen.before.before.before.before.before.before.before.before.before.before.before.before.before.before.before.before in
    let a = start.args in
    let n = all start in
    let sets = chosen.select.new.sets in
    let spreads = over.spread in
    let cleared = c.fill in
    let as_long : length (spreads.new.set ++ drop n sets) ≡ length a.sets.now = front_length n sets spreads.new.set (chosen_room chosen.before.before.before.before.before.before.before.before.before.before.before.before.before.before.before.before) spreads.auto.set ∙ chosen.select.auto.sets in (
      λ q e. spreads.ensures.0 (selects (table_of a.parent.now a.kind.now) a.given.now q) (chosen.select.ensures q e),
      cleared.ensures ∙ ap (λ (k : ℕ). replicate k 0) as_long,
    )

pub keep_spec : {M : Type 1} → statement M
keep_spec =
    tie.close
    (tie.spec
    left-over-requires
    slots-in-requires
    array-borrow-prefix-known
    slice-aggregate-select
    select-requires
    slice-relend-prefix-spread
    slice-aggregate-spread
    spread-requires
    fill-requires
    same_length
    same-length-2
    returns)
