-- `composed::put_composed` meets its contract: S at the end, then all that stands before it, which copies S. Assumes nothing.
use Prim.Native.Nat.{ℕ, ◌+◌, ◌-◌, ◌≤◌}
use native.Mathlib.Omega.{arith}
use mathlib.Core.Path.{◌≡◌, sym, ◌∙◌, ap}
use mathlib.Core.List.{List}
use lib.ListN.{length, take, drop}
use Rattle.paper.specs.Items.{decode}
use Rattle.paper.specs.Answers.{made_got}
use Rattle.paper.specs.Lean.{composed_by}
use Rattle.item.specs.Placed.{placed}
use Rattle.reverse.specs.Reverses.{each_got, selected_got}
use Rattle.item.proofs.Placing.{same_size}
use Rattle.composed.specs.Pieces.{guarded_path, Says}
use Rattle.composed.proofs.Composed.{composed_parts, chosen_is, whole_written, count_least}
use borrow.Author.Rules.{rules}
use Rattle.composed.proofs.put_composed.Statement.{statement}
use Rattle.composed.proofs.put_composed.Tie as tie

-- What is lent; S, and where it goes.
abbrev outer : tie.Start → List ℕ
outer start = start.args.outer.now

abbrev inner : tie.Start → List ℕ
inner start = start.args.inner.now

abbrev old : tie.Start → List ℕ
old start = start.args.out.now

abbrev says : tie.Start → List ℕ
says start = start.args.says.now

abbrev Said : tie.Start → Type 0
Said start = Says (outer start) (says start)

-- The items that are to be written.
abbrev whole : (start : tie.Start) → Said start → List ℕ
whole start g = made_got (composed_by g.decides) (decode (outer start)) (decode (inner start))

abbrev chosen : tie.Start → List ℕ
chosen start = selected_got (decode (inner start))

abbrev from : tie.Start → ℕ
from start = start.args.size - start.args.count

least : (start : tie.Start) → start.args.count ≤ start.args.size
least start = omega (arith, count_least (outer start) (inner start) (says start) start.requires.0 start.requires.2, start.requires.5, start.requires.6 start.requires.0)

fits : (start : tie.Start) → from start + length (chosen start) ≤ length (old start)
fits start = omega (arith, least start, start.requires.5, start.requires.7)

-- S is written.
abbrev begun : tie.After-put_selected → tie.Start
begun c = c.before.before.before.before.before.before

abbrev mid : tie.After-put_selected → List ℕ
mid c = c.put_selected.new.out

same : (c : tie.After-put_selected) → length (mid c) ≡ length (old (begun c))
same c =
    let start = begun c in
    same_size (chosen start) (old start) (mid c) (from start) c.put_selected.ensures (fits start)

there : (c : tie.After-put_selected) → take (begun c).args.count (drop (from (begun c)) (mid c)) ≡ chosen (begun c)
there c =
    let start = begun c in
    chosen_is (chosen start) (old start) (mid c) (from start) start.args.count c.put_selected.ensures (omega (arith, start.requires.7)) start.requires.5

sub-from : tie.Need-overflow_sub-from
sub-from c = least c.before.before.before.before

put-selected-requires : tie.Need-put_selected-requires
put-selected-requires c κs =
    let start = c in
    (start.requires.2, start.requires.3, start.requires.4, fits start.before.before.before.before.before)

guard-paths-requires : tie.Need-guard_paths-requires
guard-paths-requires c κs =
    let put = c in
    let start = begun put.before.before.before in
    let room : (g : Said start) → length (each_got (guarded_path g.decides (take start.args.count (drop (from start) (mid put.before.before.before)))) (decode (outer start))) ≤ from start + start.args.count =
    λ g.
    omega (
      arith,
      ap (λ (x : List ℕ). length (each_got (guarded_path g.decides x) (decode (outer start)))) (there put.before.before.before),
      ap length (composed_parts (outer start) (inner start) (says start) g start.requires.2),
      least start,
      start.requires.6 g,
    ) in (
      start.requires.0,
      start.requires.1,
      room,
      omega (arith, same put.before.before.before, least start, start.requires.7),
    )

same_length : tie.Need-shape_of-out
same_length c = search rules

returns : tie.Need-returns
returns c =
    let guarded = c in
    let put = guarded in
    let start = begun put.before.before.before.before.before.before in
    λ g.
    let parts = composed_parts (outer start) (inner start) (says start) g start.requires.2 in
    whole_written (chosen start) (whole start g) (old start) (mid put.before.before.before.before.before.before) guarded.guard_paths.new.out (from start) put.put_selected.ensures (omega (arith, start.requires.7))
    (omega (arith, least start, start.requires.5, start.requires.6 g))
    (guarded.guard_paths.ensures g ∙ ap (λ (x : List ℕ). placed (each_got (guarded_path g.decides x) (decode (outer start))) 0 (mid put.before.before.before.before.before.before)) (there put.before.before.before.before.before.before) ∙ ap (λ (x : List ℕ). placed x 0 (mid put.before.before.before.before.before.before)) (sym parts))

pub put_composed_spec : {M : Type 1} → statement M
put_composed_spec =
    tie.close (tie.spec sub-from put-selected-requires guard-paths-requires same_length returns)
