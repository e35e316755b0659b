-- `mark_query` meets its contract: the turns of the items, over zeros with a 1 in front, leave the marked query, and what stands behind it stays. Assumes nothing.
use Prim.Native.Nat.{ℕ, ◌≤◌}
use native.Mathlib.Omega.{arith}
use mathlib.Core.Path.{◌≡◌, sym, ◌∙◌, ap}
use mathlib.Core.List.{List}
use lib.ListN.{length, take, set, length-set, length-replicate}
use lib.Seq.{length-take-le, length_front}
use Rattle.paper.specs.Limits.{item_limit}
use Rattle.lean_marks.proofs.Turning.{query_marked}
use Rattle.lean_marks.proofs.mark_query.Statement.{statement}
use Rattle.lean_marks.proofs.mark_query.Tie as tie

-- What is lent.
abbrev items : tie.Start → List ℕ
items start = start.args.items.now

abbrev marks : tie.Start → List ℕ
marks start = start.args.marks.now

long : (start : tie.Start) → length (marks start) ≡ item_limit
long start = ap length start.requires.2 ∙ length-replicate {A = ℕ} item_limit 0

fits : (start : tie.Start) → length (items start) ≤ length (set (marks start) 0 1)
fits start = omega (arith, long start, start.requires.1, length-set (marks start) 0 1)

-- The turns are done.
abbrev begun : tie.After-mark → tie.Start
begun c = c.before.before.before.before

part_length : (c : tie.After-mark) → length c.mark.new.marks ≡ length (take (length (items (begun c))) (set (marks (begun c)) 0 1))
part_length c = c.mark.auto.marks

slice-write-marks : tie.Need-bounds-marks-0
slice-write-marks c = omega (arith, long c.before.before)

slice-relend-prefix-mark : tie.Need-slice_bounds-mark-end
slice-relend-prefix-mark c = omega (arith, fits c.before.before)

slice-aggregate-mark : tie.Need-slice_bounds-mark-end-2
slice-aggregate-mark c =
    let start = c in
    sym (length-take-le (length (items start.before.before.before)) (set (marks start.before.before.before) 0 1) (fits start.before.before.before))

mark-requires : tie.Need-mark-requires
mark-requires c κs =
    let start = c in
    (start.requires.1, length-take-le (length (items start.before.before.before)) (set (marks start.before.before.before) 0 1) (fits start.before.before.before))

same_length : tie.Need-shape_of-marks
same_length c =
    let done = c in
    let start = begun done.before.before in
    length_front (set (marks start) 0 1) done.mark.new.marks (length (items start)) (part_length done.before.before) ∙ length-set (marks start) 0 1

returns : tie.Need-returns
returns c =
    let done = c in
    let start = begun done.before.before in
    query_marked (items start) (marks start) done.mark.new.marks start.requires.0.query item_limit start.requires.0.decodes start.requires.1 start.requires.2 done.mark.ensures

pub mark_query_spec : {M : Type 1} → statement M
mark_query_spec =
    tie.close
    (tie.spec
    slice-write-marks
    slice-relend-prefix-mark
    slice-aggregate-mark
    mark-requires
    same_length
    returns)
