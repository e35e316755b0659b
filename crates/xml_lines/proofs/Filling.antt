-- What a line more and an end more do to the kept columns, and what is copied of them. Assumes nothing.
use Prim.Native.Nat.{ℕ, suc, ◌+◌, ◌≤◌, ◌<◌}
use native.Mathlib.Omega.{arith}
use mathlib.Core.Path.{◌≡◌, refl, sym, ◌∙◌, ap}
use mathlib.Core.List.{List, [], ◌∷◌, ◌++◌, map, append_assoc}
use lib.ListN.{length, get_or, set, take, drop, length-append, length-map, length-replicate}
use lib.Seq.{set_at, get_or_at, take-append_seam, take-suc, length-take-le}
use Rattle.paper.specs.Tools.{written}
use Rattle.paper.specs.Limits.{node_limit}
use Rattle.paper.specs.Xml.{Frame, named, Row, row, rows}
use Rattle.paper.specs.Answers.{parent_field, kind_field, begin_field, end_field}
use Rattle.paper.proofs.Extracting.{write_next}
use Rattle.xml_lines.specs.Open.{begun, innermost, lines}
use Rattle.xml_lines.specs.Kept.{Columns, columns, empty, line_set, Filled}
use Rattle.xml_lines.proofs.Opened.{length_lines, ending}

map-append : (field : Row → ℕ) (xs ys : List Row) → map field (xs ++ ys) ≡ map field xs ++ map field ys
map-append field [] ys = refl
map-append field (x ∷ xs) ys = ap (λ l. field x ∷ l) (map-append field xs ys)

module _ (field : Row → ℕ) (lines : List Row) (old : List ℕ) where
  -- One line more, in one column.
  column_more : (r : Row) (new : List ℕ) (n v : ℕ) → new ≡ written (map field lines) old → n ≡ length lines → v ≡ field r → n < length old → set new n v ≡ written (map field (lines ++ (r ∷ []))) old
  column_more r new n v e l f room =
      ap (λ c. set c n v) e ∙ ap (set (written (map field lines) old) n) f ∙ write_next (map field lines) old n (field r) (length-map lines field ∙ sym l) room
      ∙ ap (λ m. written m old) (sym (map-append field lines (r ∷ [])))

  -- What stands in a line.
  column_at : (r : Row) (more : List Row) (new : List ℕ) (n : ℕ) → new ≡ written (map field (lines ++ (r ∷ more))) old → n ≡ length lines → get_or new n 0 ≡ field r
  column_at r more new n e l =
      let rest = drop (length (map field (lines ++ (r ∷ more)))) old in
      ap (λ c. get_or c n 0) (e ∙ ap (λ m. m ++ rest) (map-append field lines (r ∷ more)) ∙ append_assoc (map field lines) (field r ∷ map field more) rest)
      ∙ get_or_at (map field lines) (field r) (map field more ++ rest) 0 n (length-map lines field ∙ sym l)

  -- One entry changed.
  column_set : (r s : Row) (more : List Row) (new : List ℕ) (n v : ℕ) → new ≡ written (map field (lines ++ (r ∷ more))) old → n ≡ length lines → v ≡ field s
      → set new n v ≡ written (map field (lines ++ (s ∷ more))) old
  column_set r s more new n v e l f =
      let rest = drop (length (map field (lines ++ (r ∷ more)))) old in
      let many : length (map field (lines ++ (r ∷ more))) ≡ length (map field (lines ++ (s ∷ more))) =
      omega (arith, length-map (lines ++ (r ∷ more)) field, length-map (lines ++ (s ∷ more)) field, length-append lines (r ∷ more), length-append lines (s ∷ more)) in
      ap (λ c. set c n v) (e ∙ ap (λ m. m ++ rest) (map-append field lines (r ∷ more)) ∙ append_assoc (map field lines) (field r ∷ map field more) rest)
      ∙ set_at (map field lines) (field r) (map field more ++ rest) v n (length-map lines field ∙ sym l)
      ∙ ap (λ w. map field lines ++ (w ∷ map field more ++ rest)) f
      ∙ sym (append_assoc (map field lines) (field s ∷ map field more) rest)
      ∙ ap (λ m. m ++ rest) (sym (map-append field lines (s ∷ more)))
      ∙ ap (λ k. map field (lines ++ (s ∷ more)) ++ drop k old) many

  -- A line whose entry is the same.
  column_same : (r s : Row) (more : List Row) (new : List ℕ) → new ≡ written (map field (lines ++ (r ∷ more))) old → field r ≡ field s → new ≡ written (map field (lines ++ (s ∷ more))) old
  column_same r s more new e f =
      e ∙ ap (λ m. written m old) (map-append field lines (r ∷ more) ∙ ap (λ v. map field lines ++ (v ∷ map field more)) f ∙ sym (map-append field lines (s ∷ more)))

-- The kept columns have room for every line of a table.
empty_long : length empty ≡ node_limit
unfolding empty
empty_long = length-replicate {A = ℕ} node_limit 0

module _ (list : List ℕ) (cols : Columns) where
  -- A line more.
  pub filled_more : (lines : List Row) → Filled list lines cols → (r : Row) (n p k b e : ℕ) → n ≡ length lines → n < node_limit → p ≡ parent_field r → k ≡ kind_field list r → b ≡ begin_field r → e ≡ end_field r
      → Filled list (lines ++ (r ∷ [])) (line_set n p k b e cols)
  filled_more lines h r n p k b e l few hp hk hb he =
      let room : n < length empty = omega (arith, empty_long) in
      record {
        parents = column_more parent_field lines empty r cols.parents n p h.parents l hp room;
        kinds = column_more (kind_field list) lines empty r cols.kinds n k h.kinds l hk room;
        begins = column_more begin_field lines empty r cols.begins n b h.begins l hb room;
        ends = column_more end_field lines empty r cols.ends n e h.ends l he room;
      }

  module _ (long : ℕ) (f : Frame) (fs : List Frame) where
    -- What an open element's line says of its parent.
    pub parent_there : Filled list (ending long f fs 0) cols → get_or cols.parents (begun fs) 0 ≡ innermost fs
    parent_there h = column_at parent_field (lines long fs) empty (row (innermost fs) (named f.name) f.begin 0) _ cols.parents (begun fs) h.parents (sym (length_lines long fs))

    -- Its end is told.
    pub filled_end : Filled list (ending long f fs 0) cols → (n end : ℕ) (told : List ℕ) → n ≡ begun fs → told ≡ set cols.ends n end
        → Filled list (ending long f fs end) (columns cols.parents cols.kinds cols.begins told)
    filled_end h n end told l e =
        let own = row (innermost fs) (named f.name) f.begin in
        let inside = rows (begun fs) (suc (begun fs)) f.inside in
        record {
          parents = column_same parent_field (lines long fs) empty (own 0) (own end) inside cols.parents h.parents refl;
          kinds = column_same (kind_field list) (lines long fs) empty (own 0) (own end) inside cols.kinds h.kinds refl;
          begins = column_same begin_field (lines long fs) empty (own 0) (own end) inside cols.begins h.begins refl;
          ends = e ∙ column_set end_field (lines long fs) empty (own 0) (own end) inside cols.ends n end h.ends (l ∙ sym (length_lines long fs)) refl;
        }

-- COPYING. A kept column has its lines,
pub copied_room : (field : Row → ℕ) (lines : List Row) (n : ℕ) (column : List ℕ) → n ≡ length lines → column ≡ written (map field lines) empty → n ≤ length column
copied_room field lines n column l e = omega (arith, ap length e, length-append (map field lines) (drop (length (map field lines)) empty), length-map lines field)

-- and they are what is copied of it.
pub copied : (field : Row → ℕ) (lines : List Row) (n : ℕ) (column old : List ℕ) → n ≡ length lines → column ≡ written (map field lines) empty → written (take n column) old ≡ written (map field lines) old
copied field lines n column old l e =
    ap (λ c. written c old)
    (ap (take n) e ∙ ap (λ k. take k (written (map field lines) empty)) (l ∙ sym (length-map lines field)) ∙ take-append_seam (map field lines) (drop (length (map field lines)) empty))

-- One more is copied.
pub one_copied : (from old : List ℕ) (i : ℕ) → i < length from → i < length old → set (written (take i from) old) i (get_or from i 0) ≡ written (take (i + 1) from) old
one_copied from old i l room =
    let next : suc i ≡ i + 1 = omega arith in
    write_next (take i from) old i (get_or from i 0) (length-take-le i from (omega arith)) room
    ∙ ap (λ c. written c old) (sym (take-suc from i 0 l) ∙ ap (λ k. take k from) next)
