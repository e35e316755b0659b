-- How a sheet grows by its lines: a line is its name with its three numbers, the lines of names grow at their end, and the room they take is bounded by the bytes of the list. By induction over the names. Assumes nothing.
use Prim.Native.Nat.{ℕ, zero, suc, ◌+◌, ◌-◌, ◌*◌, ◌≤◌, ◌<◌}
use native.Mathlib.Numerals.{add-one}
use native.Mathlib.Omega.{arith}
use mathlib.Core.Path.{◌≡◌, refl, sym, ◌∙◌, ap}
use mathlib.Core.Bool.{Bool, true, false}
use mathlib.Core.List.{List, [], ◌∷◌, ◌++◌, map, append_assoc, append-nil}
use lib.Dec.{eqb}
use lib.ListN.{length, take, get_or}
use lib.Seq.{take-suc, length-take-le}
use Rattle.paper.specs.Tools.{ascii}
use Rattle.paper.specs.Names.{Line, grown, lines_from, names_of}
use Rattle.paper.specs.Program.{decimal}
use Rattle.paper.specs.Sheet.{sheet_line, name_lines}
use Rattle.lines.specs.Lines.{line_room}
use Rattle.sheet.specs.Sheets.{counts_text}
use Rattle.paper.proofs.Same.{part_length}
use Rattle.paper.proofs.Searches.{length_column, column_at}
use Rattle.names.specs.Listing.{Indexed}
use Rattle.name_lines.specs.Lines.{said}

gather : (n a b c d e f g : List ℕ) → n ++ (a ++ b ++ c ++ d ++ e ++ f ++ g) ≡ n ++ a ++ b ++ c ++ d ++ e ++ f ++ g
gather n a b c d e f g =
    rw (
      append_assoc n a b,
      append_assoc n (a ++ b) c,
      append_assoc n (a ++ b ++ c) d,
      append_assoc n (a ++ b ++ c ++ d) e,
      append_assoc n (a ++ b ++ c ++ d ++ e) f,
      append_assoc n (a ++ b ++ c ++ d ++ e ++ f) g,
    )

-- A line is its name with its three numbers.
pub line_whole : (name : List ℕ) (all kept hidden : ℕ) → name ++ counts_text all kept hidden ≡ sheet_line name all kept hidden
line_whole name all kept hidden =
    gather name (ascii " ") (decimal all) (ascii " ") (decimal kept) (ascii " ") (decimal hidden) (ascii "\n")

module _ (all kept hidden : ℕ → ℕ) where
  -- One name more, at the end.
  pub names_more : (v last : ℕ) (names : List (List ℕ)) (n : List ℕ) → last ≡ v + length names →
      name_lines all kept hidden v names ++ sheet_line n (all last) (kept last) (hidden last) ≡ name_lines all kept hidden v (names ++ (n ∷ []))
  names_more v last [] n e =
      let here : last ≡ v = omega (arith, e) in rw here (sym (append-nil (sheet_line n (all v) (kept v) (hidden v))))
  names_more v last (m ∷ ms) n e =
      let first = sheet_line m (all v) (kept v) (hidden v) in
      append_assoc first (name_lines all kept hidden (suc v) ms) (sheet_line n (all last) (kept last) (hidden last))
      ∙ ap (λ rest. first ++ rest) (names_more (suc v) last ms n (omega (arith, e)))

  -- The same over the first names of a list.
  pub first_more : (names : List (List ℕ)) (v : ℕ) → v < length names →
      name_lines all kept hidden 0 (take v names) ++ sheet_line (get_or names v []) (all v) (kept v) (hidden v)
      ≡ name_lines all kept hidden 0 (take (suc v) names)
  first_more names v l =
      let long : length (take v names) ≡ v = length-take-le v names (omega arith) in
      rw (take-suc names v [] l) (names_more 0 v (take v names) (get_or names v []) (omega (arith, long)))

-- How many bytes names have together.
abbrev pub bytes_of : List (List ℕ) → ℕ
bytes_of [] = 0
bytes_of (n ∷ ns) = length n + bytes_of ns

bytes_more : (names : List (List ℕ)) (n : List ℕ) → bytes_of (names ++ (n ∷ [])) ≡ bytes_of names + length n
bytes_more [] n = omega arith
bytes_more (m ∷ ms) n = omega (arith, bytes_more ms n)

bytes_first : (names : List (List ℕ)) (v : ℕ) → bytes_of (take v names) ≤ bytes_of names
bytes_first [] zero = omega arith
bytes_first [] (suc v) = omega arith
bytes_first (m ∷ ms) zero = omega arith
bytes_first (m ∷ ms) (suc v) = omega (arith, bytes_first ms v)

-- The names of a list have no more bytes than the list.
bytes_grown : (at b : ℕ) (ls : List Line) → bytes_of (map (λ l. l.says) (grown at b ls)) ≡ suc (bytes_of (map (λ l. l.says) ls))
bytes_grown at b [] = refl
bytes_grown at b (l ∷ ls) = omega arith

bytes_from : (at : ℕ) (bs : List ℕ) → bytes_of (map (λ l. l.says) (lines_from at bs)) ≤ length bs
bytes_from at [] = omega arith
bytes_from at (b ∷ bs) = go (eqb b 10) refl (bytes_from (suc at) bs)
  where
    go : (h : Bool) → eqb b 10 ≡ h → bytes_of (map (λ l. l.says) (lines_from (suc at) bs)) ≤ length bs → bytes_of (map (λ l. l.says) (lines_from at (b ∷ bs))) ≤ suc (length bs)
    go true e l = rw e (omega (arith, l))
    go false e l = rw e (omega (arith, l, bytes_grown at b (lines_from (suc at) bs)))

pub names_bytes : (list : List ℕ) → bytes_of (names_of list) ≤ length list
unfolding names_of
names_bytes list = bytes_from 0 list

-- The room that the lines of so many names take.
abbrev pub reach : List (List ℕ) → ℕ → ℕ
reach names v = bytes_of (take v names) + v * line_room

-- One line more stays in reach.
pub reach_more : (names : List (List ℕ)) (v pen next : ℕ) → v < length names → pen ≤ reach names v → next ≤ pen + length (get_or names v []) + line_room →
    next ≤ reach names (v + 1)
reach_more names v pen next l p n =
    let more : bytes_of (take (v + 1) names) ≡ bytes_of (take v names) + length (get_or names v []) =
    rw (add-one v, take-suc names v [] l) (bytes_more (take v names) (get_or names v [])) in
    omega (arith, p, n, more)

-- No line of names goes past this.
pub reach_most : (list : List ℕ) (v : ℕ) → reach (names_of list) v ≤ length list + v * line_room
reach_most list v = omega (arith, bytes_first (names_of list) v, names_bytes list)

-- The names of a list that was judged.
module _ (list starts : List ℕ) (count : ℕ) (known : Indexed list starts count) where
  -- The names are as many as their lines.
  pub names_count : length (names_of list) ≡ count
  names_count = ap length known.names ∙ length_column count 0 (said list starts)

  -- A name has the length of its line.
  pub name_long : (v : ℕ) → v < count → length (get_or (names_of list) v []) ≡ get_or starts (suc v) 0 - 1 - get_or starts v 0
  name_long v l =
      let is : get_or (names_of list) v [] ≡ said list starts v = rw known.names (column_at count (said list starts) [] v l) in
      let inside : get_or starts v 0 + (get_or starts (suc v) 0 - 1 - get_or starts v 0) ≤ length list =
      omega (arith, known.rising.rises v l, known.rising.within v l) in
      ap length is ∙ part_length list [] (get_or starts v 0) (get_or starts (suc v) 0 - 1 - get_or starts v 0) inside
