-- The name of a start tag, and what the number that was looked for of one more says of the names that the list lacks. Assumes nothing.
use Prim.Native.Nat.{ℕ, suc, ◌+◌, ◌-◌}
use native.Mathlib.Omega.{arith}
use mathlib.Core.Path.{◌≡◌, sym, ◌∙◌, ap}
use mathlib.Core.Bool.{true, false, false≢true}
use mathlib.Core.List.{List, [], ◌∷◌, ◌++◌}
use mathlib.Core.Option.{none, some}
use lib.ListN.{take, drop}
use Rattle.std.specs.Prelude.{Option, Some, None}
use Rattle.std.specs.Option.{is_some}
use Rattle.std.proofs.Math.Option as maybe
use Rattle.paper.specs.Told.{found}
use Rattle.paper.specs.Tools.{run_of}
use Rattle.paper.specs.Names.{name_part}
use Rattle.paper.specs.Xml.{Row, row, named, unnamed}
use Rattle.xml.specs.Pieces.{name_at}
use Rattle.xml_lines.specs.Open.{NameEnds}
use Rattle.xml_lines.proofs.Lacking.{stays_first, comes_first}

-- The bytes from behind the `<` to where the name ends.
pub name_there : (text : List ℕ) (begin name_end : ℕ) → NameEnds text begin name_end → take (name_end - (begin + 1)) (drop (begin + 1) text) ≡ name_at text (suc begin)
name_there text begin name_end h =
    let n : name_end - (begin + 1) ≡ run_of name_part (drop (suc begin) text) = omega (arith, h.0) in
    let b : begin + 1 ≡ suc begin = omega arith in
    rw (n, b)

module _ (look : List ℕ → maybe.Option ℕ) (rows : List Row) (name : List ℕ) (up begin end : ℕ) where
  -- A place that was found stays,
  pub found_before : (before : Option ℕ) → is_some before ≡ true → found before ≡ unnamed look rows → found before ≡ unnamed look (rows ++ (row up (named name) begin end ∷ []))
  found_before None h e = absurd (false≢true h)
  found_before (Some n) h e = sym (stays_first look rows (row up (named name) begin end) n (sym e))

  -- and otherwise the name decides,
  none_before : (before : Option ℕ) → is_some before ≡ false → found before ≡ unnamed look rows → unnamed look rows ≡ none
  none_before None h e = sym e
  none_before (Some n) h e = absurd (false≢true (sym h))

  module _ (before : Option ℕ) (h : is_some before ≡ false) (e : found before ≡ unnamed look rows) where
    -- which the list has
    pub has_name : (v : ℕ) → some v ≡ look name → none ≡ unnamed look (rows ++ (row up (named name) begin end ∷ []))
    has_name v there =
        let own : unnamed look (row up (named name) begin end ∷ []) ≡ none = rw (← there) in
        sym (comes_first look rows (row up (named name) begin end) (none_before before h e) ∙ own)

    -- or lacks.
    pub lacks_name : none ≡ look name → some (begin + 1) ≡ unnamed look (rows ++ (row up (named name) begin end ∷ []))
    lacks_name there =
        let own : unnamed look (row up (named name) begin end ∷ []) ≡ some (begin + 1) = rw (← there) (ap some (omega arith)) in
        sym (comes_first look rows (row up (named name) begin end) (none_before before h e) ∙ own)
