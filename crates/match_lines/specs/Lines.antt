-- The lines of a text against lent columns: which lines agree with them, and the lines so far where the columns say at what places the open elements end.
use Rattle.std.specs.Prelude.{ℕ, suc, ◌≡◌, false, List, [], ◌∷◌, ◌++◌, get_or}
use Rattle.paper.specs.Names.{names_of, number_of}
use Rattle.paper.specs.Xml.{Frame, Row, row, root, named, lacks, rows, table}
use Rattle.paper.specs.Answers.{kind_field}
use Rattle.xml_lines.specs.Kept.{Columns}
use Rattle.line_tests.specs.Telling.{Has}
use Rattle.xml_lines.specs.Open.{begun, innermost, Stand, within, past}

-- The columns have this line at an index, and the list has its name.
pub record LineIs (list : List ℕ) (cols : Columns) (n : ℕ) (r : Row) : Type 0 where
  pub parent : Has cols.parents n r.parent
  pub named : lacks (number_of (names_of list)) r.what ≡ false
  pub kind : Has cols.kinds n (kind_field list r)
  pub begin : Has cols.begins n r.begin
  pub end : Has cols.ends n r.end

-- These lines, from an index on.
abbrev pub Agree : List ℕ → Columns → ℕ → List Row → Type 0
Agree list cols n [] = Unit
Agree list cols n (r ∷ rs) = LineIs list cols n r × Agree list cols (suc n) rs

-- The lines so far; an open element ends where the column says.
abbrev pub told : ℕ → List ℕ → List Frame → List Row
told long ends [] = row 0 root 0 long ∷ []
told long ends (f ∷ fs) =
    told long ends fs ++ (row (innermost fs) (named f.name) f.begin (get_or ends (begun fs) 0) ∷ rows (begun fs) (suc (begun fs)) f.inside)

abbrev pub told_at : ℕ → List ℕ → Stand → List Row
told_at long ends (within f fs) = told long ends (f ∷ fs)
told_at long ends (past tree) = table long tree
