-- The lines that are kept while a text is read, in four columns, and what the lent columns hold at exit.
use Rattle.std.specs.Prelude.{ℕ, ◌≡◌, List, map, length, set, replicate}
use Rattle.paper.specs.Tools.{written}
use Rattle.paper.specs.Limits.{node_limit}
use Rattle.paper.specs.Xml.{Row, read_xml, table}
use Rattle.paper.specs.Answers.{Answer, line_xml, read_xml_last, read_xml_column, parent_field, kind_field, begin_field, end_field}

-- The four columns.
pub record Columns : Type 0 where
  pub parents : List ℕ
  pub kinds : List ℕ
  pub begins : List ℕ
  pub ends : List ℕ

abbrev pub columns : List ℕ → List ℕ → List ℕ → List ℕ → Columns
columns parents kinds begins ends = record { parents = parents; kinds = kinds; begins = begins; ends = ends }

-- Those that are kept, before the first line.
unfoldable pub empty : List ℕ
empty = replicate node_limit 0

abbrev pub blank : Columns
blank = columns empty empty empty empty

-- A line set at an index.
abbrev pub line_set : ℕ → ℕ → ℕ → ℕ → ℕ → Columns → Columns
line_set n parent kind begin end c =
    columns (set c.parents n parent) (set c.kinds n kind) (set c.begins n begin) (set c.ends n end)

-- These lines are kept, and nothing else.
pub record Filled (list : List ℕ) (rows : List Row) (cols : Columns) : Type 0 where
  pub parents : cols.parents ≡ written (map parent_field rows) empty
  pub kinds : cols.kinds ≡ written (map (kind_field list) rows) empty
  pub begins : cols.begins ≡ written (map begin_field rows) empty
  pub ends : cols.ends ≡ written (map end_field rows) empty

-- THE ANSWER. The lines after 2.
abbrev pub xml_answer : List ℕ → List ℕ → ℕ → Answer
xml_answer text list room = line_xml (read_xml text) (λ tree. read_xml_last list room (table (length text) tree))

-- The columns at exit.
abbrev pub exit_columns : List ℕ → List ℕ → Answer → Columns → Columns
exit_columns text list answer old =
    columns (read_xml_column parent_field text answer old.parents) (read_xml_column (kind_field list) text answer old.kinds) (read_xml_column begin_field text answer old.begins) (read_xml_column end_field text answer old.ends)
