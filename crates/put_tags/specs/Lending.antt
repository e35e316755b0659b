-- A text with the columns of its nodes and the marks of its kept part, and what is known of them.
use Rattle.std.specs.Prelude.{ℕ, ◌≤◌, ◌≡◌, List, map, length}
use Rattle.std.proofs.Math.Option.{none}
use Rattle.paper.specs.Limits.{text_limit, node_limit}
use Rattle.paper.specs.Document.{table_of, marks_fault}
use Rattle.paper.specs.Xml.{Nodes, wanted, read_xml, table}
use Rattle.paper.specs.Answers.{begin_field, end_field}
use Rattle.file_theorems.specs.Files.{columns_of}

-- All that is lent.
pub record MarkedText : Type 0 where
  pub text : List ℕ
  pub parents : List ℕ
  pub kinds : List ℕ
  pub begins : List ℕ
  pub ends : List ℕ
  pub marks : List ℕ

abbrev pub marked_text : List ℕ → List ℕ → List ℕ → List ℕ → List ℕ → List ℕ → MarkedText
marked_text text parents kinds begins ends marks =
    record { text = text; parents = parents; kinds = kinds; begins = begins; ends = ends; marks = marks }

-- What putting the kept part asks: the columns are those of the tree that the text is, and the marks have no fault.
pub record Lent (text parents kinds begins ends marks : List ℕ) : Type 0 where
  pub list : List ℕ
  pub tree : Nodes
  pub read : read_xml text ≡ wanted tree
  pub columns : table_of parents kinds ≡ columns_of list (length text) tree
  pub begins_at : begins ≡ map begin_field (table (length text) tree)
  pub ends_at : ends ≡ map end_field (table (length text) tree)
  pub marks_long : length marks ≡ length parents
  pub marks_fine : marks_fault (table_of parents kinds) marks ≡ none
  pub text_short : length text ≤ text_limit
  pub few : length parents ≤ node_limit

abbrev pub IsLent : MarkedText → Type 0
IsLent m = Lent m.text m.parents m.kinds m.begins m.ends m.marks
