-- What the code asks of the columns, the marks and what is written where it gives the marked nodes new numbers.
use Rattle.std.specs.Prelude.{ℕ, suc, ◌≤◌, ◌<◌, ◌≡◌, true, List, [], length, get_or}
use Rattle.paper.specs.Document.{Table, over, marked, table_of}
use Rattle.paper.specs.Extraction.{rank}
use Rattle.table.specs.Climbs.{Falls}

-- The table of a parent column, where kinds do not matter.
abbrev pub shape_of : List ℕ → Table
shape_of parents = table_of parents []

-- All nodes are a tree in document order, with closed marks.
pub record Ordered (parents marks : List ℕ) : Type 0 where
  pub tree : Falls parents (length parents)
  pub order : (i : ℕ) → suc i < length parents → over (shape_of parents) i (get_or parents (suc i) 0) ≡ true
  pub closed : (i : ℕ) → i < length parents → marked marks i ≡ true → marked marks (get_or parents i 0) ≡ true

-- The node `last` is the last marked one before node n.
pub record Last (marks : List ℕ) (n last : ℕ) : Type 0 where
  pub before : last < n
  pub on : marked marks last ≡ true
  pub next : rank marks n ≡ suc (rank marks last)

-- The new number of a node's parent.
abbrev pub new_parent : List ℕ → List ℕ → ℕ → ℕ
new_parent parents marks i = rank marks (get_or parents i 0)

-- The new parents of the marked nodes before node n are written.
pub record Numbered (parents marks out : List ℕ) (n : ℕ) : Type 0 where
  pub room : rank marks n ≤ length out
  pub at : (k : ℕ) → k < n → marked marks k ≡ true → get_or out (rank marks k) 0 ≡ new_parent parents marks k
