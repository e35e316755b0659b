-- What the table of a wanted text owes; the proofs are in proofs/.
use Rattle.std.specs.Prelude.{ℕ, suc, ◌<◌, ◌≤◌, ◌≡◌, Bool, true, false, List, ◌∷◌, map, ◌↔◌, length, get_or, take, drop, replicate}
use Rattle.std.proofs.Math.Option.{none, some}
use Rattle.paper.specs.Limits.{item_limit}
use Rattle.paper.specs.Query.{Query}
use Rattle.paper.specs.Items.{decode}
use Rattle.paper.specs.Names.{names_fault}
use Rattle.paper.specs.Document.{Table, nodes, table_of, over, table_fault, marks_fault}
use Rattle.paper.specs.Xml.{Nodes, nothing, element, chars, wanted, read_xml, starts, What, Row, row, table}
use Rattle.paper.specs.Answers.{value, scratch_of, run_answer, parent_field, kind_field, read_xml_answer, read_xml_column}

-- THE TREE.

-- Nodes beside each other from `low` to `high`: none is empty, each begins at or past the end of the one before it, and what is inside an element stands past its first byte and up to its end.
abbrev pub Nested : ℕ → ℕ → Nodes → Type 0
Nested low high nothing = low ≤ high
Nested low high (element name begin end inside rest) = (low ≤ begin) × (begin < end) × Nested (suc begin) end inside × Nested end high rest
Nested low high (chars begin end rest) = (low ≤ begin) × (begin < end) × Nested end high rest

-- No text stands right behind another (`fresh` says that a text may come next).
abbrev pub Spaced : Bool → Nodes → Type 0
Spaced fresh nothing = Unit
Spaced fresh (element name begin end inside rest) = Spaced true inside × Spaced true rest
Spaced fresh (chars begin end rest) = (fresh ≡ true) × Spaced false rest

-- This byte stands right before the place.
pub record RightPast (text : List ℕ) (b place : ℕ) : Type 0 where
  pub last : ℕ
  pub next : place ≡ suc last
  pub stands : get_or text last 0 ≡ b

-- An element's place begins with `<` and its name, and ends with `>`.
pub record ElementStands (text name : List ℕ) (begin end : ℕ) : Type 0 where
  pub opened : starts (60 ∷ name) (drop begin text) ≡ true
  pub closed : RightPast text 62 end

-- A text's place is all that stands between a `>` and the next `<`.
pub record TextStands (text : List ℕ) (begin end : ℕ) : Type 0 where
  pub behind : RightPast text 62 begin
  pub clear : (k : ℕ) → begin ≤ k → k < end → get_or text k 0 ≡ 60 → ⊥
  pub before : get_or text end 0 ≡ 60

-- So it is of all nodes.
abbrev pub Standing : List ℕ → Nodes → Type 0
Standing text nothing = Unit
Standing text (element name begin end inside rest) = ElementStands text name begin end × Standing text inside × Standing text rest
Standing text (chars begin end rest) = TextStands text begin end × Standing text rest

-- TREE NESTS: of a wanted text the nodes nest within the text;
abbrev pub TreeNests : Type 0
TreeNests = (text : List ℕ) (tree : Nodes) → read_xml text ≡ wanted tree → Nested 0 (length text) tree

-- no two texts stand side by side;
abbrev pub TreeSpaced : Type 0
TreeSpaced = (text : List ℕ) (tree : Nodes) → read_xml text ≡ wanted tree → Spaced false tree

-- each node stands where its place says.
abbrev pub TreeStands : Type 0
TreeStands = (text : List ℕ) (tree : Nodes) → read_xml text ≡ wanted tree → Standing text tree

-- THE TABLE, by the numbers of its nodes.

-- The line of a node.
abbrev pub line_at : List Row → ℕ → Row
line_at lines i = get_or lines i (row 0 What.root 0 0)

-- A node's place is not empty and lies within its parent's.
pub record Within (lines : List Row) (i : ℕ) : Type 0 where
  pub filled : (line_at lines i).begin < (line_at lines i).end
  pub begins : (line_at lines (line_at lines i).parent).begin ≤ (line_at lines i).begin
  pub ends : (line_at lines i).end ≤ (line_at lines (line_at lines i).parent).end

-- PLACES NEST: so it is of every node, the root's place being the whole text.
abbrev pub PlacesNest : Type 0
PlacesNest =
    (text : List ℕ) (tree : Nodes) → read_xml text ≡ wanted tree
    → (i : ℕ) → i < length (table (length text) tree) → Within (table (length text) tree) i

-- PLACES RISE: of two nodes below the root the later one begins later;
abbrev pub PlacesRise : Type 0
PlacesRise =
    (text : List ℕ) (tree : Nodes) → read_xml text ≡ wanted tree
    → (i j : ℕ) → 0 < i → i < j → j < length (table (length text) tree)
    → (line_at (table (length text) tree) i).begin < (line_at (table (length text) tree) j).begin

-- and of two nodes with one parent the later one begins at or past the end of the earlier one.
abbrev pub PlacesApart : Type 0
PlacesApart =
    (text : List ℕ) (tree : Nodes) → read_xml text ≡ wanted tree
    → (i j : ℕ) → 0 < i → i < j → j < length (table (length text) tree)
    → (line_at (table (length text) tree) i).parent ≡ (line_at (table (length text) tree) j).parent
    → (line_at (table (length text) tree) i).end ≤ (line_at (table (length text) tree) j).begin

-- PLACES TELL who is over whom: of two nodes the earlier one is over the later one exactly if the later one ends no later.
abbrev pub PlacesTell : Type 0
PlacesTell =
    (text : List ℕ) (tree : Nodes) → read_xml text ≡ wanted tree
    → (kinds : List ℕ) (i j : ℕ) → i < j → j < length (table (length text) tree)
    → (over (table_of (map parent_field (table (length text) tree)) kinds) j i ≡ true)
    ↔ ((line_at (table (length text) tree) j).end ≤ (line_at (table (length text) tree) i).end)

-- An element with this parent stands between two nodes.
pub record ElementBetween (lines : List Row) (up i j : ℕ) : Type 0 where
  pub node : ℕ
  pub name : List ℕ
  pub past : i < node
  pub before : node < j
  pub beside : (line_at lines node).parent ≡ up
  pub is_element : (line_at lines node).what ≡ What.named name

-- NO TWO TEXTS stand side by side: between two texts with one parent there is an element with that parent.
abbrev pub NoTwoTexts : Type 0
NoTwoTexts =
    (text : List ℕ) (tree : Nodes) → read_xml text ≡ wanted tree
    → (i j : ℕ) → i < j → j < length (table (length text) tree)
    → (line_at (table (length text) tree) i).parent ≡ (line_at (table (length text) tree) j).parent
    → (line_at (table (length text) tree) i).what ≡ What.text → (line_at (table (length text) tree) j).what ≡ What.text
    → ElementBetween (table (length text) tree) (line_at (table (length text) tree) i).parent i j

-- NODES STAND where their places say: an element from its `<` to past its last `>`,
abbrev pub ElementsStand : Type 0
ElementsStand =
    (text : List ℕ) (tree : Nodes) → read_xml text ≡ wanted tree
    → (i : ℕ) (name : List ℕ) → i < length (table (length text) tree) → (line_at (table (length text) tree) i).what ≡ What.named name
    → ElementStands text name (line_at (table (length text) tree) i).begin (line_at (table (length text) tree) i).end

-- and a text from behind a `>` to the next `<`.
abbrev pub TextsStand : Type 0
TextsStand =
    (text : List ℕ) (tree : Nodes) → read_xml text ≡ wanted tree
    → (i : ℕ) → i < length (table (length text) tree) → (line_at (table (length text) tree) i).what ≡ What.text
    → TextStands text (line_at (table (length text) tree) i).begin (line_at (table (length text) tree) i).end

-- RUNNING.

-- A table of n nodes without fault, with which marks that are all 1 have none either.
pub record Good (t : Table) (n : ℕ) : Type 0 where
  pub parents_long : nodes t ≡ n
  pub kinds_long : length t.kinds ≡ n
  pub table_fine : table_fault t ≡ none
  pub marks_fine : marks_fault t (replicate n 1) ≡ none

-- GOOD TABLE: with a list of names without fault the parents and the kinds of any tree are such a table.
abbrev pub GoodTable : Type 0
GoodTable =
    (list : List ℕ) (long : ℕ) (tree : Nodes) → names_fault list ≡ none
    → Good (table_of (map parent_field (table long tree)) (map (kind_field list) (table long tree))) (length (table long tree))

-- What an accepted call wrote into the columns of parents and kinds.
abbrev pub written_table : List ℕ → List ℕ → List ℕ → List ℕ → ℕ → Table
written_table text list parents kinds n =
    table_of (take n (read_xml_column parent_field text (value n) parents)) (take n (read_xml_column (kind_field list) text (value n) kinds))

-- WRITTEN TABLE: where the answer is a value, the columns up to that number of nodes are such a table;
abbrev pub WrittenTable : Type 0
WrittenTable =
    (text list parents kinds begins ends : List ℕ) (n : ℕ) → read_xml_answer text list (length parents) (length kinds) (length begins) (length ends) ≡ value n
    → Good (written_table text list parents kinds n) n

-- every query that has items runs on it, with all marks 1 and scratch enough;
abbrev pub WrittenRuns : Type 0
WrittenRuns =
    (text list parents kinds begins ends : List ℕ) (n : ℕ) → read_xml_answer text list (length parents) (length kinds) (length begins) (length ends) ≡ value n
    → (query : List ℕ) (q : Query) → length query ≤ item_limit → decode query ≡ some q
    → (room : ℕ) → scratch_of (written_table text list parents kinds n) q ≤ room
    → (kept : ℕ) × (run_answer query (written_table text list parents kinds n) (replicate n 1) n room ≡ value kept)

-- and each of the four columns says of each node what its line says.
abbrev pub WrittenLines : Type 0
WrittenLines =
    (text list parents kinds begins ends : List ℕ) (n : ℕ) → read_xml_answer text list (length parents) (length kinds) (length begins) (length ends) ≡ value n
    → (tree : Nodes)
    × (read_xml text ≡ wanted tree)
    × (n ≡ length (table (length text) tree))
    × ((field : Row → ℕ) (out : List ℕ) (i : ℕ) → i < n → get_or (read_xml_column field text (value n) out) i 0 ≡ field (line_at (table (length text) tree) i))
