-- What comparing keeps of the text so far, and what it promises.
use Rattle.std.specs.Prelude.{ℕ, ◌≤◌, ◌<◌, ◌≡◌, Bool, true, false, List, length, Option, Some, None, Result, Ok, Err}
use Rattle.paper.specs.Names.{names_of, number_of}
use Rattle.paper.specs.declared.Refusal.{Refusal}
use Rattle.paper.specs.Xml.{Nodes, Frame, Row, wanted, unwanted, read_xml, table}
use Rattle.xml.specs.declared.Piece.{Piece}
use Rattle.xml_lines.specs.Kept.{Columns}
use Rattle.xml_lines.specs.Open.{innermost, lines, Stand, past, open_in, so_far, Stands, Moves}
use Rattle.xml_lines.specs.Judges.{Counts}
use Rattle.read_listed.proofs.Counted.{progress}
use Rattle.match_lines.specs.Lines.{Agree, told, told_at}
use Rattle.match_lines.specs.declared.Progress.{Progress}
use Rattle.match_lines.specs.declared.Match.{Match}

-- The flag says whether the lines so far agree with the columns; while they do, the number of the innermost open element is known.
pub record Compares (list : List ℕ) (cols : Columns) (rows : List Row) (number : ℕ) (same : Bool) (inner : ℕ) : Type 0 where
  pub yes : same ≡ true → Agree list cols 0 rows × (inner ≡ number)
  pub no : same ≡ false → Agree list cols 0 rows → ⊥

-- Comparing stands between two pieces; what is counted is as in reading.
pub record Standing (text list begins : List ℕ) (cols : Columns) (p : Progress) : Type 0 where
  pub stand : Stand
  pub stands : Stands text p.at stand
  pub unnamed : Option ℕ
  pub counts : Counts (number_of (names_of list)) begins (open_in stand) (so_far (length text) stand) (progress p.at p.depth 0 p.nodes unnamed)
  pub compares : Compares list cols (told_at (length text) cols.ends stand) (innermost (open_in stand)) p.same p.inner

-- It stands before a piece.
pub record Facing (text list begins : List ℕ) (cols : Columns) (piece : Piece) (p : Progress) : Type 0 where
  pub frames : List Frame
  pub inside : p.at ≤ length text
  pub moves : Moves text p.at frames piece
  pub unnamed : Option ℕ
  pub counts : Counts (number_of (names_of list)) begins frames (lines (length text) frames) (progress p.at p.depth 0 p.nodes unnamed)
  pub compares : Compares list cols (told (length text) cols.ends frames) (innermost frames) p.same p.inner

-- It has come further, or the text is refused.
pub record IsRefused (text : List ℕ) : Type 0 where
  pub number : ℕ
  pub place : ℕ
  pub is : read_xml text ≡ unwanted number place

abbrev pub Comes : List ℕ → List ℕ → List ℕ → Columns → Result Progress Refusal → Type 0
Comes text list begins cols (Ok p) = Standing text list begins cols p
Comes text list begins cols (Err why) = IsRefused text

-- Further than before.
abbrev pub Rises : ℕ → Result Progress Refusal → Type 0
Rises at (Ok p) = at < p.at
Rises at (Err why) = Unit

-- What was read is a tree: its lines are counted, and the flag says whether they agree.
pub record Matched (text list : List ℕ) (cols : Columns) (p : Progress) (tree : Nodes) : Type 0 where
  pub nodes : p.nodes ≡ length (table (length text) tree)
  pub yes : p.same ≡ true → Agree list cols 0 (table (length text) tree)
  pub no : p.same ≡ false → Agree list cols 0 (table (length text) tree) → ⊥

-- Up to the end of the one element.
pub record Element (text list : List ℕ) (cols : Columns) (p : Progress) : Type 0 where
  pub tree : Nodes
  pub stands : Stands text p.at (past tree)
  pub matched : Matched text list cols p tree

abbrev pub Ends : List ℕ → List ℕ → Columns → Result Progress Refusal → Type 0
Ends text list cols (Ok p) = Element text list cols p
Ends text list cols (Err why) = IsRefused text

-- The whole text is compared.
pub record Wanted (text list : List ℕ) (cols : Columns) (p : Progress) : Type 0 where
  pub tree : Nodes
  pub is : read_xml text ≡ wanted tree
  pub matched : Matched text list cols p tree

abbrev pub Judges : List ℕ → List ℕ → Columns → Result Progress Refusal → Type 0
Judges text list cols (Ok p) = Wanted text list cols p
Judges text list cols (Err why) = IsRefused text

-- What is said of a text: how many lines it has, and whether they agree.
pub record Says (text list : List ℕ) (cols : Columns) (m : Match) : Type 0 where
  pub tree : Nodes
  pub is : read_xml text ≡ wanted tree
  pub nodes : m.nodes ≡ length (table (length text) tree)
  pub yes : m.same ≡ true → Agree list cols 0 (table (length text) tree)
  pub no : m.same ≡ false → Agree list cols 0 (table (length text) tree) → ⊥

abbrev pub Tells : List ℕ → List ℕ → Columns → Option Match → Type 0
Tells text list cols (Some m) = Says text list cols m
Tells text list cols None = IsRefused text
