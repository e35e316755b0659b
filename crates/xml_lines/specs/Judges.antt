-- What reading keeps of the text so far, and what it promises.
use Rattle.std.specs.Prelude.{ℕ, suc, ◌*◌, ◌≤◌, ◌<◌, ◌≡◌, List, [], ◌∷◌, Result, Ok, Err, length, get_or}
use Rattle.std.proofs.Math.Option.{Option}
use Rattle.paper.specs.Limits.{node_limit}
use Rattle.paper.specs.Names.{names_of, number_of}
use Rattle.paper.specs.Told.{found}
use Rattle.paper.specs.declared.Refusal.{Refusal}
use Rattle.paper.specs.Xml.{Nodes, Frame, wanted, unwanted, read_xml, Row, table, unnamed}
use Rattle.xml_bytes.specs.Seeking.{refusal_number, refusal_place}
use Rattle.xml.specs.declared.Piece.{Piece}
use Rattle.xml_lines.specs.Open.{innermost, lines, Stand, past, open_in, so_far, Stands, Moves}
use Rattle.xml_lines.specs.Kept.{Columns, Filled}
use Rattle.xml_lines.specs.declared.Progress.{Progress}

-- How many elements can be open at once in a text within the limit.
abbrev pub open_limit : ℕ
open_limit = 10922

-- The places where the open elements begin are kept, the outermost first.
abbrev pub Kept : List ℕ → List Frame → Type 0
Kept begins [] = Unit
Kept begins (f ∷ fs) = (get_or begins (length fs) 0 ≡ f.begin) × Kept begins fs

-- What is counted at a place where these elements are open and these are the lines so far.
pub record Counts (look : List ℕ → Option ℕ) (begins : List ℕ) (frames : List Frame) (rows : List Row) (p : Progress) : Type 0 where
  pub long : length begins ≡ open_limit
  pub depth : p.depth ≡ length frames
  pub kept : Kept begins frames
  pub nodes : p.nodes ≡ length rows
  pub lacking : found p.unnamed ≡ unnamed look rows
  pub room : 3 * length frames ≤ p.at
  pub few : length rows ≤ suc p.at

-- As long as there are no more lines than a table may have, they are kept, and the number of the innermost open element is known.
abbrev pub Lined : List ℕ → List Row → ℕ → Columns → ℕ → Type 0
Lined list rows number cols inner = length rows ≤ node_limit → Filled list rows cols × (inner ≡ number)

-- Reading stands between two pieces.
pub record Standing (text list begins : List ℕ) (cols : Columns) (p : Progress) : Type 0 where
  pub stand : Stand
  pub stands : Stands text p.at stand
  pub counts : Counts (number_of (names_of list)) begins (open_in stand) (so_far (length text) stand) p
  pub lined : Lined list (so_far (length text) stand) (innermost (open_in stand)) cols p.inner

-- It stands before a piece.
pub record Facing (text list begins : List ℕ) (cols : Columns) (piece : Piece) (p : Progress) : Type 0 where
  pub frames : List Frame
  pub inside : p.at ≤ length text
  pub moves : Moves text p.at frames piece
  pub counts : Counts (number_of (names_of list)) begins frames (lines (length text) frames) p
  pub lined : Lined list (lines (length text) frames) (innermost frames) cols p.inner

-- The text is refused.
abbrev pub Refuses : List ℕ → Refusal → Type 0
Refuses text why = read_xml text ≡ unwanted (refusal_number why) (refusal_place why)

-- It has come further, or the text is refused.
abbrev pub Comes : List ℕ → List ℕ → List ℕ → Columns → Result Progress Refusal → Type 0
Comes text list begins cols (Ok p) = Standing text list begins cols p
Comes text list begins cols (Err why) = Refuses text why

-- Further than before.
abbrev pub Rises : ℕ → Result Progress Refusal → Type 0
Rises at (Ok p) = at < p.at
Rises at (Err why) = Unit

-- What was read is a tree: its lines are counted, and kept where a table may have so many.
pub record Counted (text list : List ℕ) (cols : Columns) (p : Progress) (tree : Nodes) : Type 0 where
  pub nodes : p.nodes ≡ length (table (length text) tree)
  pub lacking : found p.unnamed ≡ unnamed (number_of (names_of list)) (table (length text) tree)
  pub filled : length (table (length text) tree) ≤ node_limit → Filled list (table (length text) tree) cols

-- Up to the end of the one element.
pub record Element (text list : List ℕ) (cols : Columns) (p : Progress) : Type 0 where
  pub tree : Nodes
  pub stands : Stands text p.at (past tree)
  pub counted : Counted text list cols p tree

abbrev pub Ends : List ℕ → List ℕ → Columns → Result Progress Refusal → Type 0
Ends text list cols (Ok p) = Element text list cols p
Ends text list cols (Err why) = Refuses text why

-- Within the text.
abbrev pub Inside : List ℕ → Result Progress Refusal → Type 0
Inside text (Ok p) = p.at ≤ length text
Inside text (Err why) = Unit

-- The whole text is judged.
pub record Wanted (text list : List ℕ) (cols : Columns) (p : Progress) : Type 0 where
  pub tree : Nodes
  pub is : read_xml text ≡ wanted tree
  pub counted : Counted text list cols p tree

abbrev pub Judges : List ℕ → List ℕ → Columns → Result Progress Refusal → Type 0
Judges text list cols (Ok p) = Wanted text list cols p
Judges text list cols (Err why) = Refuses text why
