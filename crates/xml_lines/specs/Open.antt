-- The elements that are open between two pieces, the lines of the table so far, and what a piece does to them.
use Rattle.std.specs.Prelude.{ℕ, suc, ◌+◌, ◌≤◌, ◌<◌, ◌≡◌, List, [], ◌∷◌, ◌++◌, length, drop}
use Rattle.paper.specs.Tools.{run_of}
use Rattle.paper.specs.Names.{name_part}
use Rattle.paper.specs.Xml.{Nodes, nothing, element, chars, Frame, State, with, content, ended, judge, read_xml, count, root, named, Row, row, rows, table}
use Rattle.xml_bytes.specs.Promised.{state}
use Rattle.xml.specs.Pieces.{name_at, opened, Named}
use Rattle.xml.specs.declared.Piece.{Piece}
use Rattle.xml.specs.declared.Piece.TheVariants.{Start, Empty, End, Text}

-- LINES. How many nodes there are where these elements are open, the root among them.
abbrev pub begun : List Frame → ℕ
begun [] = 1
begun (f ∷ fs) = suc (begun fs) + count f.inside

-- The number of the innermost open element; the root's where none is open.
abbrev pub innermost : List Frame → ℕ
innermost [] = 0
innermost (f ∷ fs) = begun fs

-- The lines so far; where an open element ends is not known yet, and 0 stands for it.
abbrev pub lines : ℕ → List Frame → List Row
lines long [] = row 0 root 0 long ∷ []
lines long (f ∷ fs) =
    lines long fs ++ (row (innermost fs) (named f.name) f.begin 0 ∷ rows (begun fs) (suc (begun fs)) f.inside)

-- STANDS. Between two pieces: inside the open elements, or past the one element.
pub data Stand : Type 0 where
  within : Frame → List Frame → Stand
  past : Nodes → Stand

abbrev pub state_of : Stand → State
state_of (within f fs) = state content (f ∷ fs)
state_of (past tree) = state (ended tree) []

abbrev pub open_in : Stand → List Frame
open_in (within f fs) = f ∷ fs
open_in (past tree) = []

abbrev pub so_far : ℕ → Stand → List Row
so_far long (within f fs) = lines long (f ∷ fs)
so_far long (past tree) = table long tree

-- A node more, inside the innermost open element or as the one element.
abbrev pub joined : Nodes → List Frame → Stand
joined node [] = past node
joined node (f ∷ fs) = within (with f node) fs

-- Each open element has the name that stands behind its `<`.
abbrev pub Names : List ℕ → List Frame → Type 0
Names text [] = Unit
Names text (f ∷ fs) = (f.name ≡ name_at text (suc f.begin)) × Named text f.begin × Names text fs

-- The judgement of the text is that from this place on.
pub record Stands (text : List ℕ) (at : ℕ) (stand : Stand) : Type 0 where
  pub judged : read_xml text ≡ judge at (state_of stand) (drop at text)
  pub named : Names text (open_in stand)
  pub inside : at ≤ length text

-- PIECES. The name of the tag that begins at a place ends there, within the text, and has one byte at least.
abbrev pub NameEnds : List ℕ → ℕ → ℕ → Type 0
NameEnds text at name_end = (name_end ≡ suc at + run_of name_part (drop (suc at) text)) × (name_end ≤ length text) × (suc at < name_end)

-- A tag goes on past its name.
abbrev pub Tagged : List ℕ → ℕ → ℕ → ℕ → Type 0
Tagged text at name_end next = NameEnds text at name_end × (suc at < name_end) × (name_end < next)

-- An end tag and a run of characters stand inside an element alone.
abbrev pub Closes : List ℕ → ℕ → List Frame → ℕ → Type 0
Closes text at [] next = ⊥
Closes text at (f ∷ fs) next = Stands text next (joined (element f.name f.begin next f.inside nothing) fs) × (at < next)

abbrev pub Extends : List ℕ → ℕ → List Frame → ℕ → Type 0
Extends text at [] next = ⊥
Extends text at (f ∷ fs) next = Stands text next (within (with f (chars at next nothing)) fs) × (at < next)

-- Where the piece that begins at a place leads from inside these open elements.
abbrev pub Moves : List ℕ → ℕ → List Frame → Piece → Type 0
Moves text at frames (Start name_end next) = Stands text next.at (within (opened (name_at text (suc at)) at) frames) × Tagged text at name_end next.at
Moves text at frames (Empty name_end next) =
    Stands text next.at (joined (element (name_at text (suc at)) at next.at nothing nothing) frames) × Tagged text at name_end next.at
Moves text at frames (End next) = Closes text at frames next.at
Moves text at frames (Text next) = Extends text at frames next.at
