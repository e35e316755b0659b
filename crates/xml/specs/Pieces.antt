-- What taking a piece promises: where the paper's reading stands past it.
use Rattle.std.specs.Prelude.{ℕ, Result, Ok, Err, suc, ◌+◌, ◌≤◌, ◌<◌, ◌≡◌, Bool, true, false, List, [], ◌∷◌, ltb, length, get_or, drop}
use Rattle.paper.specs.Tools.{run_of}
use Rattle.paper.specs.Names.{name_part}
use Rattle.paper.specs.Tokens.{white}
use Rattle.paper.specs.Xml.{Nodes, nothing, element, chars, xml_start, xml_part, Frame, Mode, with, opening, in_name, in_tag, emptied, content, ended, ahead, Judged, wanted, unwanted, judge}
use Rattle.paper.specs.declared.Refusal.{Refusal}
use Rattle.xml_bytes.specs.Seeking.{Sought, stops, refused, refusing, refusal_number, refusal_place, seek_next}
use Rattle.xml_bytes.specs.Promised.{Reach, state, seek_at}
pub use Rattle.end_tags.specs.Renaming.{name_at, added, Named}
use Rattle.xml.specs.declared.Piece.{Piece}
use Rattle.xml.specs.declared.Piece.TheVariants.{Start, Empty, End, Text}

-- What taking a piece comes to: the piece, or a refusal.
abbrev pub Taken : Type 0
Taken = Result Piece Refusal

-- A frame for an element that opens.
abbrev pub opened : List ℕ → ℕ → Frame
opened name begin = record { name = name; begin = begin; inside = nothing }

-- TAGS. In the name of a start tag, or past white space behind it.
abbrev pub tag_mode : Bool → ℕ → List ℕ → Mode
tag_mode true begin name = in_tag begin name
tag_mode false begin name = in_name begin name

-- Where a start tag ends, its element is open, or read if it is empty.
abbrev pub tag_took : ℕ → List ℕ → List Frame → Taken → Sought
tag_took begin name frames (Ok (Start name_end next)) = stops next.at (state content (opened name begin ∷ frames))
tag_took begin name frames (Ok (Empty name_end next)) = stops next.at (added (element name begin next.at nothing nothing) frames)
tag_took begin name frames (Ok (End next)) = refused 11 begin
tag_took begin name frames (Ok (Text next)) = refused 11 begin
tag_took begin name frames (Err why) = refusing why

-- A byte of a name of XML 1.0, which begins behind white space and goes on elsewhere.
abbrev pub foreign_in : Bool → ℕ → Bool
foreign_in true b = xml_start b
foreign_in false b = xml_part b

-- No white space stands at a place past a name, nor a byte that goes on with it right behind.
pub record Past (text : List ℕ) (name_end at : ℕ) : Type 0 where
  pub no_space : white (get_or text at 0) ≡ false
  pub no_part : name_end ≡ at → name_part (get_or text at 0) ≡ false

-- A start tag says where its name ends; the place past a tag lies behind it.
abbrev pub TagBounds : ℕ → ℕ → Taken → Type 0
TagBounds name_end most (Ok (Start end next)) = (end ≡ name_end) × (name_end < next.at) × (next.at ≤ most)
TagBounds name_end most (Ok (Empty end next)) = (end ≡ name_end) × (name_end < next.at) × (next.at ≤ most)
TagBounds name_end most (Ok (End next)) = ⊥
TagBounds name_end most (Ok (Text next)) = ⊥
TagBounds name_end most (Err why) = refusal_place why ≤ most

pub record TagEnds (text : List ℕ) (name_end at : ℕ) (r : Taken) : Type 0 where
  pub goes : (begin : ℕ) (name : List ℕ) (frames : List Frame) → seek_at text at (state (tag_mode (ltb name_end at) begin name) frames) ≡ tag_took begin name frames r
  pub bounds : TagBounds name_end (length text) r

pub record EmptyEnds (text : List ℕ) (name_end at : ℕ) (r : Taken) : Type 0 where
  pub goes : (begin : ℕ) (name : List ℕ) (frames : List Frame) → seek_at text at (state (emptied begin name) frames) ≡ tag_took begin name frames r
  pub bounds : TagBounds name_end (length text) r

-- A tag that is read has a name of at least one byte.
abbrev pub HasName : List ℕ → ℕ → Taken → Type 0
HasName text at (Ok (Start end next)) = 0 < run_of name_part (drop at text)
HasName text at (Ok (Empty end next)) = 0 < run_of name_part (drop at text)
HasName text at (Ok (End next)) = Unit {0}
HasName text at (Ok (Text next)) = Unit {0}
HasName text at (Err why) = Unit {0}

pub record Tags (text : List ℕ) (at : ℕ) (r : Taken) : Type 0 where
  pub goes : (begin : ℕ) (frames : List Frame) → (get_or text at 0 ≡ 47 → frames ≡ []) → seek_at text at (state (opening begin) frames) ≡ tag_took begin (name_at text at) frames r
  pub bounds : TagBounds (at + run_of name_part (drop at text)) (length text) r
  pub named : HasName text at r

-- PIECES. Where a piece that begins at `at` inside the element f ends.
abbrev pub took : List ℕ → ℕ → Frame → List Frame → Taken → Sought
took text at f fs (Ok (Start name_end next)) = stops next.at (state content (opened (name_at text (suc at)) at ∷ f ∷ fs))
took text at f fs (Ok (Empty name_end next)) = stops next.at (state content (with f (element (name_at text (suc at)) at next.at nothing nothing) ∷ fs))
took text at f fs (Ok (End next)) = stops next.at (added (element f.name f.begin next.at f.inside nothing) fs)
took text at f fs (Ok (Text next)) = stops next.at (state content (with f (chars at next.at nothing) ∷ fs))
took text at f fs (Err why) = refusing why

abbrev pub TookBounds : List ℕ → ℕ → Taken → Type 0
TookBounds text at (Ok (Start end next)) = (end ≡ suc at + run_of name_part (drop (suc at) text)) × (suc at < end) × (end < next.at) × (next.at ≤ length text)
TookBounds text at (Ok (Empty end next)) = (end ≡ suc at + run_of name_part (drop (suc at) text)) × (suc at < end) × (end < next.at) × (next.at ≤ length text)
TookBounds text at (Ok (End next)) = (suc (suc at) < next.at) × (next.at ≤ length text)
TookBounds text at (Ok (Text next)) = (at < next.at) × (next.at ≤ length text)
TookBounds text at (Err why) = refusal_place why ≤ length text

pub record Takes (text : List ℕ) (at inner : ℕ) (r : Taken) : Type 0 where
  pub goes : (f : Frame) (fs : List Frame) → f.name ≡ name_at text (suc inner) → seek_next at (state content (f ∷ fs)) (drop at text) ≡ took text at f fs r
  pub bounds : TookBounds text at r

-- THE ONE ELEMENT. Its start tag, before which reading stands with no element open.
pub record Roots (text : List ℕ) (at : ℕ) (r : Taken) : Type 0 where
  pub goes : seek_at text at (state ahead []) ≡ tag_took at (name_at text (suc at)) [] r
  pub bounds : TagBounds (suc at + run_of name_part (drop (suc at) text)) (length text) r
  pub named : HasName text (suc at) r

-- Past it the text ends, or no wanted text goes on.
abbrev pub finished : Nodes → Reach → Judged
finished tree (Ok end) = wanted tree
finished tree (Err why) = unwanted (refusal_number why) (refusal_place why)

abbrev pub FinishBounds : ℕ → Reach → Type 0
FinishBounds most (Ok end) = end ≡ most
FinishBounds most (Err why) = refusal_place why ≤ most

pub record Finishes (text : List ℕ) (at : ℕ) (r : Reach) : Type 0 where
  pub goes : (tree : Nodes) → judge at (state (ended tree) []) (drop at text) ≡ finished tree r
  pub bounds : FinishBounds (length text) r
