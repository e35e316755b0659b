-- What going through an end tag promises: where the paper's reading stands past the name of the element, and past the tag.
use Rattle.std.specs.Prelude.{ℕ, Ok, Err, suc, ◌+◌, ◌<◌, ◌≡◌, Bool, ◌&&◌, List, [], ◌∷◌, eqb, length, get_or, take, drop}
use Rattle.paper.specs.Tools.{run_of}
use Rattle.paper.specs.Names.{name_part}
use Rattle.paper.specs.Xml.{Nodes, nothing, element, Frame, State, with, content, closing, ended}
use Rattle.xml_bytes.specs.Seeking.{Sought, stops, refusing}
use Rattle.xml_bytes.specs.Promised.{Reach, state, seek_at, reached, Between}

-- The name that stands at a place.
abbrev pub name_at : List ℕ → ℕ → List ℕ
name_at text at = take (run_of name_part (drop at text)) (drop at text)

-- A node is read inside the innermost open element, or as the one element.
abbrev pub added : Nodes → List Frame → State
added node [] = state (ended node) []
added node (f ∷ fs) = state content (with f node ∷ fs)

-- Where an end tag ends, the element is read.
abbrev pub end_took : Frame → List Frame → Reach → Sought
end_took f fs (Ok to) = stops to (added (element f.name f.begin to f.inside nothing) fs)
end_took f fs (Err why) = refusing why

-- Is the byte so far behind `letter` one of a name, and the same as the one so far behind `place`?
abbrev pub repeated_from : List ℕ → ℕ → ℕ → ℕ → Bool
repeated_from text place letter i = name_part (get_or text (letter + i) 0) && eqb (get_or text (letter + i) 0) (get_or text (place + i) 0)

-- The name of the element that begins at `inner` is read again.
pub record Renames (text : List ℕ) (at inner : ℕ) (r : Reach) : Type 0 where
  pub goes : (frames : List Frame) → seek_at text at (state (closing (name_at text (suc inner))) frames) ≡ reached text (state (closing []) frames) r
  pub bounds : Between at (length text) r

pub record Ends (text : List ℕ) (at inner : ℕ) (r : Reach) : Type 0 where
  pub goes : (f : Frame) (fs : List Frame) → f.name ≡ name_at text (suc inner) → seek_at text at (state (closing f.name) (f ∷ fs)) ≡ end_took f fs r
  pub bounds : Between (suc at) (length text) r

-- The name of the element that begins at a place lies within the text, and something follows it.
abbrev pub Named : List ℕ → ℕ → Type 0
Named text begin = suc begin + run_of name_part (drop (suc begin) text) < length text
