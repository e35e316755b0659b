-- Bytes that must come, and what reading them says of the paper's reading.
use Rattle.std.specs.Prelude.{ℕ, Result, Ok, Err, zero, suc, ◌≤◌, ◌≡◌, Bool, true, false, not, ◌&&◌, ◌||◌, cond, List, [], ◌∷◌, eqb, drop}
use Rattle.paper.specs.Xml.{from, Frame, Mode, State, left_out_anywhere}
use Rattle.paper.specs.declared.Refusal.{Refusal}
use Rattle.paper.specs.declared.Refusal.TheVariants.{NoXml, LeftOut}
use Rattle.xml_bytes.specs.Seeking.{Sought, refusing, refusal_place, seek}

-- What reading a part comes to: the place past it, or a refusal.
abbrev pub Reach : Type 0
Reach = Result ℕ Refusal

abbrev pub state : Mode → List Frame → State
state mode frames = record { mode = mode; frames = frames }

-- Reading from a place of the text on.
abbrev pub seek_at : List ℕ → ℕ → State → Sought
seek_at text at s = seek at s (drop at text)

-- What is left to read where a part was read: from the place past it, in this state; a refusal is one of the whole.
abbrev pub reached : List ℕ → State → Reach → Sought
reached text s (Ok to) = seek_at text to s
reached text s (Err why) = refusing why

-- The place past a part lies within these bounds, and a refusal within the text.
abbrev pub Between : ℕ → ℕ → Reach → Type 0
Between least most (Ok to) = (least ≤ to) × (to ≤ most)
Between least most (Err why) = refusal_place why ≤ most

-- Refusal 12 or 11 at a place.
abbrev pub refusal_at : Bool → ℕ → Refusal
refusal_at true at = LeftOut at
refusal_at false at = NoXml at

-- Bytes from a place on, each of its set: the place past them, or where the first other one stands.
abbrev pub row_of : ℕ → List (ℕ → Bool) → List ℕ → Reach
row_of at [] bs = Ok at
row_of at (set ∷ sets) [] = Err (NoXml at)
row_of at (set ∷ sets) (b ∷ bs) = cond (set b) (row_of (suc at) sets bs) (Err (refusal_at (left_out_anywhere (b ∷ bs)) at))

-- What reading such bytes from a place of the text on comes to.
pub record Reads (text : List ℕ) (at : ℕ) (sets : List (ℕ → Bool)) (r : Reach) : Type 0 where
  pub comes : r ≡ row_of at sets (drop at text)

-- A byte with which nothing opens that is left out everywhere.
abbrev pub calm : ℕ → Bool
calm b = not (eqb b 60 || eqb b 38)

abbrev pub all_calm : List ℕ → Bool
all_calm [] = true
all_calm (b ∷ bs) = calm b && all_calm bs

-- The sets of a word's bytes, and of so many bytes that go on with a character.
abbrev pub spelling : List ℕ → List (ℕ → Bool)
spelling [] = []
spelling (b ∷ bs) = eqb b ∷ spelling bs

abbrev pub tailing : ℕ → List (ℕ → Bool)
tailing zero = []
tailing (suc n) = from 128 191 ∷ tailing n
