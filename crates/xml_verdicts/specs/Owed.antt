-- What reading XML owes to the productions; the proofs are in proofs/.
use Rattle.std.specs.Prelude.{ℕ, suc, ◌<◌, ◌≤◌, ◌≡◌, true, false, not, ◌&&◌, List, [], ◌∷◌, ◌++◌, ◌↔◌, ◌⊎◌, length, take, drop}
use Rattle.std.proofs.Math.Option.{some}
use Rattle.paper.specs.Tools.{ascii}
use Rattle.paper.specs.Names.{name_start, name_part}
use Rattle.paper.specs.Tokens.{white}
use Rattle.paper.specs.Xml.{Nodes, wanted, unwanted, read_xml, xml_start, xml_part, starts, first_is, declares, other_encoding}
use Rattle.xml_grammar.specs.Productions.{NameIn, SomeIn, GivenIn, VersionIn, SayIn, Derives}

-- ACCEPTED: a text is read as a tree exactly if the tree is derived from it; so no text has two derivations of different trees.
abbrev pub Accepted : Type 0
Accepted = (text : List ℕ) (tree : Nodes) → (read_xml text ≡ wanted tree) ↔ Derives text tree

abbrev pub Unique : Type 0
Unique = (text : List ℕ) (s t : Nodes) → Derives text s → Derives text t → s ≡ t

-- The bytes begin a wanted text.
abbrev pub Begins : List ℕ → Type 0
Begins before = (more : List ℕ) × (tree : Nodes) × Derives (before ++ more) tree

-- Where the bytes before a place leave off: past the `<` of a start tag, in its name, or past white space behind its name.
-- (A `<` before a name opens a start tag wherever the bytes begin a wanted text.)
pub data TagOpens : List ℕ → Type 0 where
  tag_opens : (u : List ℕ) → TagOpens (u ++ (60 ∷ []))

pub data NameOpens : List ℕ → Type 0 where
  name_opens : (u name : List ℕ) {at to : ℕ} → NameIn at name name to [] → NameOpens (u ++ (60 ∷ name))

pub data GapOpens : List ℕ → Type 0 where
  gap_opens : (u name gap : List ℕ) {at to p q : ℕ} → NameIn at name name to [] → SomeIn white p gap q [] → GapOpens (u ++ (60 ∷ name ++ gap))

-- Right behind the quote that opens the encoding's value.
pub data ValueOpens : List ℕ → ℕ → Type 0 where
  value_opens : {quote p q r : ℕ} {bs cs ds : List ℕ} → SayIn (ascii "<?xml") 0 bs p cs → VersionIn p cs q ds → GivenIn (ascii "encoding") quote q ds r [] → ValueOpens bs quote

-- A thing that is left out opens between the bytes before and those after.
pub data Opens : List ℕ → List ℕ → Type 0 where
  markup : {before after : List ℕ} → starts (ascii "<!") after ≡ true → Opens before after
  character : {before after : List ℕ} → starts (ascii "&#") after ≡ true → Opens before after
  instruction : {b : ℕ} {before after : List ℕ} → starts (ascii "<?") after ≡ true → Opens (b ∷ before) after
  no_declaration : {after : List ℕ} → starts (ascii "<?") after ≡ true → declares after ≡ false → Opens [] after
  byte_order_mark : {after : List ℕ} → starts (239 ∷ 187 ∷ 191 ∷ []) after ≡ true → Opens [] after
  attribute : {before after : List ℕ} → GapOpens before → first_is xml_start after ≡ true → Opens before after
  name-start : {before after : List ℕ} → TagOpens before → first_is (λ b. xml_start b && not (name_start b)) after ≡ true → Opens before after
  name-part : {before after : List ℕ} → NameOpens before → first_is (λ b. xml_part b && not (name_part b)) after ≡ true → Opens before after
  other-encoding : {quote : ℕ} {before after : List ℕ} → ValueOpens before quote → other_encoding (some quote) after ≡ true → Opens before after

-- LEFT OUT at a place: all before it begins a wanted text, and a thing that is left out opens there.
pub record LeftOutAt (text : List ℕ) (place : ℕ) : Type 0 where
  pub inside : place ≤ length text
  pub begun : Begins (take place text)
  pub opens : Opens (take place text) (drop place text)

-- STUCK at a place: all before it begins a wanted text; with the byte there none goes on, or the text ends there and is no wanted text.
pub record StuckAt (text : List ℕ) (place : ℕ) : Type 0 where
  pub inside : place ≤ length text
  pub begun : Begins (take place text)
  pub stuck : ((place < length text) × (Begins (take (suc place) text) → ⊥)) ⊎ ((place ≡ length text) × ((tree : Nodes) → Derives text tree → ⊥))

-- REFUSALS 12 AND 11: each is given exactly where its line holds first, 12 before 11 at one place;
abbrev pub LeftOutRefused : Type 0
LeftOutRefused =
    (text : List ℕ) (place : ℕ)
    → (read_xml text ≡ unwanted 12 place) ↔ (LeftOutAt text place × ((earlier : ℕ) → earlier < place → LeftOutAt text earlier → ⊥))

abbrev pub StuckRefused : Type 0
StuckRefused =
    (text : List ℕ) (place : ℕ)
    → (read_xml text ≡ unwanted 11 place) ↔ (StuckAt text place × ((earlier : ℕ) → earlier ≤ place → LeftOutAt text earlier → ⊥))

-- and every text is read, refused with 12 or refused with 11.
abbrev pub Settled : Type 0
Settled =
    (text : List ℕ)
    → ((tree : Nodes) × (read_xml text ≡ wanted tree)) ⊎ ((place : ℕ) × ((read_xml text ≡ unwanted 12 place) ⊎ (read_xml text ≡ unwanted 11 place)))
