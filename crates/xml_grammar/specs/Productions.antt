-- The wanted texts of 02, 2026-01, written from the productions of XML 1.0, with no look-ahead.
-- Each relation `XIn at bs .. to rest` says: the bytes bs, which stand from place `at` on, are those of an X, then rest, which stands from place `to` on.
use Rattle.std.specs.Prelude.{ℕ, suc, ◌+◌, ◌/◌, ◌%◌, ◌≡◌, Bool, true, false, ◌&&◌, ◌||◌, cond, List, [], ◌∷◌, eqb, ltb}
use Rattle.paper.specs.Tools.{ascii}
use Rattle.paper.specs.Names.{name_start, name_part}
use Rattle.paper.specs.Tokens.{white}
use Rattle.paper.specs.Xml.{Nodes, nothing, element, chars, digit, from, any_case}

-- These very bytes.
pub data SayIn : List ℕ → ℕ → List ℕ → ℕ → List ℕ → Type 0 where
  said : {at : ℕ} {bs : List ℕ} → SayIn [] at bs at bs
  saying : {b at to : ℕ} {ws bs rest : List ℕ} → SayIn ws (suc at) bs to rest → SayIn (b ∷ ws) at (b ∷ bs) to rest

-- Any number of bytes of a set (production 3, S, where there may be none).
pub data ManyIn (set : ℕ → Bool) : ℕ → List ℕ → ℕ → List ℕ → Type 0 where
  no_more : {at : ℕ} {bs : List ℕ} → ManyIn set at bs at bs
  one_more : {b at to : ℕ} {bs rest : List ℕ} → set b ≡ true → ManyIn set (suc at) bs to rest → ManyIn set at (b ∷ bs) to rest

-- At least one.
pub data SomeIn (set : ℕ → Bool) : ℕ → List ℕ → ℕ → List ℕ → Type 0 where
  at_least : {b at to : ℕ} {bs rest : List ℕ} → set b ≡ true → ManyIn set (suc at) bs to rest → SomeIn set at (b ∷ bs) to rest

-- A name of document 01: its first byte, then others.
pub data PartsIn : ℕ → List ℕ → List ℕ → ℕ → List ℕ → Type 0 where
  name_ends : {at : ℕ} {bs : List ℕ} → PartsIn at bs [] at bs
  name_goes_on : {b at to : ℕ} {bs name rest : List ℕ} → name_part b ≡ true → PartsIn (suc at) bs name to rest → PartsIn at (b ∷ bs) (b ∷ name) to rest

pub data NameIn : ℕ → List ℕ → List ℕ → ℕ → List ℕ → Type 0 where
  name-starts : {b at to : ℕ} {bs name rest : List ℕ} → name_start b ≡ true → PartsIn (suc at) bs name to rest → NameIn at (b ∷ bs) (b ∷ name) to rest

-- Production 2: a character.
abbrev pub is_char : ℕ → Bool
is_char c = eqb c 9 || eqb c 10 || eqb c 13 || from 32 55295 c || from 57344 65533 c || from 65536 1114111 c

-- Its bytes in UTF-8.
abbrev pub utf8 : ℕ → List ℕ
utf8 c =
    cond (ltb c 128) (c ∷ [])
    (cond (ltb c 2048) ((192 + c / 64) ∷ (128 + c % 64) ∷ [])
    (cond (ltb c 65536) ((224 + c / 4096) ∷ (128 + c / 64 % 64) ∷ (128 + c % 64) ∷ [])
    ((240 + c / 262144) ∷ (128 + c / 4096 % 64) ∷ (128 + c / 64 % 64) ∷ (128 + c % 64) ∷ [])))

-- A character other than `<` and `&`, or one of the five references.
pub data Atom : Type 0 where
  char : ℕ → Atom
  reference : Atom

pub data AtomIn : ℕ → List ℕ → Atom → ℕ → List ℕ → Type 0 where
  a_char : {c at to : ℕ} {bs rest : List ℕ} → is_char c ≡ true → eqb c 60 ≡ false → eqb c 38 ≡ false → SayIn (utf8 c) at bs to rest → AtomIn at bs (char c) to rest
  lt_ref : {at to : ℕ} {bs rest : List ℕ} → SayIn (ascii "&lt;") at bs to rest → AtomIn at bs reference to rest
  gt_ref : {at to : ℕ} {bs rest : List ℕ} → SayIn (ascii "&gt;") at bs to rest → AtomIn at bs reference to rest
  amp_ref : {at to : ℕ} {bs rest : List ℕ} → SayIn (ascii "&amp;") at bs to rest → AtomIn at bs reference to rest
  apos_ref : {at to : ℕ} {bs rest : List ℕ} → SayIn (ascii "&apos;") at bs to rest → AtomIn at bs reference to rest
  quot_ref : {at to : ℕ} {bs rest : List ℕ} → SayIn (ascii "&quot;") at bs to rest → AtomIn at bs reference to rest

-- A row of them.
pub data AtomsIn : ℕ → List ℕ → List Atom → ℕ → List ℕ → Type 0 where
  no_atom : {at : ℕ} {bs : List ℕ} → AtomsIn at bs [] at bs
  one_atom : {at mid to : ℕ} {bs cs rest : List ℕ} {x : Atom} {xs : List Atom} → AtomIn at bs x mid cs → AtomsIn mid cs xs to rest → AtomsIn at bs (x ∷ xs) to rest

-- Do the characters `]`, `]` and `>` stand in a row (production 14)?
abbrev pub is_the : ℕ → Atom → Bool
is_the c (char d) = eqb d c
is_the c reference = false

abbrev pub marks_end : List Atom → Bool
marks_end [] = false
marks_end (x ∷ []) = false
marks_end (x ∷ y ∷ []) = false
marks_end (x ∷ y ∷ z ∷ rest) = is_the 93 x && is_the 93 y && is_the 62 z || marks_end (y ∷ z ∷ rest)

-- A run of characters: at least one, with no `]]>` in a row of characters.
pub data RunIn : ℕ → List ℕ → ℕ → List ℕ → Type 0 where
  a_run : {at to : ℕ} {bs rest : List ℕ} {x : Atom} {xs : List Atom} → AtomsIn at bs (x ∷ xs) to rest → marks_end (x ∷ xs) ≡ false → RunIn at bs to rest

-- Productions 39 to 44: a row of elements and runs beside each other; runs are as long as can be, so none follows another (`fresh` says that a run may come next).
pub data RowIn : Bool → ℕ → List ℕ → Nodes → ℕ → List ℕ → Type 0 where
  row_ends : {fresh : Bool} {at : ℕ} {bs : List ℕ} → RowIn fresh at bs nothing at bs
  run_first : {at mid to : ℕ} {bs cs rest : List ℕ} {more : Nodes} → RunIn at bs mid cs → RowIn false mid cs more to rest → RowIn true at bs (chars at mid more) to rest
  empty_first : {fresh : Bool} {at p q to : ℕ} {bs cs ds rest name : List ℕ} {more : Nodes} → NameIn (suc at) bs name p cs → ManyIn white p cs q (47 ∷ 62 ∷ ds)
      → RowIn true (suc (suc q)) ds more to rest
      → RowIn fresh at (60 ∷ bs) (element name at (suc (suc q)) nothing more) to rest
  full_first : {fresh : Bool} {at p q r s t to : ℕ} {bs cs ds es fs gs rest name : List ℕ} {inside more : Nodes} → NameIn (suc at) bs name p cs → ManyIn white p cs q (62 ∷ ds)
      → RowIn true (suc q) ds inside r (60 ∷ 47 ∷ es) → SayIn name (suc (suc r)) es s fs → ManyIn white s fs t (62 ∷ gs)
      → RowIn true (suc t) gs more to rest
      → RowIn fresh at (60 ∷ bs) (element name at (suc t) inside more) to rest

-- Production 25, Eq; and a value in quotes of one kind.
pub data EqIn : ℕ → List ℕ → ℕ → List ℕ → Type 0 where
  equals : {at p to : ℕ} {bs cs rest : List ℕ} → ManyIn white at bs p (61 ∷ cs) → ManyIn white (suc p) cs to rest → EqIn at bs to rest

abbrev pub is_quote : ℕ → Bool
is_quote b = eqb b 34 || eqb b 39

-- A word of the declaration, Eq and the quote that opens its value.
pub data GivenIn (word : List ℕ) (quote : ℕ) : ℕ → List ℕ → ℕ → List ℕ → Type 0 where
  gives : {at p q r : ℕ} {bs cs ds es : List ℕ} → SomeIn white at bs p cs → SayIn word p cs q ds → EqIn q ds r (quote ∷ es) → is_quote quote ≡ true
      → GivenIn word quote at bs (suc r) es

-- Production 24, the version: `1.` and digits.
pub data VersionIn : ℕ → List ℕ → ℕ → List ℕ → Type 0 where
  version : {quote at p q r : ℕ} {bs cs ds rest : List ℕ} → GivenIn (ascii "version") quote at bs p cs → SayIn (ascii "1.") p cs q ds → SomeIn digit q ds r (quote ∷ rest)
      → VersionIn at bs (suc r) rest

-- Production 80, the encoding, which is UTF-8 in any case of letters.
pub data EncodingIn : ℕ → List ℕ → ℕ → List ℕ → Type 0 where
  encoded : {quote u t f at p : ℕ} {bs rest : List ℕ} → GivenIn (ascii "encoding") quote at bs p (u ∷ t ∷ f ∷ 45 ∷ 56 ∷ quote ∷ rest)
      → any_case 117 u ≡ true → any_case 116 t ≡ true → any_case 102 f ≡ true
      → EncodingIn at bs (6 + p) rest
  not_encoded : {at : ℕ} {bs : List ℕ} → EncodingIn at bs at bs

-- Production 32, standalone.
pub data StandaloneIn : ℕ → List ℕ → ℕ → List ℕ → Type 0 where
  alone_yes : {quote at p q : ℕ} {bs cs rest : List ℕ} → GivenIn (ascii "standalone") quote at bs p cs → SayIn (ascii "yes") p cs q (quote ∷ rest) → StandaloneIn at bs (suc q) rest
  alone_no : {quote at p q : ℕ} {bs cs rest : List ℕ} → GivenIn (ascii "standalone") quote at bs p cs → SayIn (ascii "no") p cs q (quote ∷ rest) → StandaloneIn at bs (suc q) rest
  not_alone : {at : ℕ} {bs : List ℕ} → StandaloneIn at bs at bs

-- Production 23, the declaration, at the start of the text if it is there.
pub data DeclarationIn : List ℕ → ℕ → List ℕ → Type 0 where
  declared : {p q r s t to : ℕ} {bs cs ds es fs gs rest : List ℕ} → SayIn (ascii "<?xml") 0 bs p cs → VersionIn p cs q ds → EncodingIn q ds r es → StandaloneIn r es s fs
      → ManyIn white s fs t gs → SayIn (ascii "?>") t gs to rest
      → DeclarationIn bs to rest
  not_declared : {bs : List ℕ} → DeclarationIn bs 0 bs

-- DERIVED: declaration, white space, the one element, white space to the end of the text.
pub data Derives : List ℕ → Nodes → Type 0 where
  text : {p q r end : ℕ} {bs cs ds es name : List ℕ} {begin past : ℕ} {inside : Nodes} → DeclarationIn bs p cs → ManyIn white p cs q ds
      → RowIn false q ds (element name begin past inside nothing) r es → ManyIn white r es end []
      → Derives bs (element name begin past inside nothing)
