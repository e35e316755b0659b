-- What stands before the one element: the declaration and white space. The paper's automaton, stopped where the element begins.
use Rattle.std.specs.Prelude.{ℕ, suc, ◌-◌, ◌≤◌, ◌<◌, ◌≡◌, Bool, true, false, not, ◌&&◌, ◌||◌, cond, List, [], ◌∷◌, Ok, Err, eqb, length, get_or, drop}
use Rattle.paper.specs.Tools.{ascii, begins}
use Rattle.paper.specs.Tokens.{white}
use Rattle.paper.specs.Xml.{Pattern, one, many, fork, encoding, is_done, say, quoted, digit, any_case, declaration_end, after_encoding, after_version}
use Rattle.paper.specs.Xml.{Mode, start, first, heading, ahead, opening, in_name, in_tag, emptied, content, run, partly, closing, ended, State, step, left_out, left_out_anywhere}
use Rattle.xml_bytes.specs.Seeking.{Sought, stops, refused, refusing, refusal_place, onwards, seek}
use Rattle.xml_bytes.specs.Promised.{Reach, state, reached, Between}

-- Does an element's tag begin here, and nothing that is left out?
abbrev pub marks : List ℕ → Bool
marks bs = begins 60 bs && not (left_out_anywhere bs)

-- Does the one element begin here?
abbrev pub heads : Mode → List ℕ → Bool
heads start bs = marks bs
heads first bs = false
heads (heading p) bs = false
heads ahead bs = marks bs
heads (opening begin) bs = false
heads (in_name begin name) bs = false
heads (in_tag begin name) bs = false
heads (emptied begin name) bs = false
heads content bs = false
heads (run begin k) bs = false
heads (partly begin p) bs = false
heads (closing name) bs = false
heads (ended tree) bs = false

-- From a state on to where the one element begins.
abbrev pub seek_head : ℕ → State → List ℕ → Sought
seek_head at s [] = refused 11 at
seek_head at s (b ∷ bs) =
    let next = onwards at (step at s b) (λ t. seek_head (suc at) t bs) in
    let more = cond (left_out s.mode (b ∷ bs)) (refused 12 at) next in
    cond (heads s.mode (b ∷ bs)) (stops at (state ahead [])) more

abbrev pub head_at : List ℕ → ℕ → State → Sought
head_at text at s = seek_head at s (drop at text)

-- The state in which this must come of the declaration; where nothing must, the place before the element.
abbrev pub awaiting : Pattern → State
awaiting p = cond (is_done p) (state ahead []) (state (heading p) [])

-- What is left to read where a part was read.
abbrev pub comes : List ℕ → State → Reach → Sought
comes text s (Ok to) = head_at text to s
comes text s (Err why) = refusing why

-- From one pattern to another.
pub record Heads (text : List ℕ) (at : ℕ) (p q : Pattern) (r : Reach) : Type 0 where
  pub goes : head_at text at (awaiting p) ≡ comes text (awaiting q) r
  pub bounds : Between at (length text) r

-- A value behind a name of the declaration: `=` and a quote.
abbrev pub valued : (ℕ → Pattern) → Pattern
valued value = many white (one (eqb 61) (many white (quoted value)))

abbrev pub is_quote : ℕ → Bool
is_quote b = eqb b 34 || eqb b 39

-- Behind the quote that opens a value.
abbrev pub behind_quote : List ℕ → (ℕ → Pattern) → Reach → Sought
behind_quote text value (Ok to) = head_at text to (awaiting (value (get_or text (to - 1) 0)))
behind_quote text value (Err why) = refusing why

abbrev pub QuoteBefore : List ℕ → Reach → Type 0
QuoteBefore text (Ok to) = is_quote (get_or text (to - 1) 0) ≡ true
QuoteBefore text (Err why) = Unit

pub record Gives (text : List ℕ) (at : ℕ) (before : (ℕ → Pattern) → Pattern) (r : Reach) : Type 0 where
  pub goes : (value : ℕ → Pattern) → head_at text at (awaiting (before value)) ≡ behind_quote text value r
  pub bounds : Between (suc at) (length text) r
  pub quote : QuoteBefore text r

-- THE VALUES, each with the quote that closes it.
abbrev pub numbered : ℕ → Pattern → Pattern
numbered q p = one digit (many digit (one (eqb q) p))

abbrev pub version_value : ℕ → Pattern
version_value q = say (ascii "1.") (numbered q after_version)

abbrev pub utf8 : ℕ → Pattern
utf8 q = one (any_case 117) (one (any_case 116) (one (any_case 102) (say (ascii "-8") (one (eqb q) after_encoding))))

abbrev pub encoding_value : ℕ → Pattern
encoding_value q = encoding q (utf8 q)

abbrev pub yes_no : Pattern → Pattern
yes_no p = fork (say (ascii "yes") p) (say (ascii "no") p)

abbrev pub standalone_value : ℕ → Pattern
standalone_value q = yes_no (one (eqb q) declaration_end)

-- THE PLACE OF THE ELEMENT.
abbrev pub led : Reach → Sought
led (Ok to) = stops to (state ahead [])
led (Err why) = refusing why

-- Its `<` stands there, and opens nothing that is left out.
abbrev pub Marked : List ℕ → Reach → Type 0
Marked text (Ok place) = (place < length text) × (get_or text place 0 ≡ 60) × (left_out_anywhere (drop place text) ≡ false)
Marked text (Err why) = refusal_place why ≤ length text

-- Past white space.
pub record Lands (text : List ℕ) (at : ℕ) (r : Reach) : Type 0 where
  pub goes : head_at text at (state ahead []) ≡ led r
  pub marked : Marked text r

-- From the beginning of the text: reading goes on from there as from the place before the element, and it is the first such place.
pub record Leads (text : List ℕ) (r : Reach) : Type 0 where
  pub goes : seek 0 (state start []) text ≡ reached text (state ahead []) r
  pub marked : Marked text r
  pub only : seek_head 0 (state start []) text ≡ led r
