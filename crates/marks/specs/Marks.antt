-- What looking at the next token promises: which of the paper's tokens comes next from a place on, and where it ends.
use Rattle.std.specs.Prelude.{ℕ, suc, ◌+◌, ◌≤◌, ◌<◌, ◌≡◌, Bool, true, false, List, Result, Ok, Err, eqb, length, get_or, drop}
use Rattle.paper.specs.Tools.{ascii}
use Rattle.paper.specs.Tokens as paper
use Rattle.paper.specs.Tokens.{Placed, tokens_from, beyond}
use Rattle.paper.specs.Reading.{next, at}
use Rattle.marks.specs.declared.There.{There}

-- The tokens from a place of the text on.
unfoldable pub tokens_at : List ℕ → ℕ → List Placed
tokens_at text place = tokens_from 0 place (drop place text)

-- Where the next token ends.
abbrev pub end_of : List Placed → ℕ
end_of ts = at ts + suc (beyond (next ts))

-- One token is passed, from one place to the next, which is where it ends.
pub record Past (text : List ℕ) (from next : ℕ) : Type 0 where
  pub onward : from < next
  pub inside : next ≤ length text
  pub rest : drop 1 (tokens_at text from) ≡ tokens_at text next
  pub fewer : length (tokens_at text from) ≡ suc (length (tokens_at text next))
  pub ends : next ≡ end_of (tokens_at text from)

-- MARKS AND WORDS. The bytes that marks start with, by their sorts.
abbrev pub leads : List ℕ
leads = ascii "//..:|[]()*"

-- Another byte than this one stands here, and no white space.
pub record OtherByte (text : List ℕ) (at b : ℕ) : Type 0 where
  pub inside : at < length text
  pub other : eqb (get_or text at 0) b ≡ false
  pub solid : paper.white (get_or text at 0) ≡ false

-- A test of the next token, with its place, and the place past it where the test holds.
abbrev pub Looks : List ℕ → ℕ → Bool → Result There ℕ → Type 0
Looks text from test (Ok there) = (test ≡ true) × (there.place ≡ at (tokens_at text from)) × Past text from there.next.at
Looks text from test (Err place) = (test ≡ false) × (place ≡ at (tokens_at text from))
