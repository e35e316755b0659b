-- What taking a token promises: the code's token as the paper's, and what stands where it was taken.
use Rattle.std.specs.Prelude.{ℕ, suc, ◌+◌, ◌≤◌, ◌<◌, ◌≡◌, Bool, true, false, List, [], ◌∷◌, length, get_or, take, drop}
use Rattle.paper.specs.Tokens as paper
use Rattle.paper.specs.Tokens.{white, beyond, token_at, tokens_from, Placed}
use Rattle.token.specs.declared.Token.{Token}
use Rattle.token.specs.declared.Token.TheVariants.{Mark, Word, Finish, Stray}
use Rattle.token.specs.declared.Mark.{Mark as MarkKind}
use Rattle.token.specs.declared.Mark.TheVariants.{Slash, Slashes, Dot, Dots, Colons, Bar, OpenSquare, CloseSquare, OpenRound, CloseRound, Star}
use Rattle.token.specs.declared.Taken.{Taken}

-- The paper's token for a mark.
abbrev pub mark_of : MarkKind → paper.Token
mark_of Slash = paper.slash
mark_of Slashes = paper.slashes
mark_of Dot = paper.dot
mark_of Dots = paper.dots
mark_of Colons = paper.colons
mark_of Bar = paper.bar
mark_of OpenSquare = paper.open_square
mark_of CloseSquare = paper.close_square
mark_of OpenRound = paper.open_round
mark_of CloseRound = paper.close_round
mark_of Star = paper.star

-- The paper's token for one that was taken at a place of the text.
abbrev pub token_of : List ℕ → ℕ → Token → paper.Token
token_of text place (Mark m) = mark_of m
token_of text place (Word count) = paper.word (take count (drop place text))
token_of text place Finish = paper.finish
token_of text place Stray = paper.stray

-- How many bytes of the text a mark takes.
abbrev pub mark_width : MarkKind → ℕ
mark_width Slash = 1
mark_width Slashes = 2
mark_width Dot = 1
mark_width Dots = 2
mark_width Colons = 2
mark_width Bar = 1
mark_width OpenSquare = 1
mark_width CloseSquare = 1
mark_width OpenRound = 1
mark_width CloseRound = 1
mark_width Star = 1

-- How many bytes of the text a token takes.
abbrev pub width_of : Token → ℕ
width_of (Mark m) = mark_width m
width_of (Word count) = count
width_of Finish = 0
width_of Stray = 1

-- Is this the end of the text?
abbrev pub finished : Token → Bool
finished (Mark m) = false
finished (Word count) = false
finished Finish = true
finished Stray = false

-- White space from `from` up to `at` changes no token.
pub record Skips (text : List ℕ) (from at : ℕ) : Type 0 where
  pub least : from ≤ at
  pub most : at ≤ length text
  pub same : tokens_from 0 from (drop from text) ≡ tokens_from 0 at (drop at text)
  pub stops : at < length text → white (get_or text at 0) ≡ false

-- The token is the longest that starts at the place, and lies within the text.
pub record Longest (text : List ℕ) (place : ℕ) (t : Token) : Type 0 where
  pub right : token_of text place t ≡ token_at (get_or text place 0) (drop (suc place) text)
  pub wide : width_of t ≡ suc (beyond (token_of text place t))
  pub within : place + width_of t ≤ length text
  pub goes_on : finished t ≡ false

-- The tokens that follow: none after the end of the text.
abbrev pub following : Bool → List Placed → List Placed
following true later = []
following false later = later

-- What is taken is the first of the tokens from `at` on, and the next cursor stands where the others go on.
pub record Takes (text : List ℕ) (at : ℕ) (r : Taken) : Type 0 where
  pub first : tokens_from 0 at (drop at text)
      ≡ record { place = r.place; token = token_of text r.place r.token } ∷ following (finished r.token) (tokens_from 0 r.next.at (drop r.next.at text))
  pub least : at ≤ r.place
  pub past : r.next.at ≡ r.place + width_of r.token
  pub within : r.next.at ≤ length text
  pub ends : finished r.token ≡ true → r.place ≡ length text
  pub advances : finished r.token ≡ false → r.place < r.next.at
