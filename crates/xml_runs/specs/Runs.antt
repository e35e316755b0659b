-- Runs of characters: how reading goes from one state of a run to another, past ordinary bytes, and where a run ends.
use Rattle.std.specs.Prelude.{ℕ, Ok, Err, suc, ◌≤◌, ◌+◌, ◌<◌, ◌≡◌, Bool, true, not, ◌&&◌, cond, List, ◌∷◌, eqb, length, drop, get_or}
use Rattle.paper.specs.Tools.{ascii}
use Rattle.paper.specs.Xml.{from, Pattern, done, one, fork, tail, say, squares, Frame, Mode, plain, nothing, chars, with, content}
use Rattle.xml_bytes.specs.Seeking.{Sought, refusing, stops, seek_next}
use Rattle.xml_bytes.specs.Promised.{Reach, state, seek_at, reached, Between}

-- From one state of a run to another, past at least one byte.
pub record Crosses (text : List ℕ) (at : ℕ) (before after : ℕ → Mode) (r : Reach) : Type 0 where
  pub goes : (begin : ℕ) (frames : List Frame) → seek_at text at (state (before begin) frames) ≡ reached text (state (after begin) frames) r
  pub bounds : Between (suc at) (length text) r

-- What must come past the byte EF of a character, and past the `a` of a reference.
abbrev pub past_ef : Pattern
past_ef = fork (one (from 128 190) (tail done)) (one (eqb 191) (one (from 128 189) done))

abbrev pub past_a : Pattern
past_a = fork (say (ascii "mp;") done) (say (ascii "pos;") done)

-- How many `]` end a run after this byte, 2 at most.
abbrev pub squares_after : ℕ → ℕ → ℕ
squares_after b k = cond (eqb b 93) (squares k) 0

-- A character of one byte other than `<`, `&`, `>` and `]`.
abbrev pub is_ordinary : ℕ → Bool
is_ordinary b = plain b && not (eqb b 60) && not (eqb b 38) && not (eqb b 62) && not (eqb b 93)

-- Is the byte ordinary that stands so far behind a place?
abbrev pub ordinary_from : List ℕ → ℕ → ℕ → Bool
ordinary_from text at i = is_ordinary (get_or text (at + i) 0)

-- All bytes from a place up to another are ordinary.
pub record OrdinaryEnds (text : List ℕ) (begin to : ℕ) : Type 0 where
  pub least : begin ≤ to
  pub most : to ≤ length text
  pub all : (at : ℕ) → begin ≤ at → at < to → is_ordinary (get_or text at 0) ≡ true

-- How many `]` end a run that ended with k of them, past ordinary bytes from `at` up to `past`.
pub record SquaresPast (at past k r : ℕ) : Type 0 where
  pub none : at < past → r ≡ 0
  pub same : past ≤ at → r ≡ k

-- RUNS. Where a run of characters ends, reading stands inside the same element with a text node more.
abbrev pub ran : ℕ → Frame → List Frame → Reach → Sought
ran begin f fs (Ok to) = stops to (state content (with f (chars begin to nothing) ∷ fs))
ran begin f fs (Err why) = refusing why

pub record Runs (text : List ℕ) (begin : ℕ) (r : Reach) : Type 0 where
  pub goes : (f : Frame) (fs : List Frame) → seek_next begin (state content (f ∷ fs)) (drop begin text) ≡ ran begin f fs r
  pub bounds : Between (suc begin) (length text) r
