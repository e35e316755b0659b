-- What looking ahead promises: how paths, operands, axes and tests begin, and where the tokens that were asked for end.
use Rattle.std.specs.Prelude.{ℕ, ◌≤◌, ◌<◌, ◌≡◌, Bool, true, false, not, ◌&&◌, ◌||◌, cond, List, ◌⊎◌, Option, Some, None, Result, Ok, Err, length, drop}
use Rattle.std.proofs.Math.Option.{none, some}
use Rattle.paper.specs.Tools.{ascii, same}
use Rattle.marks.specs.Marks.{tokens_at, end_of, Past}
use Rattle.paper.specs.Tokens as paper
use Rattle.paper.specs.Query.{Axis, any_node, text_node}
use Rattle.paper.specs.Items.{axis_number, named_from, test_number}
use Rattle.paper.specs.Reading.{next, at, sees, says, axis_ahead, starts_step}
use Rattle.ahead.specs.declared.Joint.{Joint}
use Rattle.ahead.specs.declared.Lead.{Lead}
use Rattle.ahead.specs.declared.Lead.TheVariants.{Alone, Before}
use Rattle.ahead.specs.declared.Opens.{Opens}
use Rattle.ahead.specs.declared.Opens.TheVariants.{Not, Round, Path}
use Rattle.ahead.specs.declared.AxisAhead.{AxisAhead}
use Rattle.ahead.specs.declared.Call.{Call}

-- PATHS AND OPERANDS. The token that was passed is `/`, or `//` where the steps are deep.
pub record Slashed (text : List ℕ) (from : ℕ) (deep : Bool) (past : ℕ) : Type 0 where
  pub single : sees paper.slash (tokens_at text from) ≡ not deep
  pub double : sees paper.slashes (tokens_at text from) ≡ deep
  pub passed : Past text from past

-- Neither `/` nor `//` comes next.
abbrev pub NoSlash : List ℕ → ℕ → ℕ → Type 0
NoSlash text from spot =
    (sees paper.slash (tokens_at text from) ≡ false) × (sees paper.slashes (tokens_at text from) ≡ false) × (spot ≡ at (tokens_at text from))

-- Does `/` or `//` come next?
abbrev pub Joins : List ℕ → ℕ → Result Joint ℕ → Type 0
Joins text from (Ok joint) = Slashed text from joint.deep joint.next.at
Joins text from (Err spot) = NoSlash text from spot

-- How an absolute path begins.
abbrev pub Leads : List ℕ → ℕ → Result Lead ℕ → Type 0
Leads text from (Ok (Alone past)) = Slashed text from false past.at × (starts_step (next (tokens_at text past.at)) ≡ false)
Leads text from (Ok (Before joint)) = Slashed text from joint.deep joint.next.at × ((joint.deep || starts_step (next (tokens_at text joint.next.at))) ≡ true)
Leads text from (Err spot) = NoSlash text from spot

-- How an operand begins.
pub record NotBegins (text : List ℕ) (from spot past : ℕ) : Type 0 where
  pub word : ℕ
  pub says_not : says (ascii "not") (tokens_at text from) ≡ true
  pub first : Past text from word
  pub opens : sees paper.open_round (tokens_at text word) ≡ true
  pub place : spot ≡ at (tokens_at text word)
  pub second : Past text word past

abbrev pub Begins : List ℕ → ℕ → Opens → Type 0
Begins text from (Not round) = NotBegins text from round.place round.next.at
Begins text from (Round round) =
    ((says (ascii "not") (tokens_at text from) && sees paper.open_round (drop 1 (tokens_at text from))) ≡ false) × (sees paper.open_round (tokens_at text from) ≡ true) × (round.place ≡ at (tokens_at text from)) × Past text from round.next.at
Begins text from Path =
    ((says (ascii "not") (tokens_at text from) && sees paper.open_round (drop 1 (tokens_at text from))) ≡ false) × (sees paper.open_round (tokens_at text from) ≡ false)

-- AXES AND TESTS. The axis that is written; the place past it is where the `::` ends.
pub record AxisWritten (text : List ℕ) (from axis past : ℕ) : Type 0 where
  pub way : Axis
  pub number : axis ≡ axis_number way
  pub ahead : axis_ahead (tokens_at text from) ≡ some way
  pub rest : drop 2 (tokens_at text from) ≡ tokens_at text past
  pub onward : from < past
  pub inside : past ≤ length text
  pub fewer : length (tokens_at text past) ≤ length (tokens_at text from)
  pub ends : past ≡ end_of (drop 1 (tokens_at text from))

abbrev pub Axes : List ℕ → ℕ → Option AxisAhead → Type 0
Axes text from (Some ahead) = AxisWritten text from ahead.axis ahead.next.at
Axes text from None = axis_ahead (tokens_at text from) ≡ none

-- The number of the test that a word calls, if it calls one.
abbrev pub call_code : List ℕ → Option ℕ
call_code word = cond (same (ascii "node") word) (Some (test_number any_node)) (cond (same (ascii "text") word) (Some (test_number text_node)) None)

-- A test that is called by a word and the `(` that comes next.
abbrev pub Calls : List ℕ → List ℕ → ℕ → Option Call → Type 0
Calls text word from (Some call) =
    (call_code word ≡ Some call.test) × (call.test < named_from) × (sees paper.open_round (tokens_at text from) ≡ true) × Past text from call.next.at
Calls text word from None = ((call_code word ≡ None) ⊎ (sees paper.open_round (tokens_at text from) ≡ false))
