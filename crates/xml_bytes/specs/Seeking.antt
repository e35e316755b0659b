-- Reading as far as one piece goes: the paper's automaton, stopped where it stands between two pieces.
use Rattle.std.specs.Prelude.{ℕ, suc, cond, List, [], ◌∷◌}
use Rattle.std.proofs.Math.Option.{Option, none, some}
use Rattle.paper.specs.Tools.{begins}
use Rattle.paper.specs.Answers.{Answer, value, refusal}
use Rattle.paper.specs.Told.{told_refusal}
use Rattle.paper.specs.declared.Refusal.{Refusal}
use Rattle.paper.specs.Xml.{nothing, chars, Frame, Mode, start, first, heading, ahead, opening, in_name, in_tag, emptied, content, run, partly, closing, ended, State, stands, with, step, left_out}

-- Where the piece ends and how reading then stands, or a refusal number with a place.
pub data Sought : Type 0 where
  stops : ℕ → State → Sought
  refused : ℕ → ℕ → Sought

-- The number and the place that a refusal tells.
abbrev pub number_told : Answer → ℕ
number_told (value n) = 0
number_told (refusal number place) = number

abbrev pub place_told : Answer → ℕ
place_told (value n) = 0
place_told (refusal number place) = place

abbrev pub refusal_number : Refusal → ℕ
refusal_number why = number_told (told_refusal why)

abbrev pub refusal_place : Refusal → ℕ
refusal_place why = place_told (told_refusal why)

-- A refusal of the code, as reading says it.
abbrev pub refusing : Refusal → Sought
refusing why = refused (refusal_number why) (refusal_place why)

-- A run of characters ends before a `<`.
abbrev pub run_stops : ℕ → ℕ → List Frame → List ℕ → Option State
run_stops begin at [] bs = none
run_stops begin at (f ∷ fs) bs = cond (begins 60 bs) (stands content (with f (chars begin at nothing) ∷ fs)) none

-- How reading stands if a piece ends here.
abbrev pub settled : Mode → ℕ → List Frame → List ℕ → Option State
settled start at frames bs = none
settled first at frames bs = none
settled (heading p) at frames bs = none
settled ahead at frames bs = none
settled (opening begin) at frames bs = none
settled (in_name begin name) at frames bs = none
settled (in_tag begin name) at frames bs = none
settled (emptied begin name) at frames bs = none
settled content at frames bs = stands content frames
settled (run begin k) at frames bs = run_stops begin at frames bs
settled (partly begin p) at frames bs = none
settled (closing name) at frames bs = none
settled (ended tree) at frames bs = stands (ended tree) frames

-- The piece ends here, or reading goes on.
abbrev pub unless : Option State → ℕ → Sought → Sought
unless none at more = more
unless (some s) at more = stops at s

-- The next state, or refusal 11.
abbrev pub onwards : ℕ → Option State → (State → Sought) → Sought
onwards at none next = refused 11 at
onwards at (some s) next = next s

-- From a state on to where a piece ends.
abbrev pub seek : ℕ → State → List ℕ → Sought
seek at s [] = unless (settled s.mode at s.frames []) at (refused 11 at)
seek at s (b ∷ bs) =
    let next = onwards at (step at s b) (λ t. seek (suc at) t bs) in
    let more = cond (left_out s.mode (b ∷ bs)) (refused 12 at) next in
    unless (settled s.mode at s.frames (b ∷ bs)) at more

-- The same with one byte read first.
abbrev pub seek_next : ℕ → State → List ℕ → Sought
seek_next at s [] = refused 11 at
seek_next at s (b ∷ bs) =
    let next = onwards at (step at s b) (λ t. seek (suc at) t bs) in
    cond (left_out s.mode (b ∷ bs)) (refused 12 at) next
