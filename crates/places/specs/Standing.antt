-- Where steps end that can be read from a place on, and what is said of the item at a place.
use Rattle.std.specs.Prelude.{ℕ, ◌-◌, ◌%◌, ◌≡◌, List, drop}
use Rattle.std.proofs.Math.Option.{some}
use Rattle.paper.specs.Items.{Head, step_at, path_at, take_steps, take_within}
pub use Rattle.shape.specs.Ending.{Readable, Ends}
use Rattle.item.specs.declared.Step.{Step}
use Rattle.item.proofs.Saying.{numbered}
use Rattle.places.specs.declared.Places.{Places}

-- The places kept for the step after k others: where the last multiple of 256 of them ends, and the last multiple of 16.
abbrev pub Known : List ℕ → ℕ → ℕ → ℕ → Places → Type 0
Known items at depth k places =
    (Ends items at (take_steps (take_within depth) (k - k % 256) (drop at items)) places.far) × (Ends items at (take_steps (take_within depth) (k - k % 16) (drop at items)) places.near)

-- A step stands there, and this is what it says, in numbers.
abbrev pub StepThere : ℕ → Type 0
StepThere w = (h : Head) × (step_at w ≡ some h)

abbrev pub StepSaid : ℕ → Step → Type 0
StepSaid w s = (h : Head) × (step_at w ≡ some h) × (s ≡ numbered h)

-- A path stands there.
abbrev pub PathThere : ℕ → Type 0
PathThere w = (count : ℕ) × (path_at w ≡ some count)
