-- Where `//` stands for a step.
use Rattle.std.specs.Prelude.{ℕ, ◌-◌, Bool, false, cond, List, get_or}
use Rattle.std.proofs.Math.Option.{Option, none, some}
use Rattle.paper.specs.Items.{Head, step_at}
use Rattle.paper.specs.Printing.{deepened}

-- Does `//` stand for the step of an item, where so many are left from it on?
abbrev pub deep_head : Bool → ℕ → Option Head → Bool
deep_head brief left none = false
deep_head brief left (some h) = deepened brief h.axis h.test h.count (left - 1)

-- For how many of so many steps from here on, one or none?
abbrev pub passed : Bool → List ℕ → ℕ → ℕ → ℕ
passed brief items at left = cond (deep_head brief left (step_at (get_or items at 0))) 1 0
