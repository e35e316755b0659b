-- What a number says as an item, and the number of a step, by the layout of docs/SCOPE.md, "The query in memory".
use Rattle.std.specs.Prelude.{ℕ, ◌+◌, ◌*◌, Bool, false, cond, eqb}
use Rattle.std.proofs.Math.Option.{Option, none, some}
use Rattle.paper.specs.Query.{Axis}
use Rattle.paper.specs.Composition.{guarded}
use Rattle.paper.specs.Items.{axis_number, axis_of, test_number, path_at, Head, step_at, and_item, or_item, not_item}
use Rattle.item.specs.declared.Step.{Step}
use Rattle.item.specs.declared.Item.{Item}
use Rattle.item.specs.declared.Item.TheVariants.{Path, Step as StepItem, And, Or, Not, Bad}

-- An operator, `not`, or no item.
abbrev pub operator_of : ℕ → Item
operator_of w = cond (eqb w and_item) And (cond (eqb w or_item) Or (cond (eqb w not_item) Not Bad))

-- A step, by the numbers of its axis and its test.
abbrev pub step_of : ℕ → Option Head → Item
step_of w none = operator_of w
step_of w (some h) = StepItem (record { axis = axis_number h.axis; test = test_number h.test; count = h.count })

-- A path, by its step count.
abbrev pub path_of : ℕ → Option ℕ → Item
path_of w none = step_of w (step_at w)
path_of w (some count) = Path count

unfoldable pub unpacked : ℕ → Item
unpacked w = path_of w (path_at w)

-- The number of a step item, from the numbers of its fields.
abbrev pub packed : Step → ℕ
packed s = 1 + s.axis * 8 + s.test * 128 + s.count * 65536

-- Is a step along the axis of this number guarded in a composition? Along what is no axis it is not.
abbrev pub guarded_axis : Option Axis → Bool
guarded_axis none = false
guarded_axis (some a) = guarded a

unfoldable pub guarded_number : ℕ → Bool
guarded_number axis = guarded_axis (axis_of axis)
