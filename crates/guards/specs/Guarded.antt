-- Which items are guarded steps, and what guarding makes of items.
use Rattle.std.specs.Prelude.{ℕ, zero, suc, ◌+◌, ◌<◌, cond, List, [], ◌∷◌, ◌++◌, map}
use Rattle.paper.specs.Items.{count_limit}
use Rattle.item.specs.Unpacked.{unpacked, packed, guarded_number}
use Rattle.item.specs.declared.Step.{Step}
use Rattle.item.specs.declared.Item.{Item}
use Rattle.item.specs.declared.Item.TheVariants.{Path, Step as StepItem, And, Or, Not, Bad}
use Rattle.owed.specs.Owing.{owing}
use Rattle.visible.specs.Visible.{visible_items}

-- How many of the items are guarded steps.
abbrev pub is_guard : Item → ℕ
is_guard (Path count) = 0
is_guard (StepItem s) = cond (guarded_number s.axis) 1 0
is_guard And = 0
is_guard Or = 0
is_guard Not = 0
is_guard Bad = 0

unfoldable pub guard_item : ℕ → ℕ
guard_item w = is_guard (unpacked w)

abbrev pub total : List ℕ → ℕ
total [] = 0
total (n ∷ ns) = n + total ns

abbrev pub guard_items : List ℕ → ℕ
guard_items ws = total (map guard_item ws)

-- A step item with V as its first predicate, from the numbers of its fields.
abbrev pub guarded_step : List ℕ → Step → List ℕ
guarded_step chosen s = packed (record { axis = s.axis; test = s.test; count = s.count + 1 }) ∷ visible_items chosen

-- An item of a guarded path: V comes after a step that is named, by a number that is not 0.
abbrev pub guarded_as : List ℕ → ℕ → ℕ → Item → List ℕ
guarded_as chosen w zero i = w ∷ []
guarded_as chosen w (suc n) (Path count) = w ∷ []
guarded_as chosen w (suc n) (StepItem s) = guarded_step chosen s
guarded_as chosen w (suc n) And = w ∷ []
guarded_as chosen w (suc n) Or = w ∷ []
guarded_as chosen w (suc n) Not = w ∷ []
guarded_as chosen w (suc n) Bad = w ∷ []

unfoldable pub guarded_item : List ℕ → ℕ → ℕ → List ℕ
guarded_item chosen flag w = guarded_as chosen w flag (unpacked w)

-- The items of a path, each with its number.
abbrev pub guarded_items : List ℕ → List ℕ → List ℕ → List ℕ
guarded_items chosen flags [] = []
guarded_items chosen [] (w ∷ ws) = []
guarded_items chosen (flag ∷ flags) (w ∷ ws) = guarded_item chosen flag w ++ guarded_items chosen flags ws

-- Each count can be raised by one.
abbrev pub Raisable : List ℕ → Type 0
Raisable [] = Unit {0}
Raisable (w ∷ ws) = (owing w < count_limit) × Raisable ws
