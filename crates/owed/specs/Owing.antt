-- How many steps, predicates or operands belong to an item, and how many items so many take.
use Rattle.std.specs.Prelude.{ℕ, zero, suc, ◌+◌, List, [], ◌∷◌}
use Rattle.item.specs.Unpacked.{unpacked}
use Rattle.item.specs.declared.Item.{Item}
use Rattle.item.specs.declared.Item.TheVariants.{Path, Step as StepItem, And, Or, Not, Bad}

-- How many steps, predicates or operands belong to an item.
abbrev pub owed_by : Item → ℕ
owed_by (Path count) = count
owed_by (StepItem s) = s.count
owed_by And = 2
owed_by Or = 2
owed_by Not = 1
owed_by Bad = 0

unfoldable pub owing : ℕ → ℕ
owing w = owed_by (unpacked w)

-- How many items so many steps, predicates or operands take, each with all that belongs to it.
abbrev pub eaten : List ℕ → ℕ → ℕ
eaten [] owed = 0
eaten (w ∷ ws) zero = 0
eaten (w ∷ ws) (suc owed) = suc (eaten ws (owed + owing w))
