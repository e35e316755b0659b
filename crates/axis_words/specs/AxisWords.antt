-- The word of each axis, and the number of the axis that a word names.
use Rattle.std.specs.Prelude.{ℕ, List, [], ◌∷◌, map, get_or}
use Rattle.std.proofs.Math.Option.{Option, none, some}
use Rattle.paper.specs.Query.{Axis, self, child, parent, descendant_or_self, ancestor_or_self, descendant, ancestor, following_sibling, preceding_sibling, following, preceding}
use Rattle.paper.specs.Items.{axis_number}
use Rattle.paper.specs.Printing.{axis_text}

-- The number of an axis, where there is one.
abbrev pub axis_code : Option Axis → Option ℕ
axis_code none = none
axis_code (some a) = some (axis_number a)

-- The axes in the order of their numbers, and the word of a number.
abbrev pub in_order : List Axis
in_order = self ∷ child ∷ parent ∷ descendant_or_self ∷ ancestor_or_self ∷ descendant ∷ ancestor ∷ following_sibling ∷ preceding_sibling ∷ following ∷ preceding ∷ []

abbrev pub word_at : ℕ → List ℕ
word_at n = get_or (map axis_text in_order) n []
