-- The items of V and of the last step, from those of S.
use Rattle.std.specs.Prelude.{ℕ, ◌+◌, List, ◌∷◌, ◌++◌}
use Rattle.paper.specs.Query.{descendant_or_self, ancestor_or_self, any_node}
use Rattle.paper.specs.Items.{pack_path, or_item, axis_number, test_number}
use Rattle.item.specs.Unpacked.{packed}

-- `axis::node()[..]`, the items of the predicate being given.
abbrev pub some_node_items : ℕ → List ℕ → List ℕ
some_node_items axis chosen = pack_path 1 ∷ packed (record { axis = axis; test = test_number any_node; count = 1 }) ∷ chosen

-- V, and the step that every top-level path gets at its end, from the items of S.
abbrev pub visible_items : List ℕ → List ℕ
visible_items chosen = or_item ∷ (some_node_items (axis_number descendant_or_self) chosen ++ some_node_items (axis_number ancestor_or_self) chosen)

abbrev pub last_items : List ℕ → List ℕ
last_items chosen = packed (record { axis = axis_number descendant_or_self; test = test_number any_node; count = 1 }) ∷ some_node_items (axis_number ancestor_or_self) chosen
