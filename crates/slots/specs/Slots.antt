-- Items put into the slots of an output: where there is room for them they stand from a slot on, and all else is as it was.
use Rattle.std.specs.Prelude.{ℕ, ◌+◌, ◌≤◌, ◌≡◌, Bool, true, false, List, [], ◌∷◌, ◌++◌, length, replicate}
use Rattle.paper.specs.Limits.{item_limit}
use Rattle.paper.specs.Query.{descendant_or_self, any_node}
use Rattle.paper.specs.Items.{pack_step}

-- ITEMS. Where there is room for the items and they are no more than a query has, they stand from `slot` on and all else is as it was.
pub record Wrote (old new : List ℕ) (slot : ℕ) (items : List ℕ) : Type 0 where
  pub puts : (front gone back : List ℕ) → old ≡ front ++ (gone ++ back) → length front ≡ slot → length gone ≡ length items → length items ≤ item_limit
      → new ≡ front ++ (items ++ back)

-- So many of an operator's items are put before what stands from `slot` to `end`, where there is room for them.
pub record Grouped (old new : List ℕ) (slot end count item : ℕ) : Type 0 where
  pub puts : (front raw gone back : List ℕ) → old ≡ front ++ (raw ++ (gone ++ back)) → length front ≡ slot → slot + length raw ≡ end → length gone ≡ count
      → new ≡ front ++ (replicate count item ++ (raw ++ back))

-- Items are put at places below this: a text of the most bytes gives at most three a byte.
abbrev pub slot_bound : ℕ
slot_bound = 200000

-- The item of the step that `//` stands for, where it is written.
abbrev pub deep_item : ℕ
deep_item = pack_step descendant_or_self any_node 0

abbrev pub deep_items : Bool → List ℕ
deep_items true = deep_item ∷ []
deep_items false = []

-- MOVING. What stands from `slot` to `end` stands `count` further on.
pub record MovedTo (new front raw back : List ℕ) (count : ℕ) : Type 0 where
  pub gap : List ℕ
  pub is : new ≡ front ++ (gap ++ (raw ++ back))
  pub wide : length gap ≡ count

pub record Moved (old new : List ℕ) (slot end count : ℕ) : Type 0 where
  pub puts : (front raw gone back : List ℕ) → old ≡ front ++ (raw ++ (gone ++ back)) → length front ≡ slot → slot + length raw ≡ end → length gone ≡ count
      → MovedTo new front raw back count
