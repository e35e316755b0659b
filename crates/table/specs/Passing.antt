-- What the checks of a whole table and of its marks find in one pass.
use Rattle.std.specs.Prelude.{ℕ, ◌-◌, ◌<◌, ◌≡◌, Bool, true, not, ◌&&◌, List, eqb, leb, length, get_or}
use Rattle.paper.specs.Document.{Table, nodes, parent_of, kind_of, over, good_node, marked, kind_limit}

-- Is this the kind of text or of an element?
abbrev pub fits_kind : ℕ → Bool
fits_kind kind = leb 1 kind && leb kind kind_limit

-- Is the parent of a node after the root as it must be?
abbrev pub good_parent : Table → ℕ → Bool
good_parent t i = over t (i - 1) (parent_of t i) && not (eqb (kind_of t (parent_of t i)) 1)

-- All kinds but the root's are those of text and of elements.
abbrev pub KindsFit : List ℕ → Type 0
KindsFit kinds = (k : ℕ) → 0 < k → k < length kinds → fits_kind (get_or kinds k 0) ≡ true

-- Every node is good.
abbrev pub AllGood : Table → Type 0
AllGood t = (k : ℕ) → k < nodes t → good_node t k ≡ true

-- Every node is marked.
abbrev pub AllMarked : List ℕ → Type 0
AllMarked marks = (k : ℕ) → k < length marks → marked marks k ≡ true

-- Every parent is a node.
abbrev pub Inside : List ℕ → Type 0
Inside parents = (k : ℕ) → k < length parents → get_or parents k 0 < length parents
