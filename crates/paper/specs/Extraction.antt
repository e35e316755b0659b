-- docs/SCOPE.md, "Extract": the marked nodes in order, as a table of their own.
use Rattle.std.specs.Prelude.{ℕ, zero, suc, cond, List, [], ◌∷◌}
use Rattle.paper.specs.Document.{Table, nodes, parent_of, kind_of, marked}

-- How many of the first n nodes are marked: the new number of node n.
abbrev pub rank : List ℕ → ℕ → ℕ
rank marks zero = zero
rank marks (suc n) = cond (marked marks n) (suc (rank marks n)) (rank marks n)

-- The value of f at each marked node among the `left` nodes from `at` on.
abbrev pub pick_from : List ℕ → ℕ → ℕ → (ℕ → ℕ) → List ℕ
pick_from marks zero at f = []
pick_from marks (suc left) at f = cond (marked marks at) (f at ∷ pick_from marks left (suc at) f) (pick_from marks left (suc at) f)

-- The new table: parents renumbered, kinds as they were.
unfoldable pub extracted : Table → List ℕ → Table
extracted t marks =
    record {
      parents = pick_from marks (nodes t) 0 (λ i. rank marks (parent_of t i));
      kinds = pick_from marks (nodes t) 0 (λ i. kind_of t i);
    }
