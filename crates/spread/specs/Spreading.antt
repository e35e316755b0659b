-- A document that can be searched, and what is kept of it with the nodes of a set.
use Rattle.std.specs.Prelude.{ℕ, ◌≡◌, Bool, ◌&&◌, ◌||◌, List, length}
use Rattle.paper.specs.Tools.{some_below}
use Rattle.paper.specs.Document.{Table, nodes, marked, over, table_of}
use Rattle.paper.proofs.Trees.{Tree}
use Rattle.sets.specs.Sets.{bits}

-- A document that can be searched: columns and marks of one length, a tree, and marks of 0 and 1.
pub record Ready (parents kinds marks : List ℕ) : Type 0 where
  pub kinds_all : length kinds ≡ length parents
  pub marks_all : length marks ≡ length parents
  pub tree : Tree (table_of parents kinds)
  pub marks_bits : marks ≡ bits (length parents) (marked marks)

-- Is the node i marked, and in the set, or above or below a node of it?
unfoldable pub keeps_by : Table → List ℕ → (ℕ → Bool) → ℕ → Bool
keeps_by t marks f i = marked marks i && some_below (nodes t) (λ k. f k && (over t i k || over t k i))
