-- What the code asks of a parent column that it climbs in.
use Rattle.std.specs.Prelude.{ℕ, ◌≤◌, ◌<◌, ◌≡◌, List, length, get_or}

-- The first n nodes are a tree: the root is its own parent, and every other parent is smaller than its child.
pub record Falls (parents : List ℕ) (n : ℕ) : Type 0 where
  pub within : n ≤ length parents
  pub root : 0 < n → get_or parents 0 0 ≡ 0
  pub falls : (k : ℕ) → 0 < k → k < n → get_or parents k 0 < k
