-- What evaluating items over all nodes at once gives: where it ends, and the set of nodes at which what stands there holds.
use Rattle.std.specs.Prelude.{ℕ, ◌+◌, ◌*◌, ◌≤◌, ◌<◌, ◌≡◌, Bool, ◌&&◌, List, length, take, drop}
use Rattle.std.proofs.Math.Option.{some}
use Rattle.paper.specs.Tools.{some_below}
use Rattle.paper.specs.Limits.{item_limit}
use Rattle.paper.specs.Query.{Steps, Query}
use Rattle.paper.specs.Measures.{height}
use Rattle.paper.specs.Selection.{arrives}
use Rattle.paper.specs.Items.{Taken, decode}
use Rattle.paper.specs.Document.{Table, nodes}
use Rattle.sets.specs.Sets.{bits}
pub use Rattle.spread.specs.Spreading.{Ready}

-- Something is to be read from `at` on, and there is room for its sets.
pub record Fits {A : Type 0} (items : List ℕ) (at nodes room : ℕ) (taken : Taken A) (height_of : A → ℕ) : Type 0 where
  pub what : A
  pub rest : List ℕ
  pub reads : taken ≡ some (what, rest)
  pub room_for : nodes * height_of what ≤ room
  pub inside : at ≤ length items

-- What was read ends at `next`, and the first set of `sets` has the nodes at which it holds.
pub record Evaluates {A : Type 0} (items : List ℕ) (at nodes : ℕ) (taken : Taken A) (holds_at : A → ℕ → Bool) (next : ℕ) (sets : List ℕ) : Type 0 where
  pub what : A
  pub reads : taken ≡ some (what, drop next items)
  pub onward : at ≤ next
  pub inside : next ≤ length items
  pub set : take nodes sets ≡ bits nodes (holds_at what)

-- The set at `base` was joined with the one behind it, or nothing was done where no bytes of it were held before; all other bytes stay.
pub record Joined (nodes base held : ℕ) (op : Bool → Bool → Bool) (before after : List ℕ) : Type 0 where
  pub front : take base after ≡ take base before
  pub behind : drop (base + nodes) after ≡ drop (base + nodes) before
  pub first : held ≤ 0 → after ≡ before
  pub later : 0 < held → (f g : ℕ → Bool) → take nodes (drop base before) ≡ bits nodes f → take nodes (drop (base + nodes) before) ≡ bits nodes g → take nodes (drop base after) ≡ bits nodes (λ i. op (f i) (g i))

-- What was read ends at `next`, and the first set has kept the nodes at which it holds.
pub record Narrows {A : Type 0} (items : List ℕ) (at nodes : ℕ) (taken : Taken A) (holds_at : A → ℕ → Bool) (next : ℕ) (before after : List ℕ) : Type 0 where
  pub what : A
  pub reads : taken ≡ some (what, drop next items)
  pub onward : at ≤ next
  pub inside : next ≤ length items
  pub set : (f : ℕ → Bool) → take nodes before ≡ bits nodes f → take nodes after ≡ bits nodes (λ i. f i && holds_at what i)

-- What was read ends at `next`, and the first set has been moved along its steps.
pub record Moves (items : List ℕ) (at : ℕ) (t : Table) (marks : List ℕ) (taken : Taken Steps) (next : ℕ) (before after : List ℕ) : Type 0 where
  pub what : Steps
  pub reads : taken ≡ some (what, drop next items)
  pub onward : at ≤ next
  pub inside : next ≤ length items
  pub set : (f : ℕ → Bool) → take (nodes t) before ≡ bits (nodes t) f → take (nodes t) after ≡ bits (nodes t) (λ k. some_below (nodes t) (λ i. f i && arrives t marks what i k))

-- The items are a query, and there is room for its sets.
pub record Runs (items : List ℕ) (node_count room : ℕ) : Type 0 where
  pub query : Query
  pub decodes : decode items ≡ some query
  pub room_for : node_count * height query ≤ room
