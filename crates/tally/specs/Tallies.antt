-- What is promised of the tallies: by how much each number of a column grows.
use Rattle.std.specs.Prelude.{◌≡◌, ℕ, ◌+◌, ◌%◌, ◌^◌, ◌<◌, not, ◌&&◌, List, length, ◌==◌, nat_eq, slice_index}
use Rattle.paper.specs.Document.{element_kind, marked}
use Rattle.paper.specs.Sheet.{count_below}

-- Sums of elements are kept in 32 bits, how often a number was given in 64.
abbrev pub sums : ℕ
sums = 2 ^ 32

abbrev pub times : ℕ
times = 2 ^ 64

-- Each number of a column grows by what f says of its place; at the bound it begins anew.
pub record Grows (bound : ℕ) (old new : List ℕ) (f : ℕ → ℕ) : Type 0 where
  pub long : length new ≡ length old
  pub each : (v : ℕ) → v < length old → slice_index new v ≡ (slice_index old v + f v) % bound

-- The elements of a name among the first n nodes, by their kinds: all, the marked ones, the others.
abbrev pub named : List ℕ → ℕ → ℕ → ℕ
named kinds n v = count_below n (λ i. nat_eq (slice_index kinds i) (element_kind + v))

abbrev pub named_kept : List ℕ → List ℕ → ℕ → ℕ → ℕ
named_kept kinds marks n v = count_below n (λ i. (slice_index kinds i == element_kind + v) && marked marks i)

abbrev pub named_hidden : List ℕ → List ℕ → ℕ → ℕ → ℕ
named_hidden kinds marks n v = count_below n (λ i. (slice_index kinds i == element_kind + v) && not (marked marks i))

-- The three columns grow by the elements among the first n nodes.
pub record NodesTold (n : ℕ) (kinds marks all all' kept kept' hidden hidden' : List ℕ) : Type 0 where
  pub all_told : Grows sums all all' (named kinds n)
  pub kept_told : Grows sums kept kept' (named_kept kinds marks n)
  pub hidden_told : Grows sums hidden hidden' (named_hidden kinds marks n)
