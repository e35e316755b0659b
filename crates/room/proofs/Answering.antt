-- The lines of a measure, in their order: what refuses it, and what is known where nothing does. Assumes nothing.
use Prim.Native.Nat.{ℕ, ◌≤◌, ◌<◌}
use mathlib.Core.Path.{◌≡◌}
use mathlib.Core.List.{List}
use mathlib.Core.Option.{none, some}
use lib.ListN.{length}
use borrow.Author.Tests.{lt-ltb, le-ltb}
use Rattle.paper.specs.Limits.{item_limit}
use Rattle.paper.specs.Query.{Query}
use Rattle.paper.specs.Items.{decode}
use Rattle.paper.specs.Answers.{value, refusal}
use Rattle.paper.specs.Room.{measure_answer}

module _ (measure : Query → ℕ) (query : List ℕ) where
  pub too_long_lem : item_limit < length query → refusal 1 0 ≡ measure_answer measure query
  unfolding measure_answer
  too_long_lem l = rw (lt-ltb item_limit (length query) l)

  pub no_query : length query ≤ item_limit → decode query ≡ none → refusal 6 0 ≡ measure_answer measure query
  unfolding measure_answer
  no_query few d = rw (le-ltb item_limit (length query) few, d)

  pub measured : length query ≤ item_limit → (q : Query) → decode query ≡ some q → value (measure q) ≡ measure_answer measure query
  unfolding measure_answer
  measured few q d = rw (le-ltb item_limit (length query) few, d)
