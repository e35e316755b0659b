-- What is known of the brackets of two queries before they are composed.
use Rattle.std.specs.Prelude.{ℕ, ◌≤◌, ◌≡◌, List}
use Rattle.std.proofs.Math.Option.{some}
use Rattle.paper.specs.Query.{Query}
use Rattle.paper.specs.Items.{decode}
use Rattle.paper.specs.Measures.{nesting}
use Rattle.paper.specs.Lean.{guard_depth_by}
use Rattle.composed.specs.Pieces.{Says}

-- The brackets of a query, and those open at the steps that the decision names.
pub record Nests (outer says : List ℕ) (nests guards : ℕ) (g : Says outer says) : Type 0 where
  pub nested : nests ≡ nesting g.query
  pub within : guards ≤ nests
  pub deep : guards ≡ guard_depth_by g.decides g.query

-- The brackets of a query alone.
pub record Nested (items : List ℕ) (nests : ℕ) : Type 0 where
  pub query : Query
  pub decodes : decode items ≡ some query
  pub nested : nests ≡ nesting query
