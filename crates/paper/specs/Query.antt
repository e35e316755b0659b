-- docs/SCOPE.md, "The part of XPath": what a query is.
use Rattle.std.specs.Prelude.{ℕ, List, ◌∷◌}

-- The axes.
pub data Axis : Type 0 where
  self child parent descendant_or_self ancestor_or_self descendant ancestor following_sibling preceding_sibling following preceding : Axis

-- The tests: `node()`, `text()`, a name of the list by its number, and `*`.
pub data Test : Type 0 where
  any_node text_node : Test
  named : ℕ → Test
  any_element : Test

mutual
  -- What a predicate holds: a relative path, `and`, `or`, `not(..)`.
  pub data Expr : Type 0 where
    path : Steps → Expr
    both : Expr → Expr → Expr
    either : Expr → Expr → Expr
    negated : Expr → Expr

  -- The steps of a path: none, or axis, test and predicates, and the steps after.
  pub data Steps : Type 0 where
    stop : Steps
    step : Axis → Test → Preds → Steps → Steps

  -- The predicates of a step.
  pub data Preds : Type 0 where
    bare : Preds
    pred : Expr → Preds → Preds

-- A query is one or more absolute paths; the path of no steps is `/`.
pub record Query : Type 0 where
  pub first : Steps
  pub others : List Steps

-- All its paths.
abbrev pub paths : Query → List Steps
paths q = q.first ∷ q.others
