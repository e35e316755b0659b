-- A query with its decisions in its axes: each step that the decision names goes along child, every other along self. `compose` guards child and not self, so what `shape` and `compose` measure of the marked query they measure for the decision.
use Rattle.std.specs.Prelude.{ℕ, ◌≡◌, Bool, true, false, cond, map}
use Rattle.paper.specs.Query.{self, child, Axis, Expr, path, both, either, negated, Steps, stop, step, Preds, bare, pred, Query}
use Rattle.paper.specs.Items.{good}
use Rattle.paper.specs.Measures.{size, nesting}
use Rattle.paper.specs.Composition.{guard_depth, composed_size, composed_nesting}
use Rattle.paper.specs.Lean.{down_next, Decision, loose_after, guard_depth_by, composed_size_by, composed_nesting_by}

-- The axis that says a decision.
abbrev pub saying : Bool → Axis
saying guards = cond guards child self

module _ (decides : Decision) where
  abbrev mutual
    pub mark_expr : Expr → Expr
    mark_expr (path steps) = path (mark_steps steps false false)
    mark_expr (both a b) = both (mark_expr a) (mark_expr b)
    mark_expr (either a b) = either (mark_expr a) (mark_expr b)
    mark_expr (negated a) = negated (mark_expr a)

    pub mark_steps : Steps → Bool → Bool → Steps
    mark_steps stop loose last = stop
    mark_steps (step a t ps rest) loose last =
        step (saying (decides loose a (down_next last rest))) t (mark_preds ps) (mark_steps rest (loose_after decides loose a (down_next last rest)) last)

    pub mark_preds : Preds → Preds
    mark_preds bare = bare
    mark_preds (pred e ps) = pred (mark_expr e) (mark_preds ps)

  abbrev pub mark_path : Steps → Steps
  mark_path p = mark_steps p false true

  -- The marked query.
  unfoldable pub marked : Query → Query
  marked q = record { first = mark_path q.first; others = map mark_path q.others }

-- MEASURES: it has the size and the nesting of the query, its guarded steps stand as deep as those that the decision names,
abbrev pub MarkedMeasures : Type 0
MarkedMeasures =
    (decides : Decision) (q : Query) → (size (marked decides q) ≡ size q) × (nesting (marked decides q) ≡ nesting q) × (guard_depth (marked decides q) ≡ guard_depth_by decides q)

-- so its composition has the size and the nesting of the composition by the decision;
abbrev pub MarkedComposed : Type 0
MarkedComposed =
    (decides : Decision) (outer inner : Query) → (composed_size (marked decides outer) inner ≡ composed_size_by decides outer inner)
    × (composed_nesting (marked decides outer) inner ≡ composed_nesting_by decides outer inner)

-- and it can stand in memory where the query can.
abbrev pub MarkedGood : Type 0
MarkedGood = (decides : Decision) (q : Query) → good q ≡ true → good (marked decides q) ≡ true
