-- docs/SCOPE.md, "Lean composition": the composition with fewer guards. What the inner query keeps is closed under parents, so a step needs no V if the next step of its path goes down: the guard behind it answers for both.
-- All but the decision which step is guarded is as in Composition.antt, and the decision is an argument here.
use Rattle.std.specs.Prelude.{ℕ, ◌+◌, ◌*◌, max, Bool, true, false, not, ◌&&◌, ◌||◌, cond, List, [], ◌∷◌, map, length}
use Rattle.paper.specs.Query.{Axis, self, child, parent, descendant_or_self, ancestor_or_self, descendant, ancestor, following_sibling, preceding_sibling, following, preceding}
use Rattle.paper.specs.Query.{Expr, path, both, either, negated, Steps, stop, step, Preds, bare, pred, Query, paths}
use Rattle.paper.specs.Measures.{round_left_of_and, round_right_of_and, round_right_of_or, in_brackets, size, nesting}
use Rattle.paper.specs.Composition.{guarded, visible, append, last_step, selected_size}
use Rattle.paper.specs.Answers.{Answer, composing_answer, composing_out}

-- Does a step along the axis go down: does it lead from a node only to nodes at or below it?
abbrev pub goes_down : Axis → Bool
goes_down self = true
goes_down child = true
goes_down parent = false
goes_down descendant_or_self = true
goes_down ancestor_or_self = false
goes_down descendant = true
goes_down ancestor = false
goes_down following_sibling = false
goes_down preceding_sibling = false
goes_down following = false
goes_down preceding = false

abbrev pub is_self : Axis → Bool
is_self self = true
is_self child = false
is_self parent = false
is_self descendant_or_self = false
is_self ancestor_or_self = false
is_self descendant = false
is_self ancestor = false
is_self following_sibling = false
is_self preceding_sibling = false
is_self following = false
is_self preceding = false

-- A step's node may be hidden if its axis is one that `compose` guards, or if it is self and the node before it is `loose`: may be hidden and has no guard.
abbrev pub may_be_hidden : Bool → Axis → Bool
may_be_hidden loose a = guarded a || (is_self a && loose)

-- Does a step that goes down follow, where these steps are left of the path? `last` says of what stands behind them: of a top-level path the last step always follows, of a path in a predicate nothing does.
abbrev pub down_next : Bool → Steps → Bool
down_next last stop = last
down_next last (step a t ps rest) = goes_down a

-- A decision which step is guarded: by whether the node before it is loose, by its axis, and by whether a step that goes down follows.
abbrev pub Decision : Type 0
Decision = Bool → Axis → Bool → Bool

-- That of `compose`: by the axis alone.
abbrev pub by_axis : Decision
by_axis loose a down = guarded a

-- That of the lean composition: its node may be hidden, and no step that goes down follows it.
abbrev pub leanly : Decision
leanly loose a down = may_be_hidden loose a && not down

module _ (decides : Decision) where
  -- Is the node of a step loose: may it be hidden, and has it no guard?
  abbrev pub loose_after : Bool → Axis → Bool → Bool
  loose_after loose a down = may_be_hidden loose a && not (decides loose a down)

  -- Every step that the decision names, those in predicates included, gets V as its first predicate; each path of a predicate begins at a node that is not loose.
  abbrev mutual
    pub guard_expr_by : Expr → Expr → Expr
    guard_expr_by (path steps) v = path (guard_steps_by steps false false v)
    guard_expr_by (both a b) v = both (guard_expr_by a v) (guard_expr_by b v)
    guard_expr_by (either a b) v = either (guard_expr_by a v) (guard_expr_by b v)
    guard_expr_by (negated a) v = negated (guard_expr_by a v)

    pub guard_steps_by : Steps → Bool → Bool → Expr → Steps
    guard_steps_by stop loose last v = stop
    guard_steps_by (step a t ps rest) loose last v =
        step a t (cond (decides loose a (down_next last rest)) (pred v (guard_preds_by ps v)) (guard_preds_by ps v))
        (guard_steps_by rest (loose_after loose a (down_next last rest)) last v)

    pub guard_preds_by : Preds → Expr → Preds
    guard_preds_by bare v = bare
    guard_preds_by (pred e ps) v = pred (guard_expr_by e v) (guard_preds_by ps v)

  unfoldable pub composed_path_by : Query → Steps → Steps
  composed_path_by inner p = append (guard_steps_by p false true (visible inner)) (last_step inner)

  -- The composition by the decision.
  unfoldable pub composed_by : Query → Query → Query
  composed_by outer inner =
      record { first = composed_path_by inner outer.first; others = map (composed_path_by inner) outer.others }

  -- The steps of a query that the decision names, of all depths.
  abbrev mutual
    pub guards_in_expr_by : Expr → ℕ
    guards_in_expr_by (path steps) = guards_in_steps_by steps false false
    guards_in_expr_by (both a b) = guards_in_expr_by a + guards_in_expr_by b
    guards_in_expr_by (either a b) = guards_in_expr_by a + guards_in_expr_by b
    guards_in_expr_by (negated a) = guards_in_expr_by a

    pub guards_in_steps_by : Steps → Bool → Bool → ℕ
    guards_in_steps_by stop loose last = 0
    guards_in_steps_by (step a t ps rest) loose last =
        cond (decides loose a (down_next last rest)) 1 0
        + (guards_in_preds_by ps + guards_in_steps_by rest (loose_after loose a (down_next last rest)) last)

    pub guards_in_preds_by : Preds → ℕ
    guards_in_preds_by bare = 0
    guards_in_preds_by (pred e ps) = guards_in_expr_by e + guards_in_preds_by ps

  abbrev pub guards_in_paths_by : List Steps → ℕ
  guards_in_paths_by [] = 0
  guards_in_paths_by (p ∷ ps) = guards_in_steps_by p false true + guards_in_paths_by ps

  -- The size: w(outer) + t(5 + 2s) + m(3 + s), with t the steps that the decision names.
  unfoldable pub composed_size_by : Query → Query → ℕ
  composed_size_by outer inner =
      size outer + guards_in_paths_by (paths outer) * (5 + 2 * selected_size inner) + length (paths outer) * (3 + selected_size inner)

  -- The greatest number of brackets open at such a step, where so many are open around what is looked at; 0 where there is none.
  abbrev mutual
    pub guard_depth_expr_by : Expr → ℕ → ℕ
    guard_depth_expr_by (path steps) opened = guard_depth_steps_by steps false false opened
    guard_depth_expr_by (both a b) opened =
        max (guard_depth_expr_by a (in_brackets (round_left_of_and a) opened)) (guard_depth_expr_by b (in_brackets (round_right_of_and b) opened))
    guard_depth_expr_by (either a b) opened = max (guard_depth_expr_by a opened) (guard_depth_expr_by b (in_brackets (round_right_of_or b) opened))
    guard_depth_expr_by (negated a) opened = guard_depth_expr_by a (1 + opened)

    pub guard_depth_steps_by : Steps → Bool → Bool → ℕ → ℕ
    guard_depth_steps_by stop loose last opened = 0
    guard_depth_steps_by (step a t ps rest) loose last opened =
        max (max (cond (decides loose a (down_next last rest)) opened 0) (guard_depth_preds_by ps opened))
        (guard_depth_steps_by rest (loose_after loose a (down_next last rest)) last opened)

    pub guard_depth_preds_by : Preds → ℕ → ℕ
    guard_depth_preds_by bare opened = 0
    guard_depth_preds_by (pred e ps) opened = max (guard_depth_expr_by e (1 + opened)) (guard_depth_preds_by ps opened)

  abbrev pub guard_depth_paths_by : List Steps → ℕ
  guard_depth_paths_by [] = 0
  guard_depth_paths_by (p ∷ ps) = max (guard_depth_steps_by p false true 0) (guard_depth_paths_by ps)

  unfoldable pub guard_depth_by : Query → ℕ
  guard_depth_by q = guard_depth_paths_by (paths q)

  -- The nesting: that of the outer query or, if greater, d + 2 + the larger of 2 and N(inner).
  unfoldable pub composed_nesting_by : Query → Query → ℕ
  composed_nesting_by outer inner = max (nesting outer) (guard_depth_by outer + 2 + max 2 (nesting inner))

-- The lean composition, its size and its nesting.
abbrev pub composed_lean : Query → Query → Query
composed_lean = composed_by leanly

abbrev pub lean_size : Query → Query → ℕ
lean_size = composed_size_by leanly

abbrev pub lean_nesting : Query → Query → ℕ
lean_nesting = composed_nesting_by leanly

-- COMPOSE LEAN: as compose, 1, 6 (outer first), 9, 10, with the real nesting and size; it answers the number of items.
unfoldable pub compose_lean_answer : List ℕ → List ℕ → ℕ → Answer
compose_lean_answer outer inner room = composing_answer composed_lean outer inner room

unfoldable pub compose_lean_out : List ℕ → List ℕ → List ℕ → List ℕ
compose_lean_out outer inner out = composing_out composed_lean outer inner out
