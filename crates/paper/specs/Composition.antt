-- docs/SCOPE.md, "Composition": one query for an outer query run inside what an inner query keeps.
use Rattle.std.specs.Prelude.{ℕ, ◌+◌, ◌*◌, ◌-◌, max, Bool, true, false, cond, List, [], ◌∷◌, map, length}
use Rattle.paper.specs.Query.{Axis, self, child, parent, descendant_or_self, ancestor_or_self, descendant, ancestor, following_sibling, preceding_sibling, following, preceding}
use Rattle.paper.specs.Query.{Test, any_node}
use Rattle.paper.specs.Query.{Expr, path, both, either, negated, Steps, stop, step, Preds, bare, pred, Query, paths}
use Rattle.paper.specs.Measures.{round_left_of_and, round_right_of_and, round_right_of_or, in_brackets, size, nesting}

-- Child and parent turn into each other, and so do descendant-or-self and ancestor-or-self, descendant and ancestor, the two siblings, following and preceding; self stays.
abbrev pub turned : Axis → Axis
turned self = self
turned child = parent
turned parent = child
turned descendant_or_self = ancestor_or_self
turned ancestor_or_self = descendant_or_self
turned descendant = ancestor
turned ancestor = descendant
turned following_sibling = preceding_sibling
turned preceding_sibling = following_sibling
turned following = preceding
turned preceding = following

-- `not(parent::node())`, which holds at the root alone.
abbrev pub at_root : Expr
at_root = negated (path (step parent any_node bare stop))

-- The way back from a node that has this test and these predicates, with `back` behind it, where the steps lead on from there.
abbrev pub way_back : Test → Preds → Steps → Steps → Steps
way_back test preds back stop = step self test preds back
way_back test preds back (step a t ps rest) = way_back t ps (step (turned a) test preds back) rest

-- The reverse of a path: back from its last step to the root. For `/` it is `self::node()[not(parent::node())]`.
unfoldable pub reversed : Steps → Expr
reversed steps = path (way_back any_node (pred at_root bare) stop steps)

-- The reverses of more paths, joined by `or` and grouped left.
abbrev pub joined : Expr → List Steps → Expr
joined e [] = e
joined e (p ∷ ps) = joined (either e (reversed p)) ps

-- S: the reverses of the inner paths.
unfoldable pub selected_by : Query → Expr
selected_by inner = joined (reversed inner.first) inner.others

-- A path of one step with `node()` and one predicate.
abbrev pub some_node : Axis → Expr → Expr
some_node a e = path (step a any_node (pred e bare) stop)

-- V: `descendant-or-self::node()[S] or ancestor-or-self::node()[S]`.
unfoldable pub visible : Query → Expr
visible inner = either (some_node descendant_or_self (selected_by inner)) (some_node ancestor_or_self (selected_by inner))

-- Is a step along the axis guarded? Self, parent, ancestor-or-self and ancestor lead from a visible node only to visible nodes, so they are not; the others are.
abbrev pub guarded : Axis → Bool
guarded self = false
guarded child = true
guarded parent = false
guarded descendant_or_self = true
guarded ancestor_or_self = false
guarded descendant = true
guarded ancestor = false
guarded following_sibling = true
guarded preceding_sibling = true
guarded following = true
guarded preceding = true

-- The predicates of a step, with V in front where its axis is guarded.
abbrev pub guard_on : Axis → Expr → Preds → Preds
guard_on a v ps = cond (guarded a) (pred v ps) ps

-- Every step along a guarded axis, those in predicates included, gets V as its first predicate.
abbrev mutual
  pub guard_expr : Expr → Expr → Expr
  guard_expr (path steps) v = path (guard_steps steps v)
  guard_expr (both a b) v = both (guard_expr a v) (guard_expr b v)
  guard_expr (either a b) v = either (guard_expr a v) (guard_expr b v)
  guard_expr (negated a) v = negated (guard_expr a v)

  pub guard_steps : Steps → Expr → Steps
  guard_steps stop v = stop
  guard_steps (step a t ps rest) v = step a t (guard_on a v (guard_preds ps v)) (guard_steps rest v)

  pub guard_preds : Preds → Expr → Preds
  guard_preds bare v = bare
  guard_preds (pred e ps) v = pred (guard_expr e v) (guard_preds ps v)

-- The steps with one step more at the end.
abbrev pub append : Steps → Steps → Steps
append stop last = last
append (step a t ps rest) last = step a t ps (append rest last)

-- Every top-level path gets a last step `descendant-or-self::node()[ancestor-or-self::node()[S]]`.
unfoldable pub last_step : Query → Steps
last_step inner = step descendant_or_self any_node (pred (some_node ancestor_or_self (selected_by inner)) bare) stop

unfoldable pub composed_path : Query → Steps → Steps
composed_path inner p = append (guard_steps p (visible inner)) (last_step inner)

-- The composition.
unfoldable pub composed : Query → Query → Query
composed outer inner =
    record { first = composed_path inner outer.first; others = map (composed_path inner) outer.others }

-- The guarded steps of a query, of all depths.
abbrev mutual
  pub guards_in_expr : Expr → ℕ
  guards_in_expr (path steps) = guards_in_steps steps
  guards_in_expr (both a b) = guards_in_expr a + guards_in_expr b
  guards_in_expr (either a b) = guards_in_expr a + guards_in_expr b
  guards_in_expr (negated a) = guards_in_expr a

  pub guards_in_steps : Steps → ℕ
  guards_in_steps stop = 0
  guards_in_steps (step a t ps rest) = cond (guarded a) 1 0 + (guards_in_preds ps + guards_in_steps rest)

  pub guards_in_preds : Preds → ℕ
  guards_in_preds bare = 0
  guards_in_preds (pred e ps) = guards_in_expr e + guards_in_preds ps

abbrev pub guards_in_paths : List Steps → ℕ
guards_in_paths [] = 0
guards_in_paths (p ∷ ps) = guards_in_steps p + guards_in_paths ps

-- The size of S: s = w(inner) + 5k - 1.
unfoldable pub selected_size : Query → ℕ
selected_size inner = size inner + 5 * length (paths inner) - 1

-- The size of the composition: w(outer) + t(5 + 2s) + m(3 + s), with t the guarded steps of the outer query.
unfoldable pub composed_size : Query → Query → ℕ
composed_size outer inner =
    size outer + guards_in_paths (paths outer) * (5 + 2 * selected_size inner) + length (paths outer) * (3 + selected_size inner)

-- The greatest number of brackets open at a guarded step, where so many are open around what is looked at; 0 where no step is guarded.
abbrev mutual
  pub guard_depth_expr : Expr → ℕ → ℕ
  guard_depth_expr (path steps) opened = guard_depth_steps steps opened
  guard_depth_expr (both a b) opened =
      max (guard_depth_expr a (in_brackets (round_left_of_and a) opened)) (guard_depth_expr b (in_brackets (round_right_of_and b) opened))
  guard_depth_expr (either a b) opened = max (guard_depth_expr a opened) (guard_depth_expr b (in_brackets (round_right_of_or b) opened))
  guard_depth_expr (negated a) opened = guard_depth_expr a (1 + opened)

  pub guard_depth_steps : Steps → ℕ → ℕ
  guard_depth_steps stop opened = 0
  guard_depth_steps (step a t ps rest) opened = max (max (cond (guarded a) opened 0) (guard_depth_preds ps opened)) (guard_depth_steps rest opened)

  pub guard_depth_preds : Preds → ℕ → ℕ
  guard_depth_preds bare opened = 0
  guard_depth_preds (pred e ps) opened = max (guard_depth_expr e (1 + opened)) (guard_depth_preds ps opened)

abbrev pub guard_depth_paths : List Steps → ℕ
guard_depth_paths [] = 0
guard_depth_paths (p ∷ ps) = max (guard_depth_steps p 0) (guard_depth_paths ps)

-- d: the greatest number of brackets open at a guarded step of a query, and 0 at least.
unfoldable pub guard_depth : Query → ℕ
guard_depth q = guard_depth_paths (paths q)

-- The nesting of the composition: that of the outer query or, if greater, d + 2 + the larger of 2 and N(inner).
unfoldable pub composed_nesting : Query → Query → ℕ
composed_nesting outer inner = max (nesting outer) (guard_depth outer + 2 + max 2 (nesting inner))
