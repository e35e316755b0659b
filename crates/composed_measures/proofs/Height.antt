-- The height of a composition is at most that of the outer query and of V, which is that of S and two more; S has the reverses' height and one more for each `or`. Each by induction over the query. Assumes nothing.
use Prim.Native.Nat.{ℕ, suc, ◌+◌, ◌*◌, ◌≤◌, max}
use native.Mathlib.Omega.{arith}
use native.Mathlib.Nat.{mul-le-mul}
use mathlib.Core.Path.{◌≡◌}
use mathlib.Core.Bool.{Bool, true, false, cond}
use mathlib.Core.List.{List, [], ◌∷◌, map}
use lib.ListN.{length}
use Rattle.paper.specs.Query.{Test, any_node, Expr, path, both, either, negated, Steps, stop, step, Preds, bare, pred, Query, paths}
use Rattle.paper.specs.Measures.{height_expr, height_steps, height_preds, height_paths, height}
use Rattle.paper.specs.Composition.{turned, at_root, way_back, reversed, joined, selected_by, visible, guarded, guard_expr, guard_steps, guard_preds, append, last_step, composed_path, composed}
use Rattle.paper.specs.Document.{nodes}
use Rattle.paper.specs.Room.{path_count, height_bound}
use Rattle.composed_measures.specs.Measures.{Height, ScratchEnough}

way_height : (x : Test) (ps : Preds) (back s : Steps) → height_steps (way_back x ps back s) ≡ max (max (height_preds ps) (height_steps back)) (height_steps s)
way_height x ps back stop = omega arith
way_height x ps back (step a y qs rest) = omega (arith, way_height y qs (step (turned a) x ps back) rest)

reversed_height : (p : Steps) → height_expr (reversed p) ≡ max 3 (height_expr (path p))
unfolding reversed
reversed_height p = omega (arith, way_height any_node (pred at_root bare) stop p)

-- Each `or` adds one to what bounds its operands.
joined-height : (e : Expr) (ps : List Steps) (b : ℕ) → height_expr e ≤ b → 3 ≤ b → height_paths ps ≤ b → height_expr (joined e ps) ≤ b + length ps
joined-height e [] b he h3 hs = omega arith
joined-height e (p ∷ ps) b he h3 hs =
    let one : height_expr (reversed p) ≤ b = omega (arith, reversed_height p) in
    omega (arith, joined-height (either e (reversed p)) ps (suc b) (omega arith) (omega arith) (omega arith))

selected_height : (q : Query) → 1 + height_expr (selected_by q) ≤ max 3 (height q) + length (paths q)
unfolding selected_by height
selected_height q =
    let b = max 3 (height_paths (paths q)) in
    let one : height_expr (reversed q.first) ≤ b = omega (arith, reversed_height q.first) in
    omega (arith, joined-height (reversed q.first) q.others b one (omega arith) (omega arith))

-- The height that the guard brings, and the last step.
unfoldable pub guard_height : Query → ℕ
guard_height q = max 3 (height q) + length (paths q) + 1

pub visible_height : (q : Query) → height_expr (visible q) ≤ guard_height q
unfolding visible guard_height
visible_height q = omega (arith, selected_height q)

pub last_height : (q : Query) → height_steps (last_step q) ≤ guard_height q
unfolding last_step guard_height
last_height q = omega (arith, selected_height q)

pub append_height : (s last : Steps) → height_steps (append s last) ≡ max (height_steps s) (height_steps last)
append_height stop last = omega arith
append_height (step a x ps rest) last = omega (arith, append_height rest last)

module _ (v : Expr) (d : ℕ) (low : height_expr v ≤ d) where
  pub on_height : (g : Bool) (ps : Preds) → height_preds (cond g (pred v ps) ps) ≤ max d (height_preds ps)
  on_height true ps = omega arith
  on_height false ps = omega arith

  mutual
    expr_height : (e : Expr) → height_expr (guard_expr e v) ≤ height_expr e + d
    expr_height (path s) = omega (arith, steps_height s)
    expr_height (both a b) = omega (arith, expr_height a, expr_height b)
    expr_height (either a b) = omega (arith, expr_height a, expr_height b)
    expr_height (negated a) = omega (arith, expr_height a)

    steps_height : (s : Steps) → height_steps (guard_steps s v) ≤ height_steps s + d
    steps_height stop = omega arith
    steps_height (step a x ps rest) = omega (arith, on_height (guarded a) (guard_preds ps v), preds_height ps, steps_height rest)

    preds_height : (ps : Preds) → height_preds (guard_preds ps v) ≤ height_preds ps + d
    preds_height bare = omega arith
    preds_height (pred e ps) = omega (arith, expr_height e, preds_height ps)

path_height : (q : Query) (p : Steps) → height_steps (composed_path q p) ≤ height_steps p + guard_height q
unfolding composed_path
path_height q p =
    omega
    (arith, append_height (guard_steps p (visible q)) (last_step q), last_height q, steps_height (visible q) (guard_height q) (visible_height q) p)

paths_height : (q : Query) (ps : List Steps) → height_paths (map (composed_path q) ps) ≤ height_paths ps + guard_height q
paths_height q [] = omega arith
paths_height q (p ∷ ps) = omega (arith, path_height q p, paths_height q ps)

-- THE HEIGHT OF A COMPOSITION HAS ITS BOUND.
pub composed_height : Height
unfolding height composed guard_height
composed_height outer inner = omega (arith, paths_height inner (paths outer))

-- SO THE SCRATCH TOLD BEFORE COMPOSING IS ENOUGH.
pub scratch_enough : ScratchEnough
scratch_enough t outer inner =
    let low : height (composed outer inner) + 1 ≤ height_bound (height outer) (height inner) (path_count inner) + 1 = omega (arith, composed_height outer inner) in
    let twice : nodes t * 2 ≤ nodes t * 2 = omega arith in
    mul-le-mul twice low
