-- The size of a composition is its formula: each step along a guarded axis gets V more, each path the last step, and S has the inner query's items and five a path less one. Each by induction over the query. Assumes nothing.
use Prim.Native.Nat.{◌+◌, ◌*◌}
use native.Mathlib.Omega.{arith}
use mathlib.Core.Path.{◌≡◌, ◌∙◌, ap, ap₂}
use mathlib.Core.Bool.{Bool, true, false, cond}
use mathlib.Core.List.{List, [], ◌∷◌, map}
use lib.ListN.{length}
use Rattle.paper.specs.Query.{Test, any_node, Expr, path, both, either, negated, Steps, stop, step, Preds, bare, pred, Query, paths}
use native.Mathlib.Nat.{add-mul}
use Rattle.paper.specs.Measures.{size_expr, size_steps, size_preds, size_paths, size}
use Rattle.paper.specs.Composition.{turned, at_root, way_back, reversed, joined, selected_by, visible, guarded, guard_expr, guard_steps, guard_preds, append, last_step, composed_path, composed}
use Rattle.paper.specs.Composition.{guards_in_expr, guards_in_steps, guards_in_preds, guards_in_paths, selected_size, composed_size}
use Rattle.composed_measures.specs.Measures.{Size}

-- A way back has the items of the way, and those of where it ends.
way_size : (x : Test) (ps : Preds) (back s : Steps) → size_steps (way_back x ps back s) ≡ 1 + (size_preds ps + size_steps back) + size_steps s
way_size x ps back stop = omega arith
way_size x ps back (step a y qs rest) = omega (arith, way_size y qs (step (turned a) x ps back) rest)

reversed_size : (p : Steps) → size_expr (reversed p) ≡ 4 + size_expr (path p)
unfolding reversed
reversed_size p = omega (arith, way_size any_node (pred at_root bare) stop p)

joined_size : (e : Expr) (ps : List Steps) → size_expr (joined e ps) ≡ size_expr e + size_paths ps + 5 * length ps
joined_size e [] = omega arith
joined_size e (p ∷ ps) = omega (arith, joined_size (either e (reversed p)) ps, reversed_size p)

selected-size : (q : Query) → size_expr (selected_by q) ≡ selected_size q
unfolding selected_by selected_size size
selected-size q = omega (arith, joined_size (reversed q.first) q.others, reversed_size q.first)

pub visible_size : (q : Query) → size_expr (visible q) ≡ 5 + 2 * selected_size q
unfolding visible
visible_size q = omega (arith, selected-size q)

pub last_size : (q : Query) → size_steps (last_step q) ≡ 3 + selected_size q
unfolding last_step
last_size q = omega (arith, selected-size q)

pub append_size : (s last : Steps) → size_steps (append s last) ≡ size_steps s + size_steps last
append_size stop last = omega arith
append_size (step a x ps rest) last = omega (arith, append_size rest last)

-- Every step along a guarded axis gets the guard.
module _ (v : Expr) where
  pub on_size : (g : Bool) (ps : Preds) → size_preds (cond g (pred v ps) ps) ≡ cond g 1 0 * size_expr v + size_preds ps
  on_size true ps = omega arith
  on_size false ps = omega arith

  mutual
    expr_size : (e : Expr) → size_expr (guard_expr e v) ≡ size_expr e + guards_in_expr e * size_expr v
    expr_size (path s) = omega (arith, steps_size s)
    expr_size (both a b) = omega (arith, expr_size a, expr_size b, add-mul (guards_in_expr a) (guards_in_expr b) (size_expr v))
    expr_size (either a b) = omega (arith, expr_size a, expr_size b, add-mul (guards_in_expr a) (guards_in_expr b) (size_expr v))
    expr_size (negated a) = omega (arith, expr_size a)

    steps_size : (s : Steps) → size_steps (guard_steps s v) ≡ size_steps s + guards_in_steps s * size_expr v
    steps_size stop = omega arith
    steps_size (step a x ps rest) =
        omega (
          arith,
          on_size (guarded a) (guard_preds ps v),
          preds_size ps,
          steps_size rest,
          add-mul (cond (guarded a) 1 0) (guards_in_preds ps + guards_in_steps rest) (size_expr v),
          add-mul (guards_in_preds ps) (guards_in_steps rest) (size_expr v),
        )

    preds_size : (ps : Preds) → size_preds (guard_preds ps v) ≡ size_preds ps + guards_in_preds ps * size_expr v
    preds_size bare = omega arith
    preds_size (pred e ps) = omega (arith, expr_size e, preds_size ps, add-mul (guards_in_expr e) (guards_in_preds ps) (size_expr v))

path-size : (q : Query) (p : Steps) → size_steps (composed_path q p) ≡ size_steps p + guards_in_steps p * (5 + 2 * selected_size q) + (3 + selected_size q)
unfolding composed_path
path-size q p =
    append_size (guard_steps p (visible q)) (last_step q) ∙
    ap₂ ◌+◌ (steps_size (visible q) p ∙ ap (λ n. size_steps p + guards_in_steps p * n) (visible_size q)) (last_size q)

paths_size : (q : Query) (ps : List Steps)
    → size_paths (map (composed_path q) ps) ≡ size_paths ps + guards_in_paths ps * (5 + 2 * selected_size q) + length ps * (3 + selected_size q)
paths_size q [] = omega arith
paths_size q (p ∷ ps) =
    omega (
      arith,
      path-size q p,
      paths_size q ps,
      add-mul (guards_in_steps p) (guards_in_paths ps) (5 + 2 * selected_size q),
      add-mul 1 (length ps) (3 + selected_size q),
    )

-- THE SIZE OF A COMPOSITION IS ITS FORMULA.
pub composed-size : Size
unfolding size composed composed_size
composed-size outer inner = paths_size inner (paths outer)
