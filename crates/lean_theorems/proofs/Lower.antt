-- The height of the lean composition has the composition's bound, so the scratch told before composing is enough for it. Each by induction over the query, for any decision. Assumes nothing.
use Prim.Native.Nat.{ℕ, ◌+◌, ◌*◌, ◌≤◌, max}
use native.Mathlib.Omega.{arith}
use native.Mathlib.Nat.{mul-le-mul}
use mathlib.Core.Bool.{Bool, false, true, cond}
use mathlib.Core.List.{List, [], ◌∷◌, map}
use Rattle.paper.specs.Query.{Expr, path, both, either, negated, Steps, stop, step, Preds, bare, pred, Query, paths}
use Rattle.paper.specs.Measures.{height_expr, height_steps, height_preds, height_paths, height}
use Rattle.paper.specs.Document.{nodes}
use Rattle.paper.specs.Room.{path_count, height_bound}
use Rattle.paper.specs.Composition.{visible, append, last_step}
use Rattle.paper.specs.Lean.{down_next, Decision, leanly, loose_after, guard_expr_by, guard_steps_by, guard_preds_by, composed_path_by, composed_by, composed_lean}
use Rattle.composed_measures.proofs.Height.{guard_height, visible_height, last_height, append_height, on_height}
use Rattle.lean_theorems.specs.Leans.{LeanHeight, LeanScratchEnough}

module _ (decides : Decision) (v : Expr) (d : ℕ) (low : height_expr v ≤ d) where
  mutual
    expr_height : (e : Expr) → height_expr (guard_expr_by decides e v) ≤ height_expr e + d
    expr_height (path s) = omega (arith, steps_height s false false)
    expr_height (both a b) = omega (arith, expr_height a, expr_height b)
    expr_height (either a b) = omega (arith, expr_height a, expr_height b)
    expr_height (negated a) = omega (arith, expr_height a)

    steps_height : (s : Steps) (loose last : Bool) → height_steps (guard_steps_by decides s loose last v) ≤ height_steps s + d
    steps_height stop loose last = omega arith
    steps_height (step a x ps rest) loose last =
        omega (
          arith,
          on_height v d low (decides loose a (down_next last rest)) (guard_preds_by decides ps v),
          preds_height ps,
          steps_height rest (loose_after decides loose a (down_next last rest)) last,
        )

    preds_height : (ps : Preds) → height_preds (guard_preds_by decides ps v) ≤ height_preds ps + d
    preds_height bare = omega arith
    preds_height (pred e ps) = omega (arith, expr_height e, preds_height ps)

path_height : (decides : Decision) (q : Query) (p : Steps) → height_steps (composed_path_by decides q p) ≤ height_steps p + guard_height q
unfolding composed_path_by
path_height decides q p =
    omega (
      arith,
      append_height (guard_steps_by decides p false true (visible q)) (last_step q),
      last_height q,
      steps_height decides (visible q) (guard_height q) (visible_height q) p false true,
    )

paths_height : (decides : Decision) (q : Query) (ps : List Steps) → height_paths (map (composed_path_by decides q) ps) ≤ height_paths ps + guard_height q
paths_height decides q [] = omega arith
paths_height decides q (p ∷ ps) = omega (arith, path_height decides q p, paths_height decides q ps)

-- THE HEIGHT OF THE LEAN COMPOSITION HAS THE COMPOSITION'S BOUND.
pub lean_height : LeanHeight
unfolding height composed_by guard_height
lean_height outer inner = omega (arith, paths_height leanly inner (paths outer))

-- SO THE SCRATCH TOLD BEFORE COMPOSING IS ENOUGH.
pub lean_scratch_enough : LeanScratchEnough
lean_scratch_enough t outer inner =
    let low : height (composed_lean outer inner) + 1 ≤ height_bound (height outer) (height inner) (path_count inner) + 1 = omega (arith, lean_height outer inner) in
    let twice : nodes t * 2 ≤ nodes t * 2 = omega arith in
    mul-le-mul twice low
