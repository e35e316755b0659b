-- The size of a composition by any decision is its formula, and the lean composition is never larger than the composition.
-- A step that the lean decision guards though its axis does not ask for it is self behind a loose node, and that node's step, which the axis guards, has no guard. By induction over the query. Assumes nothing.
use Prim.Native.Nat.{ℕ, ◌+◌, ◌*◌, ◌≤◌}
use native.Mathlib.Omega.{arith}
use native.Mathlib.Nat.{add-mul, mul-le-mul}
use mathlib.Core.Path.{◌≡◌, refl, ◌∙◌, ap, ap₂}
use mathlib.Core.Bool.{Bool, true, false, not, ◌&&◌, ◌||◌, cond}
use mathlib.Core.List.{List, [], ◌∷◌, map}
use lib.ListN.{length}
use Rattle.paper.specs.Query.{Expr, path, both, either, negated, Steps, stop, step, Preds, bare, pred, Query, paths}
use Rattle.paper.specs.Measures.{size_expr, size_steps, size_preds, size_paths, size}
use Rattle.paper.specs.Composition.{guarded, visible, append, last_step, guards_in_expr, guards_in_steps, guards_in_preds, guards_in_paths, selected_size, composed, composed_size}
use Rattle.paper.specs.Lean.{is_self, may_be_hidden, down_next, Decision, leanly, loose_after, guard_expr_by, guard_steps_by, guard_preds_by, composed_path_by, composed_by, composed_lean}
use Rattle.paper.specs.Lean.{guards_in_expr_by, guards_in_steps_by, guards_in_preds_by, guards_in_paths_by, composed_size_by, lean_size}
use Rattle.composed_measures.proofs.Sizes.{visible_size, last_size, append_size, on_size, composed-size}
use Rattle.lean_theorems.specs.Leans.{SizeBy, LeanSize, NoLarger}

module _ (decides : Decision) (v : Expr) where
  mutual
    expr_size : (e : Expr) → size_expr (guard_expr_by decides e v) ≡ size_expr e + guards_in_expr_by decides e * size_expr v
    expr_size (path s) = omega (arith, steps_size s false false)
    expr_size (both a b) = omega (arith, expr_size a, expr_size b, add-mul (guards_in_expr_by decides a) (guards_in_expr_by decides b) (size_expr v))
    expr_size (either a b) = omega (arith, expr_size a, expr_size b, add-mul (guards_in_expr_by decides a) (guards_in_expr_by decides b) (size_expr v))
    expr_size (negated a) = omega (arith, expr_size a)

    steps_size : (s : Steps) (loose last : Bool) → size_steps (guard_steps_by decides s loose last v) ≡ size_steps s + guards_in_steps_by decides s loose last * size_expr v
    steps_size stop loose last = omega arith
    steps_size (step a x ps rest) loose last =
        let g = decides loose a (down_next last rest) in
        let next = loose_after decides loose a (down_next last rest) in
        omega (
          arith,
          on_size v g (guard_preds_by decides ps v),
          preds_size ps,
          steps_size rest next last,
          add-mul (cond g 1 0) (guards_in_preds_by decides ps + guards_in_steps_by decides rest next last) (size_expr v),
          add-mul (guards_in_preds_by decides ps) (guards_in_steps_by decides rest next last) (size_expr v),
        )

    preds_size : (ps : Preds) → size_preds (guard_preds_by decides ps v) ≡ size_preds ps + guards_in_preds_by decides ps * size_expr v
    preds_size bare = omega arith
    preds_size (pred e ps) = omega (arith, expr_size e, preds_size ps, add-mul (guards_in_expr_by decides e) (guards_in_preds_by decides ps) (size_expr v))

path-size : (decides : Decision) (q : Query) (p : Steps)
    → size_steps (composed_path_by decides q p) ≡ size_steps p + guards_in_steps_by decides p false true * (5 + 2 * selected_size q) + (3 + selected_size q)
unfolding composed_path_by
path-size decides q p =
    append_size (guard_steps_by decides p false true (visible q)) (last_step q) ∙
    ap₂ ◌+◌ (steps_size decides (visible q) p false true ∙ ap (λ n. size_steps p + guards_in_steps_by decides p false true * n) (visible_size q)) (last_size q)

paths_size : (decides : Decision) (q : Query) (ps : List Steps)
    → size_paths (map (composed_path_by decides q) ps) ≡ size_paths ps + guards_in_paths_by decides ps * (5 + 2 * selected_size q) + length ps * (3 + selected_size q)
paths_size decides q [] = omega arith
paths_size decides q (p ∷ ps) =
    omega (
      arith,
      path-size decides q p,
      paths_size decides q ps,
      add-mul (guards_in_steps_by decides p false true) (guards_in_paths_by decides ps) (5 + 2 * selected_size q),
      add-mul 1 (length ps) (3 + selected_size q),
    )

-- THE SIZE IS ITS FORMULA, WHATEVER THE DECISION,
pub size_by : SizeBy
unfolding size composed_by composed_size_by
size_by decides outer inner = paths_size decides inner (paths outer)

-- SO THAT OF THE LEAN COMPOSITION IS.
pub lean-size : LeanSize
lean-size outer inner = size_by leanly outer inner

-- A step is guarded, or its node is loose, or neither: both at once only where its axis is guarded or the node before it is loose.
one_of : (axis itself loose down : Bool) → cond ((axis || (itself && loose)) && not down) 1 0 + cond ((axis || (itself && loose)) && not ((axis || (itself && loose)) && not down)) 1 0 ≤ cond axis 1 0 + cond loose 1 0
one_of true itself true true = omega arith
one_of true itself true false = omega arith
one_of true itself false true = omega arith
one_of true itself false false = omega arith
one_of false true true true = omega arith
one_of false true true false = omega arith
one_of false true false down = omega arith
one_of false false true down = omega arith
one_of false false false down = omega arith

mutual
  expr_fewer : (e : Expr) → guards_in_expr_by leanly e ≤ guards_in_expr e
  expr_fewer (path s) = omega (arith, steps_fewer s false false)
  expr_fewer (both a b) = omega (arith, expr_fewer a, expr_fewer b)
  expr_fewer (either a b) = omega (arith, expr_fewer a, expr_fewer b)
  expr_fewer (negated a) = expr_fewer a

  steps_fewer : (s : Steps) (loose last : Bool) → guards_in_steps_by leanly s loose last ≤ guards_in_steps s + cond loose 1 0
  steps_fewer stop loose last = omega arith
  steps_fewer (step a x ps rest) loose last =
      omega (arith, one_of (guarded a) (is_self a) loose (down_next last rest), preds_fewer ps, steps_fewer rest (loose_after leanly loose a (down_next last rest)) last)

  preds_fewer : (ps : Preds) → guards_in_preds_by leanly ps ≤ guards_in_preds ps
  preds_fewer bare = omega arith
  preds_fewer (pred e ps) = omega (arith, expr_fewer e, preds_fewer ps)

paths_fewer : (ps : List Steps) → guards_in_paths_by leanly ps ≤ guards_in_paths ps
paths_fewer [] = omega arith
paths_fewer (p ∷ ps) = omega (arith, steps_fewer p false true, paths_fewer ps)

-- THE LEAN COMPOSITION HAS AT MOST THE ITEMS OF THE COMPOSITION.
pub no_larger : NoLarger
unfolding composed_size_by composed_size
no_larger outer inner =
    let v : 5 + 2 * selected_size inner ≤ 5 + 2 * selected_size inner = omega arith in
    omega (arith, lean-size outer inner, composed-size outer inner, mul-le-mul (paths_fewer (paths outer)) v)
