-- A composition of two queries of at most 4,096 items each has fewer than 2^32 items and brackets: its formula, and no more guarded steps, paths and brackets than items. By induction over the query. Assumes nothing.
use Prim.Native.Nat.{◌+◌, ◌*◌, ◌≤◌, ◌<◌}
use native.Mathlib.Omega.{arith}
use native.Mathlib.Nat.{mul-le-mul}
use mathlib.Core.Bool.{Bool, true, false, cond}
use mathlib.Core.List.{List, [], ◌∷◌}
use lib.ListN.{length}
use Rattle.paper.specs.Limits.{item_limit}
use Rattle.paper.specs.Query.{Expr, path, both, either, negated, Steps, stop, step, Preds, bare, pred, Query, paths}
use Rattle.paper.specs.Measures.{size_expr, size_steps, size_preds, size_paths, size}
use Rattle.paper.specs.Measures.{round_left_of_and, round_right_of_and, round_right_of_or, nest_expr, nest_steps, nest_preds, nest_paths, nesting}
use Rattle.paper.specs.Composition.{composed, guarded, guards_in_expr, guards_in_steps, guards_in_preds, guards_in_paths, selected_size, composed_size}
use Rattle.paper.proofs.Encoding.{bracket_most}
use Rattle.composed_measures.proofs.Sizes.{composed-size}

-- A step counts once at most.
once : (g : Bool) → cond g 1 0 ≤ 1
once true = omega arith
once false = omega arith

-- A query has no more guarded steps and paths than items.
mutual
  expr_steps : (e : Expr) → guards_in_expr e ≤ size_expr e
  expr_steps (path s) = omega (arith, steps_steps s)
  expr_steps (both a b) = omega (arith, expr_steps a, expr_steps b)
  expr_steps (either a b) = omega (arith, expr_steps a, expr_steps b)
  expr_steps (negated a) = omega (arith, expr_steps a)

  steps_steps : (s : Steps) → guards_in_steps s ≤ size_steps s
  steps_steps stop = omega arith
  steps_steps (step a t ps rest) = omega (arith, once (guarded a), preds_steps ps, steps_steps rest)

  preds_steps : (ps : Preds) → guards_in_preds ps ≤ size_preds ps
  preds_steps bare = omega arith
  preds_steps (pred e ps) = omega (arith, expr_steps e, preds_steps ps)

pub paths_steps : (ps : List Steps) → guards_in_paths ps + length ps ≤ size_paths ps
paths_steps [] = omega arith
paths_steps (p ∷ ps) = omega (arith, steps_steps p, paths_steps ps)

-- A query has no more brackets open at once than items.
mutual
  expr_nest : (e : Expr) → 1 + nest_expr e ≤ size_expr e
  expr_nest (path s) = omega (arith, steps_nest s)
  expr_nest (both a b) =
      omega (arith, expr_nest a, expr_nest b, bracket_most (round_left_of_and a) (nest_expr a), bracket_most (round_right_of_and b) (nest_expr b))
  expr_nest (either a b) = omega (arith, expr_nest a, expr_nest b, bracket_most (round_right_of_or b) (nest_expr b))
  expr_nest (negated a) = omega (arith, expr_nest a)

  steps_nest : (s : Steps) → nest_steps s ≤ size_steps s
  steps_nest stop = omega arith
  steps_nest (step a t ps rest) = omega (arith, preds_nest ps, steps_nest rest)

  preds_nest : (ps : Preds) → nest_preds ps ≤ size_preds ps
  preds_nest bare = omega arith
  preds_nest (pred e ps) = omega (arith, expr_nest e, preds_nest ps)

paths_nest : (ps : List Steps) → nest_paths ps ≤ size_paths ps
paths_nest [] = omega arith
paths_nest (p ∷ ps) = omega (arith, steps_nest p, paths_nest ps)

pub nesting_size : (q : Query) → nesting q ≤ size q
unfolding nesting size
nesting_size q = paths_nest (paths q)

-- TWO QUERIES OF AT MOST 4,096 ITEMS COMPOSE TO FEWER THAN 2^32.
pub composed_small : (outer inner : Query) → size outer ≤ item_limit → size inner ≤ item_limit → size (composed outer inner) < 4294967296
unfolding size composed_size selected_size
composed_small outer inner o i =
    let s : selected_size inner ≤ 6 * item_limit = omega (arith, paths_steps (paths inner)) in
    let t : guards_in_paths (paths outer) ≤ item_limit = omega (arith, paths_steps (paths outer)) in
    let m : length (paths outer) ≤ item_limit = omega (arith, paths_steps (paths outer)) in
    let v : 5 + 2 * selected_size inner ≤ 49157 = omega arith in
    let l : 3 + selected_size inner ≤ 24579 = omega arith in
    let guards : guards_in_paths (paths outer) * (5 + 2 * selected_size inner) ≤ 201347072 = mul-le-mul t v in
    let lasts : length (paths outer) * (3 + selected_size inner) ≤ 100675584 = mul-le-mul m l in
    omega (arith, composed-size outer inner)
