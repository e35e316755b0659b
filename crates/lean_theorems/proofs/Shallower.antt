-- The nesting of a composition by any decision is its formula, and the lean composition is never deeper than the composition.
-- A step that the lean decision alone guards is self behind a loose node, whose step stands in the same brackets and is guarded by its axis. By induction over the query. Assumes nothing.
use Prim.Native.Nat.{ℕ, ◌+◌, ◌≤◌, max}
use native.Mathlib.Omega.{arith}
use mathlib.Core.Path.{◌≡◌, refl, ◌∙◌, ap}
use mathlib.Core.Bool.{Bool, true, false, not, ◌&&◌, ◌||◌, cond}
use mathlib.Core.List.{List, [], ◌∷◌, map}
use Rattle.paper.specs.Query.{Expr, path, both, either, negated, Steps, stop, step, Preds, bare, pred, Query, paths}
use Rattle.paper.specs.Measures.{is_and, is_or, round_left_of_and, round_right_of_and, round_right_of_or, in_brackets, nest_expr, nest_steps, nest_preds, nest_paths, nesting}
use Rattle.paper.specs.Composition.{guarded, visible, append, last_step, guard_depth_expr, guard_depth_steps, guard_depth_preds, guard_depth_paths, guard_depth, composed, composed_nesting}
use Rattle.paper.specs.Lean.{is_self, may_be_hidden, down_next, Decision, leanly, loose_after, guard_expr_by, guard_steps_by, guard_preds_by, composed_path_by, composed_by, composed_lean}
use Rattle.paper.specs.Lean.{guard_depth_expr_by, guard_depth_steps_by, guard_depth_preds_by, guard_depth_paths_by, guard_depth_by, composed_nesting_by, lean_nesting}
use Rattle.composed_measures.proofs.Nesting.{guard_nest, visible_nest, last_nest, append_nest, brackets, Deepens, both_deepen, on_nest, composed-nesting}
use Rattle.lean_theorems.specs.Leans.{NestingBy, LeanNesting, NoDeeper}

-- Guarding changes no operator.
guard_or : (decides : Decision) (e v : Expr) → is_or (guard_expr_by decides e v) ≡ is_or e
guard_or decides (path s) v = refl
guard_or decides (both a b) v = refl
guard_or decides (either a b) v = refl
guard_or decides (negated a) v = refl

guard_and : (decides : Decision) (e v : Expr) → is_and (guard_expr_by decides e v) ≡ is_and e
guard_and decides (path s) v = refl
guard_and decides (both a b) v = refl
guard_and decides (either a b) v = refl
guard_and decides (negated a) v = refl

-- What is guarded is nested as before, or as deep as its deepest guarded step and the guard there.
module _ (decides : Decision) (v : Expr) (d : ℕ) (deep : 1 + nest_expr v ≡ d) where
  -- What the decision makes of an expression and of predicates.
  abbrev expr : Expr → Expr
  expr e = guard_expr_by decides e v

  abbrev preds : Preds → Preds
  preds ps = guard_preds_by decides ps v

  mutual
    expr_nest : (e : Expr) (n : ℕ) → Deepens d (n + nest_expr (expr e)) (n + nest_expr e) (guard_depth_expr_by decides e n)
    expr_nest (path s) n = steps_nest s false false n
    expr_nest (both a b) n =
        let l = round_left_of_and a in
        let r = round_right_of_and b in
        let new : n + max (in_brackets l (nest_expr (expr a))) (in_brackets r (nest_expr (expr b))) ≡ max (in_brackets l n + nest_expr (expr a)) (in_brackets r n + nest_expr (expr b)) =
        omega (arith, brackets l n (nest_expr (expr a)), brackets r n (nest_expr (expr b))) in
        let old : max (in_brackets l n + nest_expr a) (in_brackets r n + nest_expr b) ≡ n + max (in_brackets l (nest_expr a)) (in_brackets r (nest_expr b)) =
        omega (arith, brackets l n (nest_expr a), brackets r n (nest_expr b)) in
        rw (guard_or decides a v, guard_or decides b v, guard_and decides b v)
        (ap (λ k. max k d) new ∙
        both_deepen d _ _ _ _ _ _ (expr_nest a (in_brackets l n)) (expr_nest b (in_brackets r n)) ∙
        ap (λ k. max k (guard_depth_expr_by decides (both a b) n + d)) old)
    expr_nest (either a b) n =
        let r = round_right_of_or b in
        let new : n + max (nest_expr (expr a)) (in_brackets r (nest_expr (expr b))) ≡ max (n + nest_expr (expr a)) (in_brackets r n + nest_expr (expr b)) =
        omega (arith, brackets r n (nest_expr (expr b))) in
        let old : max (n + nest_expr a) (in_brackets r n + nest_expr b) ≡ n + max (nest_expr a) (in_brackets r (nest_expr b)) =
        omega (arith, brackets r n (nest_expr b)) in
        rw (guard_or decides b v)
        (ap (λ k. max k d) new ∙
        both_deepen d _ _ _ _ _ _ (expr_nest a n) (expr_nest b (in_brackets r n)) ∙
        ap (λ k. max k (guard_depth_expr_by decides (either a b) n + d)) old)
    expr_nest (negated a) n = omega (arith, expr_nest a (1 + n))

    steps_nest : (s : Steps) (loose last : Bool) (n : ℕ) → Deepens d (n + nest_steps (guard_steps_by decides s loose last v)) (n + nest_steps s) (guard_depth_steps_by decides s loose last n)
    steps_nest stop loose last n = omega arith
    steps_nest (step a x ps rest) loose last n =
        let g = decides loose a (down_next last rest) in
        let next = loose_after decides loose a (down_next last rest) in
        let new : n + nest_steps (guard_steps_by decides (step a x ps rest) loose last v) ≡ max (n + nest_preds (cond g (pred v (preds ps)) (preds ps))) (n + nest_steps (guard_steps_by decides rest next last v)) =
        omega arith in
        let old : max (n + nest_preds ps) (n + nest_steps rest) ≡ n + nest_steps (step a x ps rest) = omega arith in
        ap (λ k. max k d) new ∙
        both_deepen d _ _ _ _ _ _ (on_nest v d deep g n (guard_depth_preds_by decides ps n) (preds ps) ps (preds_nest ps n)) (steps_nest rest next last n) ∙
        ap (λ k. max k (guard_depth_steps_by decides (step a x ps rest) loose last n + d)) old

    preds_nest : (ps : Preds) (n : ℕ) → Deepens d (n + nest_preds (preds ps)) (n + nest_preds ps) (guard_depth_preds_by decides ps n)
    preds_nest bare n = omega arith
    preds_nest (pred e ps) n =
        let new : n + nest_preds (preds (pred e ps)) ≡ max (1 + n + nest_expr (expr e)) (n + nest_preds (preds ps)) = omega arith in
        let old : max (1 + n + nest_expr e) (n + nest_preds ps) ≡ n + nest_preds (pred e ps) = omega arith in
        ap (λ k. max k d) new ∙
        both_deepen d _ _ _ _ _ _ (expr_nest e (1 + n)) (preds_nest ps n) ∙
        ap (λ k. max k (guard_depth_preds_by decides (pred e ps) n + d)) old

path_nest : (decides : Decision) (q : Query) (p : Steps) → nest_steps (composed_path_by decides q p) ≡ max (nest_steps p) (guard_depth_steps_by decides p false true 0 + guard_nest q)
unfolding composed_path_by
path_nest decides q p =
    omega (
      arith,
      append_nest (guard_steps_by decides p false true (visible q)) (last_step q),
      last_nest q,
      steps_nest decides (visible q) (guard_nest q) (visible_nest q) p false true 0,
    )

paths_nest : (decides : Decision) (q : Query) (ps : List Steps)
    → Deepens (guard_nest q) (nest_paths (map (composed_path_by decides q) ps)) (nest_paths ps) (guard_depth_paths_by decides ps)
paths_nest decides q [] = omega arith
paths_nest decides q (p ∷ ps) =
    both_deepen (guard_nest q) (nest_steps p) (nest_steps (composed_path_by decides q p)) (guard_depth_steps_by decides p false true 0) (nest_paths ps) (nest_paths (map (composed_path_by decides q) ps)) (guard_depth_paths_by decides ps)
    (omega (arith, path_nest decides q p)) (paths_nest decides q ps)

-- The last step opens as much as the guard.
reaches_guard : (decides : Decision) (outer inner : Query) → guard_nest inner ≤ nesting (composed_by decides outer inner)
unfolding nesting composed_by
reaches_guard decides outer inner = omega (arith, path_nest decides inner outer.first)

nests : (decides : Decision) (outer inner : Query) → Deepens (guard_nest inner) (nesting (composed_by decides outer inner)) (nesting outer) (guard_depth_by decides outer)
unfolding nesting composed_by guard_depth_by
nests decides outer inner = paths_nest decides inner (paths outer)

-- THE NESTING IS ITS FORMULA, WHATEVER THE DECISION,
pub nesting_by : NestingBy
unfolding composed_nesting_by guard_nest
nesting_by decides outer inner = omega (arith, reaches_guard decides outer inner, nests decides outer inner)

-- SO THAT OF THE LEAN COMPOSITION IS.
pub lean-nesting : LeanNesting
lean-nesting outer inner = nesting_by leanly outer inner

-- A step is guarded, or its node is loose, only where its axis is guarded or the node before it is loose; so what bounds the depth there bounds it here.
one_of : (axis itself loose down : Bool) (n b : ℕ) → cond axis n 0 ≤ b → cond loose n 0 ≤ b
    → (cond ((axis || (itself && loose)) && not down) n 0 ≤ b) × (cond ((axis || (itself && loose)) && not ((axis || (itself && loose)) && not down)) n 0 ≤ b)
one_of true itself loose true n b h i = (omega arith, omega arith)
one_of true itself loose false n b h i = (omega arith, omega arith)
one_of false true true true n b h i = (omega arith, omega arith)
one_of false true true false n b h i = (omega arith, omega arith)
one_of false true false down n b h i = (omega arith, omega arith)
one_of false false loose down n b h i = (omega arith, omega arith)

-- What bounds the larger of three bounds each, and the other way round.
each_within : (x y z b : ℕ) → max (max x y) z ≤ b → (x ≤ b) × (y ≤ b) × (z ≤ b)
each_within x y z b h = (omega arith, omega arith, omega arith)

all_within : (x y z b : ℕ) → x ≤ b → y ≤ b → z ≤ b → max (max x y) z ≤ b
all_within x y z b h i j = omega arith

mutual
  expr_shallower : (e : Expr) (n b : ℕ) → guard_depth_expr e n ≤ b → guard_depth_expr_by leanly e n ≤ b
  expr_shallower (path s) n b h = steps_shallower s false false n b h (omega arith)
  expr_shallower (both x y) n b h =
      omega (arith, expr_shallower x (in_brackets (round_left_of_and x) n) b (omega arith), expr_shallower y (in_brackets (round_right_of_and y) n) b (omega arith))
  expr_shallower (either x y) n b h = omega (arith, expr_shallower x n b (omega arith), expr_shallower y (in_brackets (round_right_of_or y) n) b (omega arith))
  expr_shallower (negated x) n b h = expr_shallower x (1 + n) b h

  steps_shallower : (s : Steps) (loose last : Bool) (n b : ℕ) → guard_depth_steps s n ≤ b → cond loose n 0 ≤ b → guard_depth_steps_by leanly s loose last n ≤ b
  steps_shallower stop loose last n b h i = omega arith
  steps_shallower (step a x ps rest) loose last n b h i =
      let next = loose_after leanly loose a (down_next last rest) in
      let parts = each_within (cond (guarded a) n 0) (guard_depth_preds ps n) (guard_depth_steps rest n) b h in
      let here = one_of (guarded a) (is_self a) loose (down_next last rest) n b parts.0 i in
      all_within (cond (leanly loose a (down_next last rest)) n 0) (guard_depth_preds_by leanly ps n) (guard_depth_steps_by leanly rest next last n) b here.0
      (preds_shallower ps n b parts.1) (steps_shallower rest next last n b parts.2 here.1)

  preds_shallower : (ps : Preds) (n b : ℕ) → guard_depth_preds ps n ≤ b → guard_depth_preds_by leanly ps n ≤ b
  preds_shallower bare n b h = omega arith
  preds_shallower (pred e ps) n b h = omega (arith, expr_shallower e (1 + n) b (omega arith), preds_shallower ps n b (omega arith))

paths_shallower : (ps : List Steps) (b : ℕ) → guard_depth_paths ps ≤ b → guard_depth_paths_by leanly ps ≤ b
paths_shallower [] b h = omega arith
paths_shallower (p ∷ ps) b h = omega (arith, steps_shallower p false true 0 b (omega arith) (omega arith), paths_shallower ps b (omega arith))

-- THE LEAN COMPOSITION IS AT MOST AS DEEP AS THE COMPOSITION.
pub no_deeper : NoDeeper
unfolding composed_nesting_by composed_nesting guard_depth_by guard_depth
no_deeper outer inner = omega (arith, lean-nesting outer inner, composed-nesting outer inner, paths_shallower (paths outer) (guard_depth_paths (paths outer)) (omega arith))
