-- The nesting of a composition is its formula: that of the outer query, or what V opens at its deepest guarded step, or the last step in no bracket; 01's formula bounds it, since a guarded step stands no deeper than the query is nested. Each by induction over the query. Assumes nothing.
use Prim.Native.Nat.{ℕ, ◌+◌, ◌≤◌, max}
use native.Mathlib.Omega.{arith}
use mathlib.Core.Path.{◌≡◌, refl, ◌∙◌, ap, ap₂}
use mathlib.Core.Bool.{Bool, true, false, cond}
use mathlib.Core.List.{List, [], ◌∷◌, map}
use Rattle.paper.specs.Query.{Test, any_node, Expr, path, both, either, negated, Steps, stop, step, Preds, bare, pred, Query, paths}
use Rattle.paper.specs.Measures.{is_and, is_or, round_left_of_and, round_right_of_and, round_right_of_or, in_brackets, nest_expr, nest_steps, nest_preds, nest_paths, nesting}
use Rattle.paper.specs.Composition.{turned, at_root, way_back, reversed, joined, selected_by, visible, guarded, guard_on, guard_expr, guard_steps, guard_preds, append, last_step, composed_path, composed, composed_nesting}
use Rattle.paper.specs.Composition.{guard_depth_expr, guard_depth_steps, guard_depth_preds, guard_depth_paths, guard_depth}
use Rattle.composed_measures.specs.Measures.{Nesting, NestingBound}

way_nest : (x : Test) (ps : Preds) (back s : Steps) → nest_steps (way_back x ps back s) ≡ max (max (nest_preds ps) (nest_steps back)) (nest_steps s)
way_nest x ps back stop = omega arith
way_nest x ps back (step a y qs rest) = omega (arith, way_nest y qs (step (turned a) x ps back) rest)

reversed_nest : (p : Steps) → nest_expr (reversed p) ≡ max 2 (nest_steps p)
unfolding reversed
reversed_nest p = omega (arith, way_nest any_node (pred at_root bare) stop p)

-- A reverse is a path, so it gets no round brackets.
not_or : (p : Steps) → is_or (reversed p) ≡ false
unfolding reversed
not_or p = refl

joined_nest : (e : Expr) (ps : List Steps) → 2 ≤ nest_expr e → nest_expr (joined e ps) ≡ max (nest_expr e) (nest_paths ps)
joined_nest e [] h = omega arith
joined_nest e (p ∷ ps) h =
    let one : nest_expr (either e (reversed p)) ≡ max (nest_expr e) (max 2 (nest_steps p)) = rw (not_or p, reversed_nest p) in
    omega (arith, joined_nest (either e (reversed p)) ps (omega arith))

selected_nest : (q : Query) → nest_expr (selected_by q) ≡ max 2 (nesting q)
unfolding selected_by nesting
selected_nest q = omega (arith, joined_nest (reversed q.first) q.others (omega (arith, reversed_nest q.first)), reversed_nest q.first)

-- The brackets that the guard brings, and the last step.
unfoldable pub guard_nest : Query → ℕ
guard_nest q = 2 + max 2 (nesting q)

pub visible_nest : (q : Query) → 1 + nest_expr (visible q) ≡ guard_nest q
unfolding visible guard_nest
visible_nest q = omega (arith, selected_nest q)

pub last_nest : (q : Query) → nest_steps (last_step q) ≡ guard_nest q
unfolding last_step guard_nest
last_nest q = omega (arith, selected_nest q)

pub append_nest : (s last : Steps) → nest_steps (append s last) ≡ max (nest_steps s) (nest_steps last)
append_nest stop last = omega arith
append_nest (step a x ps rest) last = omega (arith, append_nest rest last)

-- Guarding changes no operator.
guard_or : (e v : Expr) → is_or (guard_expr e v) ≡ is_or e
guard_or (path s) v = refl
guard_or (both a b) v = refl
guard_or (either a b) v = refl
guard_or (negated a) v = refl

guard_and : (e v : Expr) → is_and (guard_expr e v) ≡ is_and e
guard_and (path s) v = refl
guard_and (both a b) v = refl
guard_and (either a b) v = refl
guard_and (negated a) v = refl

pub brackets : (b : Bool) (n d : ℕ) → n + in_brackets b d ≡ in_brackets b n + d
brackets true n d = omega arith
brackets false n d = refl

-- What is guarded is nested as before, or as deep as its deepest guarded step and the guard there, where it is deeper than the guard by itself.
module _ (d : ℕ) where
  abbrev pub Deepens : ℕ → ℕ → ℕ → Type 0
  Deepens new old guards = max new d ≡ max old (guards + d)

  apart : (x y : ℕ) → max (max x y) d ≡ max (max x d) (max y d)
  apart x y = omega arith

  together : (x g y h : ℕ) → max (max x (g + d)) (max y (h + d)) ≡ max (max x y) (max g h + d)
  together x g y h = omega arith

  -- So it is with two parts, if it is so with each.
  pub both_deepen : (x x' g y y' h : ℕ) → Deepens x' x g → Deepens y' y h → Deepens (max x' y') (max x y) (max g h)
  both_deepen x x' g y y' h p q = apart x' y' ∙ ap₂ max p q ∙ together x g y h

module _ (v : Expr) (d : ℕ) (deep : 1 + nest_expr v ≡ d) where
  pub on_nest : (g : Bool) (n h : ℕ) (ps' ps : Preds) → Deepens d (n + nest_preds ps') (n + nest_preds ps) h
      → Deepens d (n + nest_preds (cond g (pred v ps') ps')) (n + nest_preds ps) (max (cond g n 0) h)
  on_nest true n h ps' ps i = omega arith
  on_nest false n h ps' ps i = omega arith

  mutual
    expr_nest : (e : Expr) (n : ℕ) → Deepens d (n + nest_expr (guard_expr e v)) (n + nest_expr e) (guard_depth_expr e n)
    expr_nest (path s) n = steps_nest s n
    expr_nest (both a b) n =
        let l = round_left_of_and a in
        let r = round_right_of_and b in
        let new : n + max (in_brackets l (nest_expr (guard_expr a v))) (in_brackets r (nest_expr (guard_expr b v))) ≡ max (in_brackets l n + nest_expr (guard_expr a v)) (in_brackets r n + nest_expr (guard_expr b v)) =
        omega (arith, brackets l n (nest_expr (guard_expr a v)), brackets r n (nest_expr (guard_expr b v))) in
        let old : max (in_brackets l n + nest_expr a) (in_brackets r n + nest_expr b) ≡ n + max (in_brackets l (nest_expr a)) (in_brackets r (nest_expr b)) =
        omega (arith, brackets l n (nest_expr a), brackets r n (nest_expr b)) in
        rw (guard_or a v, guard_or b v, guard_and b v)
        (ap (λ k. max k d) new ∙
        both_deepen d _ _ _ _ _ _ (expr_nest a (in_brackets l n)) (expr_nest b (in_brackets r n)) ∙
        ap (λ k. max k (guard_depth_expr (both a b) n + d)) old)
    expr_nest (either a b) n =
        let r = round_right_of_or b in
        let new : n + max (nest_expr (guard_expr a v)) (in_brackets r (nest_expr (guard_expr b v))) ≡ max (n + nest_expr (guard_expr a v)) (in_brackets r n + nest_expr (guard_expr b v)) =
        omega (arith, brackets r n (nest_expr (guard_expr b v))) in
        let old : max (n + nest_expr a) (in_brackets r n + nest_expr b) ≡ n + max (nest_expr a) (in_brackets r (nest_expr b)) =
        omega (arith, brackets r n (nest_expr b)) in
        rw (guard_or b v)
        (ap (λ k. max k d) new ∙
        both_deepen d _ _ _ _ _ _ (expr_nest a n) (expr_nest b (in_brackets r n)) ∙
        ap (λ k. max k (guard_depth_expr (either a b) n + d)) old)
    expr_nest (negated a) n = omega (arith, expr_nest a (1 + n))

    steps_nest : (s : Steps) (n : ℕ) → Deepens d (n + nest_steps (guard_steps s v)) (n + nest_steps s) (guard_depth_steps s n)
    steps_nest stop n = omega arith
    steps_nest (step a x ps rest) n =
        let new : n + nest_steps (guard_steps (step a x ps rest) v) ≡ max (n + nest_preds (guard_on a v (guard_preds ps v))) (n + nest_steps (guard_steps rest v)) = omega arith in
        let old : max (n + nest_preds ps) (n + nest_steps rest) ≡ n + nest_steps (step a x ps rest) = omega arith in
        ap (λ k. max k d) new ∙
        both_deepen d _ _ _ _ _ _ (on_nest (guarded a) n (guard_depth_preds ps n) (guard_preds ps v) ps (preds_nest ps n)) (steps_nest rest n) ∙
        ap (λ k. max k (guard_depth_steps (step a x ps rest) n + d)) old

    preds_nest : (ps : Preds) (n : ℕ) → Deepens d (n + nest_preds (guard_preds ps v)) (n + nest_preds ps) (guard_depth_preds ps n)
    preds_nest bare n = omega arith
    preds_nest (pred e ps) n =
        let new : n + nest_preds (guard_preds (pred e ps) v) ≡ max (1 + n + nest_expr (guard_expr e v)) (n + nest_preds (guard_preds ps v)) = omega arith in
        let old : max (1 + n + nest_expr e) (n + nest_preds ps) ≡ n + nest_preds (pred e ps) = omega arith in
        ap (λ k. max k d) new ∙
        both_deepen d _ _ _ _ _ _ (expr_nest e (1 + n)) (preds_nest ps n) ∙
        ap (λ k. max k (guard_depth_preds (pred e ps) n + d)) old

path_nest : (q : Query) (p : Steps) → nest_steps (composed_path q p) ≡ max (nest_steps p) (guard_depth_steps p 0 + guard_nest q)
unfolding composed_path
path_nest q p =
    omega (
      arith,
      append_nest (guard_steps p (visible q)) (last_step q),
      last_nest q,
      steps_nest (visible q) (guard_nest q) (visible_nest q) p 0,
    )

paths_nest : (q : Query) (ps : List Steps) → Deepens (guard_nest q) (nest_paths (map (composed_path q) ps)) (nest_paths ps) (guard_depth_paths ps)
paths_nest q [] = omega arith
paths_nest q (p ∷ ps) =
    both_deepen (guard_nest q) (nest_steps p) (nest_steps (composed_path q p)) (guard_depth_steps p 0) (nest_paths ps) (nest_paths (map (composed_path q) ps)) (guard_depth_paths ps)
    (omega (arith, path_nest q p)) (paths_nest q ps)

-- The last step opens as much as the guard.
reaches_guard : (outer inner : Query) → guard_nest inner ≤ nesting (composed outer inner)
unfolding nesting composed
reaches_guard outer inner = omega (arith, path_nest inner outer.first)

nests : (outer inner : Query) → Deepens (guard_nest inner) (nesting (composed outer inner)) (nesting outer) (guard_depth outer)
unfolding nesting composed guard_depth
nests outer inner = paths_nest inner (paths outer)

-- THE NESTING OF A COMPOSITION IS ITS FORMULA.
pub composed-nesting : Nesting
unfolding composed_nesting guard_nest
composed-nesting outer inner = omega (arith, reaches_guard outer inner, nests outer inner)

-- A guarded step stands in no more brackets than are open at once.
on_within : (g : Bool) (n : ℕ) → cond g n 0 ≤ n
on_within true n = omega arith
on_within false n = omega arith

mutual
  expr_within : (e : Expr) (n : ℕ) → guard_depth_expr e n ≤ n + nest_expr e
  expr_within (path s) n = steps_within s n
  expr_within (both a b) n =
      omega (
        arith,
        expr_within a (in_brackets (round_left_of_and a) n),
        expr_within b (in_brackets (round_right_of_and b) n),
        brackets (round_left_of_and a) n (nest_expr a),
        brackets (round_right_of_and b) n (nest_expr b),
      )
  expr_within (either a b) n = omega (arith, expr_within a n, expr_within b (in_brackets (round_right_of_or b) n), brackets (round_right_of_or b) n (nest_expr b))
  expr_within (negated a) n = omega (arith, expr_within a (1 + n))

  steps_within : (s : Steps) (n : ℕ) → guard_depth_steps s n ≤ n + nest_steps s
  steps_within stop n = omega arith
  steps_within (step a x ps rest) n = omega (arith, on_within (guarded a) n, preds_within ps n, steps_within rest n)

  preds_within : (ps : Preds) (n : ℕ) → guard_depth_preds ps n ≤ n + nest_preds ps
  preds_within bare n = omega arith
  preds_within (pred e ps) n = omega (arith, expr_within e (1 + n), preds_within ps n)

paths_within : (ps : List Steps) → guard_depth_paths ps ≤ nest_paths ps
paths_within [] = omega arith
paths_within (p ∷ ps) = omega (arith, steps_within p 0, paths_within ps)

pub guards_within : (q : Query) → guard_depth q ≤ nesting q
unfolding nesting guard_depth
guards_within q = paths_within (paths q)

-- SO 01'S FORMULA IS AN UPPER BOUND.
pub nesting_bound : NestingBound
unfolding composed_nesting
nesting_bound outer inner = omega (arith, composed-nesting outer inner, guards_within outer)
