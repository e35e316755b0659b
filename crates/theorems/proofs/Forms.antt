-- A composition of well_formed queries is well formed: it keeps 01's rules, and a count in it is no more than its size. Each by induction over the query. Assumes nothing.
use Prim.Native.Nat.{suc, ◌≤◌, ◌<◌}
use native.Mathlib.Omega.{arith}
use mathlib.Core.Path.{◌≡◌, refl, ap}
use mathlib.Core.Bool.{Bool, true, false, cond, ◌&&◌}
use mathlib.Core.List.{List, [], ◌∷◌, map}
use Rattle.paper.specs.Query.{Axis, Test, any_node, Expr, path, both, either, negated, Steps, stop, step, Preds, bare, pred, Query, paths}
use lib.Dec.{leb, ltb}
use borrow.Author.Tests.{leb-true, le-leb, lt-ltb}
use Rattle.paper.specs.Query.{ancestor_or_self}
use Rattle.paper.specs.Limits.{item_limit}
use Rattle.paper.specs.Items.{step_count, pred_count, good_test, good_expr, good_steps, good_preds, good_paths, good, count_bound}
use Rattle.paper.specs.Measures.{size_expr, size_steps, size_preds, size_paths, size}
use Rattle.paper.specs.Composition.{turned, at_root, way_back, reversed, joined, selected_by, some_node, visible, guarded, guard_expr, guard_steps, guard_preds, append, last_step, composed_path, composed}
use Rattle.paper.proofs.Tests.{and_true, true_and}
use Rattle.paper.proofs.Decoding.{decode_encode}
use Rattle.theorems.specs.Demands.{ProperExpr, ProperSteps, ProperPreds, ProperPaths, Proper, ProperComposed, WellFormed, ReadBack}

-- A way back is proper, and has a step.
way_proper : (x : Test) (ps : Preds) (back s : Steps) → good_test x ≡ true → ProperPreds ps → ProperSteps back → ProperSteps s
    → (1 ≤ step_count (way_back x ps back s)) × ProperSteps (way_back x ps back s)
way_proper x ps back stop hx hp hb hs = (omega arith, (hx, (hp, hb)))
way_proper x ps back (step a y qs rest) hx hp hb hs = way_proper y qs (step (turned a) x ps back) rest hs.0 hs.1.0 (hx, (hp, hb)) hs.1.1

reversed_proper : (p : Steps) → ProperSteps p → ProperExpr (reversed p)
unfolding reversed
reversed_proper p h = way_proper any_node (pred at_root bare) stop p refl ((omega arith, (refl, (tt, tt))), tt) tt h

joined_proper : (e : Expr) (ps : List Steps) → ProperExpr e → ProperPaths ps → ProperExpr (joined e ps)
joined_proper e [] he hs = he
joined_proper e (p ∷ ps) he hs = joined_proper (either e (reversed p)) ps (he, reversed_proper p hs.0) hs.1

selected_proper : (q : Query) → Proper q → ProperExpr (selected_by q)
unfolding selected_by
selected_proper q h = joined_proper (reversed q.first) q.others (reversed_proper q.first h.0) h.1

some_node_proper : (a : Axis) (e : Expr) → ProperExpr e → ProperExpr (some_node a e)
some_node_proper a e h = (omega arith, (refl, ((h, tt), tt)))

pub visible_proper : (q : Query) → Proper q → ProperExpr (visible q)
unfolding visible
visible_proper q h = ((omega arith, (refl, ((selected_proper q h, tt), tt))), (omega arith, (refl, ((selected_proper q h, tt), tt))))

pub last_proper : (q : Query) → Proper q → ProperSteps (last_step q)
unfolding last_step
last_proper q h = (refl, ((some_node_proper ancestor_or_self (selected_by q) (selected_proper q h), tt), tt))

pub append_proper : (s last : Steps) → ProperSteps s → ProperSteps last → ProperSteps (append s last)
append_proper stop last hs hl = hl
append_proper (step a x ps rest) last hs hl = (hs.0, (hs.1.0, append_proper rest last hs.1.1 hl))

module _ (v : Expr) (hv : ProperExpr v) where
  guard_count : (s : Steps) → step_count (guard_steps s v) ≡ step_count s
  guard_count stop = refl
  guard_count (step a x ps rest) = ap suc (guard_count rest)

  pub on_proper : (g : Bool) (ps : Preds) → ProperPreds ps → ProperPreds (cond g (pred v ps) ps)
  on_proper true ps h = (hv, h)
  on_proper false ps h = h

  mutual
    expr_guarded : (e : Expr) → ProperExpr e → ProperExpr (guard_expr e v)
    expr_guarded (path s) h = (omega (arith, guard_count s, h.0), steps_guarded s h.1)
    expr_guarded (both a b) h = (expr_guarded a h.0, expr_guarded b h.1)
    expr_guarded (either a b) h = (expr_guarded a h.0, expr_guarded b h.1)
    expr_guarded (negated a) h = expr_guarded a h

    steps_guarded : (s : Steps) → ProperSteps s → ProperSteps (guard_steps s v)
    steps_guarded stop h = tt
    steps_guarded (step a x ps rest) h = (h.0, (on_proper (guarded a) (guard_preds ps v) (preds_guarded ps h.1.0), steps_guarded rest h.1.1))

    preds_guarded : (ps : Preds) → ProperPreds ps → ProperPreds (guard_preds ps v)
    preds_guarded bare h = tt
    preds_guarded (pred e ps) h = (expr_guarded e h.0, preds_guarded ps h.1)

path_proper : (q : Query) → Proper q → (p : Steps) → ProperSteps p → ProperSteps (composed_path q p)
unfolding composed_path
path_proper q h p hp = append_proper (guard_steps p (visible q)) (last_step q) (steps_guarded (visible q) (visible_proper q h) p hp) (last_proper q h)

paths_proper : (q : Query) → Proper q → (ps : List Steps) → ProperPaths ps → ProperPaths (map (composed_path q) ps)
paths_proper q h [] hs = tt
paths_proper q h (p ∷ ps) hs = (path_proper q h p hs.0, paths_proper q h ps hs.1)

-- THE COMPOSITION OF PROPER QUERIES IS PROPER.
pub proper_composed : ProperComposed
unfolding composed
proper_composed outer inner ho hi = paths_proper inner hi (paths outer) ho

-- Counts are no more than sizes.
steps_count : (s : Steps) → step_count s ≤ size_steps s
steps_count stop = omega arith
steps_count (step a x ps rest) = omega (arith, steps_count rest)

expr_some : (e : Expr) → 1 ≤ size_expr e
expr_some (path s) = omega arith
expr_some (both a b) = omega arith
expr_some (either a b) = omega arith
expr_some (negated a) = omega arith

preds_count : (ps : Preds) → pred_count ps ≤ size_preds ps
preds_count bare = omega arith
preds_count (pred e ps) = omega (arith, expr_some e, preds_count ps)

-- So what is proper and within the limit can stand in memory.
mutual
  expr_good : (e : Expr) → ProperExpr e → size_expr e < count_bound → good_expr e ≡ true
  expr_good (path s) h l =
      true_and (true_and (le-leb 1 (step_count s) h.0) (lt-ltb (step_count s) count_bound (omega (arith, steps_count s)))) (steps_good s h.1 (omega arith))
  expr_good (both a b) h l = true_and (expr_good a h.0 (omega arith)) (expr_good b h.1 (omega arith))
  expr_good (either a b) h l = true_and (expr_good a h.0 (omega arith)) (expr_good b h.1 (omega arith))
  expr_good (negated a) h l = expr_good a h (omega arith)

  steps_good : (s : Steps) → ProperSteps s → size_steps s < count_bound → good_steps s ≡ true
  steps_good stop h l = refl
  steps_good (step a x ps rest) h l =
      true_and
      (true_and (true_and h.0 (lt-ltb (pred_count ps) count_bound (omega (arith, preds_count ps)))) (preds_good ps h.1.0 (omega arith)))
      (steps_good rest h.1.1 (omega arith))

  preds_good : (ps : Preds) → ProperPreds ps → size_preds ps < count_bound → good_preds ps ≡ true
  preds_good bare h l = refl
  preds_good (pred e ps) h l = true_and (expr_good e h.0 (omega arith)) (preds_good ps h.1 (omega arith))

paths_good : (ps : List Steps) → ProperPaths ps → size_paths ps < count_bound → good_paths ps ≡ true
paths_good [] h l = refl
paths_good (p ∷ ps) h l =
    true_and (true_and (lt-ltb (step_count p) count_bound (omega (arith, steps_count p))) (steps_good p h.0 (omega arith))) (paths_good ps h.1 (omega arith))

-- What can stand in memory is proper.
mutual
  good-expr : (e : Expr) → good_expr e ≡ true → ProperExpr e
  good-expr (path s) h =
      let b = and_true (leb 1 (step_count s) && ltb (step_count s) count_bound) (good_steps s) h in
      (leb-true 1 (step_count s) (and_true (leb 1 (step_count s)) (ltb (step_count s) count_bound) b.0).0, good-steps s b.1)
  good-expr (both a b) h = let c = and_true (good_expr a) (good_expr b) h in (good-expr a c.0, good-expr b c.1)
  good-expr (either a b) h = let c = and_true (good_expr a) (good_expr b) h in (good-expr a c.0, good-expr b c.1)
  good-expr (negated a) h = good-expr a h

  good-steps : (s : Steps) → good_steps s ≡ true → ProperSteps s
  good-steps stop h = tt
  good-steps (step a x ps rest) h =
      let b = and_true (good_test x && ltb (pred_count ps) count_bound && good_preds ps) (good_steps rest) h in
      let c = and_true (good_test x && ltb (pred_count ps) count_bound) (good_preds ps) b.0 in
      ((and_true (good_test x) (ltb (pred_count ps) count_bound) c.0).0, (good-preds ps c.1, good-steps rest b.1))

  good-preds : (ps : Preds) → good_preds ps ≡ true → ProperPreds ps
  good-preds bare h = tt
  good-preds (pred e ps) h = let b = and_true (good_expr e) (good_preds ps) h in (good-expr e b.0, good-preds ps b.1)

good-paths : (ps : List Steps) → good_paths ps ≡ true → ProperPaths ps
good-paths [] h = tt
good-paths (p ∷ ps) h =
    let b = and_true (ltb (step_count p) count_bound && good_steps p) (good_paths ps) h in
    (good-steps p (and_true (ltb (step_count p) count_bound) (good_steps p) b.0).1, good-paths ps b.1)

pub good_proper : (q : Query) → good q ≡ true → Proper q
unfolding good
good_proper q h = good-paths (paths q) h

pub proper_good : (q : Query) → Proper q → size q ≤ item_limit → good q ≡ true
unfolding good size
proper_good q h l = paths_good (paths q) h (omega arith)

-- A COMPOSITION WITHIN THE LIMIT CAN STAND IN MEMORY,
pub well_formed : WellFormed
well_formed outer inner ho hi l = proper_good (composed outer inner) (proper_composed outer inner (good_proper outer ho) (good_proper inner hi)) l

-- AND IS READ BACK FROM ITS ITEMS.
pub read_back : ReadBack
read_back outer inner ho hi l n = decode_encode (composed outer inner) (well_formed outer inner ho hi l) n
