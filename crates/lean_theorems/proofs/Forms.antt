-- The lean composition of well_formed queries is well formed, and is read back from its items. Each by induction over the query, for any decision. Assumes nothing.
use Prim.Native.Nat.{suc, ◌≤◌}
use native.Mathlib.Omega.{arith}
use mathlib.Core.Path.{◌≡◌, refl, ap}
use mathlib.Core.Bool.{Bool, true, false, cond}
use mathlib.Core.List.{List, [], ◌∷◌, map}
use Rattle.paper.specs.Query.{Expr, path, both, either, negated, Steps, stop, step, Preds, bare, pred, Query, paths}
use Rattle.paper.specs.Items.{step_count}
use Rattle.paper.specs.Composition.{visible, append, last_step}
use Rattle.paper.specs.Lean.{down_next, Decision, leanly, loose_after, guard_expr_by, guard_steps_by, guard_preds_by, composed_path_by, composed_by, composed_lean}
use Rattle.paper.proofs.Decoding.{decode_encode}
use Rattle.theorems.specs.Demands.{ProperExpr, ProperSteps, ProperPreds, ProperPaths, Proper}
use Rattle.theorems.proofs.Forms.{visible_proper, last_proper, append_proper, on_proper, good_proper, proper_good}
use Rattle.lean_theorems.specs.Leans.{ProperLean, LeanWellFormed, LeanReadBack}

module _ (decides : Decision) (v : Expr) (hv : ProperExpr v) where
  guard_count : (s : Steps) (loose last : Bool) → step_count (guard_steps_by decides s loose last v) ≡ step_count s
  guard_count stop loose last = refl
  guard_count (step a x ps rest) loose last = ap suc (guard_count rest (loose_after decides loose a (down_next last rest)) last)

  mutual
    expr_guarded : (e : Expr) → ProperExpr e → ProperExpr (guard_expr_by decides e v)
    expr_guarded (path s) h = (omega (arith, guard_count s false false, h.0), steps_guarded s false false h.1)
    expr_guarded (both a b) h = (expr_guarded a h.0, expr_guarded b h.1)
    expr_guarded (either a b) h = (expr_guarded a h.0, expr_guarded b h.1)
    expr_guarded (negated a) h = expr_guarded a h

    steps_guarded : (s : Steps) (loose last : Bool) → ProperSteps s → ProperSteps (guard_steps_by decides s loose last v)
    steps_guarded stop loose last h = tt
    steps_guarded (step a x ps rest) loose last h = (
      h.0,
      (
        on_proper v hv (decides loose a (down_next last rest)) (guard_preds_by decides ps v) (preds_guarded ps h.1.0),
        steps_guarded rest (loose_after decides loose a (down_next last rest)) last h.1.1,
      ),
    )

    preds_guarded : (ps : Preds) → ProperPreds ps → ProperPreds (guard_preds_by decides ps v)
    preds_guarded bare h = tt
    preds_guarded (pred e ps) h = (expr_guarded e h.0, preds_guarded ps h.1)

path_proper : (decides : Decision) (q : Query) → Proper q → (p : Steps) → ProperSteps p → ProperSteps (composed_path_by decides q p)
unfolding composed_path_by
path_proper decides q h p hp =
    append_proper (guard_steps_by decides p false true (visible q)) (last_step q) (steps_guarded decides (visible q) (visible_proper q h) p false true hp) (last_proper q h)

paths_proper : (decides : Decision) (q : Query) → Proper q → (ps : List Steps) → ProperPaths ps → ProperPaths (map (composed_path_by decides q) ps)
paths_proper decides q h [] hs = tt
paths_proper decides q h (p ∷ ps) hs = (path_proper decides q h p hs.0, paths_proper decides q h ps hs.1)

-- THE LEAN COMPOSITION OF PROPER QUERIES IS PROPER,
pub proper_lean : ProperLean
unfolding composed_by
proper_lean outer inner ho hi = paths_proper leanly inner hi (paths outer) ho

-- CAN STAND IN MEMORY WITHIN THE LIMIT,
pub lean_well_formed : LeanWellFormed
lean_well_formed outer inner ho hi l = proper_good (composed_lean outer inner) (proper_lean outer inner (good_proper outer ho) (good_proper inner hi)) l

-- AND IS READ BACK FROM ITS ITEMS.
pub lean_read_back : LeanReadBack
lean_read_back outer inner ho hi l n = decode_encode (composed_lean outer inner) (lean_well_formed outer inner ho hi l) n
