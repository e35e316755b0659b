-- A query with its decisions in its axes is measured as the decision asks: each step that is named is a child step, which is guarded, and each other a self step, which is not. By induction over the query. Assumes nothing.
use Prim.Native.Nat.{ℕ, suc, ◌+◌, ◌*◌, max}
use mathlib.Core.Path.{◌≡◌, refl, sym, ◌∙◌, ap, ap₂}
use mathlib.Core.Bool.{Bool, true, false, ◌&&◌, ◌||◌, cond}
use mathlib.Core.List.{List, [], ◌∷◌, map}
use lib.Dec.{leb, ltb}
use lib.ListN.{length}
use Rattle.paper.specs.Query.{Expr, path, both, either, negated, Steps, stop, step, Preds, bare, pred, Query, paths}
use Rattle.paper.specs.Items.{step_count, pred_count, good_test, good_expr, good_steps, good_preds, good_paths, good, count_bound}
use Rattle.paper.specs.Measures.{is_and, is_or, in_brackets, size_expr, size_steps, size_preds, size_paths, size, nest_expr, nest_steps, nest_preds, nest_paths, nesting}
use Rattle.paper.specs.Composition.{guarded, guards_in_expr, guards_in_steps, guards_in_preds, guards_in_paths, guard_depth_expr, guard_depth_steps, guard_depth_preds, guard_depth_paths, guard_depth, selected_size, composed_size, composed_nesting}
use Rattle.paper.specs.Lean.{down_next, Decision, loose_after, guards_in_expr_by, guards_in_steps_by, guards_in_preds_by, guards_in_paths_by, composed_size_by}
use Rattle.paper.specs.Lean.{guard_depth_expr_by, guard_depth_steps_by, guard_depth_preds_by, guard_depth_paths_by, guard_depth_by, composed_nesting_by}
use Rattle.lean_theorems.specs.Marks.{saying, mark_expr, mark_steps, mark_preds, mark_path, marked, MarkedMeasures, MarkedComposed, MarkedGood}

-- The axis says the decision.
says : (g : Bool) → guarded (saying g) ≡ g
says true = refl
says false = refl

module _ (decides : Decision) where
  -- No operator changes.
  mark_or : (e : Expr) → is_or (mark_expr decides e) ≡ is_or e
  mark_or (path s) = refl
  mark_or (both a b) = refl
  mark_or (either a b) = refl
  mark_or (negated a) = refl

  mark_and : (e : Expr) → is_and (mark_expr decides e) ≡ is_and e
  mark_and (path s) = refl
  mark_and (both a b) = refl
  mark_and (either a b) = refl
  mark_and (negated a) = refl

  mark_count : (s : Steps) (loose last : Bool) → step_count (mark_steps decides s loose last) ≡ step_count s
  mark_count stop loose last = refl
  mark_count (step a x ps rest) loose last = ap suc (mark_count rest (loose_after decides loose a (down_next last rest)) last)

  mark-preds : (ps : Preds) → pred_count (mark_preds decides ps) ≡ pred_count ps
  mark-preds bare = refl
  mark-preds (pred e ps) = ap suc (mark-preds ps)

  mutual
    expr_size : (e : Expr) → size_expr (mark_expr decides e) ≡ size_expr e
    expr_size (path s) = ap (λ n. 1 + n) (steps_size s false false)
    expr_size (both a b) = ap₂ (λ m n. 1 + (m + n)) (expr_size a) (expr_size b)
    expr_size (either a b) = ap₂ (λ m n. 1 + (m + n)) (expr_size a) (expr_size b)
    expr_size (negated a) = ap (λ n. 1 + n) (expr_size a)

    steps_size : (s : Steps) (loose last : Bool) → size_steps (mark_steps decides s loose last) ≡ size_steps s
    steps_size stop loose last = refl
    steps_size (step a x ps rest) loose last = ap₂ (λ m n. 1 + (m + n)) (preds_size ps) (steps_size rest (loose_after decides loose a (down_next last rest)) last)

    preds_size : (ps : Preds) → size_preds (mark_preds decides ps) ≡ size_preds ps
    preds_size bare = refl
    preds_size (pred e ps) = ap₂ ◌+◌ (expr_size e) (preds_size ps)

  mutual
    expr_nest : (e : Expr) → nest_expr (mark_expr decides e) ≡ nest_expr e
    expr_nest (path s) = steps_nest s false false
    expr_nest (both a b) =
        rw (mark_or a, mark_or b, mark_and b) (ap₂ (λ m n. max (in_brackets (is_or a) m) (in_brackets (is_or b || is_and b) n)) (expr_nest a) (expr_nest b))
    expr_nest (either a b) = rw (mark_or b) (ap₂ (λ m n. max m (in_brackets (is_or b) n)) (expr_nest a) (expr_nest b))
    expr_nest (negated a) = ap (λ n. 1 + n) (expr_nest a)

    steps_nest : (s : Steps) (loose last : Bool) → nest_steps (mark_steps decides s loose last) ≡ nest_steps s
    steps_nest stop loose last = refl
    steps_nest (step a x ps rest) loose last = ap₂ max (preds_nest ps) (steps_nest rest (loose_after decides loose a (down_next last rest)) last)

    preds_nest : (ps : Preds) → nest_preds (mark_preds decides ps) ≡ nest_preds ps
    preds_nest bare = refl
    preds_nest (pred e ps) = ap₂ (λ m n. max (1 + m) n) (expr_nest e) (preds_nest ps)

  mutual
    expr_guards : (e : Expr) → guards_in_expr (mark_expr decides e) ≡ guards_in_expr_by decides e
    expr_guards (path s) = steps_guards s false false
    expr_guards (both a b) = ap₂ ◌+◌ (expr_guards a) (expr_guards b)
    expr_guards (either a b) = ap₂ ◌+◌ (expr_guards a) (expr_guards b)
    expr_guards (negated a) = expr_guards a

    steps_guards : (s : Steps) (loose last : Bool) → guards_in_steps (mark_steps decides s loose last) ≡ guards_in_steps_by decides s loose last
    steps_guards stop loose last = refl
    steps_guards (step a x ps rest) loose last =
        let g = decides loose a (down_next last rest) in
        ap₂ (λ (b : Bool) (n : ℕ). cond b 1 0 + n) (says g)
        (ap₂ ◌+◌ (preds_guards ps) (steps_guards rest (loose_after decides loose a (down_next last rest)) last))

    preds_guards : (ps : Preds) → guards_in_preds (mark_preds decides ps) ≡ guards_in_preds_by decides ps
    preds_guards bare = refl
    preds_guards (pred e ps) = ap₂ ◌+◌ (expr_guards e) (preds_guards ps)

  mutual
    expr_depth : (e : Expr) (n : ℕ) → guard_depth_expr (mark_expr decides e) n ≡ guard_depth_expr_by decides e n
    expr_depth (path s) n = steps_depth s false false n
    expr_depth (both a b) n =
        rw (mark_or a, mark_or b, mark_and b) (ap₂ max (expr_depth a (in_brackets (is_or a) n)) (expr_depth b (in_brackets (is_or b || is_and b) n)))
    expr_depth (either a b) n = rw (mark_or b) (ap₂ max (expr_depth a n) (expr_depth b (in_brackets (is_or b) n)))
    expr_depth (negated a) n = expr_depth a (1 + n)

    steps_depth : (s : Steps) (loose last : Bool) (n : ℕ) → guard_depth_steps (mark_steps decides s loose last) n ≡ guard_depth_steps_by decides s loose last n
    steps_depth stop loose last n = refl
    steps_depth (step a x ps rest) loose last n =
        let g = decides loose a (down_next last rest) in
        ap₂ max (ap₂ (λ (b : Bool) (k : ℕ). max (cond b n 0) k) (says g) (preds_depth ps n)) (steps_depth rest (loose_after decides loose a (down_next last rest)) last n)

    preds_depth : (ps : Preds) (n : ℕ) → guard_depth_preds (mark_preds decides ps) n ≡ guard_depth_preds_by decides ps n
    preds_depth bare n = refl
    preds_depth (pred e ps) n = ap₂ max (expr_depth e (1 + n)) (preds_depth ps n)

  mutual
    expr_good : (e : Expr) → good_expr (mark_expr decides e) ≡ good_expr e
    expr_good (path s) = ap₂ (λ (n : ℕ) (b : Bool). leb 1 n && ltb n count_bound && b) (mark_count s false false) (steps_good s false false)
    expr_good (both a b) = ap₂ ◌&&◌ (expr_good a) (expr_good b)
    expr_good (either a b) = ap₂ ◌&&◌ (expr_good a) (expr_good b)
    expr_good (negated a) = expr_good a

    steps_good : (s : Steps) (loose last : Bool) → good_steps (mark_steps decides s loose last) ≡ good_steps s
    steps_good stop loose last = refl
    steps_good (step a x ps rest) loose last =
        ap₂ (λ (p q : Bool). p && q) (ap₂ (λ (n : ℕ) (b : Bool). good_test x && ltb n count_bound && b) (mark-preds ps) (preds_good ps))
        (steps_good rest (loose_after decides loose a (down_next last rest)) last)

    preds_good : (ps : Preds) → good_preds (mark_preds decides ps) ≡ good_preds ps
    preds_good bare = refl
    preds_good (pred e ps) = ap₂ ◌&&◌ (expr_good e) (preds_good ps)

  paths_size : (ps : List Steps) → size_paths (map (mark_path decides) ps) ≡ size_paths ps
  paths_size [] = refl
  paths_size (p ∷ ps) = ap₂ (λ m n. 1 + m + n) (steps_size p false true) (paths_size ps)

  paths_nest : (ps : List Steps) → nest_paths (map (mark_path decides) ps) ≡ nest_paths ps
  paths_nest [] = refl
  paths_nest (p ∷ ps) = ap₂ max (steps_nest p false true) (paths_nest ps)

  paths_guards : (ps : List Steps) → guards_in_paths (map (mark_path decides) ps) ≡ guards_in_paths_by decides ps
  paths_guards [] = refl
  paths_guards (p ∷ ps) = ap₂ ◌+◌ (steps_guards p false true) (paths_guards ps)

  paths_depth : (ps : List Steps) → guard_depth_paths (map (mark_path decides) ps) ≡ guard_depth_paths_by decides ps
  paths_depth [] = refl
  paths_depth (p ∷ ps) = ap₂ max (steps_depth p false true 0) (paths_depth ps)

  paths_good : (ps : List Steps) → good_paths (map (mark_path decides) ps) ≡ good_paths ps
  paths_good [] = refl
  paths_good (p ∷ ps) =
      ap₂ (λ (x y : Bool). x && y) (ap₂ (λ (n : ℕ) (b : Bool). ltb n count_bound && b) (mark_count p false true) (steps_good p false true)) (paths_good ps)

  paths_length : (ps : List Steps) → length (map (mark_path decides) ps) ≡ length ps
  paths_length [] = refl
  paths_length (p ∷ ps) = ap suc (paths_length ps)

-- THE MARKED QUERY IS MEASURED AS THE DECISION ASKS.
pub marked_measures : MarkedMeasures
unfolding marked size nesting guard_depth guard_depth_by
marked_measures decides q = (paths_size decides (paths q), paths_nest decides (paths q), paths_depth decides (paths q))

pub marked_composed : MarkedComposed
unfolding marked size nesting guard_depth guard_depth_by composed_size composed_size_by composed_nesting composed_nesting_by
marked_composed decides outer inner =
    let ps = paths outer in (
      ap₂ (λ (w r : ℕ). w + r) (ap₂ (λ (w t : ℕ). w + t * (5 + 2 * selected_size inner)) (paths_size decides ps) (paths_guards decides ps))
          (ap (λ (m : ℕ). m * (3 + selected_size inner)) (paths_length decides ps)),
      ap₂ (λ (n d : ℕ). max n (d + 2 + max 2 (nesting inner))) (paths_nest decides ps) (paths_depth decides ps),
    )

pub marked_good : MarkedGood
unfolding marked good
marked_good decides q h = paths_good decides (paths q) ∙ h
