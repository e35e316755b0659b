-- Where the axis alone decides, the composition by a decision is the composition, and so are its size and its nesting: no node is then loose. By induction over the query. Assumes nothing.
use Prim.Native.Nat.{ℕ, ◌+◌, ◌*◌, max}
use mathlib.Core.Path.{◌≡◌, refl, sym, ◌∙◌, ap, ap₂}
use mathlib.Core.Bool.{Bool, true, false, not, ◌&&◌, ◌||◌, cond}
use mathlib.Core.List.{List, [], ◌∷◌, map}
use lib.ListN.{length}
use Rattle.paper.specs.Query.{Axis, self, child, parent, descendant_or_self, ancestor_or_self, descendant, ancestor, following_sibling, preceding_sibling, following, preceding}
use Rattle.paper.specs.Query.{Expr, path, both, either, negated, Steps, stop, step, Preds, bare, pred, Query, paths}
use Rattle.paper.specs.Measures.{round_left_of_and, round_right_of_and, round_right_of_or, in_brackets, size, nesting}
use Rattle.paper.specs.Composition.{guarded, guard_on, guard_expr, guard_steps, guard_preds, visible, append, last_step, composed_path, composed, selected_size, composed_size, composed_nesting}
use Rattle.paper.specs.Composition.{guards_in_expr, guards_in_steps, guards_in_preds, guards_in_paths, guard_depth_expr, guard_depth_steps, guard_depth_preds, guard_depth_paths, guard_depth}
use Rattle.paper.specs.Lean.{down_next, by_axis, loose_after, guard_expr_by, guard_steps_by, guard_preds_by, composed_path_by, composed_by, guards_in_expr_by, guards_in_steps_by, guards_in_preds_by, guards_in_paths_by, composed_size_by}
use Rattle.paper.specs.Lean.{guard_depth_expr_by, guard_depth_steps_by, guard_depth_preds_by, guard_depth_paths_by, guard_depth_by, composed_nesting_by}
use Rattle.lean_theorems.specs.Leans.{ByAxis}

-- No node is loose.
never_loose : (a : Axis) (down : Bool) → loose_after by_axis false a down ≡ false
never_loose self down = refl
never_loose child down = refl
never_loose parent down = refl
never_loose descendant_or_self down = refl
never_loose ancestor_or_self down = refl
never_loose descendant down = refl
never_loose ancestor down = refl
never_loose following_sibling down = refl
never_loose preceding_sibling down = refl
never_loose following down = refl
never_loose preceding down = refl

module _ (v : Expr) where
  mutual
    expr_same : (e : Expr) → guard_expr_by by_axis e v ≡ guard_expr e v
    expr_same (path s) = ap path (steps_same s false)
    expr_same (both a b) = ap₂ both (expr_same a) (expr_same b)
    expr_same (either a b) = ap₂ either (expr_same a) (expr_same b)
    expr_same (negated a) = ap negated (expr_same a)

    steps_same : (s : Steps) (last : Bool) → guard_steps_by by_axis s false last v ≡ guard_steps s v
    steps_same stop last = refl
    steps_same (step a x ps rest) last =
        ap₂ (λ qs rs. step a x qs rs) (ap (λ qs. cond (guarded a) (pred v qs) qs) (preds_same ps))
        (ap (λ b. guard_steps_by by_axis rest b last v) (never_loose a (down_next last rest)) ∙ steps_same rest last)

    preds_same : (ps : Preds) → guard_preds_by by_axis ps v ≡ guard_preds ps v
    preds_same bare = refl
    preds_same (pred e ps) = ap₂ pred (expr_same e) (preds_same ps)

-- The steps counted are the same.
mutual
  expr_count : (e : Expr) → guards_in_expr_by by_axis e ≡ guards_in_expr e
  expr_count (path s) = steps_count s false
  expr_count (both a b) = ap₂ ◌+◌ (expr_count a) (expr_count b)
  expr_count (either a b) = ap₂ ◌+◌ (expr_count a) (expr_count b)
  expr_count (negated a) = expr_count a

  steps_count : (s : Steps) (last : Bool) → guards_in_steps_by by_axis s false last ≡ guards_in_steps s
  steps_count stop last = refl
  steps_count (step a x ps rest) last =
      ap₂ (λ m n. cond (guarded a) 1 0 + (m + n)) (preds_count ps)
      (ap (λ b. guards_in_steps_by by_axis rest b last) (never_loose a (down_next last rest)) ∙ steps_count rest last)

  preds_count : (ps : Preds) → guards_in_preds_by by_axis ps ≡ guards_in_preds ps
  preds_count bare = refl
  preds_count (pred e ps) = ap₂ ◌+◌ (expr_count e) (preds_count ps)

-- And so is how deep they stand.
mutual
  expr_depth : (e : Expr) (n : ℕ) → guard_depth_expr_by by_axis e n ≡ guard_depth_expr e n
  expr_depth (path s) n = steps_depth s false n
  expr_depth (both a b) n = ap₂ max (expr_depth a (in_brackets (round_left_of_and a) n)) (expr_depth b (in_brackets (round_right_of_and b) n))
  expr_depth (either a b) n = ap₂ max (expr_depth a n) (expr_depth b (in_brackets (round_right_of_or b) n))
  expr_depth (negated a) n = expr_depth a (1 + n)

  steps_depth : (s : Steps) (last : Bool) (n : ℕ) → guard_depth_steps_by by_axis s false last n ≡ guard_depth_steps s n
  steps_depth stop last n = refl
  steps_depth (step a x ps rest) last n =
      ap₂ (λ p r. max (max (cond (guarded a) n 0) p) r) (preds_depth ps n)
      (ap (λ b. guard_depth_steps_by by_axis rest b last n) (never_loose a (down_next last rest)) ∙ steps_depth rest last n)

  preds_depth : (ps : Preds) (n : ℕ) → guard_depth_preds_by by_axis ps n ≡ guard_depth_preds ps n
  preds_depth bare n = refl
  preds_depth (pred e ps) n = ap₂ max (expr_depth e (1 + n)) (preds_depth ps n)

path_same : (q : Query) (p : Steps) → composed_path_by by_axis q p ≡ composed_path q p
unfolding composed_path_by composed_path
path_same q p = ap (λ s. append s (last_step q)) (steps_same (visible q) p true)

paths_same : (q : Query) (ps : List Steps) → map (composed_path_by by_axis q) ps ≡ map (composed_path q) ps
paths_same q [] = refl
paths_same q (p ∷ ps) = ap₂ ◌∷◌ (path_same q p) (paths_same q ps)

paths_count : (ps : List Steps) → guards_in_paths_by by_axis ps ≡ guards_in_paths ps
paths_count [] = refl
paths_count (p ∷ ps) = ap₂ ◌+◌ (steps_count p true) (paths_count ps)

paths_depth : (ps : List Steps) → guard_depth_paths_by by_axis ps ≡ guard_depth_paths ps
paths_depth [] = refl
paths_depth (p ∷ ps) = ap₂ max (steps_depth p true 0) (paths_depth ps)

pub depth_by_axis : (q : Query) → guard_depth_by by_axis q ≡ guard_depth q
unfolding guard_depth_by guard_depth
depth_by_axis q = paths_depth (paths q)

-- WHERE THE AXIS ALONE DECIDES IT IS THE COMPOSITION.
pub by-axis : ByAxis
unfolding composed_by composed composed_size_by composed_size composed_nesting_by composed_nesting guard_depth_by guard_depth
by-axis outer inner = (
  ap₂ (λ p ps. record { first = p; others = ps }) (path_same inner outer.first) (paths_same inner outer.others),
  ap (λ n. size outer + n * (5 + 2 * selected_size inner) + length (paths outer) * (3 + selected_size inner)) (paths_count (paths outer)),
  ap (λ d. max (nesting outer) (d + 2 + max 2 (nesting inner))) (paths_depth (paths outer)),
)
