-- What the items of a query say by their axes, how many steps a decision names, that each count can be raised, and what guarding makes of the items: laws of `guard_item`, `flags_paths`, `Raisable` and `guarded_items` on encoded queries.
-- Each by induction over the query. Assumes nothing.
use Prim.Native.Nat.{ℕ, suc, ◌+◌, ◌≤◌, ◌<◌}
use native.Mathlib.Omega.{arith}
use native.Mathlib.Numerals.{add-one}
use mathlib.Core.Path.{◌≡◌, refl, sym, ◌∙◌, ap, ap₂}
use mathlib.Core.Bool.{Bool, true, false, ◌&&◌, cond}
use mathlib.Core.List.{List, [], ◌∷◌, ◌++◌, map, map-append, append_assoc}
use lib.Dec.{ltb}
use lib.ListN.{length, length-append}
use borrow.Author.Tests.{ltb-true}
use Rattle.paper.specs.Limits.{item_limit}
use Rattle.paper.specs.Query.{Axis, Test, Expr, path, both, either, negated, Steps, stop, step, Preds, bare, pred}
use Rattle.paper.specs.Items.{pack_path, pack_step, path_at, step_at, and_item, or_item, not_item, step_count, pred_count, encode_expr, encode_steps, encode_preds, encode_paths, good_test, good_expr, good_steps, good_preds, good_paths, count_bound}
use Rattle.paper.specs.Composition.{guarded}
use Rattle.paper.specs.Lean.{down_next, Decision, by_axis, loose_after, guard_expr_by, guard_steps_by, guard_preds_by, guards_in_expr_by, guards_in_steps_by, guards_in_preds_by, guards_in_paths_by}
use Rattle.paper.proofs.Tests.{and_true}
use Rattle.item.specs.Unpacked.{unpacked}
use Rattle.item.proofs.Saying.{unpack_path, unpack_step}
use Rattle.item.proofs.GuardedAxes.{guarded-number}
use Rattle.owed.proofs.Owing.{good_step, good_path, owing_path, owing_step, owing_operators, count_length}
use Rattle.guards.specs.Guarded.{is_guard, guard_item, total, guarded_as, guarded_item, guarded_items, Raisable}
use Rattle.visible.specs.Visible.{visible_items}
use Rattle.composed.specs.Pieces.{flags_expr, flags_steps, flags_preds, flags_paths}

-- Whether an item is a guarded step, and what guarding makes of it.
pub count_path : (n : ℕ) → n < count_bound → guard_item (pack_path n) ≡ 0
unfolding guard_item
count_path n l = ap is_guard (unpack_path n l)

count_step : (a : Axis) (t : Test) (n : ℕ) → good_test t ≡ true → n < count_bound → guard_item (pack_step a t n) ≡ cond (guarded a) 1 0
unfolding guard_item
count_step a t n g l = ap is_guard (unpack_step a t n g l) ∙ ap (λ b. cond b 1 0) (sym (guarded-number a _ refl))

count_operators : (guard_item and_item ≡ 0) × (guard_item or_item ≡ 0) × (guard_item not_item ≡ 0)
unfolding guard_item unpacked path_at step_at
count_operators = (refl, refl, refl)

-- WHAT ITEMS SAY BY THEIR OWN AXES is what `by_axis` says of them, whatever is loose and whatever stands behind.
after_item : (w n : ℕ) (xs ys : List ℕ) → guard_item w ≡ n → map guard_item xs ≡ ys → map guard_item (w ∷ xs) ≡ n ∷ ys
after_item w n xs ys e h = ap₂ (λ (k : ℕ) (l : List ℕ). k ∷ l) e h

both_parts : (xs ys fs gs : List ℕ) → map guard_item xs ≡ fs → map guard_item ys ≡ gs → map guard_item (xs ++ ys) ≡ fs ++ gs
both_parts xs ys fs gs e h = map-append guard_item xs ys ∙ ap₂ (λ (a b : List ℕ). a ++ b) e h

mutual
  expr_says : (e : Expr) → good_expr e ≡ true → map guard_item (encode_expr e) ≡ flags_expr by_axis e
  expr_says (path s) g = let h = good_path s g in after_item (pack_path (step_count s)) 0 (encode_steps s) _ (count_path (step_count s) h.0) (steps_say s false false h.1)
  expr_says (both a b) g =
      let h = and_true (good_expr a) (good_expr b) g in
      after_item and_item 0 (encode_expr a ++ encode_expr b) _ count_operators.0 (both_parts (encode_expr a) (encode_expr b) _ _ (expr_says a h.0) (expr_says b h.1))
  expr_says (either a b) g =
      let h = and_true (good_expr a) (good_expr b) g in
      after_item or_item 0 (encode_expr a ++ encode_expr b) _ count_operators.1 (both_parts (encode_expr a) (encode_expr b) _ _ (expr_says a h.0) (expr_says b h.1))
  expr_says (negated a) g = after_item not_item 0 (encode_expr a) _ count_operators.2 (expr_says a g)

  pub steps_say : (s : Steps) (loose last : Bool) → good_steps s ≡ true → map guard_item (encode_steps s) ≡ flags_steps by_axis s loose last
  steps_say stop loose last g = refl
  steps_say (step a t ps r) loose last g =
      let h = good_step a t ps r g in
      after_item (pack_step a t (pred_count ps)) _ (encode_preds ps ++ encode_steps r) _ (count_step a t (pred_count ps) h.test h.few)
      (both_parts (encode_preds ps) (encode_steps r) _ _ (preds_say ps h.preds) (steps_say r (loose_after by_axis loose a (down_next last r)) last h.later))

  preds_say : (ps : Preds) → good_preds ps ≡ true → map guard_item (encode_preds ps) ≡ flags_preds by_axis ps
  preds_say bare g = refl
  preds_say (pred x ps) g =
      let h = and_true (good_expr x) (good_preds ps) g in
      both_parts (encode_expr x) (encode_preds ps) _ _ (expr_says x h.0) (preds_say ps h.1)

pub paths_say : (ps : List Steps) → good_paths ps ≡ true → map guard_item (encode_paths ps) ≡ flags_paths by_axis ps
paths_say [] g = refl
paths_say (p ∷ ps) g =
    let h = and_true (ltb (step_count p) count_bound && good_steps p) (good_paths ps) g in
    let k = and_true (ltb (step_count p) count_bound) (good_steps p) h.0 in
    after_item (pack_path (step_count p)) 0 (encode_steps p ++ encode_paths ps) _ (count_path (step_count p) (ltb-true _ _ k.0))
    (both_parts (encode_steps p) (encode_paths ps) _ _ (steps_say p false true k.1) (paths_say ps h.1))

-- HOW MANY STEPS A DECISION NAMES: the sum of the numbers.
total_append : (xs ys : List ℕ) → total (xs ++ ys) ≡ total xs + total ys
total_append [] ys = omega arith
total_append (x ∷ xs) ys = omega (arith, total_append xs ys)

module _ (decides : Decision) where
  mutual
    expr_total : (e : Expr) → total (flags_expr decides e) ≡ guards_in_expr_by decides e
    expr_total (path s) = omega (arith, steps_total s false false)
    expr_total (both a b) = omega (arith, total_append (flags_expr decides a) (flags_expr decides b), expr_total a, expr_total b)
    expr_total (either a b) = omega (arith, total_append (flags_expr decides a) (flags_expr decides b), expr_total a, expr_total b)
    expr_total (negated a) = omega (arith, expr_total a)

    steps_total : (s : Steps) (loose last : Bool) → total (flags_steps decides s loose last) ≡ guards_in_steps_by decides s loose last
    steps_total stop loose last = refl
    steps_total (step a t ps r) loose last =
        let more = loose_after decides loose a (down_next last r) in
        ap (λ (n : ℕ). cond (decides loose a (down_next last r)) 1 0 + n)
        (total_append (flags_preds decides ps) (flags_steps decides r more last) ∙ ap₂ ◌+◌ (preds_total ps) (steps_total r more last))

    preds_total : (ps : Preds) → total (flags_preds decides ps) ≡ guards_in_preds_by decides ps
    preds_total bare = refl
    preds_total (pred x ps) = omega (arith, total_append (flags_expr decides x) (flags_preds decides ps), expr_total x, preds_total ps)

  pub paths_total : (ps : List Steps) → total (flags_paths decides ps) ≡ guards_in_paths_by decides ps
  paths_total [] = refl
  paths_total (p ∷ ps) = omega (arith, total_append (flags_steps decides p false true) (flags_paths decides ps), steps_total p false true, paths_total ps)

  -- Each item has a number.
  mutual
    expr_long : (e : Expr) → length (flags_expr decides e) ≡ length (encode_expr e)
    expr_long (path s) = omega (arith, steps_long s false false)
    expr_long (both a b) =
        omega (arith, length-append (flags_expr decides a) (flags_expr decides b), length-append (encode_expr a) (encode_expr b), expr_long a, expr_long b)
    expr_long (either a b) =
        omega (arith, length-append (flags_expr decides a) (flags_expr decides b), length-append (encode_expr a) (encode_expr b), expr_long a, expr_long b)
    expr_long (negated a) = omega (arith, expr_long a)

    pub steps_long : (s : Steps) (loose last : Bool) → length (flags_steps decides s loose last) ≡ length (encode_steps s)
    steps_long stop loose last = refl
    steps_long (step a t ps r) loose last =
        let more = loose_after decides loose a (down_next last r) in
        ap suc (length-append (flags_preds decides ps) (flags_steps decides r more last) ∙ ap₂ ◌+◌ (preds_long ps) (steps_long r more last) ∙ sym (length-append (encode_preds ps) (encode_steps r)))

    preds_long : (ps : Preds) → length (flags_preds decides ps) ≡ length (encode_preds ps)
    preds_long bare = refl
    preds_long (pred x ps) =
        omega (arith, length-append (flags_expr decides x) (flags_preds decides ps), length-append (encode_expr x) (encode_preds ps), expr_long x, preds_long ps)

  pub paths_long : (ps : List Steps) → length (flags_paths decides ps) ≡ length (encode_paths ps)
  paths_long [] = refl
  paths_long (p ∷ ps) =
      omega (arith, length-append (flags_steps decides p false true) (flags_paths decides ps), length-append (encode_steps p) (encode_paths ps), steps_long p false true, paths_long ps)

-- A step has no more predicates than these have items.
expr_some : (e : Expr) → 1 ≤ length (encode_expr e)
expr_some (path s) = omega arith
expr_some (both a b) = omega arith
expr_some (either a b) = omega arith
expr_some (negated a) = omega arith

pub preds_length : (ps : Preds) → pred_count ps ≤ length (encode_preds ps)
preds_length bare = omega arith
preds_length (pred x ps) = omega (arith, expr_some x, preds_length ps, length-append (encode_expr x) (encode_preds ps))

-- EACH COUNT CAN BE RAISED where there are at most 4,096 items.
raisable_append : (xs ys : List ℕ) → Raisable xs → Raisable ys → Raisable (xs ++ ys)
raisable_append [] ys rx ry = ry
raisable_append (x ∷ xs) ys rx ry = (rx.0, raisable_append xs ys rx.1 ry)

mutual
  expr_raisable : (e : Expr) → good_expr e ≡ true → length (encode_expr e) ≤ item_limit → Raisable (encode_expr e)
  expr_raisable (path s) g l =
      let h = good_path s g in
      (omega (arith, owing_path (step_count s) h.0, count_length s), steps_raisable s h.1 (omega arith))
  expr_raisable (both a b) g l =
      let h = and_true (good_expr a) (good_expr b) g in
      let n = length-append (encode_expr a) (encode_expr b) in
      (omega (arith, owing_operators.0), raisable_append (encode_expr a) (encode_expr b) (expr_raisable a h.0 (omega arith)) (expr_raisable b h.1 (omega arith)))
  expr_raisable (either a b) g l =
      let h = and_true (good_expr a) (good_expr b) g in
      let n = length-append (encode_expr a) (encode_expr b) in
      (omega (arith, owing_operators.1), raisable_append (encode_expr a) (encode_expr b) (expr_raisable a h.0 (omega arith)) (expr_raisable b h.1 (omega arith)))
  expr_raisable (negated a) g l = (omega (arith, owing_operators.2), expr_raisable a g (omega arith))

  pub steps_raisable : (s : Steps) → good_steps s ≡ true → length (encode_steps s) ≤ item_limit → Raisable (encode_steps s)
  steps_raisable stop g l = tt
  steps_raisable (step a t ps r) g l =
      let h = good_step a t ps r g in
      let n = length-append (encode_preds ps) (encode_steps r) in (
        omega (arith, owing_step a t (pred_count ps) h.test h.few, preds_length ps),
        raisable_append (encode_preds ps) (encode_steps r) (preds_raisable ps h.preds (omega arith)) (steps_raisable r h.later (omega arith)),
      )

  preds_raisable : (ps : Preds) → good_preds ps ≡ true → length (encode_preds ps) ≤ item_limit → Raisable (encode_preds ps)
  preds_raisable bare g l = tt
  preds_raisable (pred x ps) g l =
      let h = and_true (good_expr x) (good_preds ps) g in
      let n = length-append (encode_expr x) (encode_preds ps) in
      raisable_append (encode_expr x) (encode_preds ps) (expr_raisable x h.0 (omega arith)) (preds_raisable ps h.1 (omega arith))

-- WHAT GUARDING MAKES OF THE ITEMS is the items of the guarded query.
module _ (chosen : List ℕ) where
  stays : (w : ℕ) → guarded_item chosen 0 w ≡ w ∷ []
  unfolding guarded_item
  stays w = refl

  named_step : (g : Bool) (a : Axis) (t : Test) (n : ℕ) → good_test t ≡ true → n < count_bound
      → guarded_item chosen (cond g 1 0) (pack_step a t n) ≡ cond g (pack_step a t (suc n) ∷ visible_items chosen) (pack_step a t n ∷ [])
  unfolding guarded_item
  named_step true a t n g l =
      ap (guarded_as chosen (pack_step a t n) 1) (unpack_step a t n g l) ∙ ap (λ (k : ℕ). pack_step a t k ∷ visible_items chosen) (add-one n)
  named_step false a t n g l = refl

  guarded_append : (fs gs xs ys : List ℕ) → length fs ≡ length xs → guarded_items chosen (fs ++ gs) (xs ++ ys) ≡ guarded_items chosen fs xs ++ guarded_items chosen gs ys
  guarded_append [] gs [] ys l = refl
  guarded_append (f ∷ fs) gs [] ys l = absurd (omega (arith, l))
  guarded_append [] gs (x ∷ xs) ys l = absurd (omega (arith, l))
  guarded_append (f ∷ fs) gs (x ∷ xs) ys l =
      ap (λ (r : List ℕ). guarded_item chosen f x ++ r) (guarded_append fs gs xs ys (omega (arith, l))) ∙
      sym (append_assoc (guarded_item chosen f x) (guarded_items chosen fs xs) (guarded_items chosen gs ys))

module _ (decides : Decision) (chosen : List ℕ) (v : Expr) (is-v : visible_items chosen ≡ encode_expr v) where
  pub guarded_count : (s : Steps) (loose last : Bool) → step_count (guard_steps_by decides s loose last v) ≡ step_count s
  guarded_count stop loose last = refl
  guarded_count (step a t ps r) loose last = ap suc (guarded_count r (loose_after decides loose a (down_next last r)) last)

  guarded_preds : (ps : Preds) → pred_count (guard_preds_by decides ps v) ≡ pred_count ps
  guarded_preds bare = refl
  guarded_preds (pred x ps) = ap suc (guarded_preds ps)

  two : (w : ℕ) (fs gs xs ys ms ns : List ℕ) → length fs ≡ length xs → guarded_items chosen fs xs ≡ ms → guarded_items chosen gs ys ≡ ns
      → guarded_items chosen (0 ∷ (fs ++ gs)) (w ∷ (xs ++ ys)) ≡ w ∷ (ms ++ ns)
  two w fs gs xs ys ms ns l ea eb =
      ap₂ (λ (a b : List ℕ). a ++ b) (stays chosen w) (guarded_append chosen fs gs xs ys l ∙ ap₂ (λ (a b : List ℕ). a ++ b) ea eb)

  -- A step's item and V, where it gets V, and then its predicates.
  on_guard : (g : Bool) (a : Axis) (t : Test) (ps : Preds) (rest : List ℕ)
      → cond g (pack_step a t (suc (pred_count ps)) ∷ visible_items chosen) (pack_step a t (pred_count ps) ∷ []) ++ (encode_preds ps ++ rest)
      ≡ pack_step a t (pred_count (cond g (pred v ps) ps)) ∷ (encode_preds (cond g (pred v ps) ps) ++ rest)
  on_guard true a t ps rest =
      ap (λ (x : List ℕ). pack_step a t (suc (pred_count ps)) ∷ (x ++ (encode_preds ps ++ rest))) is-v ∙
      ap (λ (x : List ℕ). pack_step a t (suc (pred_count ps)) ∷ x) (sym (append_assoc (encode_expr v) (encode_preds ps) rest))
  on_guard false a t ps rest = refl

  mutual
    expr_guarded : (e : Expr) → good_expr e ≡ true → guarded_items chosen (flags_expr decides e) (encode_expr e) ≡ encode_expr (guard_expr_by decides e v)
    expr_guarded (path s) g =
        let h = good_path s g in
        ap₂ (λ (a b : List ℕ). a ++ b) (stays chosen (pack_path (step_count s))) (steps_guarded s false false h.1) ∙
        ap (λ (n : ℕ). pack_path n ∷ encode_steps (guard_steps_by decides s false false v)) (sym (guarded_count s false false))
    expr_guarded (both a b) g =
        let h = and_true (good_expr a) (good_expr b) g in
        two and_item (flags_expr decides a) (flags_expr decides b) (encode_expr a) (encode_expr b) _ _ (expr_long decides a) (expr_guarded a h.0) (expr_guarded b h.1)
    expr_guarded (either a b) g =
        let h = and_true (good_expr a) (good_expr b) g in
        two or_item (flags_expr decides a) (flags_expr decides b) (encode_expr a) (encode_expr b) _ _ (expr_long decides a) (expr_guarded a h.0) (expr_guarded b h.1)
    expr_guarded (negated a) g = ap₂ (λ (a b : List ℕ). a ++ b) (stays chosen not_item) (expr_guarded a g)

    pub steps_guarded : (s : Steps) (loose last : Bool) → good_steps s ≡ true → guarded_items chosen (flags_steps decides s loose last) (encode_steps s) ≡ encode_steps (guard_steps_by decides s loose last v)
    steps_guarded stop loose last g = refl
    steps_guarded (step a t ps r) loose last g =
        let h = good_step a t ps r g in
        let more = loose_after decides loose a (down_next last r) in
        let named = decides loose a (down_next last r) in
        ap₂ (λ (x y : List ℕ). x ++ y) (named_step chosen named a t (pred_count ps) h.test h.few)
        (guarded_append chosen (flags_preds decides ps) (flags_steps decides r more last) (encode_preds ps) (encode_steps r) (preds_long decides ps) ∙
        ap₂ (λ (x y : List ℕ). x ++ y) (preds_guarded ps h.preds) (steps_guarded r more last h.later)) ∙
        ap (λ (n : ℕ). cond named (pack_step a t (suc n) ∷ visible_items chosen) (pack_step a t n ∷ []) ++ (encode_preds (guard_preds_by decides ps v) ++ encode_steps (guard_steps_by decides r more last v))) (sym (guarded_preds ps)) ∙
        on_guard named a t (guard_preds_by decides ps v) (encode_steps (guard_steps_by decides r more last v))

    preds_guarded : (ps : Preds) → good_preds ps ≡ true → guarded_items chosen (flags_preds decides ps) (encode_preds ps) ≡ encode_preds (guard_preds_by decides ps v)
    preds_guarded bare g = refl
    preds_guarded (pred x ps) g =
        let h = and_true (good_expr x) (good_preds ps) g in
        guarded_append chosen (flags_expr decides x) (flags_preds decides ps) (encode_expr x) (encode_preds ps) (expr_long decides x) ∙
        ap₂ (λ (x y : List ℕ). x ++ y) (expr_guarded x h.0) (preds_guarded ps h.1)
