-- The items of V, of the last step and of the whole composition, from their parts; and where S stands in it. Assumes nothing.
use Prim.Native.Nat.{ℕ, ◌+◌, ◌≤◌}
use native.Mathlib.Omega.{arith}
use mathlib.Core.Path.{◌≡◌, refl, sym, ◌∙◌, ap, ap₂}
use mathlib.Core.Bool.{Bool, true, false, ◌&&◌}
use mathlib.Core.List.{List, [], ◌∷◌, ◌++◌, map, append_assoc, append-nil}
use mathlib.Core.Option.{Option}
use lib.Dec.{ltb}
use lib.ListN.{length, take, drop, length-append}
use lib.Seq.{drop_at, length-take-le, take_at}
use Rattle.paper.specs.Query.{Axis, descendant_or_self, ancestor_or_self, any_node, Expr, path, Steps, stop, step, Query, paths}
use Rattle.paper.specs.Items.{axis_number, pack_path, pack_step, or_item, step_count, pred_count, encode_expr, encode_steps, encode_preds, encode_paths, encode, decode, good_steps, good_paths, good, count_bound}
use Rattle.paper.specs.Tools.{written}
use Rattle.paper.specs.Answers.{made_got}
use Rattle.paper.specs.Composition.{selected_by, some_node, visible, append, last_step}
use Rattle.paper.specs.Lean.{down_next, Decision, loose_after, guard_steps_by, composed_path_by, composed_by}
use Rattle.paper.proofs.Tests.{and_true}
use Rattle.paper.proofs.Encoding.{encode_decode}
use Rattle.item.specs.Placed.{placed}
use Rattle.reverse.specs.Reverses.{each_path, each_got, selected_got, IsQuery}
use Rattle.item.proofs.Placing.{drop_placed}
use Rattle.visible.specs.Visible.{some_node_items, visible_items, last_items}
use Rattle.guards.specs.Guarded.{guarded_items}
use Rattle.composed.specs.Pieces.{flags_steps, guarded_path, Says}
use Rattle.composed.proofs.Items.{steps_guarded}

-- V and the last step.
some-node-items : (a : Axis) (e : Expr) → encode_expr (some_node a e) ≡ some_node_items (axis_number a) (encode_expr e)
some-node-items a e =
    ap (λ (l : List ℕ). pack_path 1 ∷ pack_step a any_node 1 ∷ l) (append-nil (encode_expr e ++ []) ∙ append-nil (encode_expr e))

pub visible-items : (q : Query) → visible_items (encode_expr (selected_by q)) ≡ encode_expr (visible q)
unfolding visible
visible-items q =
    ap₂ (λ (x y : List ℕ). or_item ∷ (x ++ y)) (sym (some-node-items descendant_or_self (selected_by q))) (sym (some-node-items ancestor_or_self (selected_by q)))

pub last-items : (q : Query) → last_items (encode_expr (selected_by q)) ≡ encode_steps (last_step q)
unfolding last_step
last-items q =
    ap (λ (l : List ℕ). pack_step descendant_or_self any_node 1 ∷ l) (sym (some-node-items ancestor_or_self (selected_by q))) ∙
    ap (λ (l : List ℕ). pack_step descendant_or_self any_node 1 ∷ l)
    (sym (append-nil (encode_expr (some_node ancestor_or_self (selected_by q)) ++ []) ∙ append-nil (encode_expr (some_node ancestor_or_self (selected_by q)))))

-- A path with one step more at its end.
append_items : (s last : Steps) → encode_steps (append s last) ≡ encode_steps s ++ encode_steps last
append_items stop last = refl
append_items (step a t ps r) last =
    ap (λ (l : List ℕ). pack_step a t (pred_count ps) ∷ (encode_preds ps ++ l)) (append_items r last) ∙
    ap (λ (l : List ℕ). pack_step a t (pred_count ps) ∷ l) (sym (append_assoc (encode_preds ps) (encode_steps r) (encode_steps last)))

module _ (decides : Decision) where
  append_count : (s : Steps) (loose last : Bool) (e : Expr) (q : Query) → step_count (append (guard_steps_by decides s loose last e) (last_step q)) ≡ step_count s + 1
  unfolding last_step
  append_count stop loose last e q = omega arith
  append_count (step a t ps r) loose last e q = omega (arith, append_count r (loose_after decides loose a (down_next last r)) last e q)

  -- THE COMPOSITION, path by path.
  path-items : (q : Query) (p : Steps) → good_steps p ≡ true → encode_expr (path (composed_path_by decides q p)) ≡ guarded_path decides (encode_expr (selected_by q)) p
  unfolding composed_path_by
  path-items q p g =
      ap₂ (λ (n : ℕ) (l : List ℕ). pack_path n ∷ l) (append_count p false true (visible q) q)
      (append_items (guard_steps_by decides p false true (visible q)) (last_step q) ∙
      ap₂ (λ (x y : List ℕ). x ++ y) (sym (steps_guarded decides (encode_expr (selected_by q)) (visible q) (visible-items q) p false true g)) (sym (last-items q)))

  paths_composed : (q : Query) (ps : List Steps) → good_paths ps ≡ true → encode_paths (map (composed_path_by decides q) ps) ≡ each_path (guarded_path decides (encode_expr (selected_by q))) ps
  paths_composed q [] g = refl
  paths_composed q (p ∷ ps) g =
      let h = and_true (ltb (step_count p) count_bound && good_steps p) (good_paths ps) g in
      let k = and_true (ltb (step_count p) count_bound) (good_steps p) h.0 in
      ap₂ (λ (x y : List ℕ). x ++ y) (path-items q p k.1) (paths_composed q ps h.1)

  pub composed_items : (o i : Query) → good o ≡ true → encode (composed_by decides o i) ≡ each_path (guarded_path decides (encode_expr (selected_by i))) (paths o)
  unfolding encode composed_by good
  composed_items o i g = paths_composed i (paths o) g

-- The same of what was decoded.
pub composed_parts : (outer inner says : List ℕ) (g : Says outer says) → IsQuery inner
    → made_got (composed_by g.decides) (decode outer) (decode inner) ≡ each_got (guarded_path g.decides (selected_got (decode inner))) (decode outer)
composed_parts outer inner says g i =
    ap₂ (made_got (composed_by g.decides)) g.decodes i.decodes ∙ composed_items g.decides g.query i.query (encode_decode outer g.query g.decodes).fine ∙
    ap₂ (λ (x y : Option Query). each_got (guarded_path g.decides (selected_got y)) x) (sym g.decodes) (sym i.decodes)

-- S is placed at the end, and the whole before it.
pub chosen_is : (new old mid : List ℕ) (from count : ℕ) → mid ≡ placed new from old → from ≤ length old → count ≡ length new → take count (drop from mid) ≡ new
chosen_is new old mid from count w l n =
    ap (λ (x : List ℕ). take count (drop from x)) w ∙ ap (take count) (drop_at (take from old) (new ++ drop (from + length new) old) from (length-take-le from old l)) ∙
    take_at new (drop (from + length new) old) count (sym n)

pub whole_written : (selected whole old mid out : List ℕ) (from : ℕ) → mid ≡ placed selected from old → from ≤ length old → from + length selected ≡ length whole
    → out ≡ placed whole 0 mid → out ≡ written whole old
whole_written selected whole old mid out from wm l n w =
    w ∙
    ap (λ (x : List ℕ). whole ++ x)
    (ap (λ (k : ℕ). drop k mid) (let f : 0 + length whole ≡ length whole = omega arith in f) ∙ ap (drop (length whole)) wm ∙ drop_placed selected old from (length whole) l (omega arith))

-- S is part of the whole, since every path ends with it.
pub count_least : (outer inner says : List ℕ) (g : Says outer says) → IsQuery inner
    → length (selected_got (decode inner)) ≤ length (made_got (composed_by g.decides) (decode outer) (decode inner))
count_least outer inner says g i =
    let chosen = selected_got (decode inner) in
    let p = g.query.first in
    omega (
      arith,
      ap length (composed_parts outer inner says g i ∙ ap (each_got (guarded_path g.decides chosen)) g.decodes),
      length-append (guarded_path g.decides chosen p) (each_path (guarded_path g.decides chosen) g.query.others),
      length-append (guarded_items chosen (flags_steps g.decides p false true) (encode_steps p)) (last_items chosen),
    )
