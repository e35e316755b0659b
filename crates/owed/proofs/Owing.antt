-- What the items of a query owe, and where each thing ends: laws of `owing` and `eaten` on encoded queries.
-- Each by induction over the query. Assumes nothing.
use Prim.Native.Nat.{ℕ, suc, ◌+◌, ◌≤◌, ◌<◌}
use native.Mathlib.Omega.{arith}
use mathlib.Core.Path.{◌≡◌, refl, ap}
use mathlib.Core.Bool.{true, ◌&&◌}
use mathlib.Core.List.{List, [], ◌∷◌, ◌++◌, append_assoc}
use lib.Dec.{ltb, leb}
use lib.ListN.{length, length-append}
use borrow.Author.Tests.{ltb-true}
use Rattle.paper.specs.Query.{Axis, Test, Expr, path, both, either, negated, Steps, stop, step, Preds, bare, pred}
use Rattle.paper.specs.Items.{pack_path, pack_step, path_at, step_at, and_item, or_item, not_item, step_count, pred_count, encode_expr, encode_steps, encode_preds, good_test, good_expr, good_steps, good_preds, count_bound}
use Rattle.paper.proofs.Tests.{and_true}
use Rattle.item.specs.Unpacked.{unpacked}
use Rattle.item.proofs.Saying.{unpack_path, unpack_step}
use Rattle.owed.specs.Owing.{owed_by, owing, eaten}

-- What is needed of a step: its test is one, its count fits, and so on below.
pub record GoodStep (t : Test) (ps : Preds) (rest : Steps) : Type 0 where
  pub test : good_test t ≡ true
  pub few : pred_count ps < count_bound
  pub preds : good_preds ps ≡ true
  pub later : good_steps rest ≡ true

pub good_step : (a : Axis) (t : Test) (ps : Preds) (rest : Steps) → good_steps (step a t ps rest) ≡ true → GoodStep t ps rest
good_step a t ps rest g =
    let x = and_true (good_test t && ltb (pred_count ps) count_bound && good_preds ps) (good_steps rest) g in
    let y = and_true (good_test t && ltb (pred_count ps) count_bound) (good_preds ps) x.0 in
    let z = and_true (good_test t) (ltb (pred_count ps) count_bound) y.0 in
    record { test = z.0; few = ltb-true _ _ z.1; preds = y.1; later = x.1 }

pub good_path : (s : Steps) → good_expr (path s) ≡ true → (step_count s < count_bound) × (good_steps s ≡ true)
good_path s g =
    let x = and_true (leb 1 (step_count s) && ltb (step_count s) count_bound) (good_steps s) g in
    let y = and_true (leb 1 (step_count s)) (ltb (step_count s) count_bound) x.0 in
    (ltb-true _ _ y.1, x.1)

-- What an item owes.
pub owing_path : (n : ℕ) → n < count_bound → owing (pack_path n) ≡ n
unfolding owing
owing_path n l = ap owed_by (unpack_path n l)

pub owing_step : (a : Axis) (t : Test) (n : ℕ) → good_test t ≡ true → n < count_bound → owing (pack_step a t n) ≡ n
unfolding owing
owing_step a t n g l = ap owed_by (unpack_step a t n g l)

pub owing_operators : (owing and_item ≡ 2) × (owing or_item ≡ 2) × (owing not_item ≡ 1)
unfolding owing unpacked path_at step_at
owing_operators = (refl, refl, refl)

-- WHERE A THING ENDS. So many owed, one of them is read.
one_read : (w : ℕ) (ws : List ℕ) (n k : ℕ) → n ≡ suc k → eaten (w ∷ ws) n ≡ suc (eaten ws (k + owing w))
one_read w ws n k e = ap (eaten (w ∷ ws)) e

mutual
  expr_eaten : (e : Expr) → good_expr e ≡ true → (rest : List ℕ) (n k : ℕ) → n ≡ suc k → eaten (encode_expr e ++ rest) n ≡ length (encode_expr e) + eaten rest k
  expr_eaten (path s) g rest n k e =
      let h = good_path s g in
      omega (
        arith,
        one_read (pack_path (step_count s)) (encode_steps s ++ rest) n k e,
        steps_eaten s h.1 rest (k + owing (pack_path (step_count s))) k (omega (arith, owing_path (step_count s) h.0)),
      )
  expr_eaten (both a b) g rest n k e =
      let h = and_true (good_expr a) (good_expr b) g in
      omega (
        arith,
        one_read and_item (encode_expr a ++ encode_expr b ++ rest) n k e,
        ap (λ (l : List ℕ). eaten l (k + owing and_item)) (append_assoc (encode_expr a) (encode_expr b) rest),
        expr_eaten a h.0 (encode_expr b ++ rest) (k + owing and_item) (suc k) (omega (arith, owing_operators.0)),
        expr_eaten b h.1 rest (suc k) k refl,
        length-append (encode_expr a) (encode_expr b),
      )
  expr_eaten (either a b) g rest n k e =
      let h = and_true (good_expr a) (good_expr b) g in
      omega (
        arith,
        one_read or_item (encode_expr a ++ encode_expr b ++ rest) n k e,
        ap (λ (l : List ℕ). eaten l (k + owing or_item)) (append_assoc (encode_expr a) (encode_expr b) rest),
        expr_eaten a h.0 (encode_expr b ++ rest) (k + owing or_item) (suc k) (omega (arith, owing_operators.1)),
        expr_eaten b h.1 rest (suc k) k refl,
        length-append (encode_expr a) (encode_expr b),
      )
  expr_eaten (negated a) g rest n k e =
      omega (
        arith,
        one_read not_item (encode_expr a ++ rest) n k e,
        expr_eaten a g rest (k + owing not_item) k (omega (arith, owing_operators.2)),
      )

  pub steps_eaten : (s : Steps) → good_steps s ≡ true → (rest : List ℕ) (n k : ℕ) → n ≡ step_count s + k → eaten (encode_steps s ++ rest) n ≡ length (encode_steps s) + eaten rest k
  steps_eaten stop g rest n k e = omega (arith, ap (eaten rest) (let f : n ≡ k = omega arith in f))
  steps_eaten (step a t ps r) g rest n k e =
      let h = good_step a t ps r g in
      let w = pack_step a t (pred_count ps) in
      omega (
        arith,
        one_read w (encode_preds ps ++ encode_steps r ++ rest) n (step_count r + k) (omega arith),
        ap (λ (l : List ℕ). eaten l (step_count r + k + owing w)) (append_assoc (encode_preds ps) (encode_steps r) rest),
        preds_eaten ps h.preds (encode_steps r ++ rest) (step_count r + k + owing w) (step_count r + k) (omega (arith, owing_step a t (pred_count ps) h.test h.few)),
        steps_eaten r h.later rest (step_count r + k) k refl,
        length-append (encode_preds ps) (encode_steps r),
      )

  pub preds_eaten : (ps : Preds) → good_preds ps ≡ true → (rest : List ℕ) (n k : ℕ) → n ≡ pred_count ps + k → eaten (encode_preds ps ++ rest) n ≡ length (encode_preds ps) + eaten rest k
  preds_eaten bare g rest n k e = omega (arith, ap (eaten rest) (let f : n ≡ k = omega arith in f))
  preds_eaten (pred x ps) g rest n k e =
      let h = and_true (good_expr x) (good_preds ps) g in
      omega (
        arith,
        ap (λ (l : List ℕ). eaten l n) (append_assoc (encode_expr x) (encode_preds ps) rest),
        expr_eaten x h.0 (encode_preds ps ++ rest) n (pred_count ps + k) (omega arith),
        preds_eaten ps h.1 rest (pred_count ps + k) k refl,
        length-append (encode_expr x) (encode_preds ps),
      )

-- Nothing owed, nothing read.
pub none_eaten : (ws : List ℕ) → eaten ws 0 ≡ 0
none_eaten [] = refl
none_eaten (w ∷ ws) = refl

-- A path has no more steps than items.
pub count_length : (s : Steps) → step_count s ≤ length (encode_steps s)
count_length stop = omega arith
count_length (step a t ps r) = omega (arith, count_length r, length-append (encode_preds ps) (encode_steps r))
