-- What `unpacked` makes of a number, by its kind; and the number that shifted fields make together.
-- A mask is a remainder and a shift a quotient by a power of two. Assumes nothing.
use Prim.Native.Nat.{ℕ, zero, suc, ◌+◌, ◌*◌, ◌/◌, ◌%◌, ◌≤◌, ◌<◌}
use native.Mathlib.Omega.{arith}
use mathlib.Core.Path.{◌≡◌, refl, sym, ◌∙◌, ap₂}
use mathlib.Core.Bool.{Bool, true, false}
use mathlib.Core.Option.{Option, none, some}
use mathlib.Core.Logic.{by_cases}
use native.Mathlib.Decide.{dec_lt}
use lib.Dec.{ltb}
use lib.Bits.{bit_and, bit_or, and_mask, or_shifted}
use borrow.Author.Tests.{lt-ltb, le-ltb, eq-eqb, ne_eqb}
use Rattle.paper.specs.Limits.{names_limit}
use Rattle.paper.specs.Query.{Axis, Test, any_node, text_node, named, any_element}
use Rattle.paper.specs.Items.{axes, axis_of, axis_bound, test_number, test_of, test_bound, count_bound, path_at, step_at}
use Rattle.paper.proofs.Axes.{axis_found, axis_some, axis_none}
use Rattle.paper.proofs.Fields.{test_found}
use Rattle.item.specs.declared.Step.{Step}
use Rattle.item.specs.declared.Item.TheVariants.{Path, Step as StepItem, Bad}
use Rattle.item.specs.Unpacked.{operator_of, unpacked, packed}

-- A number of another kind is no path, or no step.
pub no_path : (w : ℕ) → (w % 8 ≡ 0 → ⊥) → path_at w ≡ none
unfolding path_at
no_path w h = rw (ne_eqb (w % 8) 0 h)

pub no_step : (w : ℕ) → (w % 8 ≡ 1 → ⊥) → step_at w ≡ none
unfolding step_at
no_step w h = rw (ne_eqb (w % 8) 1 h)

-- A number that is no operator's and neither path nor step says nothing.
no_item : (w : ℕ) → path_at w ≡ none → step_at w ≡ none → (w ≡ 2 → ⊥) → (w ≡ 3 → ⊥) → (w ≡ 4 → ⊥) → unpacked w ≡ Bad
unfolding unpacked
no_item w p s a o n = rw (p, s, ne_eqb w 2 a, ne_eqb w 3 o, ne_eqb w 4 n)

-- Kind 0.
pub path_kind : (w : ℕ) → w % 8 ≡ 0 → w < 65536 → unpacked w ≡ Path (w / 8)
unfolding unpacked path_at
path_kind w k l = rw (eq-eqb (w % 8) 0 k, lt-ltb w 65536 l)

pub path_long : (w : ℕ) → w % 8 ≡ 0 → 65536 ≤ w → unpacked w ≡ Bad
unfolding path_at
path_long w k l = no_item w (rw (eq-eqb (w % 8) 0 k, le-ltb w 65536 l)) (no_step w (λ e. omega arith)) (λ e. omega arith) (λ e. omega arith) (λ e. omega arith)

-- Kind 1: there is a test up to that of `*`.
test_some : (n : ℕ) → n ≤ test_number any_element → (t : Test) × (test_of n ≡ some t)
test_some zero l = (any_node, refl)
test_some (suc zero) l = (text_node, refl)
test_some (suc (suc v)) l =
    by_cases (dec_lt v names_limit) (λ h. (named v, rw (lt-ltb v names_limit h))) (λ h. let e : v ≡ names_limit = omega arith in (any_element, rw (le-ltb v names_limit (omega arith), eq-eqb v names_limit e)))

test_none : (n : ℕ) → test_number any_element < n → test_of n ≡ none
test_none zero l = absurd (omega arith)
test_none (suc zero) l = absurd (omega arith)
test_none (suc (suc v)) l = rw (le-ltb v names_limit (omega arith), ne_eqb v names_limit (λ e. omega arith))

-- A step that lacks something is no item.
bad_step : (w : ℕ) → w % 8 ≡ 1 → step_at w ≡ none → unpacked w ≡ Bad
bad_step w k s = no_item w (no_path w (λ e. omega arith)) s (λ e. omega arith) (λ e. omega arith) (λ e. omega arith)

pub step_long : (w : ℕ) → w % 8 ≡ 1 → 536870912 ≤ w → unpacked w ≡ Bad
unfolding step_at
step_long w k l = bad_step w k (rw (eq-eqb (w % 8) 1 k, le-ltb w 536870912 l))

pub step_axis : (w : ℕ) → w % 8 ≡ 1 → axes ≤ bit_and (w / 8) 15 → unpacked w ≡ Bad
unfolding step_at
step_axis w k l =
    bad_step w k (go (ltb w 536870912) refl)
  where
    none_there : axis_of (w / 8 % 16) ≡ none
    none_there = axis_none (w / 8 % 16) (rw (and_mask (w / 8) 4) at l)

    go : (b : Bool) → ltb w 536870912 ≡ b → step_at w ≡ none
    go true p = rw (eq-eqb (w % 8) 1 k, p, none_there)
    go false p = rw (eq-eqb (w % 8) 1 k, p)

pub step_test : (w : ℕ) → w % 8 ≡ 1 → test_number any_element < bit_and (w / 128) 511 → unpacked w ≡ Bad
unfolding step_at
step_test w k l =
    bad_step w k (go (ltb w 536870912) refl (axis_of (w / 8 % 16)) refl)
  where
    none_there : test_of (w / 128 % 512) ≡ none
    none_there = test_none (w / 128 % 512) (rw (and_mask (w / 128) 9) at l)

    go : (b : Bool) → ltb w 536870912 ≡ b → (o : Option Axis) → axis_of (w / 8 % 16) ≡ o → step_at w ≡ none
    go true p none q = rw (eq-eqb (w % 8) 1 k, p, q)
    go true p (some a) q = rw (eq-eqb (w % 8) 1 k, p, q, none_there)
    go false p o q = rw (eq-eqb (w % 8) 1 k, p)

pub step_kind : (w : ℕ) → w % 8 ≡ 1 → w < 536870912 → bit_and (w / 8) 15 < axes → bit_and (w / 128) 511 ≤ test_number any_element
    → unpacked w ≡ StepItem (record { axis = bit_and (w / 8) 15; test = bit_and (w / 128) 511; count = w / 65536 })
unfolding unpacked step_at
step_kind w k l ha ht =
    let ea : bit_and (w / 8) 15 ≡ w / 8 % 16 = and_mask (w / 8) 4 in
    let et : bit_and (w / 128) 511 ≡ w / 128 % 512 = and_mask (w / 128) 9 in
    let a = axis_some (w / 8 % 16) (rw ea at ha) in
    let t = test_some (w / 128 % 512) (rw et at ht) in
    rw (no_path w (λ e. omega arith), eq-eqb (w % 8) 1 k, lt-ltb w 536870912 l, a.1, t.1)
    (ap₂ (λ (x y : ℕ). StepItem (record { axis = x; test = y; count = w / 65536 })) (sym (axis_found _ a.0 a.1) ∙ sym ea) (sym (test_found _ t.0 t.1).0 ∙ sym et))

-- Kinds from 2: the operators and `not`.
pub operator_kind : (w : ℕ) → 2 ≤ w % 8 → unpacked w ≡ operator_of w
unfolding unpacked
operator_kind w k = rw (no_path w (λ e. omega arith), no_step w (λ e. omega arith))

-- Shifted fields, put together.
pub together : (s : Step) → s.axis < axis_bound → s.test < test_bound → s.count < count_bound
    → bit_or (bit_or (bit_or (s.count * 65536 % 4294967296) (s.test * 128 % 4294967296)) (s.axis * 8 % 4294967296)) 1 ≡ packed s
together s ha ht hc =
    let a = s.axis in
    let t = s.test in
    let n = s.count in
    let fa : a * 8 % 4294967296 ≡ a * 8 = omega arith in
    let ft : t * 128 % 4294967296 ≡ t * 128 = omega arith in
    let fn : n * 65536 % 4294967296 ≡ n * 65536 = omega arith in
    let one : bit_or (n * 65536) (t * 128) ≡ n * 65536 + t * 128 = or_shifted n 16 (t * 128) (omega arith) in
    let e : n * 65536 + t * 128 ≡ (n * 512 + t) * 128 = omega arith in
    let two : bit_or ((n * 512 + t) * 128) (a * 8) ≡ (n * 512 + t) * 128 + a * 8 = or_shifted (n * 512 + t) 7 (a * 8) (omega arith) in
    let f : (n * 512 + t) * 128 + a * 8 ≡ (n * 8192 + t * 16 + a) * 8 = omega arith in
    let three : bit_or ((n * 8192 + t * 16 + a) * 8) 1 ≡ (n * 8192 + t * 16 + a) * 8 + 1 = or_shifted (n * 8192 + t * 16 + a) 3 1 (omega arith) in
    rw (fa, ft, fn, one, e, two, f, three) (omega arith)
