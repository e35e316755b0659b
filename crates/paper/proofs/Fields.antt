-- The item layout: what is packed is unpacked, and what is unpacked was packed so.
-- The fields are quotients and remainders by powers of two, so `omega` finds each. Assumes nothing.
use Prim.Native.Nat.{ℕ, zero, suc, ◌+◌, ◌*◌, ◌/◌, ◌%◌, ◌<◌}
use native.Mathlib.Omega.{arith}
use native.Mathlib.Numerals.{add-two}
use native.Mathlib.Nat.{add_comm}
use mathlib.Core.Path.{◌≡◌, refl, subst}
use mathlib.Core.Bool.{Bool, true, false}
use mathlib.Core.Option.{none, some}
use lib.Dec.{eqb, ltb}
use borrow.Author.Tests.{lt-ltb, ltb-true, eqb-true}
use Rattle.paper.specs.Limits.{names_limit}
use Rattle.paper.specs.Query.{Axis}
use Rattle.paper.specs.Query.{Test, any_node, text_node, named, any_element}
use Rattle.paper.specs.Items.{axis_number, axis_of, test_number, test_of, test_bound, count_bound, pack_path, path_at, Head, pack_step, step_at, good_test}
use Rattle.paper.proofs.Tests.{none-some, some_inj, found_some}
use Rattle.paper.proofs.Axes.{axis-number, axis_small, axis_found}

pub test-number : (t : Test) → good_test t ≡ true → test_of (test_number t) ≡ some t
test-number any_node h = refl
test-number text_node h = refl
test-number (named v) h = rw (add_comm 2 v, add-two, h)
test-number any_element h = refl

pub test_small : (t : Test) → good_test t ≡ true → test_number t < test_bound
test_small any_node h = omega arith
test_small text_node h = omega arith
test_small (named v) h = omega (arith, ltb-true v names_limit h)
test_small any_element h = omega arith

pub path-at : (count : ℕ) → count < count_bound → path_at (pack_path count) ≡ some count
unfolding path_at
path-at count h =
    let e : count * 8 % 8 ≡ 0 = omega arith in
    let q : count * 8 / 8 ≡ count = omega arith in
    let l : count * 8 < 65536 = omega arith in
    rw (e, q, lt-ltb _ _ l)

-- A step item, from its three fields.
pub step-at : (a : Axis) (t : Test) (count : ℕ) → good_test t ≡ true → count < count_bound
    → step_at (pack_step a t count) ≡ some (record { axis = a; test = t; count = count })
unfolding step_at
step-at a t count h l =
    let x = axis_number a in
    let y = test_number t in
    let w = pack_step a t count in
    let hx : x < 16 = axis_small a in
    let hy : y < 512 = test_small t h in
    let e : w % 8 ≡ 1 = omega arith in
    let s : w < 536870912 = omega arith in
    let ma : w / 8 ≡ x + 16 * (y + 512 * count) = omega arith in
    let ea : w / 8 % 16 ≡ x = rw ma (omega arith) in
    let mt : w / 128 ≡ y + 512 * count = omega arith in
    let et : w / 128 % 512 ≡ y = rw mt (omega arith) in
    let ec : w / 65536 ≡ count = omega arith in
    rw (e, lt-ltb _ _ s, ea, axis-number a, et, test-number t h, ec)

-- What is found in a path item.
pub path_found : (w count : ℕ) → path_at w ≡ some count → (w ≡ pack_path count) × (count < count_bound)
unfolding path_at
path_found w count h = go (eqb (w % 8) 0) refl (ltb w 65536) refl
  where
    go : (a : Bool) → eqb (w % 8) 0 ≡ a → (b : Bool) → ltb w 65536 ≡ b → (w ≡ pack_path count) × (count < count_bound)
    go true p true q =
        let z : w % 8 ≡ 0 = eqb-true _ _ p in
        let l : w < 65536 = ltb-true _ _ q in
        let c : some (w / 8) ≡ some count = rw (p, q) at h in
        let d : w / 8 ≡ count = cc in
        omega arith
    go true p false q = none-some (rw (p, q) at h)
    go false p b q = none-some (rw p at h)

-- The test of a number has that number.
pub test_found : (n : ℕ) (t : Test) → test_of n ≡ some t → (n ≡ test_number t) × (good_test t ≡ true)
test_found zero t h = let e : any_node ≡ t = cc in subst (λ (x : Test). (0 ≡ test_number x) × (good_test x ≡ true)) e (refl, refl)
test_found (suc zero) t h = let e : text_node ≡ t = cc in subst (λ (x : Test). (1 ≡ test_number x) × (good_test x ≡ true)) e (refl, refl)
test_found (suc (suc v)) t h = go (ltb v names_limit) refl (eqb v names_limit) refl
  where
    go : (a : Bool) → ltb v names_limit ≡ a → (b : Bool) → eqb v names_limit ≡ b → (suc (suc v) ≡ test_number t) × (good_test t ≡ true)
    go true p b q =
        let c : some (named v) ≡ some t = rw p at h in
        let e : named v ≡ t = cc in
        subst (λ (x : Test). (suc (suc v) ≡ test_number x) × (good_test x ≡ true)) e (omega arith, p)
    go false p true q =
        let c : some any_element ≡ some t = rw (p, q) at h in
        let e : any_element ≡ t = cc in
        subst (λ (x : Test). (suc (suc v) ≡ test_number x) × (good_test x ≡ true)) e (omega (arith, eqb-true v names_limit q), refl)
    go false p false q = let c : none ≡ some t = rw (p, q) at h in none-some c

-- What a step item must be, to say this.
abbrev pub Says : ℕ → Head → Type 0
Says w h = (w ≡ pack_step h.axis h.test h.count) × (good_test h.test ≡ true) × (h.count < count_bound)

-- What is found in a step item.
pub step_found : (w : ℕ) (h : Head) → step_at w ≡ some h → Says w h
unfolding step_at
step_found w h e = go (eqb (w % 8) 1) refl (ltb w 536870912) refl
  where
    fields : (a : Axis) (t : Test) → w % 8 ≡ 1 → w < 536870912 → w / 8 % 16 ≡ axis_number a → w / 128 % 512 ≡ test_number t
        → w ≡ pack_step a t (w / 65536)
    fields a t z l ea et = omega arith

    go : (a : Bool) → eqb (w % 8) 1 ≡ a → (b : Bool) → ltb w 536870912 ≡ b → Says w h
    go true p true q =
        found_some (axis_of (w / 8 % 16)) _ h (rw (p, q) at e)
        (λ a fa ga.
        found_some (test_of (w / 128 % 512)) _ h ga
        (λ t ft r.
        let known = test_found (w / 128 % 512) t ft in
        let l : w < 536870912 = ltb-true _ _ q in
        subst (λ (x : Head). Says w x) (some_inj r)
        (fields a t (eqb-true _ _ p) l (axis_found _ a fa) known.0, known.1, omega arith)))
    go true p false q = none-some (rw (p, q) at e)
    go false p b q = none-some (rw p at e)
