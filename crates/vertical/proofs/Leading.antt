-- Where the axes lead: an image taken apart and put together, and what each test of a tree says of numbers. Assumes nothing.
use Prim.Native.Nat.{ℕ, ◌+◌, ◌≤◌, ◌<◌}
use native.Mathlib.Omega.{arith}
use native.Mathlib.Decide.{ℕ_discrete}
use mathlib.Core.Path.{◌≡◌, refl, ap}
use mathlib.Core.Bool.{Bool, true, false, not, ◌&&◌, false≢true}
use mathlib.Core.Logic.{⊎_elim, by_cases}
use lib.Dec.{eqb, ltb}
use borrow.Author.Tests.{eqb-true, eq-eqb, ne_eqb, ltb-true, lt-ltb}
use Rattle.paper.specs.Query.{Axis}
use Rattle.paper.specs.Document.{Table, nodes, parent_of, over}
use Rattle.paper.specs.Selection.{leads, below, sibling_after, after}
use Rattle.paper.proofs.Tests.{and_true, true_and, agree}
use Rattle.paper.proofs.Searches.{some_intro, some-elim}
use Rattle.paper.proofs.Trees.{Tree, over_self, over_parent, over-cases, climb}
use Rattle.sets.specs.Sets.{image}
use Rattle.sets.proofs.Bits.{side}

-- An image, from a node of the set and back to it.
module _ (t : Table) (a : Axis) (f : ℕ → Bool) (k : ℕ) where
  pub image_intro : (j : ℕ) → j < nodes t → f j ≡ true → leads t a j k ≡ true → image t a f k ≡ true
  unfolding image
  image_intro j l p q = some_intro (nodes t) (λ j. f j && leads t a j k) j l (true_and p q)

  pub image-elim {ℓ} : {C : Type ℓ} → image t a f k ≡ true → ((j : ℕ) → j < nodes t → f j ≡ true → leads t a j k ≡ true → C) → C
  unfolding image
  image-elim h next = some-elim (nodes t) (λ j. f j && leads t a j k) h (λ j l q. let r = and_true (f j) (leads t a j k) q in next j l r.0 r.1)

-- A test that fails.
fails : (b : Bool) → (b ≡ true → ⊥) → not b ≡ true
fails true h = absurd (h refl)
fails false h = refl

failed : (b : Bool) → not b ≡ true → b ≡ true → ⊥
failed true h p = false≢true h
failed false h p = false≢true p

-- A bound one higher says the same of all numbers but one.
pub ltb_next : (k i : ℕ) → (k ≡ i → ⊥) → ltb k i ≡ ltb k (i + 1)
ltb_next k i d =
    agree (ltb k i) (ltb k (i + 1)) (λ h. lt-ltb k (i + 1) (omega (arith, ltb-true k i h)))
    (λ h. lt-ltb k i (by_cases (ℕ_discrete k i) (λ e. absurd (d e)) (λ e. omega (arith, ltb-true k (i + 1) h))))

module _ (t : Table) (i j : ℕ) where
  -- j is below i.
  pub below_intro : over t j i ≡ true → (i ≡ j → ⊥) → below t i j ≡ true
  below_intro h d = true_and h (fails (eqb i j) (λ e. d (eqb-true i j e)))

  pub below_elim : below t i j ≡ true → (over t j i ≡ true) × (i ≡ j → ⊥)
  below_elim h = let r = and_true (over t j i) (not (eqb i j)) h in (r.0, λ e. failed (eqb i j) r.1 (eq-eqb i j e))

  -- j comes after i.
  pub after_intro : i < j → (over t j i ≡ true → ⊥) → after t i j ≡ true
  after_intro l d = true_and (lt-ltb i j l) (fails (over t j i) d)

  pub after_elim : after t i j ≡ true → (i < j) × (over t j i ≡ true → ⊥)
  after_elim h = let r = and_true (ltb i j) (not (over t j i)) h in (ltb-true i j r.0, λ e. failed (over t j i) r.1 e)

  -- j is a sibling of i, and after it.
  pub sibling_intro : i < j → 0 < i → parent_of t i ≡ parent_of t j → sibling_after t i j ≡ true
  sibling_intro l z e = true_and (true_and (lt-ltb i j l) (ap not (ne_eqb i 0 (λ s. omega arith)))) (eq-eqb (parent_of t i) (parent_of t j) e)

  pub sibling_elim : sibling_after t i j ≡ true → (i < j) × ((0 < i) × (parent_of t i ≡ parent_of t j))
  sibling_elim h =
      let r = and_true (ltb i j && not (eqb i 0)) (eqb (parent_of t i) (parent_of t j)) h in
      let u = and_true (ltb i j) (not (eqb i 0)) r.0 in
      (ltb-true i j u.0, (by_cases (ℕ_discrete i 0) (λ e. absurd (failed (eqb i 0) u.1 (eq-eqb i 0 e))) (λ e. omega arith), eqb-true (parent_of t i) (parent_of t j) r.1))

module _ (t : Table) (w : Tree t) where
  -- What is over a node has no greater number.
  pub over_le : (j i : ℕ) → i < nodes t → over t i j ≡ true → j ≤ i
  over_le j =
      climb t w (λ i. over t i j ≡ true → j ≤ i)
      (λ i l up h. over-cases t w i j l h (λ e. omega arith) (λ z p. omega (arith, up z p, w.falls i z l)))

  -- The way up from a node behind m comes to one behind m whose parent is not.
  pub crossing {ℓ} : {C : Type ℓ} (m : ℕ) → (j : ℕ) → j < nodes t → m < j
      → ((c : ℕ) → c < nodes t → m < c → parent_of t c ≤ m → over t j c ≡ true → C) → C
  crossing {C = C} m =
      climb t w (λ j. m < j → ((c : ℕ) → c < nodes t → m < c → parent_of t c ≤ m → over t j c ≡ true → C) → C)
      (λ j l up b next.
      ⊎_elim (λ s. up (omega arith) s (λ c k a p o. next c k a p (over_parent t w j c l o)))
      (λ s. next j l b s (over_self t w j l))
      (side m (parent_of t j)))
