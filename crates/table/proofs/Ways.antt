-- The way up from a node whose ancestors are good, whatever comes after it in the table: one step up, and where it ends.
-- Parents are smaller than their children, so a way is no longer than the node's number. Assumes nothing.
use Prim.Native.Nat.{ℕ, zero, suc, ◌≤◌, ◌<◌}
use native.Mathlib.Omega.{arith}
use native.Mathlib.Decide.{ℕ_discrete, dec_lt}
use mathlib.Core.Path.{◌≡◌, refl, sym, ◌∙◌, ap}
use mathlib.Core.Bool.{Bool, true, false, ◌||◌}
use mathlib.Core.Logic.{by_cases}
use lib.Dec.{eqb}
use borrow.Author.Tests.{eqb-true, eq-eqb, ne_eqb}
use Rattle.paper.specs.Document.{Table, nodes, parent_of, kind_of, climbs, over, good_node}
use Rattle.paper.proofs.Tests.{and_true, or_left}
use Rattle.paper.proofs.Extracting.{good_later}
use Rattle.table.specs.Climbs.{Falls}

twice : (b : Bool) → (b || b) ≡ b
twice true = refl
twice false = refl

or_no : (b : Bool) → (b || false) ≡ b
or_no true = refl
or_no false = refl

module _ (t : Table) (n : ℕ) (w : Falls t.parents n) where
  pub parent_low : (i : ℕ) → i < n → parent_of t i ≤ i
  parent_low i l = by_cases (ℕ_discrete i 0) (λ e. omega (arith, ap (parent_of t) e ∙ w.root (omega arith))) (λ e. omega (arith, w.falls i (omega arith) l))

  -- One step more finds nothing new where there are steps enough.
  enough : (far i j : ℕ) → i ≤ far → i < n → climbs t (suc far) i j ≡ climbs t far i j
  enough zero i j h l =
      let e : i ≡ 0 = omega arith in
      let r : parent_of t i ≡ i = ap (parent_of t) e ∙ w.root (omega arith) ∙ sym e in
      ap (λ k. eqb i j || eqb k j) r ∙ twice (eqb i j)
  enough (suc far) i j h l =
      ap (λ b. eqb i j || b)
      (enough far (parent_of t i) j
      (by_cases (ℕ_discrete i 0) (λ e. omega (arith, ap (parent_of t) e ∙ w.root (omega arith))) (λ e. omega (arith, w.falls i (omega arith) l)))
      (omega (arith, parent_low i l)))

  -- A smaller node that is over i is over i's parent.
  pub way_up : (i j : ℕ) → i < n → j < i → over t i j ≡ over t (parent_of t i) j
  unfolding over
  way_up i j l h = go (nodes t) (omega (arith, w.within))
    where
      go : (m : ℕ) → i < m → climbs t m i j ≡ climbs t m (parent_of t i) j
      go zero b = absurd (omega arith)
      go (suc m) b =
          ap (λ x. x || climbs t m (parent_of t i) j) (ne_eqb i j (λ e. omega arith))
          ∙ sym (enough m (parent_of t i) j (omega (arith, parent_low i l)) (omega (arith, parent_low i l)))

  -- No greater node is over i.
  pub way_end : (i j : ℕ) → i < n → i ≤ j → over t i j ≡ eqb i j
  unfolding over
  way_end i j l h = go (nodes t) i l h
    where
      go : (far i : ℕ) → i < n → i ≤ j → climbs t far i j ≡ eqb i j
      go zero i l h = refl
      go (suc far) i l h =
          ap (λ b. eqb i j || b) (go far (parent_of t i) (omega (arith, parent_low i l)) (omega (arith, parent_low i l)))
          ∙ by_cases (ℕ_discrete i j) (λ e. or_left (eqb (parent_of t i) j) (eq-eqb i j e) ∙ sym (eq-eqb i j e))
          (λ e. ap (λ b. eqb i j || b) (ne_eqb (parent_of t i) j (λ q. omega (arith, parent_low i l))) ∙ or_no (eqb i j))

  pub way_low : (i j : ℕ) → i < n → over t i j ≡ true → j ≤ i
  way_low i j l h = by_cases (dec_lt i j) (λ b. absurd (omega (arith, eqb-true i j (sym (way_end i j l (omega arith)) ∙ h)))) (λ b. omega (arith, b))

-- Good nodes are a tree, as far as they go.
pub falls_good : (t : Table) (n : ℕ) → n ≤ nodes t → ((k : ℕ) → k < n → good_node t k ≡ true) → Falls t.parents n
unfolding good_node
falls_good t zero h g = record { within = h; root = λ z. absurd (omega arith); falls = λ k z l. absurd (omega arith) }
falls_good t (suc n) h g =
    let w = falls_good t n (omega arith) (λ k l. g k (omega arith)) in
    record {
      within = h;
      root = λ z. eqb-true (parent_of t 0) 0 (and_true (eqb (parent_of t 0) 0) (eqb (kind_of t 0) 0) (g 0 (omega arith))).0;
      falls = λ k z l. by_cases (ℕ_discrete k n) (λ e. one n w k e z (g k l)) (λ e. w.falls k z (omega arith));
    }
  where
    one : (n : ℕ) → Falls t.parents n → (k : ℕ) → k ≡ n → 0 < k → good_node t k ≡ true → parent_of t k < k
    one n w zero e z q = absurd (omega arith)
    one n w (suc k) e z q =
        omega (arith, way_low t n w k (parent_of t (suc k)) (omega arith) (good_later t k q).1)
