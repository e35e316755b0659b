-- A table with no fault is a tree: parents come before their children, and `over` is the order from a node up to the root.
-- The way up from a node is no longer than the node's number, so more steps than the table has nodes find nothing new. Assumes nothing.
use Prim.Native.Nat.{ℕ, zero, suc, ◌≤◌, ◌<◌}
use native.Mathlib.Omega.{arith}
use native.Mathlib.Decide.{ℕ_discrete}
use mathlib.Core.Path.{◌≡◌, refl, sym, ◌∙◌, ap, subst}
use mathlib.Core.Bool.{Bool, true, false, not, ◌&&◌, ◌||◌}
use mathlib.Core.List.{List}
use mathlib.Core.Logic.{◌⊎◌, inl, inr, ⊎_elim, by_cases}
use mathlib.Core.Option.{none}
use lib.Dec.{eqb, leb}
use lib.ListN.{get_or}
use borrow.Author.Tests.{eqb-true, eq-eqb, ne_eqb, not-false}
use Rattle.paper.specs.Tools.{first_below}
use Rattle.paper.specs.Document.{Table, nodes, parent_of, kind_of, kind_limit, climbs, over, good_node, table_fault, marked, good_mark, marks_fault}
use Rattle.paper.proofs.Tests.{and_true, or_true, or_left, or_right, none-some}
use Rattle.paper.proofs.Searches.{first_none}

-- A tree: there is a root, which is its own parent, and every other parent is smaller than its child.
pub record Tree (t : Table) : Type 0 where
  pub rooted : 0 < nodes t
  pub root : parent_of t 0 ≡ 0
  pub falls : (i : ℕ) → 0 < i → i < nodes t → parent_of t i < i

-- Parents stay in the table.
pub parent_le : (t : Table) → Tree t → (i : ℕ) → i < nodes t → parent_of t i ≤ i
parent_le t w zero l = omega (arith, w.root)
parent_le t w (suc i) l = omega (arith, w.falls (suc i) (omega arith) l)

twice : (b : Bool) → (b || b) ≡ b
twice true = refl
twice false = refl

module _ (t : Table) (w : Tree t) where
  -- One step more finds nothing new where there are steps enough.
  saturated : (far i j : ℕ) → i ≤ far → i < nodes t → climbs t (suc far) i j ≡ climbs t far i j
  saturated zero i j h l =
      let e : i ≡ 0 = omega arith in
      let r : parent_of t i ≡ i = ap (parent_of t) e ∙ w.root ∙ sym e in
      rw r (twice (eqb i j))
  saturated (suc far) i j h l =
      ap (λ b. eqb i j || b)
      (saturated far (parent_of t i) j
      (by_cases (ℕ_discrete i 0) (λ e. omega (arith, ap (parent_of t) e ∙ w.root)) (λ e. omega (arith, w.falls i (omega arith) l)))
      (omega (arith, parent_le t w i l)))

  -- From the root nothing else is found.
  alone : (far j : ℕ) → climbs t far 0 j ≡ eqb 0 j
  alone zero j = refl
  alone (suc far) j = ap (λ b. eqb 0 j || b) (ap (λ p. climbs t far p j) w.root ∙ alone far j) ∙ twice (eqb 0 j)

  -- A node is over i if it is i or over i's parent.
  pub over_up : (i j : ℕ) → i < nodes t → over t i j ≡ (eqb i j || over t (parent_of t i) j)
  unfolding over
  over_up i j l = go (nodes t) l refl
    where
      go : (n : ℕ) → i < n → n ≡ nodes t → climbs t n i j ≡ (eqb i j || climbs t n (parent_of t i) j)
      go zero h e = absurd (omega arith)
      go (suc n) h e = ap (λ b. eqb i j || b) (sym (saturated n (parent_of t i) j (omega (arith, parent_le t w i l)) (omega (arith, parent_le t w i l))))

  pub over_self : (i : ℕ) → i < nodes t → over t i i ≡ true
  over_self i l = over_up i i l ∙ or_left (over t (parent_of t i) i) (eq-eqb i i refl)

  pub over_parent : (i j : ℕ) → i < nodes t → over t (parent_of t i) j ≡ true → over t i j ≡ true
  over_parent i j l h = over_up i j l ∙ or_right (eqb i j) h

  pub over_root_alone : (j : ℕ) → over t 0 j ≡ eqb 0 j
  unfolding over
  over_root_alone j = alone (nodes t) j

  -- What is over i is i, or over its parent, and i is then not the root.
  pub over-cases {ℓ} : {C : Type ℓ} (i j : ℕ) → i < nodes t → over t i j ≡ true → (i ≡ j → C) → (0 < i → over t (parent_of t i) j ≡ true → C) → C
  over-cases i j l h same up =
      by_cases (ℕ_discrete i 0) (λ z. same (z ∙ eqb-true 0 j (sym (over_root_alone j) ∙ ap (λ k. over t k j) (sym z) ∙ h)))
      (λ z. ⊎_elim (λ p. same (eqb-true i j p)) (λ p. up (omega arith) p) (or_true (eqb i j) (over t (parent_of t i) j) (sym (over_up i j l) ∙ h)))

  -- To show something of every node, show it of each from its parent.
  pub climb {ℓ} : (P : ℕ → Type ℓ) → ((i : ℕ) → i < nodes t → (0 < i → P (parent_of t i)) → P i) → (i : ℕ) → i < nodes t → P i
  climb P one i l = go (suc i) i (omega arith) l
    where
      go : (b i : ℕ) → i < b → i < nodes t → P i
      go zero i h l = absurd (omega arith)
      go (suc b) i h l = one i l (λ z. go b (parent_of t i) (omega (arith, w.falls i z l)) (omega (arith, w.falls i z l)))

  -- The root is over every node.
  pub over_root : (i : ℕ) → i < nodes t → over t i 0 ≡ true
  over_root =
      climb (λ i. over t i 0 ≡ true)
      (λ i l up. by_cases (ℕ_discrete i 0) (λ z. ap (λ k. over t k 0) z ∙ over_self 0 w.rooted) (λ z. over_parent i 0 l (up (omega arith))))

  -- The order is transitive, and the nodes over one node are in a row.
  pub over_trans : (j k i : ℕ) → i < nodes t → over t i j ≡ true → over t j k ≡ true → over t i k ≡ true
  over_trans j k =
      climb (λ i. over t i j ≡ true → over t j k ≡ true → over t i k ≡ true)
      (λ i l up h g. over-cases i j l h (λ e. ap (λ x. over t x k) e ∙ g) (λ z p. over_parent i k l (up z p g)))

  pub over_row : (j k i : ℕ) → i < nodes t → over t i j ≡ true → over t i k ≡ true → (over t j k ≡ true) ⊎ (over t k j ≡ true)
  over_row j k =
      climb (λ i. over t i j ≡ true → over t i k ≡ true → (over t j k ≡ true) ⊎ (over t k j ≡ true))
      (λ i l up h g.
      over-cases i j l h (λ e. inl (ap (λ x. over t x k) (sym e) ∙ g))
      (λ z p. over-cases i k l g (λ e. inr (ap (λ x. over t x j) (sym e) ∙ h)) (λ z' q. up z p q)))

-- Marks are closed: a marked node of the table has a marked parent.
abbrev pub Closed : Table → List ℕ → Type 0
Closed t marks = (i : ℕ) → i < nodes t → marked marks i ≡ true → marked marks (parent_of t i) ≡ true

-- What is over a marked node is marked.
pub over_marked : (t : Table) → Tree t → (marks : List ℕ) → Closed t marks → (j i : ℕ) → i < nodes t → marked marks i ≡ true → over t i j ≡ true → marked marks j ≡ true
over_marked t w marks c j =
    climb t w (λ i. marked marks i ≡ true → over t i j ≡ true → marked marks j ≡ true)
    (λ i l up m h. over-cases t w i j l h (λ e. subst (λ k. marked marks k ≡ true) e m) (λ z p. up z (c i l m) p))

-- A table with no fault has good nodes only.
pub good_nodes : (t : Table) → table_fault t ≡ none → (0 < nodes t) × ((i : ℕ) → i < nodes t → good_node t i ≡ true)
unfolding table_fault
good_nodes t h =
    by_cases (ℕ_discrete (nodes t) 0) (λ e. none-some (sym (rw (eq-eqb (nodes t) 0 e) at h)))
    (λ e.
    let f : first_below (nodes t) (λ i. not (good_node t i)) ≡ none = rw (ne_eqb (nodes t) 0 e) at h in
    (omega arith, λ i l. not-false (good_node t i) (first_none (nodes t) 0 (λ i. not (good_node t i)) f i (omega arith) (omega arith))))

-- Whatever is met on the way up from i is no greater than i, if parents fall as far as i.
met_below : (t : Table) (j : ℕ) → (far i : ℕ) → parent_of t 0 ≡ 0 → ((k : ℕ) → 0 < k → k ≤ i → parent_of t k < k) → climbs t far i j ≡ true → j ≤ i
met_below t j zero i r f h = omega (arith, eqb-true i j h)
met_below t j (suc far) i r f h =
    ⊎_elim (λ p. omega (arith, eqb-true i j p))
    (λ p.
    by_cases (ℕ_discrete i 0) (λ e. omega (arith, met_below t j far (parent_of t i) r (λ k z l. f k z (omega (arith, ap (parent_of t) e ∙ r))) p, ap (parent_of t) e ∙ r))
    (λ e. omega (arith, met_below t j far (parent_of t i) r (λ k z l. f k z (omega (arith, f i (omega arith) (omega arith)))) p, f i (omega arith) (omega arith))))
    (or_true (eqb i j) (climbs t far (parent_of t i) j) h)

-- A TABLE WITH NO FAULT IS A TREE.
pub tree : (t : Table) → table_fault t ≡ none → Tree t
unfolding good_node over
tree t h = record { rooted = g.0; root = root_of; falls = λ i z l. falls_to (suc i) i (omega arith) z l }
  where
    g : (0 < nodes t) × ((i : ℕ) → i < nodes t → good_node t i ≡ true)
    g = good_nodes t h

    root_of : parent_of t 0 ≡ 0
    root_of = eqb-true (parent_of t 0) 0 (and_true (eqb (parent_of t 0) 0) (eqb (kind_of t 0) 0) (g.1 0 g.0)).0

    -- The parent of a node is met on the way up from the node before.
    met : (i : ℕ) → suc i < nodes t → climbs t (nodes t) i (parent_of t (suc i)) ≡ true
    met i l =
        let p = parent_of t (suc i) in
        let k = kind_of t (suc i) in
        let m = climbs t (nodes t) i p in
        (and_true (leb 1 k && leb k kind_limit) m (and_true (leb 1 k && leb k kind_limit && m) (not (eqb (kind_of t p) 1)) (g.1 (suc i) l)).0).1

    falls_to : (b i : ℕ) → i < b → 0 < i → i < nodes t → parent_of t i < i
    falls_to zero i h z l = absurd (omega arith)
    falls_to (suc b) zero h z l = absurd (omega arith)
    falls_to (suc b) (suc i) h z l =
        omega (arith, met_below t (parent_of t (suc i)) (nodes t) i root_of (λ k z' l'. falls_to b k (omega arith) z' (omega arith)) (met i l))

-- Marks with no fault are 0 or 1, and closed.
pub good_marks : (t : Table) (marks : List ℕ) → marks_fault t marks ≡ none → (i : ℕ) → i < nodes t → good_mark t marks i ≡ true
unfolding marks_fault
good_marks t marks h i l = not-false (good_mark t marks i) (first_none (nodes t) 0 (λ i. not (good_mark t marks i)) h i (omega arith) (omega arith))

pub closed : (t : Table) (marks : List ℕ) → marks_fault t marks ≡ none → Closed t marks
unfolding good_mark
closed t marks h i l m =
    ⊎_elim (λ z. absurd (let e : 0 ≡ 1 = sym (eqb-true (get_or marks i 0) 0 z) ∙ eqb-true (get_or marks i 0) 1 m in omega arith))
    (λ b. (and_true (marked marks i) (marked marks (parent_of t i)) b).1)
    (or_true (eqb (get_or marks i 0) 0) (marked marks i && marked marks (parent_of t i)) (good_marks t marks h i l))
