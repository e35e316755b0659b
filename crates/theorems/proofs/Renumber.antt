-- Extraction renumbers the marked nodes in order: each gets a number of its own, and the new table says of it what the old one said. Inside closed marks the new table is a tree with the same order.
-- By induction over the nodes passed, and for the order from a node's parent to the node. Assumes nothing.
use Prim.Native.Nat.{ℕ, zero, suc, ◌+◌, ◌-◌, ◌≤◌, ◌<◌}
use native.Mathlib.Omega.{arith}
use native.Mathlib.Nat.{add-zero}
use native.Mathlib.Decide.{ℕ_discrete}
use mathlib.Core.Path.{◌≡◌, refl, sym, ◌∙◌, ap, ap₂, subst}
use mathlib.Core.Bool.{Bool, true, false, not, ◌&&◌, ◌||◌, cond, false≢true}
use mathlib.Core.List.{List, ◌∷◌}
use mathlib.Core.Logic.{⊎_elim, by_cases}
use lib.Dec.{eqb, ltb}
use lib.ListN.{length, get_or}
use borrow.Author.Tests.{eqb-true, eq-eqb, ltb-true, ltb-false, lt-ltb}
use Rattle.paper.specs.Tools.{some_below}
use Rattle.paper.specs.Document.{Table, nodes, parent_of, kind_of, over, marked}
use Rattle.paper.specs.Selection.{child_of, below, sibling_after, after}
use Rattle.paper.specs.Extraction.{rank, pick_from, extracted}
use Rattle.paper.proofs.Tests.{decide, agree}
use Rattle.paper.proofs.Searches.{some_intro, some_agree}
use Rattle.paper.proofs.Trees.{Tree, parent_le, over_up, over_root, over_root_alone, climb, Closed, over_marked}

module _ (m : List ℕ) where
  -- A marked node's successor has the next number, an unmarked one's the same.
  rank_next : (n : ℕ) → marked m n ≡ true → rank m (suc n) ≡ suc (rank m n)
  rank_next n h = rw h

  rank_stays : (n : ℕ) → marked m n ≡ false → rank m (suc n) ≡ rank m n
  rank_stays n h = rw h

  rank_step : (n : ℕ) → rank m n ≤ rank m (suc n)
  rank_step n = ⊎_elim (λ h. omega (arith, rank_next n h)) (λ h. omega (arith, rank_stays n h)) (decide (marked m n))

  -- Numbers grow, and strictly past a marked node.
  pub rank_le : (i n : ℕ) → i ≤ n → rank m i ≤ rank m n
  rank_le i zero l = let e : i ≡ 0 = omega arith in omega (arith, ap (rank m) e)
  rank_le i (suc n) l =
      by_cases (ℕ_discrete i (suc n)) (λ e. omega (arith, ap (rank m) e)) (λ e. omega (arith, rank_le i n (omega arith), rank_step n))

  pub rank_lt : (i n : ℕ) → i < n → marked m i ≡ true → rank m i < rank m n
  rank_lt i n l h = omega (arith, rank_next i h, rank_le (suc i) n (omega arith))

  -- Marked nodes of one number are the same.
  pub rank_same : (i j : ℕ) → marked m i ≡ true → marked m j ≡ true → eqb (rank m i) (rank m j) ≡ eqb i j
  rank_same i j hi hj =
      agree (eqb (rank m i) (rank m j)) (eqb i j)
      (λ e.
      let r = eqb-true (rank m i) (rank m j) e in
      by_cases (ℕ_discrete i j) (λ d. eq-eqb i j d)
      (λ d.
      ⊎_elim (λ b. absurd (omega (arith, rank_lt i j (ltb-true i j b) hi)))
      (λ b. absurd (let less : j < i = omega (arith, ltb-false i j b) in omega (arith, rank_lt j i less hj))) (decide (ltb i j))))
      (λ e. eq-eqb (rank m i) (rank m j) (ap (rank m) (eqb-true i j e)))

  -- Numbers keep the order of the nodes, past a marked one.
  pub rank_order : (i j : ℕ) → marked m i ≡ true → ltb (rank m i) (rank m j) ≡ ltb i j
  rank_order i j h =
      agree (ltb (rank m i) (rank m j)) (ltb i j)
      (λ e.
      ⊎_elim (λ b. b) (λ b. absurd (omega (arith, ltb-true (rank m i) (rank m j) e, rank_le j i (ltb-false i j b)))) (decide (ltb i j)))
      (λ e. lt-ltb (rank m i) (rank m j) (rank_lt i j (ltb-true i j e) h))

  -- Every number below the count is that of a marked node.
  pub rank-onto {ℓ} : {C : Type ℓ} (n r : ℕ) → r < rank m n → ((i : ℕ) → i < n → marked m i ≡ true → rank m i ≡ r → C) → C
  rank-onto zero r l next = absurd (omega arith)
  rank-onto (suc n) r l next =
      ⊎_elim
      (λ h.
      by_cases (ℕ_discrete r (rank m n)) (λ e. next n (omega arith) h (sym e))
      (λ e. rank-onto n r (omega (arith, rank_next n h)) (λ i li hi d. next i (omega arith) hi d)))
      (λ h. rank-onto n r (omega (arith, rank_stays n h)) (λ i li hi d. next i (omega arith) hi d))
      (decide (marked m n))

  -- A marked node's value is picked, an unmarked one's is passed.
  pick_next : (left at : ℕ) (f : ℕ → ℕ) → marked m at ≡ true → pick_from m (suc left) at f ≡ f at ∷ pick_from m left (suc at) f
  pick_next left at f h = rw h

  pick_stays : (left at : ℕ) (f : ℕ → ℕ) → marked m at ≡ false → pick_from m (suc left) at f ≡ pick_from m left (suc at) f
  pick_stays left at f h = rw h

  -- As many values are picked as nodes are marked, and a marked node's value stands at its number.
  pick_length : (left at : ℕ) (f : ℕ → ℕ) → rank m at + length (pick_from m left at f) ≡ rank m (at + left)
  pick_length zero at f = add-zero (rank m at) ∙ ap (rank m) (sym (add-zero at))
  pick_length (suc left) at f =
      let e : suc at + left ≡ at + suc left = omega arith in
      let ih : rank m (suc at) + length (pick_from m left (suc at) f) ≡ rank m (at + suc left) = pick_length left (suc at) f ∙ ap (rank m) e in
      ⊎_elim (λ h. omega (arith, ih, rank_next at h, ap length (pick_next left at f h)))
      (λ h. omega (arith, ih, rank_stays at h, ap length (pick_stays left at f h))) (decide (marked m at))

  pick_at : (left at : ℕ) (f : ℕ → ℕ) (i r : ℕ) → at ≤ i → i < at + left → marked m i ≡ true → rank m at + r ≡ rank m i
      → get_or (pick_from m left at f) r 0 ≡ f i
  pick_at zero at f i r a l h e = absurd (omega arith)
  pick_at (suc left) at f i zero a l h e =
      by_cases (ℕ_discrete at i) (λ d. ap (λ xs. get_or xs 0 0) (pick_next left at f (ap (marked m) d ∙ h)) ∙ ap f d)
      (λ d.
      let less : at < i = omega arith in
      ⊎_elim (λ b. absurd (omega (arith, rank_lt at i less b)))
      (λ b.
      ap (λ xs. get_or xs 0 0) (pick_stays left at f b) ∙ pick_at left (suc at) f i zero (omega arith) (omega arith) h (omega (arith, rank_stays at b)))
      (decide (marked m at)))
  pick_at (suc left) at f i (suc r) a l h e =
      by_cases (ℕ_discrete at i) (λ d. absurd (omega (arith, ap (rank m) d)))
      (λ d.
      ⊎_elim
      (λ b.
      ap (λ xs. get_or xs (suc r) 0) (pick_next left at f b) ∙ pick_at left (suc at) f i r (omega arith) (omega arith) h (omega (arith, rank_next at b)))
      (λ b.
      ap (λ xs. get_or xs (suc r) 0) (pick_stays left at f b) ∙
      pick_at left (suc at) f i (suc r) (omega arith) (omega arith) h (omega (arith, rank_stays at b)))
      (decide (marked m at)))

module _ (t : Table) (m : List ℕ) where
  -- The new table has as many nodes as are marked,
  pub extracted_nodes : nodes (extracted t m) ≡ rank m (nodes t)
  unfolding extracted
  extracted_nodes =
      let f : ℕ → ℕ = λ i. rank m (parent_of t i) in
      let e : 0 + nodes t ≡ nodes t = omega arith in
      omega (arith, pick_length m (nodes t) 0 f, ap (rank m) e)

  pub extracted_inside : (i : ℕ) → i < nodes t → marked m i ≡ true → rank m i < nodes (extracted t m)
  extracted_inside i l h = omega (arith, extracted_nodes, rank_lt m i (nodes t) l h)

  -- and says of a node what the old one said.
  pub extracted_kind : (i : ℕ) → i < nodes t → marked m i ≡ true → kind_of (extracted t m) (rank m i) ≡ kind_of t i
  unfolding extracted
  extracted_kind i l h = pick_at m (nodes t) 0 (λ i. kind_of t i) i (rank m i) (omega arith) (omega arith) h (omega arith)

  pub extracted_parent : (i : ℕ) → i < nodes t → marked m i ≡ true → parent_of (extracted t m) (rank m i) ≡ rank m (parent_of t i)
  unfolding extracted
  extracted_parent i l h = pick_at m (nodes t) 0 (λ i. rank m (parent_of t i)) i (rank m i) (omega arith) (omega arith) h (omega arith)

  -- A search through the new table is one through the marked nodes of the old.
  pub some_renumbered : (f g : ℕ → Bool) → ((i : ℕ) → i < nodes t → f i ≡ true → marked m i ≡ true)
      → ((i : ℕ) → i < nodes t → marked m i ≡ true → g (rank m i) ≡ f i) → some_below (nodes (extracted t m)) g ≡ some_below (nodes t) f
  some_renumbered f g only same =
      some_agree (nodes (extracted t m)) (nodes t) g f
      (λ r l h.
      rank-onto m (nodes t) r (omega (arith, extracted_nodes))
      (λ i li hi e. some_intro (nodes t) f i li (sym (same i li hi) ∙ ap g e ∙ h)))
      (λ i l h.
      let hi = only i l h in
      some_intro (nodes (extracted t m)) g (rank m i) (extracted_inside i l hi) (same i l hi ∙ h))

-- Inside closed marks that mark the root, and so in all that mark a node:
module _ (t : Table) (w : Tree t) (m : List ℕ) (c : Closed t m) (root : marked m 0 ≡ true) where
  -- the new table is a tree,
  pub extracted_tree : Tree (extracted t m)
  extracted_tree =
      record {
        rooted = extracted_inside t m 0 w.rooted root;
        root = extracted_parent t m 0 w.rooted root ∙ ap (rank m) w.root;
        falls = λ r z l.
            rank-onto m (nodes t) r (omega (arith, extracted_nodes t m))
            (λ i li hi e.
            let p = parent_of t i in
            by_cases (ℕ_discrete i 0) (λ d. absurd (let k : rank m i ≡ 0 = ap (rank m) d in omega arith))
            (λ d.
            omega (
              arith,
              ap (parent_of (extracted t m)) (sym e) ∙ extracted_parent t m i li hi,
              rank_lt m p i (w.falls i (omega arith) li) (c i li hi),
            )));
      }

  -- with the same order from a node up to the root,
  pub over_renumbered : (j : ℕ) → marked m j ≡ true → (i : ℕ) → i < nodes t → marked m i ≡ true → over (extracted t m) (rank m i) (rank m j) ≡ over t i j
  over_renumbered j hj =
      climb t w (λ i. marked m i ≡ true → over (extracted t m) (rank m i) (rank m j) ≡ over t i j)
      (λ i l up hi.
      by_cases (ℕ_discrete i 0)
      (λ e.
      subst (λ i. over (extracted t m) (rank m i) (rank m j) ≡ over t i j) (sym e)
      (over_root_alone (extracted t m) extracted_tree (rank m j) ∙ rank_same m 0 j root hj ∙ sym (over_root_alone t w j)))
      (λ e.
      over_up (extracted t m) extracted_tree (rank m i) (rank m j) (extracted_inside t m i l hi) ∙
      ap₂ ◌||◌ (rank_same m i j hi hj)
      (ap (λ p. over (extracted t m) p (rank m j)) (extracted_parent t m i l hi) ∙ up (omega arith) (c i l hi)) ∙
      sym (over_up t w i j l)))

  -- the same children,
  pub child_renumbered : (i j : ℕ) → j < nodes t → marked m i ≡ true → marked m j ≡ true → child_of (extracted t m) (rank m i) (rank m j) ≡ child_of t i j
  child_renumbered i j l hi hj =
      ap₂ (λ a b. not a && b) (rank_same m j 0 hj root)
      (ap (λ p. eqb p (rank m i)) (extracted_parent t m j l hj) ∙ rank_same m (parent_of t j) i (c j l hj) hi)

  -- the same descendants,
  pub below_renumbered : (i j : ℕ) → j < nodes t → marked m i ≡ true → marked m j ≡ true → below (extracted t m) (rank m i) (rank m j) ≡ below t i j
  below_renumbered i j l hi hj = ap₂ (λ a b. a && not b) (over_renumbered i hi j l hj) (rank_same m i j hi hj)

  -- the same siblings in the same order,
  pub sibling_renumbered : (i j : ℕ) → i < nodes t → j < nodes t → marked m i ≡ true → marked m j ≡ true
      → sibling_after (extracted t m) (rank m i) (rank m j) ≡ sibling_after t i j
  sibling_renumbered i j li lj hi hj =
      ap₂ ◌&&◌ (ap₂ (λ a b. a && not b) (rank_order m i j hi) (rank_same m i 0 hi root))
      (ap₂ eqb (extracted_parent t m i li hi) (extracted_parent t m j lj hj) ∙ rank_same m (parent_of t i) (parent_of t j) (c i li hi) (c j lj hj))

  -- and the same nodes that come after a node and are not below it.
  pub after_renumbered : (i j : ℕ) → j < nodes t → marked m i ≡ true → marked m j ≡ true → after (extracted t m) (rank m i) (rank m j) ≡ after t i j
  after_renumbered i j l hi hj = ap₂ (λ a b. a && not b) (rank_order m i j hi) (over_renumbered i hi j l hj)

-- Marks that mark a node mark the root.
pub marks_root : (t : Table) → Tree t → (m : List ℕ) → Closed t m → (i : ℕ) → i < nodes t → marked m i ≡ true → marked m 0 ≡ true
marks_root t w m c i l h = over_marked t w m c 0 i l h (over_root t w i l)

-- Narrower marks, in the old numbers and in the new.
module _ (limit : ℕ) (m n fresh : List ℕ) (narrower : (i : ℕ) → i < limit → marked n i ≡ true → marked m i ≡ true)
    (same : (i : ℕ) → i < limit → marked m i ≡ true → marked fresh (rank m i) ≡ marked n i) where
  unmarked : (i : ℕ) → i < limit → marked m i ≡ false → marked n i ≡ false
  unmarked i l h = ⊎_elim (λ p. absurd (false≢true (sym h ∙ narrower i l p))) (λ p. p) (decide (marked n i))

  -- To renumber twice is to renumber once.
  pub rank_twice : (i : ℕ) → i ≤ limit → rank fresh (rank m i) ≡ rank n i
  rank_twice zero l = refl
  rank_twice (suc i) l =
      let ih = rank_twice i (omega arith) in
      ⊎_elim
      (λ h. ap (rank fresh) (rank_next m i h) ∙ ap₂ (λ b r. cond b (suc r) r) (same i (omega arith) h) ih)
      (λ h. ap (rank fresh) (rank_stays m i h) ∙ ih ∙ sym (rank_stays n i (unmarked i (omega arith) h)))
      (decide (marked m i))

  pub pick_twice : (left at less : ℕ) (f g : ℕ → ℕ) → at + left ≤ limit → rank m at + less ≡ rank m (at + left)
      → ((i : ℕ) → i < limit → marked n i ≡ true → g (rank m i) ≡ f i) → pick_from fresh less (rank m at) g ≡ pick_from n left at f
  pick_twice zero at zero f g l e h = refl
  pick_twice zero at (suc less) f g l e h = absurd (omega (arith, ap (rank m) (add-zero at)))
  pick_twice (suc left) at less f g l e h =
      let on : suc at + left ≡ at + suc left = omega arith in
      let la : at < limit = omega arith in
      ⊎_elim
      (λ b.
      let one : rank m (suc at) ≡ suc (rank m at) = rank_next m at b in
      let past : rank m (suc at) ≤ rank m (at + suc left) = rank_le m (suc at) (at + suc left) (omega arith) in
      let fewer : less ≡ suc (less - 1) = omega arith in
      let ih : pick_from fresh (less - 1) (rank m (suc at)) g ≡ pick_from n left (suc at) f =
      pick_twice left (suc at) (less - 1) f g (omega arith) (omega (arith, ap (rank m) on)) h in
      let rest : pick_from fresh (less - 1) (suc (rank m at)) g ≡ pick_from n left (suc at) f = ap (λ r. pick_from fresh (less - 1) r g) (sym one) ∙ ih in
      ap (λ k. pick_from fresh k (rank m at) g) fewer ∙
      ⊎_elim
      (λ d. pick_next fresh (less - 1) (rank m at) g (same at la b ∙ d) ∙ ap₂ ◌∷◌ (h at la d) rest ∙ sym (pick_next n left at f d))
      (λ d. pick_stays fresh (less - 1) (rank m at) g (same at la b ∙ d) ∙ rest ∙ sym (pick_stays n left at f d))
      (decide (marked n at)))
      (λ b.
      let none : rank m (suc at) ≡ rank m at = rank_stays m at b in
      ap (λ r. pick_from fresh less r g) (sym none) ∙
      pick_twice left (suc at) less f g (omega arith) (omega (arith, ap (rank m) on)) h ∙
      sym (pick_stays n left at f (unmarked at la b)))
      (decide (marked m at))

-- A table by its two columns.
two_columns : List ℕ → List ℕ → Table
two_columns ps ks = record { parents = ps; kinds = ks }

by_columns : (t : Table) (m : List ℕ) → extracted t m ≡ two_columns (pick_from m (nodes t) 0 (λ i. rank m (parent_of t i))) (pick_from m (nodes t) 0 (λ i. kind_of t i))
unfolding extracted two_columns
by_columns t m = refl

-- TO EXTRACT TWICE IS TO EXTRACT ONCE, with the narrower marks.
pub extracted_twice : (t : Table) → Tree t → (m n fresh : List ℕ) → ((i : ℕ) → i < nodes t → marked n i ≡ true → marked m i ≡ true)
    → ((i : ℕ) → i < nodes t → marked m i ≡ true → marked fresh (rank m i) ≡ marked n i) → extracted t n ≡ extracted (extracted t m) fresh
extracted_twice t w m n fresh narrower same =
    let p = extracted t m in
    let picked : (f g : ℕ → ℕ) → ((i : ℕ) → i < nodes t → marked n i ≡ true → g (rank m i) ≡ f i) → pick_from n (nodes t) 0 f ≡ pick_from fresh (nodes p) 0 g =
    λ f g h.
    let whole : 0 + nodes t ≡ nodes t = omega arith in
    sym (pick_twice (nodes t) m n fresh narrower same (nodes t) 0 (nodes p) f g (omega arith) (omega (arith, extracted_nodes t m, ap (rank m) whole)) h) in
    by_columns t n ∙
    ap₂ two_columns
    (picked (λ i. rank n (parent_of t i)) (λ r. rank fresh (parent_of p r))
    (λ i l h.
    ap (rank fresh) (extracted_parent t m i l (narrower i l h)) ∙
    rank_twice (nodes t) m n fresh narrower same (parent_of t i) (omega (arith, parent_le t w i l))))
    (picked (λ i. kind_of t i) (λ r. kind_of p r) (λ i l h. extracted_kind t m i l (narrower i l h))) ∙
    sym (by_columns p fresh)
