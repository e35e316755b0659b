-- The pass along preceding-sibling: the bytes before each turn, how they start, what a turn makes of them, and that they end as the image. Assumes nothing.
use Prim.Native.Nat.{ℕ, ◌+◌, ◌-◌, ◌*◌, ◌/◌, ◌%◌, ◌≤◌, ◌<◌}
use native.Mathlib.Omega.{arith}
use native.Mathlib.Decide.{ℕ_discrete}
use mathlib.Core.Path.{◌≡◌, refl, sym, ◌∙◌, ap, ap₂, subst}
use mathlib.Core.Bool.{Bool, true, false, ◌&&◌, ◌||◌, cond}
use mathlib.Core.List.{List}
use mathlib.Core.Logic.{⊎_elim, by_cases}
use lib.Bits.{bit_or}
use lib.Dec.{ltb, leb}
use lib.ListN.{get_or, set}
use borrow.Author.Tests.{lt-ltb, le-ltb, leb-true, le-leb}
use Rattle.paper.specs.Tools.{some_below, column}
use Rattle.paper.specs.Query.{preceding_sibling}
use Rattle.paper.specs.Document.{Table, nodes, parent_of}
use Rattle.paper.specs.Selection.{child_of, sibling_after}
use Rattle.paper.proofs.Tests.{and_true, true_and, or_true, or_left, or_right, agree}
use Rattle.paper.proofs.Searches.{some_intro, some-elim, column_at, column_same}
use Rattle.paper.proofs.Trees.{Tree}
use Rattle.sets.specs.Sets.{bits, image}
use Rattle.sets.proofs.Bits.{side, bit, or_none, and_none, and_all}
use Rattle.vertical.proofs.Axes.{some_none, child_intro, child_elim, not_child}
use Rattle.vertical.proofs.Leading.{image_intro, image-elim, sibling_intro, sibling_elim}
use Rattle.sideways.proofs.Twins.{twin, first_bit, second_bit, tells, set_one, set_two}

module _ (t : Table) (f : ℕ → Bool) where
  -- A child of k from i on was in the set.
  child_from : ℕ → ℕ → Bool
  child_from i k = some_below (nodes t) (λ j. leb i j && (f j && child_of t k j))

  -- Before the turn at i - 1 the nodes from i on are done, and the others say in their second bit whether a child from i on was in the set.
  pub ahead_state : ℕ → ℕ → ℕ
  ahead_state i k = cond (ltb k i) (twin (f k) (child_from i k)) (bit (image t preceding_sibling f k))

module _ (t : Table) (w : Tree t) (f : ℕ → Bool) where
  from_intro : (i k j : ℕ) → j < nodes t → i ≤ j → f j ≡ true → child_of t k j ≡ true → child_from t f i k ≡ true
  unfolding child_from
  from_intro i k j l b p q = some_intro (nodes t) (λ j. leb i j && (f j && child_of t k j)) j l (true_and (le-leb i j b) (true_and p q))

  from-elim {ℓ} : {C : Type ℓ} (i k : ℕ) → child_from t f i k ≡ true → ((j : ℕ) → j < nodes t → i ≤ j → f j ≡ true → child_of t k j ≡ true → C) → C
  unfolding child_from
  from-elim i k h next =
      some-elim (nodes t) (λ j. leb i j && (f j && child_of t k j)) h
      (λ j l q.
      let r = and_true (leb i j) (f j && child_of t k j) q in
      let u = and_true (f j) (child_of t k j) r.1 in
      next j l (leb-true i j r.0) u.0 u.1)

  from_none : (k : ℕ) → child_from t f (nodes t) k ≡ false
  unfolding child_from
  from_none k =
      some_none (nodes t) (λ j. leb (nodes t) j && (f j && child_of t k j))
      (λ j l h. omega (arith, leb-true (nodes t) j (and_true (leb (nodes t) j) (f j && child_of t k j) h).0))

  -- What m tells goes to its parent alone.
  from_more : (m k : ℕ) → m < nodes t → child_from t f m k ≡ (child_from t f (m + 1) k || (f m && child_of t k m))
  from_more m k l =
      agree (child_from t f m k) (child_from t f (m + 1) k || (f m && child_of t k m))
      (λ h. from-elim m k h
      (λ j u b p q. by_cases (ℕ_discrete j m)
      (λ e. or_right (child_from t f (m + 1) k) (true_and (subst (λ x. f x ≡ true) e p) (subst (λ x. child_of t k x ≡ true) e q)))
      (λ e. or_left (f m && child_of t k m) (from_intro (m + 1) k j u (omega arith) p q))))
      (λ h. ⊎_elim (λ s. from-elim (m + 1) k s (λ j u b p q. from_intro m k j u (omega arith) p q))
      (λ s. let r = and_true (f m) (child_of t k m) s in from_intro m k m l (omega arith) r.0 r.1)
      (or_true (child_from t f (m + 1) k) (f m && child_of t k m) h))

  -- A node is reached if a child of its parent behind it was in the set.
  ahead_image : (m : ℕ) → 0 < m → m < nodes t → image t preceding_sibling f m ≡ child_from t f (m + 1) (parent_of t m)
  ahead_image m z l =
      agree (image t preceding_sibling f m) (child_from t f (m + 1) (parent_of t m))
      (λ h. image-elim t preceding_sibling f m h
      (λ j b p q. let r = sibling_elim t m j q in from_intro (m + 1) (parent_of t m) j b (omega (arith, r.0)) p (child_intro t (parent_of t m) j (omega (arith, r.0)) (sym r.1.1))))
      (λ h. from-elim (m + 1) (parent_of t m) h
      (λ j b a p q. image_intro t preceding_sibling f m j b p (sibling_intro t m j (omega arith) z (sym (child_elim t (parent_of t m) j q).1))))

  ahead_left : (i k : ℕ) → k < i → ahead_state t f i k ≡ twin (f k) (child_from t f i k)
  unfolding ahead_state
  ahead_left i k l = rw (lt-ltb k i l)

  ahead_done : (i k : ℕ) → i ≤ k → ahead_state t f i k ≡ bit (image t preceding_sibling f k)
  unfolding ahead_state
  ahead_done i k l = rw (le-ltb k i l)

  pub ahead_start : (i : ℕ) → i ≡ nodes t → bits (nodes t) f ≡ column (nodes t) (ahead_state t f i)
  ahead_start i e =
      column_same (nodes t) 0 (λ k. bit (f k)) (ahead_state t f i)
      (λ k _ l. sym (ahead_left i k (omega arith) ∙ ap (twin (f k)) (ap (λ x. child_from t f x k) e ∙ from_none k)))

  -- The node whose turn it is takes what its parent says,
  ahead_here : (m : ℕ) → 0 < m → m < nodes t → get_or (column (nodes t) (ahead_state t f (m + 1))) (parent_of t m) 0 / 2 ≡ ahead_state t f m m
  ahead_here m z l =
      let p = parent_of t m in
      let down : p < m = w.falls m z l in
      ap (λ x. x / 2) (column_at (nodes t) (ahead_state t f (m + 1)) 0 p (omega arith) ∙ ahead_left (m + 1) p (omega arith))
      ∙ second_bit (f p) (child_from t f (m + 1) p)
      ∙ ap bit (sym (ahead_image m z l))
      ∙ sym (ahead_done m m (omega arith))

  -- the parent then says what it had,
  ahead_parent : (m : ℕ) → 0 < m → m < nodes t
      → bit_or (get_or (column (nodes t) (ahead_state t f (m + 1))) (parent_of t m) 0) (get_or (column (nodes t) (ahead_state t f (m + 1))) m 0 % 2 * 2) ≡ ahead_state t f m (parent_of t m)
  ahead_parent m z l =
      let p = parent_of t m in
      let down : p < m = w.falls m z l in
      ap₂ bit_or (column_at (nodes t) (ahead_state t f (m + 1)) 0 p (omega arith) ∙ ahead_left (m + 1) p (omega arith))
      (ap (λ x. x % 2 * 2) (column_at (nodes t) (ahead_state t f (m + 1)) 0 m l ∙ ahead_left (m + 1) m (omega arith)) ∙ ap (λ x. x * 2) (first_bit (f m) (child_from t f (m + 1) m)))
      ∙ tells (f p) (child_from t f (m + 1) p) (f m)
      ∙ ap (twin (f p)) (ap (λ x. child_from t f (m + 1) p || x) (sym (and_all (f m) (child_intro t p m z refl))) ∙ sym (from_more m p l))
      ∙ sym (ahead_left m p down)

  -- and the others stay.
  ahead_same : (m k : ℕ) → m < nodes t → (k ≡ m → ⊥) → (k ≡ parent_of t m → ⊥) → ahead_state t f (m + 1) k ≡ ahead_state t f m k
  ahead_same m k l d o =
      ⊎_elim
      (λ s.
      ahead_left (m + 1) k (omega arith)
      ∙ ap (twin (f k)) (sym (from_more m k l ∙ or_none (child_from t f (m + 1) k) (and_none (f m) (not_child t k m (λ e. o (sym e))))))
      ∙ sym (ahead_left m k s))
      (λ s. ahead_done (m + 1) k (by_cases (ℕ_discrete k m) (λ e. absurd (d e)) (λ e. omega arith)) ∙ sym (ahead_done m k s))
      (side k m)

  pub ahead_turn : (list : List ℕ) (i : ℕ) → 1 < i → i ≤ nodes t → list ≡ column (nodes t) (ahead_state t f i)
      → set (set list (i - 1) (get_or list (parent_of t (i - 1)) 0 / 2)) (parent_of t (i - 1)) (bit_or (get_or list (parent_of t (i - 1)) 0) (get_or list (i - 1) 0 % 2 * 2))
      ≡ column (nodes t) (ahead_state t f (i - 1))
  ahead_turn list i z l e =
      let n = nodes t in
      let m = i - 1 in
      let p = parent_of t m in
      let q : i ≡ m + 1 = omega arith in
      let here : m < n = omega arith in
      let up : 0 < m = omega arith in
      let bytes = column n (ahead_state t f (m + 1)) in
      let whole : list ≡ bytes = e ∙ ap (λ x. column n (ahead_state t f x)) q in
      rw whole
      (set_two n (ahead_state t f (m + 1)) (ahead_state t f m) m p (get_or bytes p 0 / 2) (bit_or (get_or bytes p 0) (get_or bytes m 0 % 2 * 2)) here (omega (arith, w.falls m up here))
      (ahead_here m up here)
      (ahead_parent m up here)
      (λ k b d o. ahead_same m k here d o))

  -- The root comes before nobody that has its parent.
  ahead_none : image t preceding_sibling f 0 ≡ false
  unfolding image
  ahead_none = some_none (nodes t) (λ j. f j && sibling_after t 0 j) (λ j _ h. omega (arith, (sibling_elim t 0 j (and_true (f j) (sibling_after t 0 j) h).1).1.0))

  pub ahead_end : (list : List ℕ) (i : ℕ) → i ≡ 1 → list ≡ column (nodes t) (ahead_state t f i) → set list 0 0 ≡ bits (nodes t) (image t preceding_sibling f)
  ahead_end list i z e =
      rw e
      (set_one (nodes t) (ahead_state t f i) (λ k. bit (image t preceding_sibling f k)) 0 0 w.rooted (ap bit (sym ahead_none))
      (λ k b d. ahead_done i k (by_cases (ℕ_discrete k 0) (λ q. absurd (d q)) (λ q. omega arith))))
