-- The pass along ancestor-or-self: the set that the bytes are before each turn, how that starts, what a turn makes of it, and that it ends as the image. Assumes nothing.
use Prim.Native.Nat.{ℕ, ◌+◌, ◌-◌, ◌≤◌, ◌<◌}
use native.Mathlib.Omega.{arith}
use native.Mathlib.Decide.{ℕ_discrete}
use mathlib.Core.Path.{◌≡◌, refl, sym, ◌∙◌, ap, ap₂, subst}
use mathlib.Core.Bool.{Bool, true, ◌&&◌, ◌||◌}
use mathlib.Core.List.{List}
use mathlib.Core.Logic.{⊎_elim, by_cases}
use lib.Bits.{bit_or}
use lib.Dec.{leb}
use lib.ListN.{get_or, set}
use borrow.Author.Tests.{leb-true, le-leb}
use Rattle.paper.specs.Tools.{some_below}
use Rattle.paper.specs.Query.{ancestor_or_self}
use Rattle.paper.specs.Document.{Table, nodes, parent_of, over}
use Rattle.paper.specs.Selection.{child_of}
use Rattle.paper.proofs.Tests.{and_true, true_and, or_true, or_left, or_right, agree}
use Rattle.paper.proofs.Searches.{some_intro, some-elim}
use Rattle.paper.proofs.Trees.{Tree, over_self, over_parent, over-cases, over_trans, climb}
use Rattle.sets.specs.Sets.{bits, image}
use Rattle.sets.proofs.Bits.{bit, bits_at, bits_same, bits_set, or_bits, or_none}
use Rattle.vertical.proofs.Axes.{child_intro, child_elim, not_child}

module _ (t : Table) (f : ℕ → Bool) where
  -- Ancestor or self: before the turn at i - 1 the nodes from i on have handed on what they have, which is theirs for good.
  pub above_state : ℕ → ℕ → Bool
  above_state i k = f k || some_below (nodes t) (λ j. leb i j && (child_of t k j && image t ancestor_or_self f j))

module _ (t : Table) (w : Tree t) (f : ℕ → Bool) where
  -- Ancestor or self: a node has what it had and what its children have.
  above_intro : (i k j : ℕ) → j < nodes t → i ≤ j → child_of t k j ≡ true → image t ancestor_or_self f j ≡ true → above_state t f i k ≡ true
  unfolding above_state
  above_intro i k j l b h g =
      or_right (f k) (some_intro (nodes t) (λ j. leb i j && (child_of t k j && image t ancestor_or_self f j)) j l (true_and (le-leb i j b) (true_and h g)))

  above_self : (i k : ℕ) → f k ≡ true → above_state t f i k ≡ true
  unfolding above_state
  above_self i k h = or_left (some_below (nodes t) (λ j. leb i j && (child_of t k j && image t ancestor_or_self f j))) h

  above-elim {ℓ} : {C : Type ℓ} (i k : ℕ) → above_state t f i k ≡ true → (f k ≡ true → C)
      → ((j : ℕ) → j < nodes t → i ≤ j → child_of t k j ≡ true → image t ancestor_or_self f j ≡ true → C) → C
  unfolding above_state
  above-elim i k h own of-child =
      let test : ℕ → Bool = λ j. leb i j && (child_of t k j && image t ancestor_or_self f j) in
      ⊎_elim own
      (λ s. some-elim (nodes t) test s
      (λ j l q.
      let r = and_true (leb i j) (child_of t k j && image t ancestor_or_self f j) q in
      let u = and_true (child_of t k j) (image t ancestor_or_self f j) r.1 in
      of-child j l (leb-true i j r.0) u.0 u.1))
      (or_true (f k) (some_below (nodes t) test) h)

  -- The way up from j ends at k in a step from a child of k, unless it is j's own.
  pub last_step {ℓ} : {C : Type ℓ} (k : ℕ) → (j : ℕ) → j < nodes t → over t j k ≡ true → (j ≡ k → C)
      → ((c : ℕ) → c < nodes t → child_of t k c ≡ true → over t j c ≡ true → C) → C
  last_step {C = C} k =
      climb t w (λ j. over t j k ≡ true → (j ≡ k → C) → ((c : ℕ) → c < nodes t → child_of t k c ≡ true → over t j c ≡ true → C) → C)
      (λ j l up h same step.
      over-cases t w j k l h same
      (λ z p. up z p (λ e. step j l (child_intro t k j z e) (over_self t w j l)) (λ c b g o. step c b g (over_parent t w j c l o))))

  above_found : (k j : ℕ) → j < nodes t → f j ≡ true → over t j k ≡ true → image t ancestor_or_self f k ≡ true
  unfolding image
  above_found k j l h o = some_intro (nodes t) (λ j. f j && over t j k) j l (true_and h o)

  above-whence {ℓ} : {C : Type ℓ} (k : ℕ) → image t ancestor_or_self f k ≡ true → ((j : ℕ) → j < nodes t → f j ≡ true → over t j k ≡ true → C) → C
  unfolding image
  above-whence k h next = some-elim (nodes t) (λ j. f j && over t j k) h (λ j l q. let r = and_true (f j) (over t j k) q in next j l r.0 r.1)

  -- Once all children of k have handed on, k is done.
  above_done : (i k : ℕ) → i ≤ k + 1 → k < nodes t → above_state t f i k ≡ image t ancestor_or_self f k
  above_done i k b l =
      agree (above_state t f i k) (image t ancestor_or_self f k)
      (λ h. above-elim i k h (λ s. above_found k k l s (over_self t w k l))
      (λ c m _ g s. above-whence c s
      (λ j u q o.
      above_found k j u q
      (over_trans t w c k j u o (over_parent t w c k m (ap (λ x. over t x k) (child_elim t k c g).1 ∙ over_self t w k l))))))
      (λ h. above-whence k h
      (λ j u q o. last_step k j u o (λ e. above_self i k (subst (λ x. f x ≡ true) e q))
      (λ c m g v. let r = child_elim t k c g in above_intro i k c m (omega (arith, w.falls c r.0 m, r.1)) g (above_found c j u q v))))

  -- What m hands on goes to its parent alone.
  above_more : (m k : ℕ) → m < nodes t → above_state t f m k ≡ (above_state t f (m + 1) k || (child_of t k m && above_state t f (m + 1) m))
  above_more m k l =
      let final : above_state t f (m + 1) m ≡ image t ancestor_or_self f m = above_done (m + 1) m (omega arith) l in
      agree (above_state t f m k) (above_state t f (m + 1) k || (child_of t k m && above_state t f (m + 1) m))
      (λ h. above-elim m k h (λ s. or_left (child_of t k m && above_state t f (m + 1) m) (above_self (m + 1) k s))
      (λ j u b g s. by_cases (ℕ_discrete j m)
      (λ e. or_right (above_state t f (m + 1) k) (true_and (subst (λ x. child_of t k x ≡ true) e g) (final ∙ subst (λ x. image t ancestor_or_self f x ≡ true) e s)))
      (λ e. or_left (child_of t k m && above_state t f (m + 1) m) (above_intro (m + 1) k j u (omega arith) g s))))
      (λ h. ⊎_elim (λ s. above-elim (m + 1) k s (above_self m k) (λ j u b g v. above_intro m k j u (omega arith) g v))
      (λ s. let r = and_true (child_of t k m) (above_state t f (m + 1) m) s in above_intro m k m l (omega arith) r.0 (sym final ∙ r.1))
      (or_true (above_state t f (m + 1) k) (child_of t k m && above_state t f (m + 1) m) h))

  pub above_start : (i : ℕ) → i ≡ nodes t → bits (nodes t) f ≡ bits (nodes t) (above_state t f i)
  above_start i e =
      bits_same (nodes t) f (above_state t f i)
      (λ k l. agree (f k) (above_state t f i k) (above_self i k) (λ h. above-elim i k h (λ s. s) (λ j u b g s. absurd (omega arith))))

  pub above_turn : (list : List ℕ) (i : ℕ) → 1 < i → i ≤ nodes t → list ≡ bits (nodes t) (above_state t f i)
      → set list (parent_of t (i - 1)) (bit_or (get_or list (parent_of t (i - 1)) 0) (get_or list (i - 1) 0)) ≡ bits (nodes t) (above_state t f (i - 1))
  above_turn list i z l e =
      let n = nodes t in
      let m = i - 1 in
      let p = parent_of t m in
      let down : p < m = w.falls m (omega arith) (omega arith) in
      let q : i ≡ m + 1 = omega arith in
      let more : (k : ℕ) → above_state t f m k ≡ (above_state t f i k || (child_of t k m && above_state t f i m)) = λ k. subst (λ x. above_state t f m k ≡ (above_state t f x k || (child_of t k m && above_state t f x m))) (sym q) (above_more m k (omega arith)) in
      rw e
      (bits_set n (above_state t f i) (above_state t f m) p (bit_or (get_or (bits n (above_state t f i)) p 0) (get_or (bits n (above_state t f i)) m 0)) (omega arith)
      (ap₂ bit_or (bits_at n (above_state t f i) refl p (omega arith)) (bits_at n (above_state t f i) refl m (omega arith))
      ∙ or_bits (above_state t f i p) (above_state t f i m)
      ∙ ap bit (sym (more p ∙ ap (λ x. above_state t f i p || (x && above_state t f i m)) (child_intro t p m (omega arith) refl))))
      (λ k b d.
      sym (more k ∙ ap (λ x. above_state t f i k || (x && above_state t f i m)) (not_child t k m (λ s. d (sym s))) ∙ or_none (above_state t f i k) refl)))

  pub above_end : (i : ℕ) → i ≡ 1 → bits (nodes t) (above_state t f i) ≡ bits (nodes t) (image t ancestor_or_self f)
  above_end i e = bits_same (nodes t) (above_state t f i) (image t ancestor_or_self f) (λ k l. above_done i k (omega arith) l)
