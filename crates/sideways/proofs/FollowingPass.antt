-- The pass along following: the set that the bytes are before each turn, the last node of the set so far, how both start, what a turn makes of them, and that the set ends as the image. Assumes nothing.
use Prim.Native.Nat.{ℕ, ◌+◌, ◌≤◌, ◌<◌}
use native.Mathlib.Omega.{arith}
use native.Mathlib.Decide.{ℕ_discrete}
use mathlib.Core.Path.{◌≡◌, refl, sym, ◌∙◌, ap, ap₂, subst}
use mathlib.Core.Bool.{Bool, true, false, not, ◌&&◌, ◌||◌, cond, false≢true}
use mathlib.Core.List.{List}
use mathlib.Core.Logic.{◌⊎◌, inl, inr, ⊎_elim, by_cases}
use mir.Val.{bool_byte}
use lib.Bits.{bit_or}
use lib.Dec.{eqb, ltb}
use lib.ListN.{length, get_or, set}
use lib.Seq.{get_or-set_same}
use borrow.Author.Tests.{ne_eqb, ltb-true, lt-ltb, le-ltb}
use Rattle.paper.specs.Query.{following}
use Rattle.paper.specs.Document.{Table, nodes, parent_of, over, table_of}
use Rattle.paper.specs.Selection.{after}
use Rattle.paper.proofs.Tests.{and_true, true_and, or_true, or_left, or_right, agree}
use Rattle.paper.proofs.Trees.{Tree, over_self, over_parent, over-cases, over_root}
use Rattle.sets.specs.Sets.{bits, image}
use Rattle.sets.proofs.Bits.{side, bit, bits_at, bits_same, bits_set, or_bits, byte_bit, bit_false}
use Rattle.vertical.proofs.Axes.{some_none}
use Rattle.vertical.proofs.Leading.{image_intro, image-elim, after_intro, after_elim, over_le}

-- The last node of the set before i, or the root where there is none.
pub record Latest (f : ℕ → Bool) (last i : ℕ) : Type 0 where
  pub upto : (k : ℕ) → k < i → f k ≡ true → k ≤ last
  pub is : (last ≡ 0) ⊎ ((last < i) × (f last ≡ true))

module _ (t : Table) (f : ℕ → Bool) where
  -- Before the turn at i the nodes before i are done.
  pub follow_state : ℕ → ℕ → Bool
  follow_state i k = cond (ltb k i) (image t following f k) (f k)

-- The invariant of the pass at i.
pub record Trailing (parents old list : List ℕ) (last i : ℕ) : Type 0 where
  pub least : 1 ≤ i
  pub most : i ≤ length parents
  pub sizes : length list ≡ length parents
  pub stands : (kinds : List ℕ) (f : ℕ → Bool) → old ≡ bits (length parents) f → (list ≡ bits (length parents) (follow_state (table_of parents kinds) f i)) × Latest f last i

-- No node before the second is in the set but the root.
pub latest_start : (f : ℕ → Bool) → Latest f 0 1
latest_start f = record { upto = λ k l h. omega arith; is = inl refl }

-- A node of the set is the last one from its turn on.
latest_next : (f : ℕ → Bool) (last i : ℕ) (b : Bool) → f i ≡ b → Latest f last i → Latest f (cond (eqb (bit b) 1) i last) (i + 1)
latest_next f last i true e p = record { upto = λ k l h. omega arith; is = inr (omega arith, e) }
latest_next f last i false e p =
    record {
      upto = λ k l h. by_cases (ℕ_discrete k i) (λ s. absurd (false≢true (sym e ∙ subst (λ x. f x ≡ true) s h))) (λ s. p.upto k (omega arith) h);
      is = ⊎_elim (λ s. inl s) (λ s. inr (omega (arith, s.0), s.1)) p.is;
    }

module _ (t : Table) (w : Tree t) (f : ℕ → Bool) where
  follow_done : (i k : ℕ) → k < i → follow_state t f i k ≡ image t following f k
  unfolding follow_state
  follow_done i k l = rw (lt-ltb k i l)

  follow_left : (i k : ℕ) → i ≤ k → follow_state t f i k ≡ f k
  unfolding follow_state
  follow_left i k l = rw (le-ltb k i l)

  -- Nothing comes before the root.
  follow_none : image t following f 0 ≡ false
  unfolding image
  follow_none = some_none (nodes t) (λ j. f j && after t j 0) (λ j _ h. omega (arith, (after_elim t j 0 (and_true (f j) (after t j 0) h).1).0))

  -- A node follows what its parent follows, and the last node of the set before it if its parent comes before that.
  follow_image : (i last : ℕ) → 0 < i → i < nodes t → Latest f last i → image t following f i ≡ (ltb (parent_of t i) last || image t following f (parent_of t i))
  follow_image i last z l latest =
      let p = parent_of t i in
      let down : p < i = w.falls i z l in
      agree (image t following f i) (ltb p last || image t following f p)
      (λ h. image-elim t following f i h
      (λ j b u v.
      let r = after_elim t j i v in
      ⊎_elim (λ s. or_left (image t following f p) (lt-ltb p last s))
      (λ s.
      or_right (ltb p last)
      (image_intro t following f p j b u
      (after_intro t j p
      (by_cases (ℕ_discrete j p) (λ e. absurd (r.1 (over_parent t w i j l (subst (λ x. over t p x ≡ true) (sym e) (over_self t w p (omega arith))))))
      (λ e. omega (arith, latest.upto j r.0 u)))
      (λ o. r.1 (over_parent t w i j l o)))))
      (side p last)))
      (λ h. ⊎_elim
      (λ s.
      let near : p < last = ltb-true p last s in
      ⊎_elim (λ e. absurd (omega arith))
      (λ q.
      image_intro t following f i last (omega (arith, q.0)) q.1
      (after_intro t last i q.0 (λ o. over-cases t w i last l o (λ e. omega (arith, q.0)) (λ _ a. omega (arith, over_le t w last p (omega arith) a)))))
      latest.is)
      (λ s. image-elim t following f p s
      (λ j b u v.
      let r = after_elim t j p v in
      image_intro t following f i j b u (after_intro t j i (omega (arith, r.0)) (λ o. over-cases t w i j l o (λ e. omega (arith, r.0)) (λ _ a. r.1 a)))))
      (or_true (ltb p last) (image t following f p) h))

  -- The root has been dropped from the set.
  pub follow_start : (list : List ℕ) → length list ≡ nodes t → set list 0 0 ≡ bits (nodes t) f → bits (nodes t) f ≡ bits (nodes t) (follow_state t f 1)
  follow_start list n e =
      let dropped : f 0 ≡ false = bit_false (f 0) (sym (get_or-set_same list 0 0 0 (omega (arith, w.rooted))) ∙ bits_at (nodes t) f e 0 w.rooted) in
      bits_same (nodes t) f (follow_state t f 1)
      (λ k l.
      ⊎_elim (λ s. let q : k ≡ 0 = omega arith in ap f q ∙ dropped ∙ sym (follow_done 1 k s ∙ ap (image t following f) q ∙ follow_none)) (λ s. sym (follow_left 1 k s)) (side k 1))

  pub follow_turn : (list : List ℕ) (i last : ℕ) → 0 < i → i < nodes t → list ≡ bits (nodes t) (follow_state t f i) → Latest f last i
      → set list i (bit_or (bool_byte (ltb (parent_of t i) last)) (get_or list (parent_of t i) 0)) ≡ bits (nodes t) (follow_state t f (i + 1))
  follow_turn list i last z l e latest =
      let n = nodes t in
      let p = parent_of t i in
      let down : p < i = w.falls i z l in
      rw e
      (bits_set n (follow_state t f i) (follow_state t f (i + 1)) i (bit_or (bool_byte (ltb p last)) (get_or (bits n (follow_state t f i)) p 0)) l
      (ap₂ bit_or (byte_bit (ltb p last)) (bits_at n (follow_state t f i) refl p (omega arith) ∙ ap bit (follow_done i p down))
      ∙ or_bits (ltb p last) (image t following f p)
      ∙ ap bit (sym (follow_done (i + 1) i (omega arith) ∙ follow_image i last z l latest)))
      (λ k b d.
      ⊎_elim (λ s. follow_done i k s ∙ sym (follow_done (i + 1) k (omega arith)))
      (λ s. follow_left i k s ∙ sym (follow_left (i + 1) k (by_cases (ℕ_discrete k i) (λ q. absurd (d q)) (λ q. omega arith))))
      (side k i)))

  pub latest_turn : (list : List ℕ) (i last next : ℕ) → i < nodes t → list ≡ bits (nodes t) (follow_state t f i) → Latest f last i
      → next ≡ cond (eqb (get_or list i 0) 1) i last → Latest f next (i + 1)
  latest_turn list i last next l e latest s =
      let own : get_or list i 0 ≡ bit (f i) = bits_at (nodes t) (follow_state t f i) e i l ∙ ap bit (follow_left i i (omega arith)) in
      subst (λ x. Latest f x (i + 1)) (sym (s ∙ ap (λ x. cond (eqb x 1) i last) own)) (latest_next f last i (f i) refl latest)

module _ (t : Table) (w : Tree t) (f : ℕ → Bool) where
  -- Nothing follows the root, so it is dropped first.
  follow_rootless : (k : ℕ) → k < nodes t → image t following (λ k. not (eqb k 0) && f k) k ≡ image t following f k
  follow_rootless k l =
      let rest : ℕ → Bool = λ k. not (eqb k 0) && f k in
      agree (image t following rest k) (image t following f k)
      (λ h. image-elim t following rest k h (λ j b u v. image_intro t following f k j b (and_true (not (eqb j 0)) (f j) u).1 v))
      (λ h. image-elim t following f k h
      (λ j b u v.
      by_cases (ℕ_discrete j 0) (λ e. absurd ((after_elim t j k v).1 (subst (λ x. over t k x ≡ true) (sym e) (over_root t w k l))))
      (λ e. image_intro t following rest k j b (true_and (ap not (ne_eqb j 0 e)) u) v)))

  pub follow_end : (i : ℕ) → i ≡ nodes t → bits (nodes t) (follow_state t (λ k. not (eqb k 0) && f k) i) ≡ bits (nodes t) (image t following f)
  follow_end i e =
      let rest : ℕ → Bool = λ k. not (eqb k 0) && f k in
      bits_same (nodes t) (follow_state t rest i) (image t following f) (λ k l. follow_done t w rest i k (omega arith) ∙ follow_rootless k l)
