-- The pass along preceding, over a set that has all above its nodes: the set that the bytes are before each turn, the least parent of the nodes passed, how both start, what a turn makes of them, and that the set ends as the image. Assumes nothing.
use Prim.Native.Nat.{ℕ, ◌+◌, ◌-◌, ◌≤◌, ◌<◌}
use native.Mathlib.Omega.{arith}
use native.Mathlib.Decide.{ℕ_discrete}
use mathlib.Core.Path.{◌≡◌, refl, sym, ◌∙◌, ap, subst}
use mathlib.Core.Bool.{Bool, true, false, ◌&&◌, cond, false≢true}
use mathlib.Core.List.{List}
use mathlib.Core.Logic.{◌⊎◌, inl, inr, ⊎_elim, by_cases}
use mir.Val.{bool_byte}
use lib.Dec.{eqb, ltb}
use lib.ListN.{length, get_or, set}
use borrow.Author.Tests.{ltb-true, ltb-false, lt-ltb, le-ltb}
use Rattle.paper.specs.Query.{ancestor_or_self, preceding}
use Rattle.paper.specs.Document.{Table, nodes, parent_of, over, table_of}
use Rattle.paper.specs.Selection.{after}
use Rattle.paper.proofs.Tests.{and_true, agree}
use Rattle.paper.proofs.Trees.{Tree, over_self, over_parent, over-cases, over_trans, over_row, over_root}
use Rattle.sets.specs.Sets.{bits, image}
use Rattle.sets.proofs.Bits.{side, bit, bits_at, bits_same, bits_set, byte_bit}
use Rattle.vertical.proofs.Axes.{some_none}
use Rattle.vertical.proofs.Leading.{image_intro, image-elim, after_intro, after_elim, over_le, crossing}

module _ (t : Table) (f : ℕ → Bool) where
  -- The least parent of the nodes from i on that are in the set or above a node of it; no node where there are none.
  pub record Lowest (low i : ℕ) : Type 0 where
    pub upto : (c : ℕ) → i ≤ c → c < nodes t → image t ancestor_or_self f c ≡ true → low ≤ parent_of t c
    pub is : (nodes t ≤ low) ⊎ ((c : ℕ) × ((i ≤ c) × ((c < nodes t) × ((image t ancestor_or_self f c ≡ true) × (parent_of t c ≡ low)))))

  -- Before the turn at i - 1 the nodes from i on are done.
  pub precede_state : ℕ → ℕ → Bool
  precede_state i k = cond (ltb k i) (image t ancestor_or_self f k) (image t preceding f k)

  -- Before the first turn no node is passed.
  pub lowest_start : (low i : ℕ) → low ≡ nodes t → i ≡ nodes t → Lowest low i
  lowest_start low i e s = record { upto = λ c a b h. absurd (omega arith); is = inl (omega arith) }

  -- A node that is not in the set changes nothing;
  lowest_same : (low m : ℕ) → image t ancestor_or_self f m ≡ false → Lowest low (m + 1) → Lowest low m
  lowest_same low m e p =
      record {
        upto = λ c a b h. by_cases (ℕ_discrete c m) (λ s. absurd (false≢true (sym e ∙ subst (λ x. image t ancestor_or_self f x ≡ true) s h))) (λ s. p.upto c (omega arith) b h);
        is = ⊎_elim (λ s. inl s) (λ s. inr (s.0, (omega (arith, s.1.0), s.1.1))) p.is;
      }

  -- nor does one whose parent is no less;
  lowest_above : (low m : ℕ) → low ≤ parent_of t m → Lowest low (m + 1) → Lowest low m
  lowest_above low m l p =
      record {
        upto = λ c a b h. by_cases (ℕ_discrete c m) (λ s. subst (λ x. low ≤ parent_of t x) (sym s) l) (λ s. p.upto c (omega arith) b h);
        is = ⊎_elim (λ s. inl s) (λ s. inr (s.0, (omega (arith, s.1.0), s.1.1))) p.is;
      }

  -- another's parent is the least from its turn on.
  lowest_new : (low m : ℕ) → m < nodes t → image t ancestor_or_self f m ≡ true → parent_of t m < low → Lowest low (m + 1) → Lowest (parent_of t m) m
  lowest_new low m b e l p =
      record {
        upto = λ c a u h. by_cases (ℕ_discrete c m) (λ s. subst (λ x. parent_of t m ≤ parent_of t x) (sym s) (omega arith)) (λ s. omega (arith, p.upto c (omega arith) u h));
        is = inr (m, (omega arith, (b, (e, refl))));
      }

  lowest_next : (low m : ℕ) (b c : Bool) → m < nodes t → image t ancestor_or_self f m ≡ b → ltb (parent_of t m) low ≡ c → Lowest low (m + 1)
      → Lowest (cond (eqb (bit b) 1 && c) (parent_of t m) low) m
  lowest_next low m true true l e s p = lowest_new low m l e (ltb-true (parent_of t m) low s) p
  lowest_next low m true false l e s p = lowest_above low m (ltb-false (parent_of t m) low s) p
  lowest_next low m false c l e s p = lowest_same low m e p

-- The invariant of the pass at i.
pub record Heading (parents old list : List ℕ) (low i : ℕ) : Type 0 where
  pub least : 1 ≤ i
  pub most : i ≤ length parents
  pub sizes : length list ≡ length parents
  pub stands : (kinds : List ℕ) (f : ℕ → Bool) → old ≡ bits (length parents) (image (table_of parents kinds) ancestor_or_self f)
      → (list ≡ bits (length parents) (precede_state (table_of parents kinds) f i)) × Lowest (table_of parents kinds) f low i

module _ (t : Table) (w : Tree t) (f : ℕ → Bool) where
  precede_left : (i k : ℕ) → k < i → precede_state t f i k ≡ image t ancestor_or_self f k
  unfolding precede_state
  precede_left i k l = rw (lt-ltb k i l)

  precede_done : (i k : ℕ) → i ≤ k → precede_state t f i k ≡ image t preceding f k
  unfolding precede_state
  precede_done i k l = rw (le-ltb k i l)

  -- Nothing comes after the root that is not below it.
  precede_none : image t preceding f 0 ≡ false
  unfolding image
  precede_none = some_none (nodes t) (λ j. f j && after t 0 j) (λ j l h. (after_elim t 0 j (and_true (f j) (after t 0 j) h).1).1 (over_root t w j l))

  -- A node precedes one of the set if the way up from that one passes it by: from a node behind it to a parent before it.
  precede_image : (m low : ℕ) → m < nodes t → Lowest t f low (m + 1) → image t preceding f m ≡ ltb low m
  precede_image m low l lowest =
      agree (image t preceding f m) (ltb low m)
      (λ h. image-elim t preceding f m h
      (λ j b u v.
      let r = after_elim t m j v in
      crossing t w m j b r.0
      (λ c k a p o.
      let least = lowest.upto c (omega arith) k (image_intro t ancestor_or_self f c j b u o) in
      lt-ltb low m
      (by_cases (ℕ_discrete (parent_of t c) m)
      (λ e. absurd (r.1 (over_trans t w c m j b o (over_parent t w c m k (ap (λ x. over t x m) e ∙ over_self t w m l)))))
      (λ e. omega arith)))))
      (λ h.
      let near : low < m = ltb-true low m h in
      ⊎_elim (λ s. absurd (omega arith))
      (λ s.
      let c = s.0 in
      let behind : m + 1 ≤ c = s.1.0 in
      let inside : c < nodes t = s.1.1.0 in
      let parent_low : parent_of t c ≡ low = s.1.1.1.1 in
      image-elim t ancestor_or_self f c s.1.1.1.0
      (λ j b u o.
      image_intro t preceding f m j b u
      (after_intro t m j (omega (arith, over_le t w c j b o))
      (λ a. ⊎_elim
      (λ x. over-cases t w c m inside x (λ e. omega arith) (λ z y. omega (arith, over_le t w m (parent_of t c) (omega arith) y)))
      (λ x. omega (arith, over_le t w c m l x))
      (over_row t w c m j b o a)))))
      lowest.is)

  pub precede_start : (i : ℕ) → i ≡ nodes t → bits (nodes t) (image t ancestor_or_self f) ≡ bits (nodes t) (precede_state t f i)
  precede_start i e = bits_same (nodes t) (image t ancestor_or_self f) (precede_state t f i) (λ k l. sym (precede_left i k (omega arith)))

  pub precede_turn : (list : List ℕ) (i low : ℕ) → 1 < i → i ≤ nodes t → list ≡ bits (nodes t) (precede_state t f i) → Lowest t f low i
      → set list (i - 1) (bool_byte (ltb low (i - 1))) ≡ bits (nodes t) (precede_state t f (i - 1))
  precede_turn list i low z l e lowest =
      let m = i - 1 in
      let q : i ≡ m + 1 = omega arith in
      rw e
      (bits_set (nodes t) (precede_state t f i) (precede_state t f m) m (bool_byte (ltb low m)) (omega arith)
      (byte_bit (ltb low m) ∙ ap bit (sym (precede_done m m (omega arith) ∙ precede_image m low (omega arith) (subst (Lowest t f low) q lowest))))
      (λ k b d.
      ⊎_elim (λ s. precede_left i k (omega arith) ∙ sym (precede_left m k s))
      (λ s. precede_done i k (by_cases (ℕ_discrete k m) (λ x. absurd (d x)) (λ x. omega arith)) ∙ sym (precede_done m k s))
      (side k m)))

  pub lowest_turn : (list : List ℕ) (i low next : ℕ) → 1 < i → i ≤ nodes t → list ≡ bits (nodes t) (precede_state t f i) → Lowest t f low i
      → next ≡ cond (eqb (get_or list (i - 1) 0) 1 && ltb (parent_of t (i - 1)) low) (parent_of t (i - 1)) low → Lowest t f next (i - 1)
  lowest_turn list i low next z l e lowest s =
      let m = i - 1 in
      let q : i ≡ m + 1 = omega arith in
      let own : get_or list m 0 ≡ bit (image t ancestor_or_self f m) = bits_at (nodes t) (precede_state t f i) e m (omega arith) ∙ ap bit (precede_left i m (omega arith)) in
      subst (λ x. Lowest t f x m) (sym (s ∙ ap (λ x. cond (eqb x 1 && ltb (parent_of t m) low) (parent_of t m) low) own))
      (lowest_next t f low m (image t ancestor_or_self f m) (ltb (parent_of t m) low) (omega arith) refl refl (subst (Lowest t f low) q lowest))

  pub precede_end : (list : List ℕ) (i : ℕ) → i ≡ 1 → list ≡ bits (nodes t) (precede_state t f i) → set list 0 0 ≡ bits (nodes t) (image t preceding f)
  precede_end list i z e =
      rw e
      (bits_set (nodes t) (precede_state t f i) (image t preceding f) 0 0 w.rooted (ap bit (sym precede_none)) (λ k b d. precede_done i k (by_cases (ℕ_discrete k 0) (λ q. absurd (d q)) (λ q. omega arith))))
