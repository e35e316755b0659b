-- The pass along following-sibling: the bytes before each turn, how they start, what a turn makes of them, and that their first bits end as the image. Assumes nothing.
use Prim.Native.Nat.{ℕ, ◌+◌, ◌*◌, ◌/◌, ◌%◌, ◌≤◌, ◌<◌}
use native.Mathlib.Omega.{arith}
use native.Mathlib.Decide.{ℕ_discrete}
use mathlib.Core.Path.{◌≡◌, refl, sym, ◌∙◌, ap, ap₂}
use mathlib.Core.Bool.{Bool, false, ◌&&◌, ◌||◌, cond}
use mathlib.Core.List.{List}
use mathlib.Core.Logic.{by_cases}
use lib.Bits.{bit_or}
use lib.Dec.{ltb}
use lib.ListN.{length, get_or, set}
use lib.Seq.{get_or-set_same, get_or-set_other}
use borrow.Author.Tests.{eq-eqb, ne_eqb, lt-ltb, le-ltb}
use Rattle.paper.specs.Tools.{some_below, column}
use Rattle.paper.specs.Query.{following_sibling}
use Rattle.paper.specs.Document.{Table, nodes, parent_of}
use Rattle.paper.specs.Selection.{child_of, sibling_after}
use Rattle.paper.proofs.Tests.{and_true, true_and, agree}
use Rattle.paper.proofs.Searches.{some_intro, some-elim, column_at, length_column, column_same}
use Rattle.paper.proofs.Trees.{Tree}
use Rattle.sets.specs.Sets.{bits, image}
use Rattle.sets.proofs.Bits.{bit, or_none, and_none, and_all}
use Rattle.vertical.proofs.Axes.{some_none, child_intro, child_elim}
use Rattle.vertical.proofs.ParentPass.{parent_early, parent_more}
use Rattle.vertical.proofs.Leading.{image_intro, image-elim, sibling_intro, sibling_elim, ltb_next}
use Rattle.sideways.proofs.Twins.{twin, first_bit, second_bit, tells, set_two}

module _ (t : Table) (f : ℕ → Bool) where
  -- Before the turn at i the nodes before i are done but for the root, which has no turn.
  behind_first : ℕ → ℕ → Bool
  behind_first i k = cond (ltb 0 k && ltb k i) (image t following_sibling f k) (f k)

  -- A node says in its second bit whether a child before i was in the set.
  pub behind_state : ℕ → ℕ → ℕ
  behind_state i k = twin (behind_first i k) (some_below i (λ j. f j && child_of t k j))

module _ (t : Table) (w : Tree t) (f : ℕ → Bool) where
  behind_done : (i k : ℕ) → 0 < k → k < i → behind_first t f i k ≡ image t following_sibling f k
  unfolding behind_first
  behind_done i k z l = rw (lt-ltb 0 k z, lt-ltb k i l)

  behind_left : (i k : ℕ) → i ≤ k → behind_first t f i k ≡ f k
  unfolding behind_first
  behind_left i k l = ap (λ b. cond b (image t following_sibling f k) (f k)) (and_none (ltb 0 k) (le-ltb k i l))

  behind_root : (i : ℕ) → behind_first t f i 0 ≡ f 0
  unfolding behind_first
  behind_root i = refl

  behind_other : (i k : ℕ) → (k ≡ i → ⊥) → behind_first t f i k ≡ behind_first t f (i + 1) k
  unfolding behind_first
  behind_other i k d = ap (λ b. cond (ltb 0 k && b) (image t following_sibling f k) (f k)) (ltb_next k i d)

  -- A node is reached if a child of its parent before it was in the set.
  behind_image : (i : ℕ) → 0 < i → i < nodes t → image t following_sibling f i ≡ some_below i (λ j. f j && child_of t (parent_of t i) j)
  behind_image i z l =
      let test : ℕ → Bool = λ j. f j && child_of t (parent_of t i) j in
      agree (image t following_sibling f i) (some_below i test)
      (λ h. image-elim t following_sibling f i h
      (λ j b p q. let r = sibling_elim t j i q in some_intro i test j r.0 (true_and p (child_intro t (parent_of t i) j r.1.0 r.1.1))))
      (λ h. some-elim i test h
      (λ j b q.
      let r = and_true (f j) (child_of t (parent_of t i) j) q in
      let u = child_elim t (parent_of t i) j r.1 in
      image_intro t following_sibling f i j (omega arith) r.0 (sibling_intro t j i b u.0 u.1)))

  pub behind_start : bits (nodes t) f ≡ column (nodes t) (behind_state t f 1)
  unfolding behind_state
  behind_start =
      column_same (nodes t) 0 (λ k. bit (f k)) (behind_state t f 1)
      (λ k _ l.
      sym
      (ap₂ twin (by_cases (ℕ_discrete k 0) (λ e. ap (behind_first t f 1) e ∙ behind_root 1 ∙ ap f (sym e)) (λ e. behind_left 1 k (omega arith)))
      (parent_early t w f 1 k (omega arith) w.rooted)))

  -- The node whose turn it is takes what its parent says,
  behind_here : (i : ℕ) → 0 < i → i < nodes t → get_or (column (nodes t) (behind_state t f i)) (parent_of t i) 0 / 2 ≡ behind_state t f (i + 1) i
  unfolding behind_state
  behind_here i z l =
      let p = parent_of t i in
      let down : p < i = w.falls i z l in
      ap (λ x. x / 2) (column_at (nodes t) (behind_state t f i) 0 p (omega arith))
      ∙ second_bit (behind_first t f i p) (some_below i (λ j. f j && child_of t p j))
      ∙ ap bit (sym (behind_image i z l))
      ∙ sym (ap₂ twin (behind_done (i + 1) i z (omega arith)) (parent_early t w f (i + 1) i (omega arith) (omega arith)))

  -- the parent then says what it had,
  behind_parent : (i : ℕ) → 0 < i → i < nodes t
      → bit_or (get_or (column (nodes t) (behind_state t f i)) (parent_of t i) 0) (get_or (column (nodes t) (behind_state t f i)) i 0 % 2 * 2) ≡ behind_state t f (i + 1) (parent_of t i)
  unfolding behind_state
  behind_parent i z l =
      let p = parent_of t i in
      let down : p < i = w.falls i z l in
      let before = some_below i (λ j. f j && child_of t p j) in
      ap₂ bit_or (column_at (nodes t) (behind_state t f i) 0 p (omega arith))
      (ap (λ x. x * 2)
      (ap (λ x. x % 2) (column_at (nodes t) (behind_state t f i) 0 i l)
      ∙ first_bit (behind_first t f i i) (some_below i (λ j. f j && child_of t i j))
      ∙ ap bit (behind_left i i (omega arith))))
      ∙ tells (behind_first t f i p) before (f i)
      ∙ ap₂ twin (behind_other i p (λ e. omega arith)) (ap (λ x. before || x) (sym (and_all (f i) (eq-eqb p p refl))) ∙ sym (parent_more t w f i p z))

  -- and the others stay.
  behind_same : (i k : ℕ) → 0 < i → (k ≡ i → ⊥) → (k ≡ parent_of t i → ⊥) → behind_state t f i k ≡ behind_state t f (i + 1) k
  unfolding behind_state
  behind_same i k z d o =
      ap₂ twin (behind_other i k d)
      (sym (parent_more t w f i k z ∙ or_none (some_below i (λ j. f j && child_of t k j)) (and_none (f i) (ne_eqb (parent_of t i) k (λ e. o (sym e))))))

  pub behind_turn : (list : List ℕ) (i : ℕ) → 0 < i → i < nodes t → list ≡ column (nodes t) (behind_state t f i)
      → set (set list i (get_or list (parent_of t i) 0 / 2)) (parent_of t i) (bit_or (get_or list (parent_of t i) 0) (get_or list i 0 % 2 * 2)) ≡ column (nodes t) (behind_state t f (i + 1))
  behind_turn list i z l e =
      let n = nodes t in
      let p = parent_of t i in
      let bytes = column n (behind_state t f i) in
      rw e
      (set_two n (behind_state t f i) (behind_state t f (i + 1)) i p (get_or bytes p 0 / 2) (bit_or (get_or bytes p 0) (get_or bytes i 0 % 2 * 2)) l (omega (arith, w.falls i z l))
      (behind_here i z l)
      (behind_parent i z l)
      (λ k b d o. behind_same i k z d o))

  -- Nobody comes before the root.
  behind_none : image t following_sibling f 0 ≡ false
  unfolding image
  behind_none = some_none (nodes t) (λ j. f j && sibling_after t j 0) (λ j _ h. omega (arith, (sibling_elim t j 0 (and_true (f j) (sibling_after t j 0) h).1).0))

  pub behind_end : (list : List ℕ) (i : ℕ) → i ≡ nodes t → list ≡ column (nodes t) (behind_state t f i)
      → column (nodes t) (λ k. get_or (set list 0 0) k 0 % 2) ≡ bits (nodes t) (image t following_sibling f)
  unfolding behind_state
  behind_end list i s e =
      column_same (nodes t) 0 (λ k. get_or (set list 0 0) k 0 % 2) (λ k. bit (image t following_sibling f k))
      (λ k _ l.
      by_cases (ℕ_discrete k 0)
      (λ z.
      ap (λ x. get_or (set list 0 0) x 0 % 2) z
      ∙ ap (λ x. x % 2) (get_or-set_same list 0 0 0 (omega (arith, w.rooted, ap length e, length_column (nodes t) 0 (behind_state t f i))))
      ∙ ap bit (sym (ap (image t following_sibling f) z ∙ behind_none)))
      (λ z.
      ap (λ x. x % 2) (get_or-set_other list 0 k 0 0 z ∙ ap (λ x. get_or x k 0) e ∙ column_at (nodes t) (behind_state t f i) 0 k (omega arith))
      ∙ first_bit (behind_first t f i k) (some_below i (λ j. f j && child_of t k j))
      ∙ ap bit (behind_done i k (omega arith) (omega arith))))
