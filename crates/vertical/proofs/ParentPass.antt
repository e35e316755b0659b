-- The pass along parent: the set that the bytes are before each turn, how that starts, what a turn makes of it, and that it ends as the image. Assumes nothing.
use Prim.Native.Nat.{ℕ, ◌+◌, ◌≤◌, ◌<◌}
use native.Mathlib.Omega.{arith}
use native.Mathlib.Numerals.{add-one}
use native.Mathlib.Decide.{ℕ_discrete}
use mathlib.Core.Path.{◌≡◌, refl, sym, ◌∙◌, ap, ap₂}
use mathlib.Core.Bool.{Bool, false, not, ◌&&◌, ◌||◌, cond}
use mathlib.Core.List.{List}
use mathlib.Core.Logic.{⊎_elim, by_cases}
use lib.Bits.{bit_or}
use lib.Dec.{eqb, ltb}
use lib.ListN.{length, get_or, set}
use lib.Seq.{get_or-set_same}
use borrow.Author.Tests.{eq-eqb, ne_eqb, lt-ltb, le-ltb}
use Rattle.paper.specs.Tools.{some_below}
use Rattle.paper.specs.Query.{parent}
use Rattle.paper.specs.Document.{Table, nodes, parent_of}
use Rattle.paper.specs.Selection.{child_of}
use Rattle.paper.proofs.Tests.{and_true}
use Rattle.paper.proofs.Searches.{some_same}
use Rattle.paper.proofs.Trees.{Tree}
use Rattle.sets.specs.Sets.{bits, image}
use Rattle.sets.proofs.Bits.{side, bit, bits_at, bits_same, bits_set, or_bits, bit_false, or_none, and_none, and_all, once, swapped}
use Rattle.vertical.proofs.Axes.{some_none, child_elim}

module _ (t : Table) (f : ℕ → Bool) where
  -- Parent: before the turn at i the nodes below i have handed on what they had.
  pub parent_state : ℕ → ℕ → Bool
  parent_state i k = cond (ltb k i) (some_below i (λ j. f j && child_of t k j)) (f k)

  -- Halfway through the turn at i, i has nothing.
  cleared_state : ℕ → ℕ → Bool
  cleared_state i k = cond (eqb k i) false (parent_state i k)

module _ (t : Table) (w : Tree t) (f : ℕ → Bool) where
  -- Parent: a node has what one of its children had.
  parent_done : (i k : ℕ) → k < i → parent_state t f i k ≡ some_below i (λ j. f j && child_of t k j)
  unfolding parent_state
  parent_done i k l = rw (lt-ltb k i l)

  parent_left : (i k : ℕ) → i ≤ k → parent_state t f i k ≡ f k
  unfolding parent_state
  parent_left i k l = rw (le-ltb k i l)

  -- A node that comes before its children has nothing of them yet.
  pub parent_early : (i k : ℕ) → i ≤ k + 1 → i ≤ nodes t → some_below i (λ j. f j && child_of t k j) ≡ false
  parent_early i k l b =
      some_none i (λ j. f j && child_of t k j)
      (λ j m h. let r = child_elim t k j (and_true (f j) (child_of t k j) h).1 in omega (arith, w.falls j r.0 (omega arith), r.1))

  -- What i hands on goes to its parent alone.
  pub parent_more : (i k : ℕ) → 0 < i → some_below (i + 1) (λ j. f j && child_of t k j) ≡ (some_below i (λ j. f j && child_of t k j) || (f i && eqb (parent_of t i) k))
  parent_more i k z = rw (add-one i, ne_eqb i 0 (λ s. omega arith)) (swapped (f i && eqb (parent_of t i) k) (some_below i (λ j. f j && child_of t k j)))

  -- The root has been dropped from the set.
  pub parent_start : (list : List ℕ) → length list ≡ nodes t → set list 0 0 ≡ bits (nodes t) f → bits (nodes t) f ≡ bits (nodes t) (parent_state t f 1)
  parent_start list n e =
      let dropped : f 0 ≡ false = bit_false (f 0) (sym (get_or-set_same list 0 0 0 (omega (arith, w.rooted))) ∙ bits_at (nodes t) f e 0 w.rooted) in
      bits_same (nodes t) f (parent_state t f 1)
      (λ k l.
      ⊎_elim (λ s. let q : k ≡ 0 = omega arith in ap f q ∙ dropped ∙ sym (parent_done 1 k s ∙ parent_early 1 k (omega arith) w.rooted)) (λ s. sym (parent_left 1 k s)) (side k 1))

  cleared_here : (i k : ℕ) → k ≡ i → cleared_state t f i k ≡ false
  unfolding cleared_state
  cleared_here i k e = rw (eq-eqb k i e)

  cleared_other : (i k : ℕ) → (k ≡ i → ⊥) → cleared_state t f i k ≡ parent_state t f i k
  unfolding cleared_state
  cleared_other i k d = rw (ne_eqb k i d)

  parent_cleared : (i : ℕ) → i < nodes t → set (bits (nodes t) (parent_state t f i)) i 0 ≡ bits (nodes t) (cleared_state t f i)
  parent_cleared i l =
      bits_set (nodes t) (parent_state t f i) (cleared_state t f i) i 0 l (ap bit (sym (cleared_here i i refl))) (λ k b d. sym (cleared_other i k d))

  parent_other : (i k : ℕ) → 0 < i → i < nodes t → (k ≡ parent_of t i → ⊥) → cleared_state t f i k ≡ parent_state t f (i + 1) k
  parent_other i k z l d =
      by_cases (ℕ_discrete k i)
      (λ e. cleared_here i k e ∙ sym (parent_done (i + 1) k (omega arith) ∙ parent_early (i + 1) k (omega arith) (omega arith)))
      (λ e.
      cleared_other i k e
      ∙ ⊎_elim
      (λ s.
      parent_done i k s
      ∙ sym
      (parent_done (i + 1) k (omega arith)
      ∙ parent_more i k z
      ∙ or_none (some_below i (λ j. f j && child_of t k j)) (and_none (f i) (ne_eqb (parent_of t i) k (λ q. d (sym q))))))
      (λ s. parent_left i k s ∙ sym (parent_left (i + 1) k (omega arith)))
      (side k i))

  parent_here : (i : ℕ) → 0 < i → i < nodes t
      → bit_or (get_or (bits (nodes t) (cleared_state t f i)) (parent_of t i) 0) (get_or (bits (nodes t) (parent_state t f i)) i 0) ≡ bit (parent_state t f (i + 1) (parent_of t i))
  parent_here i z l =
      let p = parent_of t i in
      let down : p < i = w.falls i z l in
      ap₂ bit_or (bits_at (nodes t) (cleared_state t f i) refl p (omega arith)) (bits_at (nodes t) (parent_state t f i) refl i l)
      ∙ or_bits (cleared_state t f i p) (parent_state t f i i)
      ∙ ap bit
      (ap₂ ◌||◌ (cleared_other i p (λ e. omega arith) ∙ parent_done i p down) (parent_left i i (omega arith) ∙ sym (and_all (f i) (eq-eqb p p refl)))
      ∙ sym (parent_done (i + 1) p (omega arith) ∙ parent_more i p z))

  pub parent_turn : (list : List ℕ) (i : ℕ) → 0 < i → i < nodes t → list ≡ bits (nodes t) (parent_state t f i)
      → set (set list i 0) (parent_of t i) (bit_or (get_or (set list i 0) (parent_of t i) 0) (get_or list i 0)) ≡ bits (nodes t) (parent_state t f (i + 1))
  parent_turn list i z l e =
      let p = parent_of t i in
      let down : p < i = w.falls i z l in
      rw (e, parent_cleared i l)
      (bits_set (nodes t) (cleared_state t f i) (parent_state t f (i + 1)) p (bit_or (get_or (bits (nodes t) (cleared_state t f i)) p 0) (get_or (bits (nodes t) (parent_state t f i)) i 0)) (omega arith)
      (parent_here i z l)
      (λ k b d. parent_other i k z l d))

module _ (t : Table) (w : Tree t) (f : ℕ → Bool) where
  -- The root is nobody's child, so what it had is dropped first.
  pub parent_first : (list : List ℕ) → list ≡ bits (nodes t) f → set list 0 0 ≡ bits (nodes t) (λ k. not (eqb k 0) && f k)
  parent_first list e =
      rw e
      (bits_set (nodes t) f (λ k. not (eqb k 0) && f k) 0 0 w.rooted refl (λ k b d. ap (λ x. not x && f k) (sym (ne_eqb k 0 d))))

  pub parent_end : (i : ℕ) → i ≡ nodes t → bits (nodes t) (parent_state t (λ k. not (eqb k 0) && f k) i) ≡ bits (nodes t) (image t parent f)
  unfolding image
  parent_end i e =
      bits_same (nodes t) (parent_state t (λ k. not (eqb k 0) && f k) i) (image t parent f)
      (λ k l.
      parent_done t w (λ k. not (eqb k 0) && f k) i k (omega arith)
      ∙ ap (λ x. some_below x (λ j. (not (eqb j 0) && f j) && child_of t k j)) e
      ∙ some_same (nodes t) (λ j. (not (eqb j 0) && f j) && child_of t k j) (λ j. f j && child_of t k j) (λ j m. once (eqb j 0) (f j) (eqb (parent_of t j) k)))
