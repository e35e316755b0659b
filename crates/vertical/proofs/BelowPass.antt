-- The pass along descendant-or-self: the set that the bytes are before each turn, how that starts, what a turn makes of it, and that it ends as the image. Assumes nothing.
use Prim.Native.Nat.{ℕ, ◌+◌, ◌≤◌, ◌<◌}
use native.Mathlib.Omega.{arith}
use native.Mathlib.Decide.{ℕ_discrete}
use mathlib.Core.Path.{◌≡◌, refl, sym, ◌∙◌, ap, ap₂, subst}
use mathlib.Core.Bool.{Bool, true, ◌&&◌, ◌||◌, cond}
use mathlib.Core.List.{List}
use mathlib.Core.Logic.{⊎_elim, by_cases}
use lib.Bits.{bit_or}
use lib.Dec.{ltb}
use lib.ListN.{get_or, set}
use borrow.Author.Tests.{eqb-true, lt-ltb, le-ltb}
use Rattle.paper.specs.Tools.{some_below}
use Rattle.paper.specs.Query.{descendant_or_self}
use Rattle.paper.specs.Document.{Table, nodes, parent_of, over}
use Rattle.paper.proofs.Tests.{and_true, true_and, or_true, or_left, or_right, agree}
use Rattle.paper.proofs.Searches.{some_intro, some-elim}
use Rattle.paper.proofs.Trees.{Tree, over_self, over_parent, over_root_alone, over-cases}
use Rattle.sets.specs.Sets.{bits, image}
use Rattle.sets.proofs.Bits.{side, bit, bits_at, bits_same, bits_set, or_bits}
use Rattle.vertical.proofs.Axes.{some_one}

module _ (t : Table) (f : ℕ → Bool) where
  -- Descendant or self: before the turn at i the nodes below i are done.
  pub below_state : ℕ → ℕ → Bool
  below_state i k = cond (ltb k i) (image t descendant_or_self f k) (f k)

module _ (t : Table) (w : Tree t) (f : ℕ → Bool) where
  -- Descendant or self: a node takes what its parent has, too.
  below_root : image t descendant_or_self f 0 ≡ f 0
  unfolding image
  below_root = some_one (nodes t) 0 f (λ j. over t 0 j) w.rooted (over_self t w 0 w.rooted) (λ j e. eqb-true 0 j (sym (over_root_alone t w j) ∙ e))

  below_image : (i : ℕ) → i < nodes t → image t descendant_or_self f i ≡ (f i || image t descendant_or_self f (parent_of t i))
  unfolding image
  below_image i l =
      let at : ℕ → ℕ → Bool = λ i j. f j && over t i j in
      let p = parent_of t i in
      agree (some_below (nodes t) (at i)) (f i || some_below (nodes t) (at p))
      (λ h. some-elim (nodes t) (at i) h
      (λ j b q.
      let r = and_true (f j) (over t i j) q in
      over-cases t w i j l r.1 (λ e. or_left (some_below (nodes t) (at p)) (subst (λ k. f k ≡ true) (sym e) r.0))
      (λ z u. or_right (f i) (some_intro (nodes t) (at p) j b (true_and r.0 u)))))
      (λ h. ⊎_elim (λ q. some_intro (nodes t) (at i) i l (true_and q (over_self t w i l)))
      (λ q. some-elim (nodes t) (at p) q
      (λ j b s. let r = and_true (f j) (over t p j) s in some_intro (nodes t) (at i) j b (true_and r.0 (over_parent t w i j l r.1))))
      (or_true (f i) (some_below (nodes t) (at p)) h))

  below_done : (i k : ℕ) → k < i → below_state t f i k ≡ image t descendant_or_self f k
  unfolding below_state
  below_done i k l = rw (lt-ltb k i l)

  below_left : (i k : ℕ) → i ≤ k → below_state t f i k ≡ f k
  unfolding below_state
  below_left i k l = rw (le-ltb k i l)

  pub below_start : bits (nodes t) f ≡ bits (nodes t) (below_state t f 1)
  below_start =
      bits_same (nodes t) f (below_state t f 1)
      (λ k l.
      ⊎_elim
      (λ s. let e : k ≡ 0 = omega arith in sym (below_done 1 k s ∙ ap (image t descendant_or_self f) e ∙ below_root ∙ ap f (sym e)))
      (λ s. sym (below_left 1 k s))
      (side k 1))

  pub below_turn : (list : List ℕ) (i : ℕ) → 0 < i → i < nodes t → list ≡ bits (nodes t) (below_state t f i)
      → set list i (bit_or (get_or list i 0) (get_or list (parent_of t i) 0)) ≡ bits (nodes t) (below_state t f (i + 1))
  below_turn list i z l e =
      let n = nodes t in
      let p = parent_of t i in
      let down : p < i = w.falls i z l in
      rw e
      (bits_set n (below_state t f i) (below_state t f (i + 1)) i (bit_or (get_or (bits n (below_state t f i)) i 0) (get_or (bits n (below_state t f i)) p 0)) l
      (ap₂ bit_or (bits_at n (below_state t f i) refl i l) (bits_at n (below_state t f i) refl p (omega arith))
      ∙ or_bits (below_state t f i i) (below_state t f i p)
      ∙ ap bit (ap₂ ◌||◌ (below_left i i (omega arith)) (below_done i p down) ∙ sym (below_done (i + 1) i (omega arith) ∙ below_image i l)))
      (λ k b d.
      ⊎_elim (λ s. below_done i k s ∙ sym (below_done (i + 1) k (omega arith)))
      (λ s. below_left i k s ∙ sym (below_left (i + 1) k (by_cases (ℕ_discrete k i) (λ q. absurd (d q)) (λ q. omega arith))))
      (side k i)))

  pub below_end : (i : ℕ) → i ≡ nodes t → bits (nodes t) (below_state t f i) ≡ bits (nodes t) (image t descendant_or_self f)
  below_end i e = bits_same (nodes t) (below_state t f i) (image t descendant_or_self f) (λ k l. below_done i k (omega arith))
