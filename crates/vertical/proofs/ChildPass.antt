-- The pass along child: the set that the bytes are before each turn, how that starts, what a turn makes of it, and that it ends as the image. Assumes nothing.
use Prim.Native.Nat.{ℕ, ◌-◌, ◌≤◌, ◌<◌}
use native.Mathlib.Omega.{arith}
use native.Mathlib.Decide.{ℕ_discrete}
use mathlib.Core.Path.{◌≡◌, refl, sym, ◌∙◌, ap}
use mathlib.Core.Bool.{Bool, false, ◌&&◌, cond}
use mathlib.Core.List.{List}
use mathlib.Core.Logic.{⊎_elim, by_cases}
use lib.Dec.{ltb}
use lib.ListN.{get_or, set}
use borrow.Author.Tests.{lt-ltb, le-ltb}
use Rattle.paper.specs.Query.{child}
use Rattle.paper.specs.Document.{Table, nodes, parent_of}
use Rattle.paper.specs.Selection.{child_of}
use Rattle.paper.proofs.Tests.{and_true}
use Rattle.paper.proofs.Trees.{Tree}
use Rattle.sets.specs.Sets.{bits, image}
use Rattle.sets.proofs.Bits.{side, bit, bits_at, bits_same, bits_set}
use Rattle.vertical.proofs.Axes.{some_none, some_one, child_intro, child_elim}

module _ (t : Table) (f : ℕ → Bool) where
  -- Child: before the turn at i - 1 the nodes from i on are done.
  pub child_state : ℕ → ℕ → Bool
  child_state i k = cond (ltb k i) (f k) (image t child f k)

module _ (t : Table) (w : Tree t) (f : ℕ → Bool) where
  -- Child: a node takes what its parent has, and the root nothing.
  child_image : (i : ℕ) → 0 < i → i < nodes t → image t child f i ≡ f (parent_of t i)
  unfolding image
  child_image i z l =
      some_one (nodes t) (parent_of t i) f (λ j. child_of t j i) (omega (arith, w.falls i z l)) (child_intro t (parent_of t i) i z refl)
      (λ j e. (child_elim t j i e).1)

  child_root : image t child f 0 ≡ false
  unfolding image
  child_root = some_none (nodes t) (λ j. f j && child_of t j 0) (λ j _ h. omega (arith, (child_elim t j 0 (and_true (f j) (child_of t j 0) h).1).0))

  child_left : (i k : ℕ) → k < i → child_state t f i k ≡ f k
  unfolding child_state
  child_left i k l = rw (lt-ltb k i l)

  child_done : (i k : ℕ) → i ≤ k → child_state t f i k ≡ image t child f k
  unfolding child_state
  child_done i k l = rw (le-ltb k i l)

  pub child_start : (i : ℕ) → i ≡ nodes t → bits (nodes t) f ≡ bits (nodes t) (child_state t f i)
  child_start i e = bits_same (nodes t) f (child_state t f i) (λ k l. sym (child_left i k (omega arith)))

  pub child_turn : (list : List ℕ) (i : ℕ) → 1 < i → i ≤ nodes t → list ≡ bits (nodes t) (child_state t f i)
      → set list (i - 1) (get_or list (parent_of t (i - 1)) 0) ≡ bits (nodes t) (child_state t f (i - 1))
  child_turn list i z l e =
      let m = i - 1 in
      let p = parent_of t m in
      let down : p < m = w.falls m (omega arith) (omega arith) in
      rw e
      (bits_set (nodes t) (child_state t f i) (child_state t f m) m (get_or (bits (nodes t) (child_state t f i)) p 0) (omega arith)
      (bits_at (nodes t) (child_state t f i) refl p (omega arith)
      ∙ ap bit (child_left i p (omega arith) ∙ sym (child_done m m (omega arith) ∙ child_image m (omega arith) (omega arith))))
      (λ k b d.
      ⊎_elim (λ s. child_left i k (omega arith) ∙ sym (child_left m k s))
      (λ s. child_done i k (by_cases (ℕ_discrete k m) (λ q. absurd (d q)) (λ q. omega arith)) ∙ sym (child_done m k s))
      (side k m)))

  pub child_end : (list : List ℕ) (i : ℕ) → i ≡ 1 → list ≡ bits (nodes t) (child_state t f i) → set list 0 0 ≡ bits (nodes t) (image t child f)
  child_end list i z e =
      rw e
      (bits_set (nodes t) (child_state t f i) (image t child f) 0 0 w.rooted (ap bit (sym child_root)) (λ k b d. child_done i k (by_cases (ℕ_discrete k 0) (λ q. absurd (d q)) (λ q. omega arith))))
