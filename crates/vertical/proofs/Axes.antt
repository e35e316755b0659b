-- What the passes along the axes share: images along axes of one number, searches that find one node or none, children, and the invariant of a pass. Assumes nothing.
use Prim.Native.Nat.{ℕ, ◌≤◌, ◌<◌}
use native.Mathlib.Omega.{arith}
use native.Mathlib.Decide.{ℕ_discrete}
use mathlib.Core.Path.{◌≡◌, refl, sym, ◌∙◌, ap, subst}
use mathlib.Core.Bool.{Bool, true, false, not, ◌&&◌, false≢true}
use mathlib.Core.List.{List}
use mathlib.Core.Logic.{by_cases}
use lib.Dec.{eqb}
use lib.ListN.{length}
use borrow.Author.Tests.{eqb-true, eq-eqb, ne_eqb}
use Rattle.paper.specs.Tools.{some_below}
use Rattle.paper.specs.Query.{Axis, self}
use Rattle.paper.specs.Document.{Table, nodes, parent_of, table_of}
use Rattle.paper.specs.Items.{axis_number}
use Rattle.paper.specs.Selection.{child_of}
use Rattle.paper.proofs.Tests.{and_true, true_and, agree}
use Rattle.paper.proofs.Axes.{of_number}
use Rattle.paper.proofs.Searches.{some_intro, some-elim}
use Rattle.sets.specs.Sets.{bits, image}
use Rattle.sets.proofs.Bits.{and_none}

-- A search that nothing passes finds nothing.
pub some_none : (n : ℕ) (test : ℕ → Bool) → ((j : ℕ) → j < n → test j ≡ true → ⊥) → some_below n test ≡ false
some_none n test h = agree (some_below n test) false (λ s. absurd (some-elim n test s h)) (λ s. absurd (false≢true s))

-- A search that only p can pass finds what holds of p.
pub some_one : (n p : ℕ) (f test : ℕ → Bool) → p < n → test p ≡ true → ((j : ℕ) → test j ≡ true → p ≡ j) → some_below n (λ j. f j && test j) ≡ f p
some_one n p f test l h only =
    agree (some_below n (λ j. f j && test j)) (f p)
    (λ s. some-elim n (λ j. f j && test j) s (λ j _ q. let r = and_true (f j) (test j) q in subst (λ k. f k ≡ true) (sym (only j r.1)) r.0))
    (λ s. some_intro n (λ j. f j && test j) p l (true_and s h))

-- Bytes that are the image along one axis are so along any axis of its number.
pub same_image : {list : List ℕ} (t : Table) (f : ℕ → Bool) (m n : ℕ) (b a : Axis) → n ≡ axis_number b → n ≡ axis_number a → list ≡ bits m (image t b f)
    → list ≡ bits m (image t a f)
same_image {list} t f m n b a p q = of_number (λ x. list ≡ bits m (image t x f)) b a p q

-- The invariant of a pass over the nodes at i: the bytes are in the state that the pass has at i, whatever set they were where it began.
pub record Moving (state : Table → (ℕ → Bool) → ℕ → ℕ → Bool) (parents old list : List ℕ) (i : ℕ) : Type 0 where
  pub least : 1 ≤ i
  pub most : i ≤ length parents
  pub sizes : length list ≡ length parents
  pub stands : (kinds : List ℕ) (f : ℕ → Bool) → old ≡ bits (length parents) f → list ≡ bits (length parents) (state (table_of parents kinds) f i)

-- Child and parent: j is a child of i.
pub child_intro : (t : Table) (i j : ℕ) → 0 < j → parent_of t j ≡ i → child_of t i j ≡ true
child_intro t i j z e = true_and (ap not (ne_eqb j 0 (λ s. omega arith))) (eq-eqb (parent_of t j) i e)

pub child_elim : (t : Table) (i j : ℕ) → child_of t i j ≡ true → (0 < j) × (parent_of t j ≡ i)
child_elim t i j h =
    let r = and_true (not (eqb j 0)) (eqb (parent_of t j) i) h in
    (by_cases (ℕ_discrete j 0) (λ e. absurd (false≢true (sym (ap not (eq-eqb j 0 e)) ∙ r.0))) (λ e. omega arith), eqb-true (parent_of t j) i r.1)

pub not_child : (t : Table) (i j : ℕ) → (parent_of t j ≡ i → ⊥) → child_of t i j ≡ false
not_child t i j d = and_none (not (eqb j 0)) (ne_eqb (parent_of t j) i d)

module _ (t : Table) (f : ℕ → Bool) where
  -- Self: nothing moves.
  pub self_image : (i : ℕ) → i < nodes t → image t self f i ≡ f i
  unfolding image
  self_image i l = some_one (nodes t) i f (λ j. eqb j i) l (eq-eqb i i refl) (λ j e. sym (eqb-true j i e))
