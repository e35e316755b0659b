-- Descendant and ancestor: the children of all below and of the nodes themselves, the parents of all above and of the nodes themselves. Assumes nothing.
use Prim.Native.Nat.{ℕ, ◌<◌}
use native.Mathlib.Omega.{arith}
use mathlib.Core.Path.{◌≡◌, refl, sym, ◌∙◌, ap, subst}
use mathlib.Core.Bool.{Bool, true}
use Rattle.paper.specs.Query.{child, parent, descendant_or_self, ancestor_or_self, descendant, ancestor}
use Rattle.paper.specs.Document.{Table, nodes, parent_of, over}
use Rattle.paper.proofs.Tests.{agree}
use Rattle.paper.proofs.Trees.{Tree, over_self, over_parent, over-cases, over_trans}
use Rattle.sets.specs.Sets.{bits, image}
use Rattle.sets.proofs.Bits.{bits_same}
use Rattle.vertical.proofs.Axes.{child_intro, child_elim}
use Rattle.vertical.proofs.AbovePass.{last_step}
use Rattle.vertical.proofs.Leading.{image_intro, image-elim, below_intro, below_elim, over_le}

module _ (t : Table) (w : Tree t) (f : ℕ → Bool) where
  -- Descendant: the parent of what is below a node is that node or below it.
  strictly_below : (k : ℕ) → k < nodes t → image t child (image t descendant_or_self f) k ≡ image t descendant f k
  strictly_below k l =
      agree (image t child (image t descendant_or_self f) k) (image t descendant f k)
      (λ h. image-elim t child (image t descendant_or_self f) k h
      (λ j b p q.
      let r = child_elim t j k q in
      image-elim t descendant_or_self f j p
      (λ i m u v.
      image_intro t descendant f k i m u
      (below_intro t i k (over_parent t w k i l (subst (λ x. over t x i ≡ true) (sym r.1) v)) (λ e. omega (arith, over_le t w i j b v, w.falls k r.0 l, r.1))))))
      (λ h. image-elim t descendant f k h
      (λ i m u v.
      let r = below_elim t i k v in
      over-cases t w k i l r.0 (λ e. absurd (r.1 (sym e)))
      (λ z p.
      image_intro t child (image t descendant_or_self f) k (parent_of t k) (omega (arith, w.falls k z l)) (image_intro t descendant_or_self f (parent_of t k) i m u p)
      (child_intro t (parent_of t k) k z refl))))

  -- Ancestor: the way up to a node that is not its own ends in a step from a child.
  strictly_above : (k : ℕ) → k < nodes t → image t parent (image t ancestor_or_self f) k ≡ image t ancestor f k
  strictly_above k l =
      agree (image t parent (image t ancestor_or_self f) k) (image t ancestor f k)
      (λ h. image-elim t parent (image t ancestor_or_self f) k h
      (λ c b p q.
      let r = child_elim t k c q in
      image-elim t ancestor_or_self f c p
      (λ j m u v.
      image_intro t ancestor f k j m u
      (below_intro t k j (over_trans t w c k j m v (over_parent t w c k b (ap (λ x. over t x k) r.1 ∙ over_self t w k l)))
      (λ e. omega (arith, over_le t w c j m v, w.falls c r.0 b, r.1))))))
      (λ h. image-elim t ancestor f k h
      (λ j m u v.
      let r = below_elim t k j v in
      last_step t w f k j m r.0 (λ e. absurd (r.1 (sym e)))
      (λ c b g o. image_intro t parent (image t ancestor_or_self f) k c b (image_intro t ancestor_or_self f c j m u o) g)))

  pub descendant_end : bits (nodes t) (image t child (image t descendant_or_self f)) ≡ bits (nodes t) (image t descendant f)
  descendant_end = bits_same (nodes t) (image t child (image t descendant_or_self f)) (image t descendant f) strictly_below

  pub ancestor_end : bits (nodes t) (image t parent (image t ancestor_or_self f)) ≡ bits (nodes t) (image t ancestor f)
  ancestor_end = bits_same (nodes t) (image t parent (image t ancestor_or_self f)) (image t ancestor f) strictly_above
