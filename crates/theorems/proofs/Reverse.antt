-- The reverse of a path holds at a node exactly if the path leads there from the root.
-- Each step is undone by its turned axis, so by induction the way back from k comes to every node from which the steps lead to k; the root test leaves the root. Assumes nothing.
use Prim.Native.Nat.{ℕ, ◌<◌}
use native.Mathlib.Omega.{arith}
use native.Mathlib.Decide.{ℕ_discrete}
use mathlib.Core.Path.{◌≡◌, refl, sym, ◌∙◌, ap, subst}
use mathlib.Core.Bool.{true, not, ◌&&◌, false≢true}
use mathlib.Core.List.{List}
use mathlib.Core.Logic.{⊎_elim, by_cases}
use borrow.Author.Tests.{eqb-true, eq-eqb, ne_eqb, not-true}
use Rattle.paper.specs.Query.{self, parent, Test, any_node, Steps, stop, step, Preds, bare, pred}
use Rattle.paper.specs.Document.{Table, nodes, parent_of, kind_of, marked}
use Rattle.paper.specs.Selection.{leads, meets, holds, finds, all_hold, arrives}
use Rattle.paper.specs.Composition.{turned, at_root, way_back, reversed}
use Rattle.paper.proofs.Tests.{and_true, true_and, decide, agree}
use Rattle.paper.proofs.Trees.{Tree, parent_le, Closed, tree, closed}
use Rattle.theorems.specs.Demands.{Reverse}
use Rattle.theorems.proofs.Axes.{converse, leads_inside}
use Rattle.theorems.proofs.Stepping.{goes, went}

module _ (t : Table) (m : List ℕ) where
  -- The way back from k comes to i, if the steps lead from i to k.
  way_to : (s : Steps) (x : Test) (ps : Preds) (back : Steps) (i k : ℕ) → i < nodes t → marked m i ≡ true → meets x (kind_of t i) ≡ true
      → all_hold t m ps i ≡ true → finds t m back i ≡ true → arrives t m s i k ≡ true → finds t m (way_back x ps back s) k ≡ true
  way_to stop x ps back i k l h d p b r =
      goes t m self x ps (finds t m back) k i (record { inside = l; there = h; along = eq-eqb k i (sym (eqb-true i k r)); met = d; fine = p }) b
  way_to (step a y qs rest) x ps back i k l h d p b r =
      went t m a y qs (λ j. arrives t m rest j k) i r
      (λ j g r'.
      way_to rest y qs (step (turned a) x ps back) j k g.inside g.there g.met g.fine
      (goes t m (turned a) x ps (finds t m back) j i (record { inside = l; there = h; along = converse t a j i ∙ g.along; met = d; fine = p }) b) r')

  -- Where the way back from k comes to, from there the steps lead to k.
  way-from {ℓ} : {C : Type ℓ} (s : Steps) (x : Test) (ps : Preds) (back : Steps) (k : ℕ) → finds t m (way_back x ps back s) k ≡ true
      → ((i : ℕ) → i < nodes t → marked m i ≡ true → all_hold t m ps i ≡ true → arrives t m s i k ≡ true → C) → C
  way-from {C} s x ps back k h next = go s x ps back h (λ i l u d p b r. next i l u p r)
    where
      go : (s : Steps) (x : Test) (ps : Preds) (back : Steps) → finds t m (way_back x ps back s) k ≡ true
          → ((i : ℕ) → i < nodes t → marked m i ≡ true → meets x (kind_of t i) ≡ true → all_hold t m ps i ≡ true → finds t m back i ≡ true → arrives t m s i k ≡ true → C) → C
      go stop x ps back h next =
          went t m self x ps (finds t m back) k h
          (λ i g b. next i g.inside g.there g.met g.fine b (eq-eqb i k (sym (eqb-true k i g.along))))
      go (step a y qs rest) x ps back h next =
          go rest y qs (step (turned a) x ps back) h
          (λ j l u d p b r.
          went t m (turned a) x ps (finds t m back) j b
          (λ i g b'.
          next i g.inside g.there g.met g.fine b'
          (goes t m a y qs (λ j. arrives t m rest j k) i j (record { inside = l; there = u; along = sym (converse t a j i) ∙ g.along; met = d; fine = p }) r)))

  -- The root test holds at the root,
  root_passes : holds t m at_root 0 ≡ true
  root_passes =
      ⊎_elim (λ h. went t m parent any_node bare (λ j. true) 0 h (λ j g r. absurd (false≢true g.along))) (λ h. ap not h)
      (decide (finds t m (step parent any_node bare stop) 0))

  -- and at no other marked node, for that has a marked parent.
  root_alone : Tree t → Closed t m → (i : ℕ) → i < nodes t → marked m i ≡ true → holds t m at_root i ≡ true → i ≡ 0
  root_alone w c i l h p =
      by_cases (ℕ_discrete i 0) (λ e. e)
      (λ e.
      let up : leads t parent i (parent_of t i) ≡ true = true_and (ap not (ne_eqb i 0 e)) (eq-eqb (parent_of t i) (parent_of t i) refl) in
      absurd
      (false≢true
      (sym (not-true (finds t m (step parent any_node bare stop) i) p) ∙
      goes t m parent any_node bare (λ j. true) i (parent_of t i)
      (record {
        inside = omega (arith, parent_le t w i l);
        there = leads_inside t w m c parent refl i (parent_of t i) l h up;
        along = up;
        met = refl;
        fine = refl;
      })
      refl)))

-- THE REVERSE OF A PATH HOLDS WHERE THE PATH LEADS.
pub reverse : Reverse
unfolding reversed
reverse t m p k ft fm l h =
    let w = tree t ft in
    let c = closed t m fm in
    agree (holds t m (reversed p) k) (marked m 0 && arrives t m p 0 k)
    (λ r.
    way-from t m p any_node (pred at_root bare) stop k r
    (λ i li u q s.
    let z = root_alone t m w c i li u (and_true (holds t m at_root i) true q).0 in
    true_and (subst (λ i. marked m i ≡ true) z u) (subst (λ i. arrives t m p i k ≡ true) z s)))
    (λ r.
    let b = and_true (marked m 0) (arrives t m p 0 k) r in
    way_to t m p any_node (pred at_root bare) stop 0 k w.rooted b.0 refl (true_and (root_passes t m) refl) refl b.1)
