-- What one step needs and gives, inside marks, whether it stands in a path that finds or in one that arrives. Assumes nothing.
use Prim.Native.Nat.{ℕ, ◌<◌}
use mathlib.Core.Path.{◌≡◌, refl, ◌∙◌, ap, subst}
use mathlib.Core.Bool.{Bool, true, ◌&&◌}
use mathlib.Core.List.{List}
use borrow.Author.Tests.{eqb-true, eq-eqb}
use Rattle.paper.specs.Tools.{some_below}
use Rattle.paper.specs.Query.{Axis, Test, any_node, Expr, Steps, stop, step, Preds, bare, pred}
use Rattle.paper.specs.Document.{Table, nodes, kind_of, marked}
use Rattle.paper.specs.Selection.{leads, meets, reaches, holds, all_hold, arrives}
use Rattle.paper.specs.Composition.{append, some_node}
use Rattle.paper.proofs.Tests.{and_true, true_and}
use Rattle.paper.proofs.Searches.{some_intro, some-elim}

-- A step leads from i to j: j is marked, on the axis, and meets the test and the predicates.
pub record Goes (t : Table) (m : List ℕ) (a : Axis) (x : Test) (ps : Preds) (i j : ℕ) : Type 0 where
  pub inside : j < nodes t
  pub there : marked m j ≡ true
  pub along : leads t a i j ≡ true
  pub met : meets x (kind_of t j) ≡ true
  pub fine : all_hold t m ps j ≡ true

module _ (t : Table) (m : List ℕ) where
  -- Some node is led to, at which more holds.
  abbrev pub stepping : Axis → Test → Preds → (ℕ → Bool) → ℕ → Bool
  stepping a x ps more i = some_below (nodes t) (λ j. reaches t m a x i j && all_hold t m ps j && more j)

  pub goes : (a : Axis) (x : Test) (ps : Preds) (more : ℕ → Bool) (i j : ℕ) → Goes t m a x ps i j → more j ≡ true → stepping a x ps more i ≡ true
  unfolding reaches
  goes a x ps more i j g h =
      some_intro (nodes t) (λ j. reaches t m a x i j && all_hold t m ps j && more j) j g.inside
      (true_and (true_and (true_and (true_and g.there g.along) g.met) g.fine) h)

  pub went {ℓ} : {C : Type ℓ} (a : Axis) (x : Test) (ps : Preds) (more : ℕ → Bool) (i : ℕ) → stepping a x ps more i ≡ true
      → ((j : ℕ) → Goes t m a x ps i j → more j ≡ true → C) → C
  unfolding reaches
  went a x ps more i h next =
      some-elim (nodes t) (λ j. reaches t m a x i j && all_hold t m ps j && more j) h
      (λ j l p.
      let s = and_true (reaches t m a x i j && all_hold t m ps j) (more j) p in
      let r = and_true (reaches t m a x i j) (all_hold t m ps j) s.0 in
      let k = and_true (marked m j && leads t a i j) (meets x (kind_of t j)) r.0 in
      let e = and_true (marked m j) (leads t a i j) k.0 in
      next j (record { inside = l; there = e.0; along = e.1; met = k.1; fine = r.1 }) s.1)

  -- Where steps lead from a marked node of the table is a marked node of the table.
  pub arrives_marked : (s : Steps) (i k : ℕ) → i < nodes t → marked m i ≡ true → arrives t m s i k ≡ true → (k < nodes t) × (marked m k ≡ true)
  arrives_marked stop i k l h e = subst (λ k. (k < nodes t) × (marked m k ≡ true)) (eqb-true i k e) (l, h)
  arrives_marked (step a x ps rest) i k l h e =
      went a x ps (λ j. arrives t m rest j k) i e (λ j g r. arrives_marked rest j k g.inside g.there r)

  -- Steps with steps appended lead where the appended ones lead from where the first ones do.
  pub arrives_on : (s last : Steps) (i j k : ℕ) → arrives t m s i j ≡ true → arrives t m last j k ≡ true → arrives t m (append s last) i k ≡ true
  arrives_on stop last i j k h g = ap (λ i. arrives t m last i k) (eqb-true i j h) ∙ g
  arrives_on (step a x ps rest) last i j k h g =
      went a x ps (λ i. arrives t m rest i j) i h
      (λ i' d r. goes a x ps (λ i. arrives t m (append rest last) i k) i i' d (arrives_on rest last i' j k r g))

  pub arrives-apart {ℓ} : {C : Type ℓ} (s last : Steps) (i k : ℕ) → arrives t m (append s last) i k ≡ true
      → ((j : ℕ) → arrives t m s i j ≡ true → arrives t m last j k ≡ true → C) → C
  arrives-apart stop last i k h next = next i (eq-eqb i i refl) h
  arrives-apart (step a x ps rest) last i k h next =
      went a x ps (λ i. arrives t m (append rest last) i k) i h
      (λ i' d r. arrives-apart rest last i' k r (λ j p q. next j (goes a x ps (λ i. arrives t m rest i j) i i' d p) q))

  -- A path of one step with `node()` and one predicate.
  pub some-node : (a : Axis) (e : Expr) (i j : ℕ) → j < nodes t → marked m j ≡ true → leads t a i j ≡ true → holds t m e j ≡ true → holds t m (some_node a e) i ≡ true
  some-node a e i j l h d p =
      goes a any_node (pred e bare) (λ j. true) i j (record { inside = l; there = h; along = d; met = refl; fine = true_and p refl }) refl

  pub node-some {ℓ} : {C : Type ℓ} (a : Axis) (e : Expr) (i : ℕ) → holds t m (some_node a e) i ≡ true
      → ((j : ℕ) → j < nodes t → marked m j ≡ true → leads t a i j ≡ true → holds t m e j ≡ true → C) → C
  node-some a e i h next =
      went a any_node (pred e bare) (λ j. true) i h (λ j g r. next j g.inside g.there g.along (and_true (holds t m e j) true g.fine).0)
