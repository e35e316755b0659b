-- One step of a path over all nodes at once: backward, the nodes from which it finds; forward, the nodes to which it leads.
-- Backward goes along the turned axis, since that leads back. Assumes nothing.
use Prim.Native.Nat.{ℕ}
use mathlib.Core.Path.{◌≡◌, refl, sym, ◌∙◌, ap}
use mathlib.Core.Bool.{Bool, true, false, ◌&&◌}
use mathlib.Core.List.{List}
use Rattle.paper.specs.Tools.{some_below}
use Rattle.paper.specs.Query.{Axis, Test, Steps, step, Preds}
use Rattle.paper.specs.Document.{Table, nodes, kind_of, marked}
use Rattle.paper.specs.Selection.{leads, meets, reaches, finds, all_hold, arrives}
use Rattle.paper.specs.Composition.{turned}
use Rattle.paper.proofs.Axes.{converse}
use Rattle.paper.proofs.Tests.{and_true, true_and}
use Rattle.paper.proofs.Searches.{some_intro, some-elim, some_same, some_agree}
use Rattle.sets.specs.Sets.{image}

-- Tests in another order.
reorder : (m l x f p : Bool) → ((((f && m) && x) && p) && l) ≡ (((m && l) && x) && p && f)
reorder true true true true true = refl
reorder true true true true false = refl
reorder true true true false true = refl
reorder true true true false false = refl
reorder true true false true true = refl
reorder true true false true false = refl
reorder true true false false true = refl
reorder true true false false false = refl
reorder true false true true true = refl
reorder true false true true false = refl
reorder true false true false true = refl
reorder true false true false false = refl
reorder true false false true true = refl
reorder true false false true false = refl
reorder true false false false true = refl
reorder true false false false false = refl
reorder false l x true p = refl
reorder false l x false p = refl

module _ (t : Table) (m : List ℕ) where
  -- BACKWARD: what is left of a set after marks, test and predicates, taken along the turned axis, is where the step finds a node of the set.
  pub back_step : (a : Axis) (x : Test) (ps : Preds) (rest : Steps) (i : ℕ)
      → image t (turned a) (λ j. ((finds t m rest j && marked m j) && meets x (kind_of t j)) && all_hold t m ps j) i ≡ finds t m (step a x ps rest) i
  unfolding image reaches
  back_step a x ps rest i =
      some_same (nodes t) _ _
      (λ j l.
      ap (λ (b : Bool). (((finds t m rest j && marked m j) && meets x (kind_of t j)) && all_hold t m ps j) && b) (converse t a j i) ∙
      reorder (marked m j) (leads t a i j) (meets x (kind_of t j)) (finds t m rest j) (all_hold t m ps j))

  -- FORWARD: the nodes to which a path leads from a set are those to which its later steps lead from what its first step makes of the set.
  pub forward_step : (a : Axis) (x : Test) (ps : Preds) (rest : Steps) (f : ℕ → Bool) (k : ℕ)
      → some_below (nodes t) (λ i. f i && arrives t m (step a x ps rest) i k)
      ≡ some_below (nodes t) (λ j. (((image t a f j && marked m j) && meets x (kind_of t j)) && all_hold t m ps j) && arrives t m rest j k)
  unfolding image reaches
  forward_step a x ps rest f k =
      some_agree (nodes t) (nodes t) _ _
      (λ i l h.
      let p = and_true (f i) (arrives t m (step a x ps rest) i k) h in
      some-elim (nodes t) _ p.1
      (λ j lj g.
      let q = and_true (((marked m j && leads t a i j) && meets x (kind_of t j)) && all_hold t m ps j) (arrives t m rest j k) g in
      let r = and_true ((marked m j && leads t a i j) && meets x (kind_of t j)) (all_hold t m ps j) q.0 in
      let s = and_true (marked m j && leads t a i j) (meets x (kind_of t j)) r.0 in
      let u = and_true (marked m j) (leads t a i j) s.0 in
      some_intro (nodes t) (λ j. (((some_below (nodes t) (λ i. f i && leads t a i j) && marked m j) && meets x (kind_of t j)) && all_hold t m ps j) && arrives t m rest j k) j lj
      (true_and (true_and (true_and (true_and (some_intro (nodes t) (λ i. f i && leads t a i j) i l (true_and p.0 u.1)) u.0) s.1) r.1) q.1)))
      (λ j lj g.
      let q = and_true (((some_below (nodes t) (λ i. f i && leads t a i j) && marked m j) && meets x (kind_of t j)) && all_hold t m ps j) (arrives t m rest j k) g in
      let r = and_true ((some_below (nodes t) (λ i. f i && leads t a i j) && marked m j) && meets x (kind_of t j)) (all_hold t m ps j) q.0 in
      let s = and_true (some_below (nodes t) (λ i. f i && leads t a i j) && marked m j) (meets x (kind_of t j)) r.0 in
      let u = and_true (some_below (nodes t) (λ i. f i && leads t a i j)) (marked m j) s.0 in
      some-elim (nodes t) _ u.0
      (λ i l h.
      let v = and_true (f i) (leads t a i j) h in
      some_intro (nodes t) (λ i. f i && arrives t m (step a x ps rest) i k) i l
      (true_and v.0
      (some_intro (nodes t) (λ j. reaches t m a x i j && all_hold t m ps j && arrives t m rest j k) j lj
      (true_and (true_and (true_and (true_and u.1 v.1) s.1) r.1) q.1)))))
