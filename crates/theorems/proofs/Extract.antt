-- A query run inside closed marks keeps the very nodes that it keeps on the extracted table with every mark 1.
-- Each axis, test and search is kept by renumbering, so all that the definitions build from them is. Assumes nothing.
use Prim.Native.Nat.{ℕ, ◌<◌}
use mathlib.Core.Path.{◌≡◌, refl, sym, ◌∙◌, ap, ap₂}
use mathlib.Core.Bool.{Bool, true, not, ◌&&◌, ◌||◌}
use mathlib.Core.List.{List, [], ◌∷◌}
use lib.Dec.{eqb}
use lib.ListN.{get_or-replicate}
use Rattle.paper.specs.Tools.{some_below, some_of}
use Rattle.paper.specs.Query.{Axis, Test, Expr, path, both, either, negated, Steps, stop, step, Preds, bare, pred, Query, paths}
use Rattle.paper.specs.Document.{Table, nodes, kind_of, over, marked}
use Rattle.paper.specs.Selection.{leads, meets, reaches, holds, finds, all_hold, arrives, selects, keeps, kept}
use Rattle.paper.specs.Extraction.{rank, extracted}
use Rattle.paper.proofs.Tests.{and_true}
use Rattle.paper.proofs.Trees.{Tree, Closed, tree, closed}
use Rattle.paper.proofs.Keeping.{marked_kept}
use Rattle.theorems.specs.Demands.{all_marked, Extraction, SameNodes}
use Rattle.theorems.proofs.Renumber.{rank_same, extracted_inside, extracted_kind, some_renumbered, over_renumbered, marks_root, extracted_twice}
use Rattle.theorems.proofs.Axes.{leads_renumbered}
use Rattle.theorems.proofs.Visible.{selects_marked}
use Rattle.theorems.proofs.Guard.{kept_marked}

-- Where all are marked, each node of the table is.
pub all-marked : (t : Table) (i : ℕ) → i < nodes t → marked (all_marked t) i ≡ true
all-marked t i l = ap (λ x. eqb x 1) (get_or-replicate (nodes t) i 1 0 l)

-- A node that a step leads to is marked.
reached_marked : (t : Table) (m : List ℕ) (a : Axis) (x : Test) (i j : ℕ) (b c : Bool) → (reaches t m a x i j && b && c) ≡ true → marked m j ≡ true
unfolding reaches
reached_marked t m a x i j b c h =
    let r = (and_true (reaches t m a x i j) b (and_true (reaches t m a x i j && b) c h).0).0 in
    (and_true (marked m j) (leads t a i j) (and_true (marked m j && leads t a i j) (meets x (kind_of t j)) r).0).0

module _ (t : Table) (w : Tree t) (m : List ℕ) (c : Closed t m) (root : marked m 0 ≡ true) where
  -- A step leads from a marked node to a marked node exactly if it leads from the one's new number to the other's.
  reaches_renumbered : (a : Axis) (x : Test) (i j : ℕ) → i < nodes t → j < nodes t → marked m i ≡ true → marked m j ≡ true
      → reaches (extracted t m) (all_marked (extracted t m)) a x (rank m i) (rank m j) ≡ reaches t m a x i j
  unfolding reaches
  reaches_renumbered a x i j li lj hi hj =
      ap₂ (λ p q. p && q)
      (ap₂ (λ p q. p && q) (all-marked (extracted t m) (rank m j) (extracted_inside t m j lj hj) ∙ sym hj) (leads_renumbered t w m c root a i j li lj hi hj))
      (ap (meets x) (extracted_kind t m j lj hj))

  -- So steps in a search find the same, if what follows them does.
  stepping_renumbered : (a : Axis) (x : Test) (b c f g : ℕ → Bool) (i : ℕ) → i < nodes t → marked m i ≡ true
      → ((j : ℕ) → j < nodes t → marked m j ≡ true → b (rank m j) ≡ c j) → ((j : ℕ) → j < nodes t → marked m j ≡ true → f (rank m j) ≡ g j)
      → some_below (nodes (extracted t m)) (λ j. reaches (extracted t m) (all_marked (extracted t m)) a x (rank m i) j && b j && f j)
      ≡ some_below (nodes t) (λ j. reaches t m a x i j && c j && g j)
  stepping_renumbered a x b c f g i l h hb hf =
      some_renumbered t m (λ j. reaches t m a x i j && c j && g j)
      (λ j. reaches (extracted t m) (all_marked (extracted t m)) a x (rank m i) j && b j && f j) (λ j lj r. reached_marked t m a x i j (c j) (g j) r)
      (λ j lj hj. ap₂ (λ p q. p && q) (ap₂ (λ p q. p && q) (reaches_renumbered a x i j l lj h hj) (hb j lj hj)) (hf j lj hj))

  mutual
    holds_renumbered : (e : Expr) (i : ℕ) → i < nodes t → marked m i ≡ true → holds (extracted t m) (all_marked (extracted t m)) e (rank m i) ≡ holds t m e i
    holds_renumbered (path s) i l h = finds_renumbered s i l h
    holds_renumbered (both a b) i l h = ap₂ ◌&&◌ (holds_renumbered a i l h) (holds_renumbered b i l h)
    holds_renumbered (either a b) i l h = ap₂ ◌||◌ (holds_renumbered a i l h) (holds_renumbered b i l h)
    holds_renumbered (negated a) i l h = ap not (holds_renumbered a i l h)

    finds_renumbered : (s : Steps) (i : ℕ) → i < nodes t → marked m i ≡ true → finds (extracted t m) (all_marked (extracted t m)) s (rank m i) ≡ finds t m s i
    finds_renumbered stop i l h = refl
    finds_renumbered (step a x ps rest) i l h =
        stepping_renumbered a x (all_hold (extracted t m) (all_marked (extracted t m)) ps) (all_hold t m ps)
        (finds (extracted t m) (all_marked (extracted t m)) rest) (finds t m rest) i l h
        (λ j lj hj. all_renumbered ps j lj hj) (λ j lj hj. finds_renumbered rest j lj hj)

    all_renumbered : (ps : Preds) (i : ℕ) → i < nodes t → marked m i ≡ true → all_hold (extracted t m) (all_marked (extracted t m)) ps (rank m i) ≡ all_hold t m ps i
    all_renumbered bare i l h = refl
    all_renumbered (pred e ps) i l h = ap₂ ◌&&◌ (holds_renumbered e i l h) (all_renumbered ps i l h)

  arrives_renumbered : (s : Steps) (k i : ℕ) → marked m k ≡ true → i < nodes t → marked m i ≡ true
      → arrives (extracted t m) (all_marked (extracted t m)) s (rank m i) (rank m k) ≡ arrives t m s i k
  arrives_renumbered stop k i hk l h = rank_same m i k h hk
  arrives_renumbered (step a x ps rest) k i hk l h =
      stepping_renumbered a x (all_hold (extracted t m) (all_marked (extracted t m)) ps) (all_hold t m ps)
      (λ j. arrives (extracted t m) (all_marked (extracted t m)) rest j (rank m k)) (λ j. arrives t m rest j k) i l h (all_renumbered ps)
      (λ j lj hj. arrives_renumbered rest k j hk lj hj)

  selects_renumbered : (q : Query) (k : ℕ) → marked m k ≡ true → selects (extracted t m) (all_marked (extracted t m)) q (rank m k) ≡ selects t m q k
  unfolding selects
  selects_renumbered q k hk =
      ap₂ (λ a b. a && b) (all-marked (extracted t m) 0 (extracted_inside t m 0 w.rooted root) ∙ sym root) (go (paths q))
    where
      go : (ps : List Steps) → some_of (λ p. arrives (extracted t m) (all_marked (extracted t m)) p 0 (rank m k)) ps ≡ some_of (λ p. arrives t m p 0 k) ps
      go [] = refl
      go (p ∷ ps) = ap₂ ◌||◌ (arrives_renumbered p k 0 hk w.rooted root) (go ps)

  keeps_renumbered : (q : Query) (i : ℕ) → i < nodes t → marked m i ≡ true → keeps (extracted t m) (all_marked (extracted t m)) q (rank m i) ≡ keeps t m q i
  unfolding keeps
  keeps_renumbered q i l h =
      let u = extracted t m in
      ap₂ (λ a b. a && b) (all-marked u (rank m i) (extracted_inside t m i l h) ∙ sym h)
      (some_renumbered t m (λ k. selects t m q k && (over t i k || over t k i))
      (λ k. selects u (all_marked u) q k && (over u (rank m i) k || over u k (rank m i)))
      (λ k lk r. (selects_marked t w m q k (and_true (selects t m q k) (over t i k || over t k i) r).0).1)
      (λ k lk hk.
      ap₂ (λ a b. a && b) (selects_renumbered q k hk)
      (ap₂ (λ a b. a || b) (over_renumbered t w m c root k hk i l h) (over_renumbered t w m c root i h k lk hk))))

-- THE SAME NODES ARE KEPT.
pub same_nodes : SameNodes
same_nodes t m q i ft fm l h =
    let w = tree t ft in
    let c = closed t m fm in
    keeps_renumbered t w m c (marks_root t w m c i l h) q i l h

-- EXTRACTING AFTER THE RUN IS THE SAME TABLE EITHER WAY.
pub extraction : Extraction
extraction t m q ft fm =
    let u = extracted t m in
    extracted_twice t (tree t ft) m (kept t m q) (kept u (all_marked u) q) (kept_marked t m q)
    (λ i l h. marked_kept u (all_marked u) q (rank m i) (extracted_inside t m i l h) ∙ same_nodes t m q i ft fm l h ∙ sym (marked_kept t m q i l))
