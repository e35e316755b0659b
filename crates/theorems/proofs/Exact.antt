-- Composition is exact: the composed query selects the nodes that are below both a node selected by the outer query, inside what the inner query keeps, and a node selected by the inner query; what is kept is the same.
-- Where the root is kept, guarded steps from it are plain ones inside what is kept; where it is not, the inner query selects nothing and the last step leads nowhere.
-- A kept node and both selected ones lie on one way up to the root, so the lowest of them is selected by the composed query. Assumes nothing.
use Prim.Native.Nat.{ℕ, ◌<◌}
use native.Mathlib.Omega.{arith}
use mathlib.Core.Path.{◌≡◌, refl, sym, ◌∙◌, ap, subst}
use mathlib.Core.Bool.{Bool, true, ◌||◌, cond}
use mathlib.Core.List.{List, [], ◌∷◌, map}
use mathlib.Core.Logic.{⊎_elim}
use mathlib.Core.Option.{none}
use lib.Dec.{eqb}
use borrow.Author.Tests.{eqb-true, eq-eqb}
use Rattle.paper.specs.Tools.{some_of}
use Rattle.paper.specs.Query.{descendant_or_self, ancestor_or_self, any_node, Steps, bare, pred, Query, paths}
use Rattle.paper.specs.Document.{Table, nodes, over, marked, table_fault, marks_fault}
use Rattle.paper.specs.Selection.{holds, arrives, selects, keeps, kept}
use Rattle.paper.specs.Composition.{selected_by, some_node, visible, guard_steps, last_step, composed_path, composed}
use Rattle.paper.proofs.Tests.{and_true, true_and, or_left, or_right, agree}
use Rattle.paper.proofs.Searches.{column_same}
use Rattle.paper.proofs.Trees.{over_self, over_root, over_trans, over_row, tree}
use Rattle.paper.proofs.Keeping.{marked_kept, keeps_intro, keeps-elim}
use Rattle.theorems.specs.Demands.{Exactness}
use Rattle.theorems.proofs.Stepping.{goes, went, arrives_marked, arrives_on, arrives-apart, some-node, node-some}
use Rattle.theorems.proofs.Visible.{some-path, selects_marked, selected}
use Rattle.theorems.proofs.Guard.{kept_marked, guarded_steps}

-- A search through composed paths is one through the outer paths.
pub some_map : (f : Steps → Bool) (g : Steps → Steps) (ps : List Steps) → some_of f (map g ps) ≡ some_of (λ p. f (g p)) ps
some_map f g [] = refl
some_map f g (p ∷ ps) = ap (λ b. f (g p) || b) (some_map f g ps)

module _ (t : Table) (m : List ℕ) (inner : Query) (ft : table_fault t ≡ none) (fm : marks_fault t m ≡ none) where
  -- The last step leads to the marked nodes below, that are below a node which the inner query selects.
  last_to : (j k s : ℕ) → k < nodes t → s < nodes t → marked m k ≡ true → over t k j ≡ true → over t k s ≡ true → selects t m inner s ≡ true
      → arrives t m (last_step inner) j k ≡ true
  unfolding last_step
  last_to j k s lk ls h o u p =
      let hs = (selects_marked t (tree t ft) m inner s p).1 in
      let e = some-node t m ancestor_or_self (selected_by inner) k s ls hs u (selected t m inner s ft fm ls hs ∙ p) in
      goes t m descendant_or_self any_node (pred (some_node ancestor_or_self (selected_by inner)) bare) (λ i. eqb i k) j k
      (record { inside = lk; there = h; along = o; met = refl; fine = true_and e refl }) (eq-eqb k k refl)

  pub last-from {ℓ} : {C : Type ℓ} (j k : ℕ) → arrives t m (last_step inner) j k ≡ true
      → (over t k j ≡ true → (s : ℕ) → s < nodes t → over t k s ≡ true → selects t m inner s ≡ true → C) → C
  unfolding last_step
  last-from j k h next =
      let e = some_node ancestor_or_self (selected_by inner) in
      went t m descendant_or_self any_node (pred e bare) (λ i. eqb i k) j h
      (λ i g r.
      let z = eqb-true i k r in
      let f = subst (λ i. holds t m e i ≡ true) z (and_true (holds t m e i) true g.fine).0 in
      node-some t m ancestor_or_self (selected_by inner) k f
      (λ s ls hs o p. next (subst (λ i. over t i j ≡ true) z g.along) s ls o (sym (selected t m inner s ft fm ls hs) ∙ p)))

  -- The root is kept where the inner query selects something.
  pub root_shown : (s : ℕ) → s < nodes t → selects t m inner s ≡ true → marked (kept t m inner) 0 ≡ true
  unfolding selects
  root_shown s l p =
      let w = tree t ft in
      marked_kept t m inner 0 w.rooted ∙
      keeps_intro t m inner 0 s l (and_true (marked m 0) (some_of (λ q. arrives t m q 0 s) (paths inner)) p).0 p (or_right (over t 0 s) (over_root t w s l))

  -- The composed query selects what is marked, below a node j selected by the outer query inside what is kept, and below a node s selected by the inner.
  selects_to : (outer : Query) (j k s : ℕ) → k < nodes t → s < nodes t → marked m k ≡ true → selects t (kept t m inner) outer j ≡ true
      → over t k j ≡ true → over t k s ≡ true → selects t m inner s ≡ true → selects t m (composed outer inner) k ≡ true
  unfolding selects composed composed_path
  selects_to outer j k s lk ls h d o u p =
      let n = kept t m inner in
      let b = and_true (marked n 0) (some_of (λ q. arrives t n q 0 j) (paths outer)) d in
      some-path (λ q. arrives t n q 0 j) (paths outer) b.1
      (λ q e back.
      true_and (kept_marked t m inner 0 (tree t ft).rooted b.0)
      (some_map (λ q. arrives t m q 0 k) (composed_path inner) (paths outer) ∙
      back (λ q. arrives t m (composed_path inner q) 0 k)
      (arrives_on t m (guard_steps q (visible inner)) (last_step inner) 0 j k (guarded_steps t m inner q 0 j ft fm (tree t ft).rooted b.0 ∙ e) (last_to j k s lk ls h o u p))))

  selects-from {ℓ} : {C : Type ℓ} (outer : Query) (k : ℕ) → selects t m (composed outer inner) k ≡ true
      → ((j s : ℕ) → j < nodes t → s < nodes t → selects t (kept t m inner) outer j ≡ true → over t k j ≡ true → over t k s ≡ true → selects t m inner s ≡ true → C) → C
  unfolding selects composed composed_path
  selects-from outer k h next =
      let n = kept t m inner in
      let w = tree t ft in
      let b = and_true (marked m 0) (some_of (λ q. arrives t m q 0 k) (paths (composed outer inner))) h in
      some-path (λ q. arrives t m (composed_path inner q) 0 k) (paths outer) (sym (some_map (λ q. arrives t m q 0 k) (composed_path inner) (paths outer)) ∙ b.1)
      (λ q e back.
      arrives-apart t m (guard_steps q (visible inner)) (last_step inner) 0 k e
      (λ j p r.
      last-from j k r
      (λ o s ls u d.
      let root = root_shown s ls d in
      let a = sym (guarded_steps t m inner q 0 j ft fm w.rooted root) ∙ p in
      next j s (arrives_marked t n q 0 j w.rooted root a).0 ls (true_and root (back (λ q. arrives t n q 0 j) a)) o u d)))

  -- What the composed query keeps, the outer query keeps inside what the inner keeps.
  keeps_from : (outer : Query) (x : ℕ) → x < nodes t → keeps t m (composed outer inner) x ≡ true → keeps t (kept t m inner) outer x ≡ true
  keeps_from outer x l h =
      let w = tree t ft in
      keeps-elim t m (composed outer inner) x h
      (λ hx k lk d o.
      selects-from outer k d
      (λ j s lj ls dj oj os ds.
      let near : (y : ℕ) → over t k y ≡ true → (over t x y || over t y x) ≡ true =
      λ y oy.
      ⊎_elim (λ a. or_left (over t y x) (over_trans t w k y x l a oy))
      (λ a. ⊎_elim (λ b. or_left (over t y x) b) (λ b. or_right (over t x y) b) (over_row t w x y k lk a oy)) o in
      keeps_intro t (kept t m inner) outer x j lj (marked_kept t m inner x l ∙ keeps_intro t m inner x s ls hx ds (near s os)) dj (near j oj)))

  -- What the outer query keeps inside what the inner keeps, the composed query keeps.
  keeps_to : (outer : Query) (x : ℕ) → x < nodes t → keeps t (kept t m inner) outer x ≡ true → keeps t m (composed outer inner) x ≡ true
  keeps_to outer x l h =
      let w = tree t ft in
      let n = kept t m inner in
      keeps-elim t n outer x h
      (λ nx j lj dj o.
      let hx = kept_marked t m inner x l nx in
      let nj = (selects_marked t w n outer j dj).1 in
      let hj = kept_marked t m inner j lj nj in
      let at : (k s : ℕ) → k < nodes t → s < nodes t → marked m k ≡ true → over t k j ≡ true → over t k s ≡ true → selects t m inner s ≡ true
      → (over t x k || over t k x) ≡ true → keeps t m (composed outer inner) x ≡ true =
      λ k s lk ls hk oj os ds near. keeps_intro t m (composed outer inner) x k lk hx (selects_to outer j k s lk ls hk dj oj os ds) near in
      ⊎_elim
      (λ a.
      keeps-elim t m inner x (sym (marked_kept t m inner x l) ∙ nx)
      (λ h' s ls ds.
      ⊎_elim (λ b. at x s l ls hx a b ds (or_left (over t x x) (over_self t w x l)))
      (λ b. at s s ls ls (selects_marked t w m inner s ds).1 (over_trans t w x j s ls b a) (over_self t w s ls) ds (or_right (over t x s) b))))
      (λ a.
      keeps-elim t m inner j (sym (marked_kept t m inner j lj) ∙ nj)
      (λ h' s ls ds.
      ⊎_elim (λ b. at j s lj ls hj (over_self t w j lj) b ds (or_right (over t x j) a))
      (λ b. at s s ls ls (selects_marked t w m inner s ds).1 b (over_self t w s ls) ds (or_right (over t x s) (over_trans t w j x s ls b a)))))
      o)

-- THE COMPOSED QUERY KEEPS WHAT THE OUTER QUERY KEEPS INSIDE WHAT THE INNER QUERY KEEPS.
pub exactness : Exactness
unfolding kept composed composed_path
exactness t m outer inner ft fm =
    column_same (nodes t) 0 (λ x. cond (keeps t m (composed outer inner) x) 1 0) (λ x. cond (keeps t (kept t m inner) outer x) 1 0)
    (λ x z l.
    let lx : x < nodes t = omega arith in
    ap (λ b. cond b 1 0)
    (agree (keeps t m (composed outer inner) x) (keeps t (kept t m inner) outer x) (keeps_from t m inner ft fm outer x lx) (keeps_to t m inner ft fm outer x lx)))
