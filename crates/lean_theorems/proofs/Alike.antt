-- From a node that the inner query keeps, lean steps lead where guarded steps lead, and lean expressions hold where guarded ones hold.
-- A hidden node that a step leads to fails V, or is loose; from a loose hidden node the next step goes down, to hidden nodes alone, so by induction nothing is found behind it. The last step leads from a hidden node nowhere. Assumes nothing.
use Prim.Native.Nat.{ℕ, ◌<◌}
use mathlib.Core.Path.{◌≡◌, refl, sym, ◌∙◌, ap, ap₂, subst}
use mathlib.Core.Bool.{Bool, true, false, not, ◌&&◌, ◌||◌, cond, false≢true}
use mathlib.Core.List.{List, map}
use mathlib.Core.Logic.{⊎_elim}
use mathlib.Core.Option.{none}
use Rattle.paper.specs.Tools.{some_below, some_of}
use Rattle.paper.specs.Query.{Axis, self, child, parent, descendant_or_self, ancestor_or_self, descendant, ancestor, following_sibling, preceding_sibling, following, preceding}
use Rattle.paper.specs.Query.{Test, Expr, path, both, either, negated, Steps, stop, step, Preds, bare, pred, Query, paths}
use Rattle.paper.specs.Document.{Table, nodes, kind_of, over, marked, table_fault, marks_fault}
use Rattle.paper.specs.Selection.{leads, meets, reaches, holds, finds, all_hold, arrives, selects, kept}
use Rattle.paper.specs.Composition.{turned, visible, guarded, guard_on, guard_expr, guard_steps, guard_preds, append, last_step, composed_path, composed}
use Rattle.paper.specs.Lean.{goes_down, is_self, may_be_hidden, down_next, leanly, loose_after, guard_expr_by, guard_steps_by, guard_preds_by, composed_path_by, composed_by, composed_lean}
use Rattle.paper.proofs.Tests.{and_true, true_and, or_left, or_right, agree, decide}
use Rattle.paper.proofs.Searches.{some_same, some-elim}
use Rattle.paper.proofs.Trees.{over_row, tree}
use Rattle.paper.proofs.Keeping.{marked_kept, keeps_intro, kept_good}
use Rattle.theorems.specs.Demands.{rises}
use Rattle.theorems.proofs.Axes.{converse, stays_inside, unguarded}
use Rattle.theorems.proofs.Stepping.{arrives_marked, arrives-apart}
use Rattle.theorems.proofs.Visible.{some-path, visible_keeps}
use Rattle.theorems.proofs.Exact.{some_map, last-from, root_shown}
use Rattle.lean_theorems.specs.Leans.{DownStaysHidden, LeanExpr, SameSelected}

-- An axis goes down if its turned axis rises.
down_turned : (a : Axis) → rises (turned a) ≡ goes_down a
down_turned self = refl
down_turned child = refl
down_turned parent = refl
down_turned descendant_or_self = refl
down_turned ancestor_or_self = refl
down_turned descendant = refl
down_turned ancestor = refl
down_turned following_sibling = refl
down_turned preceding_sibling = refl
down_turned following = refl
down_turned preceding = refl

-- FROM A HIDDEN NODE A STEP THAT GOES DOWN LEADS TO HIDDEN NODES.
pub down_hidden : DownStaysHidden
down_hidden t m a i j ft fm g l d h = stays_inside t m (turned a) j i ft fm (down_turned a ∙ g) l h (converse t a j i ∙ d)

-- Behind a loose node a step that goes down leads to one that may be hidden.
loose_down : (a : Axis) → goes_down a ≡ true → may_be_hidden true a ≡ true
loose_down self g = refl
loose_down child g = refl
loose_down parent g = absurd (false≢true g)
loose_down descendant_or_self g = refl
loose_down ancestor_or_self g = absurd (false≢true g)
loose_down descendant g = refl
loose_down ancestor g = absurd (false≢true g)
loose_down following_sibling g = refl
loose_down preceding_sibling g = refl
loose_down following g = refl
loose_down preceding g = refl

-- What is not guarded, where its node may be hidden, has a step that goes down behind it, and is loose.
no_guard_down : (hidden down : Bool) → hidden ≡ true → (hidden && not down) ≡ false → down ≡ true
no_guard_down true true h g = refl
no_guard_down true false h g = absurd (false≢true (sym g))
no_guard_down false down h g = absurd (false≢true h)

no_guard_loose : (hidden g : Bool) → hidden ≡ true → g ≡ false → (hidden && not g) ≡ true
no_guard_loose true false h e = refl
no_guard_loose true true h e = absurd (false≢true (sym e))
no_guard_loose false g h e = absurd (false≢true h)

and_none : (b : Bool) → (b && false) ≡ false
and_none true = refl
and_none false = refl

-- A hidden node is not led to and found further: it fails V, or has no guard and nothing is found behind it.
hidden_node : (g wide v l k h f : Bool) → (wide ≡ true → l ≡ true → v ≡ false) → (wide ≡ true → l ≡ true → g ≡ false → f ≡ false)
    → (wide && l && k && cond g (v && h) h && f) ≡ false
hidden_node g false v l k h f p q = refl
hidden_node g true v false k h f p q = refl
hidden_node g true v true false h f p q = refl
hidden_node true true v true true h f p q = rw (p refl refl)
hidden_node false true v true true h f p q = rw (q refl refl refl) (and_none h)

-- A visible node passes V, guarded by the one decision or by the other.
shown_node : (g g' wide v l k h h' f f' : Bool) → (wide ≡ true → v ≡ true) → h' ≡ h → f' ≡ f → (wide && l && k && cond g' (v && h') h' && f') ≡ (wide && l && k && cond g (v && h) h && f)
shown_node g g' false v l k h h' f f' p eh ef = refl
shown_node true true true v l k h h' f f' p eh ef = rw (p refl, eh, ef)
shown_node true false true v l k h h' f f' p eh ef = rw (p refl, eh, ef)
shown_node false true true v l k h h' f f' p eh ef = rw (p refl, eh, ef)
shown_node false false true v l k h h' f f' p eh ef = rw (eh, ef)

-- Where no node passes the test, none is found.
none_found : (n : ℕ) (test : ℕ → Bool) → ((j : ℕ) → j < n → test j ≡ false) → some_below n test ≡ false
none_found n test h =
    agree (some_below n test) false (λ s. some-elim n test s (λ j l p. absurd (false≢true (sym (h j l) ∙ p)))) (λ s. absurd (false≢true s))

module _ (t : Table) (m : List ℕ) (v : Expr) (shown : ℕ → Bool) (passes : (j : ℕ) → j < nodes t → marked m j ≡ true → holds t m v j ≡ shown j)
    (stays : (a : Axis) (i j : ℕ) → guarded a ≡ false → i < nodes t → shown i ≡ true → leads t a i j ≡ true → shown j ≡ true)
    (down : (a : Axis) (i j : ℕ) → goes_down a ≡ true → j < nodes t → leads t a i j ≡ true → shown j ≡ true → shown i ≡ true) where
  on_axis : (g : Bool) (ps : Preds) (j : ℕ) → all_hold t m (cond g (pred v ps) ps) j ≡ cond g (holds t m v j && all_hold t m ps j) (all_hold t m ps j)
  on_axis true ps j = refl
  on_axis false ps j = refl

  -- One node that a lean step leads to, with what is found behind it: nothing where the node is hidden and may be, and nothing is found from it where it is loose.
  hidden_step : (a : Axis) (x : Test) (ps : Preds) (rest : Steps) (loose last : Bool) (more : ℕ → Bool) (i j : ℕ) → j < nodes t
      → (leads t a i j ≡ true → shown j ≡ false) → (leads t a i j ≡ true → may_be_hidden loose a ≡ true)
      → (shown j ≡ false → marked m j ≡ true → loose_after leanly loose a (down_next last rest) ≡ true → down_next last rest ≡ true → more j ≡ false)
      → (reaches t m a x i j && all_hold t m (cond (leanly loose a (down_next last rest)) (pred v ps) ps) j && more j) ≡ false
  unfolding reaches
  hidden_step a x ps rest loose last more i j l s may behind =
      let hidden = may_be_hidden loose a in
      let next = down_next last rest in
      ap (λ b. reaches t m a x i j && b && more j) (on_axis (leanly loose a next) ps j) ∙
      hidden_node (leanly loose a next) (marked m j) (holds t m v j) (leads t a i j) (meets x (kind_of t j)) (all_hold t m ps j) (more j) (λ w d. passes j l w ∙ s d)
      (λ w d g. behind (s d) w (no_guard_loose hidden (leanly loose a next) (may d) g) (no_guard_down hidden next (may d) g))

  -- From a visible node a lean step and a guarded one agree on each node: a visible one passes V, a hidden one is guarded by its axis.
  shown_step : (a : Axis) (x : Test) (ps ps' : Preds) (rest : Steps) (loose last : Bool) (more more' : ℕ → Bool) (i j : ℕ) → i < nodes t → j < nodes t → shown i ≡ true
      → (shown j ≡ true → all_hold t m ps' j ≡ all_hold t m ps j) → (shown j ≡ true → more' j ≡ more j)
      → (shown j ≡ false → marked m j ≡ true → loose_after leanly loose a (down_next last rest) ≡ true → down_next last rest ≡ true → more' j ≡ false)
      → (reaches t m a x i j && all_hold t m (cond (leanly loose a (down_next last rest)) (pred v ps') ps') j && more' j) ≡ (reaches t m a x i j && all_hold t m (guard_on a v ps) j && more j)
  unfolding reaches
  shown_step a x ps ps' rest loose last more more' i j li lj si alike on behind =
      let g = leanly loose a (down_next last rest) in
      let strays : shown j ≡ false → leads t a i j ≡ true → guarded a ≡ true =
      λ s d. ⊎_elim (λ e. e) (λ e. absurd (false≢true (sym s ∙ stays a i j e li si d))) (decide (guarded a)) in
      ⊎_elim
      (λ (s : shown j ≡ true).
      ap (λ b. reaches t m a x i j && b && more' j) (on_axis g ps' j) ∙
      shown_node (guarded a) g (marked m j) (holds t m v j) (leads t a i j) (meets x (kind_of t j)) (all_hold t m ps j) (all_hold t m ps' j) (more j) (more' j)
      (λ w. passes j lj w ∙ s) (alike s) (on s) ∙
      sym (ap (λ b. reaches t m a x i j && b && more j) (on_axis (guarded a) ps j)))
      (λ (s : shown j ≡ false).
      hidden_step a x ps' rest loose last more' i j lj (λ d. s) (λ d. or_left (is_self a && loose) (strays s d)) behind ∙
      sym
      (ap (λ b. reaches t m a x i j && b && more j) (on_axis (guarded a) ps j) ∙
      hidden_node (guarded a) (marked m j) (holds t m v j) (leads t a i j) (meets x (kind_of t j)) (all_hold t m ps j) (more j) (λ w d. passes j lj w ∙ s)
      (λ w d e. absurd (false≢true (sym e ∙ strays s d)))))
      (decide (shown j))

  -- From a loose hidden node a step that goes down leads to hidden nodes, which may be hidden.
  led_hidden : (a : Axis) (i j : ℕ) → shown i ≡ false → goes_down a ≡ true → j < nodes t → leads t a i j ≡ true → shown j ≡ false
  led_hidden a i j h g l d = ⊎_elim (λ s. absurd (false≢true (sym h ∙ down a i j g l d s))) (λ s. s) (decide (shown j))

  led_loose : (a : Axis) (loose : Bool) → loose ≡ true → goes_down a ≡ true → may_be_hidden loose a ≡ true
  led_loose a loose o g = subst (λ b. may_be_hidden b a ≡ true) (sym o) (loose_down a g)

  -- So nothing is found behind it.
  finds_hidden : (s : Steps) (loose : Bool) (i : ℕ) → shown i ≡ false → loose ≡ true → down_next false s ≡ true → finds t m (guard_steps_by leanly s loose false v) i ≡ false
  finds_hidden stop loose i h o g = absurd (false≢true g)
  finds_hidden (step a x ps rest) loose i h o g =
      let next = loose_after leanly loose a (down_next false rest) in
      none_found (nodes t)
      (λ j.
      reaches t m a x i j && all_hold t m (cond (leanly loose a (down_next false rest)) (pred v (guard_preds_by leanly ps v)) (guard_preds_by leanly ps v)) j &&
      finds t m (guard_steps_by leanly rest next false v) j)
      (λ j l.
      hidden_step a x (guard_preds_by leanly ps v) rest loose false (λ j. finds t m (guard_steps_by leanly rest next false v) j) i j l (led_hidden a i j h g l)
      (λ d. led_loose a loose o g) (λ s w p q. finds_hidden rest next j s p q))

  mutual
    holds_lean : (e : Expr) (i : ℕ) → i < nodes t → shown i ≡ true → holds t m (guard_expr_by leanly e v) i ≡ holds t m (guard_expr e v) i
    holds_lean (path s) i l h = finds_lean s false i l h
    holds_lean (both a b) i l h = ap₂ ◌&&◌ (holds_lean a i l h) (holds_lean b i l h)
    holds_lean (either a b) i l h = ap₂ ◌||◌ (holds_lean a i l h) (holds_lean b i l h)
    holds_lean (negated a) i l h = ap not (holds_lean a i l h)

    finds_lean : (s : Steps) (loose : Bool) (i : ℕ) → i < nodes t → shown i ≡ true → finds t m (guard_steps_by leanly s loose false v) i ≡ finds t m (guard_steps s v) i
    finds_lean stop loose i l h = refl
    finds_lean (step a x ps rest) loose i l h =
        let next = loose_after leanly loose a (down_next false rest) in
        some_same (nodes t)
        (λ j.
        reaches t m a x i j && all_hold t m (cond (leanly loose a (down_next false rest)) (pred v (guard_preds_by leanly ps v)) (guard_preds_by leanly ps v)) j &&
        finds t m (guard_steps_by leanly rest next false v) j)
        (λ j. reaches t m a x i j && all_hold t m (guard_on a v (guard_preds ps v)) j && finds t m (guard_steps rest v) j)
        (λ j lj.
        shown_step a x (guard_preds ps v) (guard_preds_by leanly ps v) rest loose false (λ j. finds t m (guard_steps rest v) j)
        (λ j. finds t m (guard_steps_by leanly rest next false v) j) i j l lj h (λ s. all_lean ps j lj s) (λ s. finds_lean rest next j lj s)
        (λ s w p q. finds_hidden rest next j s p q))

    all_lean : (ps : Preds) (i : ℕ) → i < nodes t → shown i ≡ true → all_hold t m (guard_preds_by leanly ps v) i ≡ all_hold t m (guard_preds ps v) i
    all_lean bare i l h = refl
    all_lean (pred e ps) i l h = ap₂ ◌&&◌ (holds_lean e i l h) (all_lean ps i l h)

  -- A top-level path, with a last step that leads from a marked hidden node nowhere.
  module _ (last : Steps) (nowhere : (i k : ℕ) → i < nodes t → marked m i ≡ true → shown i ≡ false → arrives t m last i k ≡ false) where
    arrives_hidden : (s : Steps) (loose : Bool) (i k : ℕ) → i < nodes t → marked m i ≡ true → shown i ≡ false → loose ≡ true → down_next true s ≡ true
        → arrives t m (append (guard_steps_by leanly s loose true v) last) i k ≡ false
    arrives_hidden stop loose i k li w h o g = nowhere i k li w h
    arrives_hidden (step a x ps rest) loose i k li w h o g =
        let next = loose_after leanly loose a (down_next true rest) in
        none_found (nodes t)
        (λ j.
        reaches t m a x i j && all_hold t m (cond (leanly loose a (down_next true rest)) (pred v (guard_preds_by leanly ps v)) (guard_preds_by leanly ps v)) j &&
        arrives t m (append (guard_steps_by leanly rest next true v) last) j k)
        (λ j l.
        hidden_step a x (guard_preds_by leanly ps v) rest loose true (λ j. arrives t m (append (guard_steps_by leanly rest next true v) last) j k) i j l (led_hidden a i j h g l)
        (λ d. led_loose a loose o g) (λ s u p q. arrives_hidden rest next j k l u s p q))

    arrives_lean : (s : Steps) (loose : Bool) (i k : ℕ) → i < nodes t → shown i ≡ true
        → arrives t m (append (guard_steps_by leanly s loose true v) last) i k ≡ arrives t m (append (guard_steps s v) last) i k
    arrives_lean stop loose i k l h = refl
    arrives_lean (step a x ps rest) loose i k l h =
        let next = loose_after leanly loose a (down_next true rest) in
        some_same (nodes t)
        (λ j.
        reaches t m a x i j && all_hold t m (cond (leanly loose a (down_next true rest)) (pred v (guard_preds_by leanly ps v)) (guard_preds_by leanly ps v)) j &&
        arrives t m (append (guard_steps_by leanly rest next true v) last) j k)
        (λ j. reaches t m a x i j && all_hold t m (guard_on a v (guard_preds ps v)) j && arrives t m (append (guard_steps rest v) last) j k)
        (λ j lj.
        shown_step a x (guard_preds ps v) (guard_preds_by leanly ps v) rest loose true (λ j. arrives t m (append (guard_steps rest v) last) j k)
        (λ j. arrives t m (append (guard_steps_by leanly rest next true v) last) j k) i j l lj h (λ s. all_lean ps j lj s) (λ s. arrives_lean rest next j k lj s)
        (λ s w p q. arrives_hidden rest next j k lj w s p q))

module _ (t : Table) (m : List ℕ) (inner : Query) (ft : table_fault t ≡ none) (fm : marks_fault t m ≡ none) where
  -- What the inner query keeps, and the laws of it.
  abbrev kept_at : ℕ → Bool
  kept_at j = marked (kept t m inner) j

  kept_passes : (j : ℕ) → j < nodes t → marked m j ≡ true → holds t m (visible inner) j ≡ kept_at j
  kept_passes j l h = visible_keeps t m inner j ft fm l h ∙ sym (marked_kept t m inner j l)

  kept_stays : (a : Axis) (i j : ℕ) → guarded a ≡ false → i < nodes t → kept_at i ≡ true → leads t a i j ≡ true → kept_at j ≡ true
  kept_stays a i j g l h d = stays_inside t (kept t m inner) a i j ft (kept_good t m inner ft fm) (unguarded a ∙ ap not g) l h d

  kept_down : (a : Axis) (i j : ℕ) → goes_down a ≡ true → j < nodes t → leads t a i j ≡ true → kept_at j ≡ true → kept_at i ≡ true
  kept_down a i j g l d h = down_hidden t (kept t m inner) a i j ft (kept_good t m inner ft fm) g l d h

  -- The last step leads from a marked node that is not kept nowhere: what it leads to lies below a selected node, and so the two lie on one way up.
  last_nowhere : (i k : ℕ) → i < nodes t → marked m i ≡ true → kept_at i ≡ false → arrives t m (last_step inner) i k ≡ false
  last_nowhere i k l w h =
      agree (arrives t m (last_step inner) i k) false
      (λ e.
      last-from t m inner ft fm i k e
      (λ o s ls u d.
      let lk = (arrives_marked t m (last_step inner) i k l w e).0 in
      let near : (over t i s || over t s i) ≡ true =
      ⊎_elim (λ b. or_left (over t s i) b) (λ b. or_right (over t i s) b) (over_row t (tree t ft) i s k lk o u) in
      absurd (false≢true (sym h ∙ (marked_kept t m inner i l ∙ keeps_intro t m inner i s ls w d near)))))
      (λ e. absurd (false≢true e))

  -- Where a path with the last step at its end leads anywhere, the inner query selects something, and so the root is kept.
  root_kept : (s : Steps) (k : ℕ) → arrives t m (append s (last_step inner)) 0 k ≡ true → kept_at 0 ≡ true
  root_kept s k h = arrives-apart t m s (last_step inner) 0 k h (λ j p r. last-from t m inner ft fm j k r (λ o i l u d. root_shown t m inner ft fm i l d))

  -- From the root, where it is kept, the lean path and the composed one lead to the same nodes.
  same_path : (p : Steps) (k : ℕ) → kept_at 0 ≡ true
      → arrives t m (append (guard_steps_by leanly p false true (visible inner)) (last_step inner)) 0 k ≡ arrives t m (append (guard_steps p (visible inner)) (last_step inner)) 0 k
  same_path p k root =
      arrives_lean t m (visible inner) kept_at kept_passes kept_stays kept_down (last_step inner) last_nowhere p false 0 k (tree t ft).rooted root

  lean_leads : (p : Steps) (k : ℕ) → arrives t m (composed_path_by leanly inner p) 0 k ≡ true → arrives t m (composed_path inner p) 0 k ≡ true
  unfolding composed_path_by composed_path
  lean_leads p k h = sym (same_path p k (root_kept (guard_steps_by leanly p false true (visible inner)) k h)) ∙ h

  composed_leads : (p : Steps) (k : ℕ) → arrives t m (composed_path inner p) 0 k ≡ true → arrives t m (composed_path_by leanly inner p) 0 k ≡ true
  unfolding composed_path_by composed_path
  composed_leads p k h = same_path p k (root_kept (guard_steps p (visible inner)) k h) ∙ h

  -- One way to make paths serves for another, if each of its paths leads where the other's does.
  some_other : (f g : Steps → Steps) (k : ℕ) (ps : List Steps) → ((p : Steps) → arrives t m (f p) 0 k ≡ true → arrives t m (g p) 0 k ≡ true)
      → some_of (λ q. arrives t m q 0 k) (map f ps) ≡ true → some_of (λ q. arrives t m q 0 k) (map g ps) ≡ true
  some_other f g k ps each h =
      some-path (λ p. arrives t m (f p) 0 k) ps (sym (some_map (λ q. arrives t m q 0 k) f ps) ∙ h)
      (λ p e back. some_map (λ q. arrives t m q 0 k) g ps ∙ back (λ p. arrives t m (g p) 0 k) (each p e))

-- AT A KEPT NODE THE LEAN EXPRESSION HOLDS WHERE THE GUARDED ONE DOES.
pub lean_expr : LeanExpr
lean_expr t m inner e i ft fm l h =
    holds_lean t m (visible inner) (kept_at t m inner ft fm) (kept_passes t m inner ft fm) (kept_stays t m inner ft fm) (kept_down t m inner ft fm) e i l h

-- THE LEAN QUERY SELECTS WHAT THE COMPOSED QUERY SELECTS.
pub same_selected : SameSelected
unfolding selects composed_by composed
same_selected t m outer inner k ft fm =
    ap (λ b. marked m 0 && b)
    (agree (some_of (λ q. arrives t m q 0 k) (map (composed_path_by leanly inner) (paths outer))) (some_of (λ q. arrives t m q 0 k) (map (composed_path inner) (paths outer)))
    (some_other t m inner ft fm (composed_path_by leanly inner) (composed_path inner) k (paths outer) (λ p. lean_leads t m inner ft fm p k))
    (some_other t m inner ft fm (composed_path inner) (composed_path_by leanly inner) k (paths outer) (λ p. composed_leads t m inner ft fm p k)))
