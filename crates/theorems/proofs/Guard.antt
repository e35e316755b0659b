-- From a node that the inner query keeps, steps guarded by V inside the given marks are the plain steps inside what the inner query keeps, for selections, predicates and negations alike.
-- A guarded step's node is marked and passes V, which is to be kept; a step along another axis leads from a kept node only to kept nodes. Assumes nothing.
use Prim.Native.Nat.{ℕ, ◌<◌}
use mathlib.Core.Path.{◌≡◌, refl, sym, ◌∙◌, ap, ap₂}
use mathlib.Core.Bool.{Bool, true, false, not, ◌&&◌, ◌||◌, cond, false≢true}
use mathlib.Core.List.{List}
use mathlib.Core.Option.{none}
use Rattle.paper.specs.Query.{Axis, Expr, path, both, either, negated, Steps, stop, step, Preds, bare, pred, Query}
use Rattle.paper.specs.Document.{Table, nodes, kind_of, marked, table_fault, marks_fault}
use Rattle.paper.specs.Selection.{leads, meets, reaches, holds, finds, all_hold, arrives, kept}
use Rattle.paper.specs.Composition.{visible, guarded, guard_on, guard_expr, guard_steps, guard_preds}
use Rattle.paper.proofs.Searches.{some_same}
use Rattle.paper.proofs.Keeping.{marked_kept, keeps-elim, kept_good}
use Rattle.theorems.specs.Demands.{GuardedExpr, GuardedSteps}
use Rattle.theorems.proofs.Axes.{stays_inside, unguarded}
use Rattle.theorems.proofs.Visible.{visible_keeps}

no_leads : (l k h f : Bool) → (l && k && (false && h) && f) ≡ false
no_leads true true h f = refl
no_leads true false h f = refl
no_leads false k h f = refl

passed : (g l k h f : Bool) → (l && k && cond g (true && h) h && f) ≡ (l && k && h && f)
passed true l k h f = refl
passed false l k h f = refl

-- A marked node that passes the guard, or is reached along an axis that stays inside the narrower marks, is one that is marked in those.
one_node : (g wide narrow v l k h h' f f' : Bool) → (wide ≡ true → v ≡ narrow) → (narrow ≡ true → wide ≡ true) → (g ≡ false → l ≡ true → narrow ≡ true)
    → (narrow ≡ true → h ≡ h') → (narrow ≡ true → f ≡ f') → (wide && l && k && cond g (v && h) h && f) ≡ (narrow && l && k && h' && f')
one_node g true true v l k h h' f f' p q s eh ef = rw (p refl, eh refl, ef refl) (passed g l k h' f')
one_node true true false v l k h h' f f' p q s eh ef = rw (p refl) (no_leads l k h f)
one_node false true false v true k h h' f f' p q s eh ef = absurd (false≢true (s refl refl))
one_node false true false v false k h h' f f' p q s eh ef = refl
one_node g false true v l k h h' f f' p q s eh ef = absurd (false≢true (q refl))
one_node g false false v l k h h' f f' p q s eh ef = refl

module _ (t : Table) (m n : List ℕ) (v : Expr) (passes : (j : ℕ) → j < nodes t → marked m j ≡ true → holds t m v j ≡ marked n j)
    (narrower : (j : ℕ) → j < nodes t → marked n j ≡ true → marked m j ≡ true)
    (stays : (a : Axis) (i j : ℕ) → guarded a ≡ false → i < nodes t → marked n i ≡ true → leads t a i j ≡ true → marked n j ≡ true) where
  -- The predicates of a step hold with V in front where V and they hold.
  on_axis : (g : Bool) (ps : Preds) (j : ℕ) → all_hold t m (cond g (pred v ps) ps) j ≡ cond g (holds t m v j && all_hold t m ps j) (all_hold t m ps j)
  on_axis true ps j = refl
  on_axis false ps j = refl

  mutual
    unfolding reaches

    holds_guarded : (e : Expr) (i : ℕ) → i < nodes t → marked n i ≡ true → holds t m (guard_expr e v) i ≡ holds t n e i
    holds_guarded (path s) i l k = finds_guarded s i l k
    holds_guarded (both a b) i l k = ap₂ ◌&&◌ (holds_guarded a i l k) (holds_guarded b i l k)
    holds_guarded (either a b) i l k = ap₂ ◌||◌ (holds_guarded a i l k) (holds_guarded b i l k)
    holds_guarded (negated a) i l k = ap not (holds_guarded a i l k)

    finds_guarded : (s : Steps) (i : ℕ) → i < nodes t → marked n i ≡ true → finds t m (guard_steps s v) i ≡ finds t n s i
    finds_guarded stop i l k = refl
    finds_guarded (step a x ps rest) i l k =
        some_same (nodes t) (λ j. reaches t m a x i j && all_hold t m (guard_on a v (guard_preds ps v)) j && finds t m (guard_steps rest v) j)
        (λ j. reaches t n a x i j && all_hold t n ps j && finds t n rest j)
        (λ j lj.
        ap (λ h. reaches t m a x i j && h && finds t m (guard_steps rest v) j) (on_axis (guarded a) (guard_preds ps v) j) ∙
        one_node (guarded a) (marked m j) (marked n j) (holds t m v j) (leads t a i j) (meets x (kind_of t j)) (all_hold t m (guard_preds ps v) j) (all_hold t n ps j)
        (finds t m (guard_steps rest v) j) (finds t n rest j) (passes j lj) (narrower j lj) (λ g d. stays a i j g l k d) (λ kj. all_guarded ps j lj kj) (λ kj. finds_guarded rest j lj kj))

    all_guarded : (ps : Preds) (i : ℕ) → i < nodes t → marked n i ≡ true → all_hold t m (guard_preds ps v) i ≡ all_hold t n ps i
    all_guarded bare i l k = refl
    all_guarded (pred e ps) i l k = ap₂ ◌&&◌ (holds_guarded e i l k) (all_guarded ps i l k)

  arrives_guarded : (s : Steps) (i k : ℕ) → i < nodes t → marked n i ≡ true → arrives t m (guard_steps s v) i k ≡ arrives t n s i k
  unfolding reaches
  arrives_guarded stop i k l h = refl
  arrives_guarded (step a x ps rest) i k l h =
      some_same (nodes t) (λ j. reaches t m a x i j && all_hold t m (guard_on a v (guard_preds ps v)) j && arrives t m (guard_steps rest v) j k)
      (λ j. reaches t n a x i j && all_hold t n ps j && arrives t n rest j k)
      (λ j lj.
      ap (λ b. reaches t m a x i j && b && arrives t m (guard_steps rest v) j k) (on_axis (guarded a) (guard_preds ps v) j) ∙
      one_node (guarded a) (marked m j) (marked n j) (holds t m v j) (leads t a i j) (meets x (kind_of t j)) (all_hold t m (guard_preds ps v) j) (all_hold t n ps j)
      (arrives t m (guard_steps rest v) j k) (arrives t n rest j k) (passes j lj) (narrower j lj) (λ g d. stays a i j g l h d) (λ kj. all_guarded ps j lj kj) (λ kj. arrives_guarded rest j k lj kj))

-- What the inner query keeps is marked.
pub kept_marked : (t : Table) (m : List ℕ) (q : Query) (j : ℕ) → j < nodes t → marked (kept t m q) j ≡ true → marked m j ≡ true
kept_marked t m q j l h = keeps-elim t m q j (sym (marked_kept t m q j l) ∙ h) (λ u k lk s o. u)

-- A step that is not guarded leads from a kept node only to kept nodes.
kept_stays : (t : Table) (m : List ℕ) (q : Query) → table_fault t ≡ none → marks_fault t m ≡ none → (a : Axis) (i j : ℕ) → guarded a ≡ false → i < nodes t
    → marked (kept t m q) i ≡ true → leads t a i j ≡ true → marked (kept t m q) j ≡ true
kept_stays t m q ft fm a i j g l h d = stays_inside t (kept t m q) a i j ft (kept_good t m q ft fm) (unguarded a ∙ ap not g) l h d

-- FROM A KEPT NODE, GUARDED EXPRESSIONS AND STEPS INSIDE THE GIVEN MARKS ARE PLAIN ONES INSIDE WHAT THE INNER QUERY KEEPS.
pub guarded_expr : GuardedExpr
guarded_expr t m q e i ft fm l h =
    holds_guarded t m (kept t m q) (visible q) (λ j lj hj. visible_keeps t m q j ft fm lj hj ∙ sym (marked_kept t m q j lj)) (kept_marked t m q) (kept_stays t m q ft fm) e i l h

pub guarded_steps : GuardedSteps
guarded_steps t m q s i k ft fm l h =
    arrives_guarded t m (kept t m q) (visible q) (λ j lj hj. visible_keeps t m q j ft fm lj hj ∙ sym (marked_kept t m q j lj)) (kept_marked t m q) (kept_stays t m q ft fm) s i k l h
