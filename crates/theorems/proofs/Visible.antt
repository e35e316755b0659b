-- S holds at a node exactly if the inner query selects it, and V exactly if the inner query keeps it.
-- S joins the reverses of the inner paths; V looks for S below and above. Assumes nothing.
use Prim.Native.Nat.{ℕ, ◌<◌}
use mathlib.Core.Path.{◌≡◌, refl, sym, ◌∙◌, ap, ap₂}
use mathlib.Core.Bool.{Bool, true, false, ◌&&◌, ◌||◌, false≢true}
use mathlib.Core.List.{List, [], ◌∷◌}
use mathlib.Core.Logic.{⊎_elim}
use mathlib.Core.Option.{none}
use Rattle.paper.specs.Tools.{some_of}
use Rattle.paper.specs.Query.{descendant_or_self, ancestor_or_self, Expr, either, Steps, Query, paths}
use Rattle.paper.specs.Document.{Table, nodes, over, marked, table_fault, marks_fault}
use Rattle.paper.specs.Selection.{holds, arrives, selects, keeps}
use Rattle.paper.specs.Composition.{reversed, joined, selected_by, some_node, visible}
use Rattle.paper.proofs.Tests.{and_true, or_true, or_left, or_right, agree}
use Rattle.paper.proofs.Trees.{Tree, tree}
use Rattle.paper.proofs.Keeping.{keeps_intro, keeps-elim}
use Rattle.theorems.specs.Demands.{Visible}
use Rattle.theorems.proofs.Stepping.{arrives_marked, some-node, node-some}
use Rattle.theorems.proofs.Reverse.{reverse}

-- Where some path of a list passes a test, take it; what passes another test at that path is found in the list too.
pub some-path {ℓ} : {C : Type ℓ} (f : Steps → Bool) (ps : List Steps) → some_of f ps ≡ true
    → ((p : Steps) → f p ≡ true → ((g : Steps → Bool) → g p ≡ true → some_of g ps ≡ true) → C) → C
some-path f [] h next = absurd (false≢true h)
some-path f (p ∷ ps) h next =
    ⊎_elim (λ e. next p e (λ g d. or_left (some_of g ps) d)) (λ e. some-path f ps e (λ q d back. next q d (λ g c. or_right (g p) (back g c))))
    (or_true (f p) (some_of f ps) h)

-- A selected node is marked, and in the table.
pub selects_marked : (t : Table) → Tree t → (m : List ℕ) (q : Query) (k : ℕ) → selects t m q k ≡ true → (k < nodes t) × (marked m k ≡ true)
unfolding selects
selects_marked t w m q k h =
    let b = and_true (marked m 0) (some_of (λ p. arrives t m p 0 k) (paths q)) h in
    some-path (λ p. arrives t m p 0 k) (paths q) b.1 (λ p e back. arrives_marked t m p 0 k w.rooted b.0 e)

or_none : (a : Bool) → a ≡ (a || false)
or_none true = refl
or_none false = refl

or_assoc : (a b c : Bool) → ((a || b) || c) ≡ (a || (b || c))
or_assoc true b c = refl
or_assoc false b c = refl

and_or : (a b c : Bool) → ((a && b) || (a && c)) ≡ (a && (b || c))
and_or true b c = refl
and_or false b c = refl

-- The joined reverses hold where the first expression holds or a path leads.
joined_holds : (t : Table) (m : List ℕ) (k : ℕ) (e : Expr) (ps : List Steps) (found : Bool)
    → ((p : Steps) → holds t m (reversed p) k ≡ (marked m 0 && arrives t m p 0 k)) → holds t m e k ≡ (marked m 0 && found)
    → holds t m (joined e ps) k ≡ (marked m 0 && (found || some_of (λ p. arrives t m p 0 k) ps))
joined_holds t m k e [] found r h = h ∙ ap (λ b. marked m 0 && b) (or_none found)
joined_holds t m k e (p ∷ ps) found r h =
    joined_holds t m k (either e (reversed p)) ps (found || arrives t m p 0 k) r (ap₂ ◌||◌ h (r p) ∙ and_or (marked m 0) found (arrives t m p 0 k)) ∙
    ap (λ b. marked m 0 && b) (or_assoc found (arrives t m p 0 k) (some_of (λ p. arrives t m p 0 k) ps))

-- S HOLDS WHERE THE INNER QUERY SELECTS.
pub selected : (t : Table) (m : List ℕ) (q : Query) (k : ℕ) → table_fault t ≡ none → marks_fault t m ≡ none → k < nodes t → marked m k ≡ true
    → holds t m (selected_by q) k ≡ selects t m q k
unfolding selected_by selects
selected t m q k ft fm l h =
    joined_holds t m k (reversed q.first) q.others (arrives t m q.first 0 k) (λ p. reverse t m p k ft fm l h) (reverse t m q.first k ft fm l h)

-- V HOLDS WHERE THE INNER QUERY KEEPS.
pub visible_keeps : Visible
unfolding visible
visible_keeps t m q i ft fm l h =
    let w = tree t ft in
    let s = selected_by q in
    agree (holds t m (visible q) i) (keeps t m q i)
    (λ r.
    ⊎_elim
    (λ d. node-some t m descendant_or_self s i d (λ k lk hk o p. keeps_intro t m q i k lk h (sym (selected t m q k ft fm lk hk) ∙ p) (or_right (over t i k) o)))
    (λ d. node-some t m ancestor_or_self s i d (λ k lk hk o p. keeps_intro t m q i k lk h (sym (selected t m q k ft fm lk hk) ∙ p) (or_left (over t k i) o)))
    (or_true (holds t m (some_node descendant_or_self s) i) (holds t m (some_node ancestor_or_self s) i) r))
    (λ r.
    keeps-elim t m q i r
    (λ hi k lk p o.
    let hk = (selects_marked t w m q k p).1 in
    let e = selected t m q k ft fm lk hk ∙ p in
    ⊎_elim (λ u. or_right (holds t m (some_node descendant_or_self s) i) (some-node t m ancestor_or_self s i k lk hk u e))
    (λ u. or_left (holds t m (some_node ancestor_or_self s) i) (some-node t m descendant_or_self s i k lk hk u e)) o))
