-- What a run writes: a mark for each node kept, 0 or 1, and closed. A kept node's parent is over or under the same selected node. Assumes nothing.
use Prim.Native.Nat.{ℕ, ◌<◌}
use native.Mathlib.Omega.{arith}
use mathlib.Core.Path.{◌≡◌, refl, sym, ◌∙◌, ap}
use mathlib.Core.Bool.{Bool, true, false, not, ◌&&◌, ◌||◌, cond}
use mathlib.Core.List.{List}
use mathlib.Core.Logic.{◌⊎◌, ⊎_elim}
use mathlib.Core.Option.{none}
use lib.Dec.{eqb}
use lib.ListN.{length, get_or}
use Rattle.paper.specs.Tools.{some_below}
use Rattle.paper.specs.Query.{Query}
use Rattle.paper.specs.Document.{Table, nodes, parent_of, over, table_fault, marked, good_mark, marks_fault}
use Rattle.paper.specs.Selection.{selects, keeps, kept}
use Rattle.paper.proofs.Tests.{and_true, true_and, or_true, or_left, or_right}
use Rattle.paper.proofs.Searches.{some_intro, some-elim, none_first, length_column, column_at}
use Rattle.paper.proofs.Trees.{Tree, parent_le, over_self, over_parent, over-cases, over_trans, Closed, tree, closed}

-- A bit is 1 exactly where the test holds.
pub bit : (b : Bool) → eqb (cond b 1 0) 1 ≡ b
bit true = refl
bit false = refl

pub bit_fine : (b c : Bool) → (b ≡ true → c ≡ true) → (eqb (cond b 1 0) 0 || eqb (cond b 1 0) 1 && c) ≡ true
bit_fine true c h = h refl
bit_fine false c h = refl

-- The marks written say which nodes are kept.
pub kept_at : (t : Table) (marks : List ℕ) (q : Query) (i : ℕ) → i < nodes t → get_or (kept t marks q) i 0 ≡ cond (keeps t marks q i) 1 0
unfolding kept
kept_at t marks q i l = column_at (nodes t) (λ k. cond (keeps t marks q k) 1 0) 0 i l

pub marked_kept : (t : Table) (marks : List ℕ) (q : Query) (i : ℕ) → i < nodes t → marked (kept t marks q) i ≡ keeps t marks q i
marked_kept t marks q i l = ap (λ x. eqb x 1) (kept_at t marks q i l) ∙ bit (keeps t marks q i)

pub length_kept : (t : Table) (marks : List ℕ) (q : Query) → length (kept t marks q) ≡ nodes t
unfolding kept
length_kept t marks q = length_column (nodes t) 0 (λ k. cond (keeps t marks q k) 1 0)

-- What a node needs to be kept, and what a kept node has.
pub keeps_intro : (t : Table) (marks : List ℕ) (q : Query) (i k : ℕ) → k < nodes t → marked marks i ≡ true → selects t marks q k ≡ true
    → (over t i k || over t k i) ≡ true → keeps t marks q i ≡ true
unfolding keeps
keeps_intro t marks q i k l m s o = true_and m (some_intro (nodes t) (λ k. selects t marks q k && (over t i k || over t k i)) k l (true_and s o))

pub keeps-elim {ℓ} : {C : Type ℓ} (t : Table) (marks : List ℕ) (q : Query) (i : ℕ) → keeps t marks q i ≡ true
    → (marked marks i ≡ true → (k : ℕ) → k < nodes t → selects t marks q k ≡ true → (over t i k ≡ true) ⊎ (over t k i ≡ true) → C) → C
unfolding keeps
keeps-elim t marks q i h next =
    let b = and_true (marked marks i) (some_below (nodes t) (λ k. selects t marks q k && (over t i k || over t k i))) h in
    some-elim (nodes t) (λ k. selects t marks q k && (over t i k || over t k i)) b.1
    (λ k l p. let c = and_true (selects t marks q k) (over t i k || over t k i) p in next b.0 k l c.0 (or_true (over t i k) (over t k i) c.1))

-- A kept node's parent is kept.
pub keeps_parent : (t : Table) → Tree t → (marks : List ℕ) → Closed t marks → (q : Query) (i : ℕ) → i < nodes t → keeps t marks q i ≡ true → keeps t marks q (parent_of t i) ≡ true
keeps_parent t w marks c q i l h =
    keeps-elim t marks q i h
    (λ m k lk s o.
    let p = parent_of t i in
    let lp : p < nodes t = omega (arith, parent_le t w i l) in
    let up : over t i p ≡ true = over_parent t w i p l (over_self t w p lp) in
    keeps_intro t marks q p k lk (c i l m) s
    (⊎_elim (λ a. over-cases t w i k l a (λ e. or_right (over t p k) (ap (λ x. over t x p) (sym e) ∙ up)) (λ z b. or_left (over t k p) b))
    (λ a. or_right (over t p k) (over_trans t w i p k lk a up)) o))

-- WHAT A RUN WRITES HAS NO FAULT: it can be lent as given marks again.
pub kept_good : (t : Table) (marks : List ℕ) (q : Query) → table_fault t ≡ none → marks_fault t marks ≡ none → marks_fault t (kept t marks q) ≡ none
unfolding marks_fault good_mark
kept_good t marks q ft fm =
    let w = tree t ft in
    let c = closed t marks fm in
    none_first (nodes t) 0 (λ i. not (good_mark t (kept t marks q) i))
    (λ i a l.
    let on : i < nodes t = omega arith in
    let up : parent_of t i < nodes t = omega (arith, parent_le t w i on) in
    let fine : good_mark t (kept t marks q) i ≡ true =
    rw (kept_at t marks q i on)
    (bit_fine (keeps t marks q i) (marked (kept t marks q) (parent_of t i))
    (λ k. marked_kept t marks q (parent_of t i) up ∙ keeps_parent t w marks c q i on k)) in
    ap not fine)
