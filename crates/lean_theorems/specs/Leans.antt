-- What the lean composition owes, in full, for every document and every pair of queries: it keeps what the composition keeps, and is no larger and no deeper.
use Rattle.std.specs.Prelude.{ℕ, ◌+◌, ◌≤◌, ◌<◌, max, ◌≡◌, Bool, true, cond, List, [], ◌∷◌, ◌++◌, length}
use Rattle.std.proofs.Math.Option.{none, some}
use Rattle.paper.specs.Limits.{item_limit, bracket_limit}
use Rattle.paper.specs.Query.{Axis, Expr, Query, paths}
use Rattle.paper.specs.Document.{Table, nodes, table_fault, marked, marks_fault}
use Rattle.paper.specs.Selection.{leads, holds, selects, kept}
use Rattle.paper.specs.Items.{encode, decode, good}
use Rattle.paper.specs.Measures.{size, nesting, height}
use Rattle.paper.specs.Answers.{scratch_of}
use Rattle.paper.specs.Room.{path_count, scratch_bytes}
use Rattle.paper.specs.Composition.{visible, guard_expr, composed, composed_size, composed_nesting}
use Rattle.paper.specs.Lean.{goes_down, Decision, by_axis, leanly, guard_expr_by, composed_by, composed_size_by, composed_nesting_by, composed_lean, lean_size, lean_nesting, compose_lean_answer}
use Rattle.theorems.specs.Demands.{view, Proper}
use Rattle.answer_bounds.specs.Bounds.{Small}
use Rattle.chain_theorems.specs.Chains.{kept_in_turn}

-- THE SAME BUT THE DECISION: where the axis alone decides which step is guarded, it is the composition, with its size and nesting.
abbrev pub ByAxis : Type 0
ByAxis =
    (outer inner : Query) → (composed_by by_axis outer inner ≡ composed outer inner)
    × (composed_size_by by_axis outer inner ≡ composed_size outer inner) × (composed_nesting_by by_axis outer inner ≡ composed_nesting outer inner)

-- GOING DOWN: from a hidden node a step that goes down leads to hidden nodes alone, since marks are closed under parents.
abbrev pub DownStaysHidden : Type 0
DownStaysHidden =
    (t : Table) (marks : List ℕ) (a : Axis) (i j : ℕ) → table_fault t ≡ none → marks_fault t marks ≡ none → goes_down a ≡ true → j < nodes t
    → leads t a i j ≡ true → marked marks j ≡ true → marked marks i ≡ true

-- IN A PREDICATE: at a node that the inner query keeps, the lean expression holds exactly if the guarded one does.
abbrev pub LeanExpr : Type 0
LeanExpr =
    (t : Table) (marks : List ℕ) (inner : Query) (e : Expr) (i : ℕ) → table_fault t ≡ none → marks_fault t marks ≡ none
    → i < nodes t → marked (kept t marks inner) i ≡ true → holds t marks (guard_expr_by leanly e (visible inner)) i ≡ holds t marks (guard_expr e (visible inner)) i

-- THE SAME NODES: inside any marks without fault the lean query selects what the composed query selects,
abbrev pub SameSelected : Type 0
SameSelected =
    (t : Table) (marks : List ℕ) (outer inner : Query) (k : ℕ) → table_fault t ≡ none → marks_fault t marks ≡ none
    → selects t marks (composed_lean outer inner) k ≡ selects t marks (composed outer inner) k

-- so it keeps what that keeps,
abbrev pub SameKept : Type 0
SameKept =
    (t : Table) (marks : List ℕ) (outer inner : Query) → table_fault t ≡ none → marks_fault t marks ≡ none
    → kept t marks (composed_lean outer inner) ≡ kept t marks (composed outer inner)

-- EXACTNESS: which is what the outer query keeps inside what the inner query keeps.
abbrev pub LeanExactness : Type 0
LeanExactness =
    (t : Table) (marks : List ℕ) (outer inner : Query) → table_fault t ≡ none → marks_fault t marks ≡ none
    → kept t marks (composed_lean outer inner) ≡ kept t (kept t marks inner) outer

-- SECRECY: of two documents that the inner query shows alike, the lean query shows the same, whatever the outer query is.
abbrev pub LeanSecrecy : Type 0
LeanSecrecy =
    (t u : Table) (outer inner : Query) → table_fault t ≡ none → table_fault u ≡ none
    → view t inner ≡ view u inner → view t (composed_lean outer inner) ≡ view u (composed_lean outer inner)

-- A way to make one query of a chain: a query, or one composed with the one of the queries after it, leanly or not.
pub data Made : Type 0 where
  alone : Query → Made
  on_top : Bool → Made → Made → Made

abbrev pub as_one : Made → Query
as_one (alone q) = q
as_one (on_top lean outer inner) = cond lean (composed_lean (as_one outer) (as_one inner)) (composed (as_one outer) (as_one inner))

abbrev pub chain : Made → List Query
chain (alone q) = q ∷ []
chain (on_top lean outer inner) = chain outer ++ chain inner

-- The view that the document is seen through: the last of the chain.
abbrev pub innermost : Made → Query
innermost (alone q) = q
innermost (on_top lean outer inner) = innermost inner

-- VIEWS IN A ROW: however a chain is grouped, and whichever of its compositions are lean, it keeps what its queries keep in turn,
abbrev pub LeanInTurn : Type 0
LeanInTurn =
    (t : Table) (marks : List ℕ) (g : Made) → table_fault t ≡ none → marks_fault t marks ≡ none
    → kept t marks (as_one g) ≡ kept_in_turn t marks (chain g)

-- and the innermost view's secrets.
abbrev pub LeanSecrets : Type 0
LeanSecrets =
    (t u : Table) (g : Made) → table_fault t ≡ none → table_fault u ≡ none
    → view t (innermost g) ≡ view u (innermost g) → view t (as_one g) ≡ view u (as_one g)

-- THREE VIEWS: both lean groupings of A, B and C keep what C, then B, then A keep,
abbrev pub LeanThreeInTurn : Type 0
LeanThreeInTurn =
    (t : Table) (marks : List ℕ) (a b c : Query) → table_fault t ≡ none → marks_fault t marks ≡ none
    → (kept t marks (composed_lean a (composed_lean b c)) ≡ kept t (kept t (kept t marks c) b) a)
    × (kept t marks (composed_lean (composed_lean a b) c) ≡ kept t (kept t (kept t marks c) b) a)

-- and show alike what C shows alike.
abbrev pub LeanThreeSecrets : Type 0
LeanThreeSecrets =
    (t u : Table) (a b c : Query) → table_fault t ≡ none → table_fault u ≡ none → view t c ≡ view u c
    → (view t (composed_lean a (composed_lean b c)) ≡ view u (composed_lean a (composed_lean b c)))
    × (view t (composed_lean (composed_lean a b) c) ≡ view u (composed_lean (composed_lean a b) c))

-- SIZE AND NESTING are their formulas, whatever the decision;
abbrev pub SizeBy : Type 0
SizeBy = (decides : Decision) (outer inner : Query) → size (composed_by decides outer inner) ≡ composed_size_by decides outer inner

abbrev pub NestingBy : Type 0
NestingBy = (decides : Decision) (outer inner : Query) → nesting (composed_by decides outer inner) ≡ composed_nesting_by decides outer inner

-- so those of the lean composition are;
abbrev pub LeanSize : Type 0
LeanSize = (outer inner : Query) → size (composed_lean outer inner) ≡ lean_size outer inner

abbrev pub LeanNesting : Type 0
LeanNesting = (outer inner : Query) → nesting (composed_lean outer inner) ≡ lean_nesting outer inner

-- NO LARGER, NO DEEPER: it has at most the items and the nesting of the composition.
abbrev pub NoLarger : Type 0
NoLarger = (outer inner : Query) → size (composed_lean outer inner) ≤ size (composed outer inner)

abbrev pub NoDeeper : Type 0
NoDeeper = (outer inner : Query) → nesting (composed_lean outer inner) ≤ nesting (composed outer inner)

-- HEIGHT AND SCRATCH: the height has the composition's bound, and a run of the lean query needs no more than the bytes that 2026-10 tells.
abbrev pub LeanHeight : Type 0
LeanHeight = (outer inner : Query) → height (composed_lean outer inner) ≤ height outer + max 3 (height inner) + length (paths inner) + 1

abbrev pub LeanScratchEnough : Type 0
LeanScratchEnough =
    (t : Table) (outer inner : Query) → scratch_of t (composed_lean outer inner) ≤ scratch_bytes (nodes t) (height outer) (height inner) (path_count inner)

-- WELL FORMED: the lean composition of queries that keep 01's rules keeps them;
abbrev pub ProperLean : Type 0
ProperLean = (outer inner : Query) → Proper outer → Proper inner → Proper (composed_lean outer inner)

-- it can stand in memory, where its size is within the limit;
abbrev pub LeanWellFormed : Type 0
LeanWellFormed =
    (outer inner : Query) → good outer ≡ true → good inner ≡ true → size (composed_lean outer inner) ≤ item_limit → good (composed_lean outer inner) ≡ true

-- and where its nesting is too, it is read back from its items.
abbrev pub LeanReadBack : Type 0
LeanReadBack =
    (outer inner : Query) → good outer ≡ true → good inner ≡ true → size (composed_lean outer inner) ≤ item_limit → nesting (composed_lean outer inner) ≤ bracket_limit
    → decode (encode (composed_lean outer inner)) ≡ some (composed_lean outer inner)

-- SMALL: every answer is below 2^32.
abbrev pub LeanSmall : Type 0
LeanSmall = (outer inner : List ℕ) (room : ℕ) → Small (compose_lean_answer outer inner room)
