-- docs/SCOPE.md, demand 3: what composition owes, in full, for every document and every pair of queries. The proofs are in proofs/, one file a concept.
use Rattle.std.specs.Prelude.{ℕ, ◌≤◌, ◌<◌, ◌≡◌, Bool, true, false, not, ◌&&◌, List, [], ◌∷◌, replicate}
use Rattle.std.proofs.Math.Option.{none, some}
use Rattle.paper.specs.Limits.{item_limit, bracket_limit}
use Rattle.paper.specs.Query.{Axis, self, child, parent, descendant_or_self, ancestor_or_self, descendant, ancestor, following_sibling, preceding_sibling, following, preceding}
use Rattle.paper.specs.Query.{Expr, path, both, either, negated, Steps, stop, step, Preds, bare, pred, Query, paths}
use Rattle.paper.specs.Document.{Table, nodes, table_fault, marked, marks_fault}
use Rattle.paper.specs.Selection.{leads, holds, arrives, keeps, kept}
use Rattle.paper.specs.Extraction.{rank, extracted}
use Rattle.paper.specs.Items.{encode, decode, step_count, good_test, good}
use Rattle.paper.specs.Measures.{size, nesting}
use Rattle.paper.specs.Composition.{turned, reversed, visible, guarded, guard_expr, guard_steps, composed}

-- Every node marked.
abbrev pub all_marked : Table → List ℕ
all_marked t = replicate (nodes t) 1

-- EXACTNESS: the composed query keeps, inside any marks without fault, what the outer query keeps inside what the inner query keeps.
abbrev pub Exactness : Type 0
Exactness =
    (t : Table) (marks : List ℕ) (outer inner : Query) → table_fault t ≡ none → marks_fault t marks ≡ none
    → kept t marks (composed outer inner) ≡ kept t (kept t marks inner) outer

-- EXTRACTION: a query run inside marks keeps the same sub-document as the query run on the extracted table with every mark 1.
abbrev pub Extraction : Type 0
Extraction =
    (t : Table) (marks : List ℕ) (q : Query) → table_fault t ≡ none → marks_fault t marks ≡ none
    → extracted t (kept t marks q) ≡ extracted (extracted t marks) (kept (extracted t marks) (all_marked (extracted t marks)) q)

-- SAME NODES: inside marks, a query keeps the very nodes that it keeps, under their new numbers, on the extracted table with every mark 1.
abbrev pub SameNodes : Type 0
SameNodes =
    (t : Table) (marks : List ℕ) (q : Query) (i : ℕ) → table_fault t ≡ none → marks_fault t marks ≡ none → i < nodes t → marked marks i ≡ true
    → keeps (extracted t marks) (all_marked (extracted t marks)) q (rank marks i) ≡ keeps t marks q i

-- What a query keeps of a whole document, as a table of its own.
abbrev pub view : Table → Query → Table
view t q = extracted t (kept t (all_marked t) q)

-- SECRECY: of two documents that the inner query shows alike, the composed query shows the same, whatever the outer query is.
abbrev pub Secrecy : Type 0
Secrecy =
    (t u : Table) (outer inner : Query) → table_fault t ≡ none → table_fault u ≡ none
    → view t inner ≡ view u inner → view t (composed outer inner) ≡ view u (composed outer inner)

-- THE LAWS OF AN AXIS, all that the theorems use of it. CONVERSE: an axis leads from i to j exactly if its turned axis leads from j to i.
abbrev pub Converse : Type 0
Converse = (t : Table) (a : Axis) (i j : ℕ) → leads t (turned a) i j ≡ leads t a j i

-- Does the axis lead from a node only to nodes at or above it?
abbrev pub rises : Axis → Bool
rises self = true
rises child = false
rises parent = true
rises descendant_or_self = false
rises ancestor_or_self = true
rises descendant = false
rises ancestor = true
rises following_sibling = false
rises preceding_sibling = false
rises following = false
rises preceding = false

-- STAYS INSIDE: an axis that rises leads from a marked node only to marked nodes, since marks are closed under parents.
abbrev pub StaysInside : Type 0
StaysInside =
    (t : Table) (marks : List ℕ) (a : Axis) (i j : ℕ) → table_fault t ≡ none → marks_fault t marks ≡ none → rises a ≡ true → i < nodes t → marked marks i ≡ true
    → leads t a i j ≡ true → marked marks j ≡ true

-- UNGUARDED: a step is left without V exactly where its axis rises.
abbrev pub Unguarded : Type 0
Unguarded = (a : Axis) → rises a ≡ not (guarded a)

-- RENUMBERED: an axis leads from a marked node to a marked node exactly if it leads, in the extracted table, from the one's new number to the other's.
abbrev pub Renumbered : Type 0
Renumbered =
    (t : Table) (marks : List ℕ) (a : Axis) (i j : ℕ) → table_fault t ≡ none → marks_fault t marks ≡ none → i < nodes t → j < nodes t
    → marked marks i ≡ true → marked marks j ≡ true → leads (extracted t marks) a (rank marks i) (rank marks j) ≡ leads t a i j

-- REVERSE: the reverse of a path holds at a node exactly if the path leads there from the root, inside marks.
abbrev pub Reverse : Type 0
Reverse =
    (t : Table) (marks : List ℕ) (p : Steps) (k : ℕ) → table_fault t ≡ none → marks_fault t marks ≡ none → k < nodes t → marked marks k ≡ true
    → holds t marks (reversed p) k ≡ (marked marks 0 && arrives t marks p 0 k)

-- VISIBLE: V holds at a node exactly if the inner query keeps it.
abbrev pub Visible : Type 0
Visible =
    (t : Table) (marks : List ℕ) (inner : Query) (i : ℕ) → table_fault t ≡ none → marks_fault t marks ≡ none → i < nodes t → marked marks i ≡ true
    → holds t marks (visible inner) i ≡ keeps t marks inner i

-- GUARD: at a node that the inner query keeps, a guarded expression holds inside the given marks exactly if the plain one holds inside what the inner query keeps.
abbrev pub GuardedExpr : Type 0
GuardedExpr =
    (t : Table) (marks : List ℕ) (inner : Query) (e : Expr) (i : ℕ) → table_fault t ≡ none → marks_fault t marks ≡ none
    → i < nodes t → marked (kept t marks inner) i ≡ true → holds t marks (guard_expr e (visible inner)) i ≡ holds t (kept t marks inner) e i

-- From such a node guarded steps lead, inside the given marks, where the plain ones lead inside what the inner query keeps.
abbrev pub GuardedSteps : Type 0
GuardedSteps =
    (t : Table) (marks : List ℕ) (inner : Query) (p : Steps) (i k : ℕ) → table_fault t ≡ none → marks_fault t marks ≡ none
    → i < nodes t → marked (kept t marks inner) i ≡ true → arrives t marks (guard_steps p (visible inner)) i k ≡ arrives t (kept t marks inner) p i k

-- 01's rules on a query of any size: names are below 256, and each path of a predicate has a step; only top-level paths may have none.
abbrev mutual
  pub ProperExpr : Expr → Type 0
  ProperExpr (path steps) = (1 ≤ step_count steps) × ProperSteps steps
  ProperExpr (both a b) = ProperExpr a × ProperExpr b
  ProperExpr (either a b) = ProperExpr a × ProperExpr b
  ProperExpr (negated a) = ProperExpr a

  pub ProperSteps : Steps → Type 0
  ProperSteps stop = Unit
  ProperSteps (step a x ps rest) = (good_test x ≡ true) × (ProperPreds ps × ProperSteps rest)

  pub ProperPreds : Preds → Type 0
  ProperPreds bare = Unit
  ProperPreds (pred e ps) = ProperExpr e × ProperPreds ps

abbrev pub ProperPaths : List Steps → Type 0
ProperPaths [] = Unit
ProperPaths (p ∷ ps) = ProperSteps p × ProperPaths ps

abbrev pub Proper : Query → Type 0
Proper q = ProperPaths (paths q)

-- WELL FORMED: the composition of queries that keep 01's rules keeps them;
abbrev pub ProperComposed : Type 0
ProperComposed = (outer inner : Query) → Proper outer → Proper inner → Proper (composed outer inner)

-- the composition of queries that can stand in memory can stand there, where its size is within the limit;
abbrev pub WellFormed : Type 0
WellFormed =
    (outer inner : Query) → good outer ≡ true → good inner ≡ true → size (composed outer inner) ≤ item_limit → good (composed outer inner) ≡ true

-- and where its nesting is too, it is read back from its items.
abbrev pub ReadBack : Type 0
ReadBack =
    (outer inner : Query) → good outer ≡ true → good inner ≡ true → size (composed outer inner) ≤ item_limit → nesting (composed outer inner) ≤ bracket_limit
    → decode (encode (composed outer inner)) ≡ some (composed outer inner)
