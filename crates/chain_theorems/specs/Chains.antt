-- 02, 2026-09: views in a row. A chain of queries, grouped into one by compositions, keeps what its queries keep in turn, however it is grouped, and keeps the secrets of the innermost one.
use Rattle.std.specs.Prelude.{ℕ, ◌≡◌, List, [], ◌∷◌, ◌++◌}
use Rattle.std.proofs.Math.Option.{none}
use Rattle.paper.specs.Query.{Query}
use Rattle.paper.specs.Document.{Table, table_fault, marks_fault}
use Rattle.paper.specs.Selection.{kept}
use Rattle.paper.specs.Composition.{composed}
use Rattle.theorems.specs.Demands.{view}

-- The marks that queries leave in turn, the last of the list first, each inside what the one before it left.
abbrev pub kept_in_turn : Table → List ℕ → List Query → List ℕ
kept_in_turn t marks [] = marks
kept_in_turn t marks (q ∷ qs) = kept t (kept_in_turn t marks qs) q

-- A way to group a chain: one query, or a group composed with the group of the queries after it.
pub data Grouping : Type 0 where
  alone : Query → Grouping
  on_top : Grouping → Grouping → Grouping

-- The query that a grouping makes, and the chain that it groups.
abbrev pub as_one : Grouping → Query
as_one (alone q) = q
as_one (on_top outer inner) = composed (as_one outer) (as_one inner)

abbrev pub chain : Grouping → List Query
chain (alone q) = q ∷ []
chain (on_top outer inner) = chain outer ++ chain inner

-- The view that the document is seen through: the last of the chain.
abbrev pub innermost : Grouping → Query
innermost (alone q) = q
innermost (on_top outer inner) = innermost inner

-- IN TURN: however a chain is grouped, it keeps, inside any marks without fault, what its queries keep in turn.
abbrev pub InTurn : Type 0
InTurn =
    (t : Table) (marks : List ℕ) (g : Grouping) → table_fault t ≡ none → marks_fault t marks ≡ none
    → kept t marks (as_one g) ≡ kept_in_turn t marks (chain g)

-- SECRETS: of two documents that the innermost view shows alike, the chain shows the same, however it is grouped.
abbrev pub Secrets : Type 0
Secrets =
    (t u : Table) (g : Grouping) → table_fault t ≡ none → table_fault u ≡ none
    → view t (innermost g) ≡ view u (innermost g) → view t (as_one g) ≡ view u (as_one g)

-- THREE VIEWS: both groupings of A, B and C keep what C, then B, then A keep.
abbrev pub ThreeInTurn : Type 0
ThreeInTurn =
    (t : Table) (marks : List ℕ) (a b c : Query) → table_fault t ≡ none → marks_fault t marks ≡ none
    → (kept t marks (composed a (composed b c)) ≡ kept t (kept t (kept t marks c) b) a) × (kept t marks (composed (composed a b) c) ≡ kept t (kept t (kept t marks c) b) a)

-- THREE VIEWS' SECRETS: of two documents that C shows alike, both groupings show the same.
abbrev pub ThreeSecrets : Type 0
ThreeSecrets =
    (t u : Table) (a b c : Query) → table_fault t ≡ none → table_fault u ≡ none → view t c ≡ view u c
    → (view t (composed a (composed b c)) ≡ view u (composed a (composed b c))) × (view t (composed (composed a b) c) ≡ view u (composed (composed a b) c))
