-- What a yes means for a partner's table, and which tables get one; the proofs are in proofs/.
use Rattle.std.specs.Prelude.{ℕ, ◌<◌, ◌≡◌, Bool, true, false, ◌&&◌, List, [], length, replicate}
use Rattle.std.proofs.Math.Option.{none}
use Rattle.paper.specs.Tools.{some_below}
use Rattle.paper.specs.Query.{Query}
use Rattle.paper.specs.Document.{Table, nodes, table_fault, marked, marks_fault}
use Rattle.paper.specs.Selection.{child_of, kept}
use Rattle.paper.specs.Extraction.{extracted}
use Rattle.paper.specs.Cut.{has_child, is_cut, marks_of, numbers_of}
use Rattle.theorems.specs.Demands.{all_marked, view}

-- Our table is without fault, the partner's columns are of one length, and it is a cut.
pub record Yes (t cut : Table) (numbers : List ℕ) : Type 0 where
  pub ours : table_fault t ≡ none
  pub kinds_long : length cut.kinds ≡ nodes cut
  pub numbers_long : length numbers ≡ nodes cut
  pub says : is_cut t cut numbers ≡ true

-- A YES MEANS that the marks it stands for are without fault,
abbrev pub MarksAreGood : Type 0
MarksAreGood = (t cut : Table) (numbers : List ℕ) → Yes t cut numbers → marks_fault t (marks_of t numbers) ≡ none

-- that the partner's table is exactly what an extraction gives for them, its numbers being those of the marked nodes,
abbrev pub Extracts : Type 0
Extracts = (t cut : Table) (numbers : List ℕ) → Yes t cut numbers → (extracted t (marks_of t numbers) ≡ cut) × (numbers_of t (marks_of t numbers) ≡ numbers)

-- Has the node i a marked child?
abbrev pub keeps_child : Table → List ℕ → ℕ → Bool
keeps_child t marks i = some_below (nodes t) (λ j. marked marks j && child_of t i j)

-- Kept leaves are leaves: a marked node that has no marked child has no child.
abbrev pub LeavesStay : Table → List ℕ → Type 0
LeavesStay t marks = (i : ℕ) → i < nodes t → marked marks i ≡ true → keeps_child t marks i ≡ false → has_child t i ≡ false

-- and that their kept leaves are leaves.
abbrev pub YesLeaves : Type 0
YesLeaves = (t cut : Table) (numbers : List ℕ) → Yes t cut numbers → LeavesStay t (marks_of t numbers)

-- The empty table stands for all marks 0.
abbrev pub EmptyMarks : Type 0
EmptyMarks = (t : Table) → marks_of t [] ≡ replicate (nodes t) 0

-- THE CONVERSE: marks without fault whose kept leaves are leaves give a yes for their extracted table,
abbrev pub ExtractedYes : Type 0
ExtractedYes =
    (t : Table) (marks : List ℕ) → table_fault t ≡ none → marks_fault t marks ≡ none → LeavesStay t marks → is_cut t (extracted t marks) (numbers_of t marks) ≡ true

-- and they are the marks that it stands for.
abbrev pub MarksBack : Type 0
MarksBack = (t : Table) (marks : List ℕ) → length marks ≡ nodes t → marks_fault t marks ≡ none → marks_of t (numbers_of t marks) ≡ marks

-- RUNS: what a query keeps of a whole document are such marks, since all below what is selected is kept,
abbrev pub KeptLeaves : Type 0
KeptLeaves = (t : Table) (q : Query) → table_fault t ≡ none → LeavesStay t (kept t (all_marked t) q)

-- so its extract is a cut.
abbrev pub KeptYes : Type 0
KeptYes = (t : Table) (q : Query) → table_fault t ≡ none → is_cut t (view t q) (numbers_of t (kept t (all_marked t) q)) ≡ true
