-- 02, 2026-14: what a sheet owes. What a view keeps and what it hides are together all there is, for each document and over the run; and no sum of a run outgrows the 32 bits in which it is kept.
use Rattle.std.specs.Prelude.{ℕ, ◌+◌, ◌^◌, ◌≤◌, ◌<◌, ◌≡◌, List}
use Rattle.paper.specs.Document.{Table}
use Rattle.paper.specs.Sheet.{Outcome, File, all_of, kept_of, hidden_of, adds, sum_over, sum_below, document_limit, outcomes}

-- A DOCUMENT: of each name the elements kept and those hidden are all there are.
abbrev pub KeptAndHidden : Type 0
KeptAndHidden = (t : Table) (marks : List ℕ) (v : ℕ) → kept_of t marks v + hidden_of t marks v ≡ all_of t marks v

-- THE RUN: so are the sums over documents with any outcomes, for each name, and for as many names as there are.
abbrev pub SumsTogether : Type 0
SumsTogether =
    (os : List Outcome) →
    ((v : ℕ) → sum_over (adds kept_of v) os + sum_over (adds hidden_of v) os ≡ sum_over (adds all_of v) os)
    × ((names : ℕ) → sum_below names (λ v. sum_over (adds kept_of v) os) + sum_below names (λ v. sum_over (adds hidden_of v) os) ≡ sum_below names (λ v. sum_over (adds all_of v) os))

-- NO SUM WRAPS: whatever the files are and however many, each sum over them is below 2^32.
abbrev pub SumsFit : Type 0
SumsFit =
    (view list : List ℕ) (files : List File) (v : ℕ) →
    let os = outcomes view list document_limit files in
    (sum_over (adds all_of v) os < 2 ^ 32) × (sum_over (adds kept_of v) os < 2 ^ 32) × (sum_over (adds hidden_of v) os < 2 ^ 32)
