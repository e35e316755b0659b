-- 02, 2026-09: three views in a row over the entry points' answers: A asks, B is the reseller's view, C the innermost one.
use Rattle.std.specs.Prelude.{ℕ, ◌≡◌, List, length, take}
use Rattle.paper.specs.Document.{Table}
use Rattle.paper.specs.Answers.{value, compose_answer, compose_out, run_answer, run_marks}
use Rattle.theorems.specs.Demands.{all_marked}
use Rattle.entry_promises.specs.Entries.{Shows, AlikeAfter}

-- A composition was accepted, and left these items.
pub record Composes (outer inner both : List ℕ) : Type 0 where
  pub old : List ℕ
  pub count : ℕ
  pub accepted : compose_answer outer inner (length old) ≡ value count
  pub left : both ≡ take count (compose_out outer inner old)

-- Neither grouping of A, B and C was refused: `last_two` is A with (B with C), `first_two` is (A with B) with C.
pub record Grouped (a b c last_two first_two : List ℕ) : Type 0 where
  pub bc : List ℕ
  pub ab : List ℕ
  pub b_on_c : Composes b c bc
  pub a_on_bc : Composes a bc last_two
  pub a_on_b : Composes a b ab
  pub ab_on_c : Composes ab c first_two

-- A run of the items inside marks was accepted with `count`, and left these marks.
pub record Runs (query : List ℕ) (t : Table) (given : List ℕ) (count : ℕ) (marks : List ℕ) : Type 0 where
  pub old : List ℕ
  pub room : ℕ
  pub accepted : run_answer query t given (length old) room ≡ value count
  pub left : marks ≡ run_marks query t given old room

-- THREE VIEWS: a run of either grouping answers and writes the same as the runs of C, B and A in turn, each inside the marks that the one before it wrote.
abbrev pub ThreeInTurn : Type 0
ThreeInTurn =
    (a b c last_two first_two : List ℕ) (t : Table) (given shown sold asked marks marks' : List ℕ) (i j k l m : ℕ) → Grouped a b c last_two first_two
    → Runs c t given i shown → Runs b t shown j sold → Runs a t sold k asked → Runs last_two t given l marks → Runs first_two t given m marks'
    → (l ≡ k) × (marks ≡ asked) × (m ≡ k) × (marks' ≡ asked)

-- The premises can be met: where both groupings and the run of C are accepted, the other four runs can be.
abbrev pub ThreeTogether : Type 0
ThreeTogether =
    (a b c last_two first_two : List ℕ) (t : Table) (given shown : List ℕ) (i : ℕ) → Grouped a b c last_two first_two → Runs c t given i shown
    → (j k : ℕ) × (sold asked : List ℕ) × Runs b t shown j sold × Runs a t sold k asked × Runs last_two t given k asked × Runs first_two t given k asked

-- THREE VIEWS' SECRETS: where C shows the same columns of two documents, with every mark 1, either grouping shows the same of both, whatever A and B are.
abbrev pub ThreeSecrets : Type 0
ThreeSecrets =
    (a b c last_two first_two : List ℕ) (t u : Table) (i j l m : ℕ) (parentsₜ kindsₜ parentsᵤ kindsᵤ : List ℕ) → Grouped a b c last_two first_two
    → Shows c t (all_marked t) i l parentsₜ kindsₜ → Shows c u (all_marked u) j m parentsᵤ kindsᵤ → parentsₜ ≡ parentsᵤ → kindsₜ ≡ kindsᵤ
    → AlikeAfter last_two t (all_marked t) u (all_marked u) × AlikeAfter first_two t (all_marked t) u (all_marked u)
