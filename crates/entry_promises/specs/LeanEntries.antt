-- Lean compositions over the entry points' answers: what an accepted one leaves, that it is never refused where the composition is not, and that it is exact and keeps secrets, by itself and in a row of views.
use Rattle.std.specs.Prelude.{ℕ, ◌≤◌, ◌≡◌, List, length, take}
use Rattle.std.proofs.Math.Option.{some}
use Rattle.paper.specs.Limits.{item_limit}
use Rattle.paper.specs.Query.{Query}
use Rattle.paper.specs.Items.{decode}
use Rattle.paper.specs.Document.{Table, nodes}
use Rattle.paper.specs.Answers.{value, refusal, scratch_of, compose_answer, compose_out, run_answer, run_marks}
use Rattle.paper.specs.Room.{height_answer, paths_answer, scratch_answer}
use Rattle.paper.specs.Lean.{composed_lean, compose_lean_answer, compose_lean_out}
use Rattle.theorems.specs.Demands.{all_marked}
use Rattle.entry_promises.specs.Entries.{Shows, AlikeAfter}
use Rattle.entry_promises.specs.Chains.{Runs}

-- The items are those that are made of two queries in memory, in the way given, and can stand in memory themselves.
pub record IsMade (makes : Query → Query → Query) (outer inner both : List ℕ) : Type 0 where
  pub outer_is : Query
  pub inner_is : Query
  pub outer_few : length outer ≤ item_limit
  pub inner_few : length inner ≤ item_limit
  pub outer_decodes : decode outer ≡ some outer_is
  pub inner_decodes : decode inner ≡ some inner_is
  pub decodes : decode both ≡ some (makes outer_is inner_is)
  pub few : length both ≤ item_limit

-- ACCEPTANCE: an accepted lean composition leaves the items of the lean composition, as many as it answers.
abbrev pub LeanAcceptance : Type 0
LeanAcceptance =
    (outer inner out : List ℕ) (n : ℕ) → compose_lean_answer outer inner (length out) ≡ value n →
    let both = take n (compose_lean_out outer inner out) in
    IsMade composed_lean outer inner both × (length both ≡ n)

-- NO MORE REFUSALS: where the composition is accepted the lean one is, with at most as many items.
abbrev pub NoMoreRefusals : Type 0
NoMoreRefusals =
    (outer inner : List ℕ) (room n : ℕ) → compose_answer outer inner room ≡ value n → (m : ℕ) × (compose_lean_answer outer inner room ≡ value m) × (m ≤ n)

-- No run calls them malformed.
abbrev pub LeanNeverMalformed : Type 0
LeanNeverMalformed =
    (outer inner out : List ℕ) (n : ℕ) (t : Table) (given : List ℕ) (marks_room scratch_room place : ℕ) → compose_lean_answer outer inner (length out) ≡ value n
    → run_answer (take n (compose_lean_out outer inner out)) t given marks_room scratch_room ≡ refusal 6 place → ⊥

-- THE SAME AS COMPOSED: a run of the lean items answers and writes the same as a run of the composed items.
abbrev pub LeanAsComposed : Type 0
LeanAsComposed =
    (outer inner out old : List ℕ) (t : Table) (given marks marks' : List ℕ) (n m a b room room' : ℕ) → compose_lean_answer outer inner (length out) ≡ value n
    → compose_answer outer inner (length old) ≡ value m →
    let lean = take n (compose_lean_out outer inner out) in
    let both = take m (compose_out outer inner old) in
    run_answer lean t given (length marks) room ≡ value a → run_answer both t given (length marks') room' ≡ value b
    → (a ≡ b) × (run_marks lean t given marks room ≡ run_marks both t given marks' room')

-- EXACTNESS: a run of the lean items answers and writes the same as a run of the inner items and, inside the marks that this wrote, a run of the outer items.
abbrev pub LeanExactness : Type 0
LeanExactness =
    (outer inner out : List ℕ) (t : Table) (given marks first second : List ℕ) (n a b c room room₁ room₂ : ℕ) → compose_lean_answer outer inner (length out) ≡ value n →
    let both = take n (compose_lean_out outer inner out) in
    let shown = run_marks inner t given first room₁ in
    run_answer both t given (length marks) room ≡ value a → run_answer inner t given (length first) room₁ ≡ value b → run_answer outer t shown (length second) room₂ ≡ value c
    → (a ≡ c) × (run_marks both t given marks room ≡ run_marks outer t shown second room₂)

-- The premises can be met: where the lean composition and the run of the inner items are accepted, the other two runs are too, with marks as long as the table and scratch enough.
abbrev pub LeanTogether : Type 0
LeanTogether =
    (outer inner out : List ℕ) (t : Table) (given first : List ℕ) (o q : Query) (n b room room₁ room₂ : ℕ) → compose_lean_answer outer inner (length out) ≡ value n →
    let both = take n (compose_lean_out outer inner out) in
    run_answer inner t given (length first) room₁ ≡ value b → decode both ≡ some q → decode outer ≡ some o → scratch_of t q ≤ room → scratch_of t o ≤ room₂
    → (a : ℕ) × (run_answer both t given (nodes t) room ≡ value a) × (run_answer outer t (run_marks inner t given first room₁) (nodes t) room₂ ≡ value a)

-- SECRECY: where the inner items show the same columns of two documents, with every mark 1, the lean items show the same of both, whatever the outer items are.
abbrev pub LeanSecrecy : Type 0
LeanSecrecy =
    (outer inner out : List ℕ) (t u : Table) (n a b l m : ℕ) (parentsₜ kindsₜ parentsᵤ kindsᵤ : List ℕ) → compose_lean_answer outer inner (length out) ≡ value n
    → Shows inner t (all_marked t) a l parentsₜ kindsₜ → Shows inner u (all_marked u) b m parentsᵤ kindsᵤ
    → parentsₜ ≡ parentsᵤ → kindsₜ ≡ kindsᵤ
    → AlikeAfter (take n (compose_lean_out outer inner out)) t (all_marked t) u (all_marked u)

-- SCRATCH: lent the bytes that are told by the nodes of the table and by the heights and path counts of two queries, a run of their accepted lean composition never gets 10.
abbrev pub LeanScratchEnough : Type 0
LeanScratchEnough =
    (outer inner out : List ℕ) (t : Table) (given : List ℕ) (n oh op ih ip bytes marks_room scratch_room place : ℕ) → compose_lean_answer outer inner (length out) ≡ value n
    → height_answer outer ≡ value oh → paths_answer outer ≡ value op → height_answer inner ≡ value ih → paths_answer inner ≡ value ip
    → scratch_answer (nodes t) oh op ih ip ≡ value bytes → bytes ≤ scratch_room
    → run_answer (take n (compose_lean_out outer inner out)) t given marks_room scratch_room ≡ refusal 10 place → ⊥

-- A lean composition was accepted, and left these items.
pub record ComposesLean (outer inner both : List ℕ) : Type 0 where
  pub old : List ℕ
  pub count : ℕ
  pub accepted : compose_lean_answer outer inner (length old) ≡ value count
  pub left : both ≡ take count (compose_lean_out outer inner old)

-- Neither lean grouping of A, B and C was refused: `last_two` is A with (B with C), `first_two` is (A with B) with C.
pub record GroupedLean (a b c last_two first_two : List ℕ) : Type 0 where
  pub bc : List ℕ
  pub ab : List ℕ
  pub b_on_c : ComposesLean b c bc
  pub a_on_bc : ComposesLean a bc last_two
  pub a_on_b : ComposesLean a b ab
  pub ab_on_c : ComposesLean ab c first_two

-- THREE VIEWS: a run of either lean grouping answers and writes the same as the runs of C, B and A in turn, each inside the marks that the one before it wrote.
abbrev pub LeanThreeInTurn : Type 0
LeanThreeInTurn =
    (a b c last_two first_two : List ℕ) (t : Table) (given shown sold asked marks marks' : List ℕ) (i j k l m : ℕ) → GroupedLean a b c last_two first_two
    → Runs c t given i shown → Runs b t shown j sold → Runs a t sold k asked → Runs last_two t given l marks → Runs first_two t given m marks'
    → (l ≡ k) × (marks ≡ asked) × (m ≡ k) × (marks' ≡ asked)

-- The premises can be met: where both lean groupings and the run of C are accepted, the other four runs can be.
abbrev pub LeanThreeTogether : Type 0
LeanThreeTogether =
    (a b c last_two first_two : List ℕ) (t : Table) (given shown : List ℕ) (i : ℕ) → GroupedLean a b c last_two first_two → Runs c t given i shown
    → (j k : ℕ) × (sold asked : List ℕ) × Runs b t shown j sold × Runs a t sold k asked × Runs last_two t given k asked × Runs first_two t given k asked

-- THREE VIEWS' SECRETS: where C shows the same columns of two documents, with every mark 1, either lean grouping shows the same of both, whatever A and B are.
abbrev pub LeanThreeSecrets : Type 0
LeanThreeSecrets =
    (a b c last_two first_two : List ℕ) (t u : Table) (i j l m : ℕ) (parentsₜ kindsₜ parentsᵤ kindsᵤ : List ℕ) → GroupedLean a b c last_two first_two
    → Shows c t (all_marked t) i l parentsₜ kindsₜ → Shows c u (all_marked u) j m parentsᵤ kindsᵤ → parentsₜ ≡ parentsᵤ → kindsₜ ≡ kindsᵤ
    → AlikeAfter last_two t (all_marked t) u (all_marked u) × AlikeAfter first_two t (all_marked t) u (all_marked u)
