-- 02, 2026-05: the two engines, `run` and `follow`, over their answers and over calls.
use Rattle.std.specs.Prelude.{ℕ, ◌≤◌, ◌≡◌, List, length}
use contract.Lifetimes.{Lfts}
use denote.Triple.Clauses.{AtExit}
use borrow.Fn.Kinds.{Dens, ended_of}
use Rattle.paper.specs.Document.{Table, table_of}
use Rattle.paper.specs.Items.{decode}
use Rattle.paper.specs.Answers.{refusal, run_answer, run_marks}
use Rattle.paper.specs.Answers.{Answer as Told}
use Rattle.paper.specs.Told.{told}
use Rattle.paper.specs.Told.{Answer}
use Rattle.follow.specs.Follows.{enough}
use Rattle.follow.proofs.follow
use Rattle.call_promises.specs.Calls.{RunCall}

-- What `follow` answers, and the marks that it leaves: those of a run with scratch enough.
abbrev pub follow_answer : List ℕ → Table → List ℕ → ℕ → Told
follow_answer query t given marks_room = run_answer query t given marks_room (enough t (decode query))

abbrev pub follow_marks : List ℕ → Table → List ℕ → List ℕ → List ℕ
follow_marks query t given marks = run_marks query t given marks (enough t (decode query))

-- EQUALITY. Where `run` does not answer 10, both answer the same and leave the same marks;
abbrev pub SameEngines : Type 0
SameEngines =
    (query : List ℕ) (t : Table) (given marks : List ℕ) (scratch_room : ℕ) → ((place : ℕ) → run_answer query t given (length marks) scratch_room ≡ refusal 10 place → ⊥)
    → (run_answer query t given (length marks) scratch_room ≡ follow_answer query t given (length marks)) × (run_marks query t given marks scratch_room ≡ follow_marks query t given marks)

-- where it does, `follow` answers and leaves what a run does with the bytes of scratch that were asked for, or more.
abbrev pub EnoughScratch : Type 0
EnoughScratch =
    (query : List ℕ) (t : Table) (given marks : List ℕ) (scratch_room place more : ℕ) → run_answer query t given (length marks) scratch_room ≡ refusal 10 place → place ≤ more
    → (run_answer query t given (length marks) more ≡ follow_answer query t given (length marks)) × (run_marks query t given marks more ≡ follow_marks query t given marks)

-- `follow` never answers 10.
abbrev pub NeverShort : Type 0
NeverShort = (query : List ℕ) (t : Table) (given : List ℕ) (marks_room place : ℕ) → follow_answer query t given marks_room ≡ refusal 10 place → ⊥

-- A call of `follow::follow`, which held `old` in the slice for marks and left these.
pub record FollowCall (query parents kinds given old : List ℕ) (answer : Answer) (marks : List ℕ) : Type 0 where
  pub κs : Lfts 5
  pub args : Dens κs follow.Kinds.ps
  pub exit : AtExit (ended_of 5 follow.Kinds.ps follow.Kinds.r) κs
  pub met : follow.Reads.Post κs args answer exit
  pub query_lent : args.0.now ≡ query
  pub parents_lent : args.1.0.now ≡ parents
  pub kinds_lent : args.1.1.0.now ≡ kinds
  pub given_lent : args.1.1.1.0.now ≡ given
  pub marks_lent : args.1.1.1.1.0.now ≡ old
  pub marks_left : exit.1.1.1.1.0.now ≡ marks

-- The same over calls: lent the same, both answer the same and leave the same marks, unless `run` answers 10.
abbrev pub SameCalls : Type 0
SameCalls =
    (query parents kinds given old marks marks' : List ℕ) (answer answer' : Answer) (run : RunCall query parents kinds given answer marks) → run.args.1.1.1.1.0.now ≡ old
    → FollowCall query parents kinds given old answer' marks' → ((place : ℕ) → told answer ≡ refusal 10 place → ⊥) → (told answer ≡ told answer') × (marks ≡ marks')
