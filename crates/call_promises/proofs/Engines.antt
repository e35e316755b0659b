-- The two engines answer and leave the same: both are told by one definition, which looks at the scratch in its last line alone. Assumes nothing.
use Prim.Native.Nat.{ℕ, ◌≤◌}
use native.Mathlib.Omega.{arith}
use mathlib.Core.Path.{◌≡◌, refl, sym, ◌∙◌, ap}
use mathlib.Core.Bool.{true, false}
use mathlib.Core.List.{List}
use mathlib.Core.Logic.{⊎_elim}
use mathlib.Core.Option.{Option, none, some}
use lib.Dec.{ltb}
use lib.ListN.{length}
use borrow.Author.Tests.{le-ltb}
use Rattle.paper.specs.Tools.{when}
use Rattle.paper.specs.Query.{Query}
use Rattle.paper.specs.Items.{decode}
use Rattle.paper.specs.Document.{Table, table_of, table_fault, marks_fault}
use Rattle.paper.specs.Answers.{refusal, short, at_exit, kept_got, scratch_of, run_answer, run_marks}
use Rattle.paper.specs.Answers.{Answer as Told}
use Rattle.paper.specs.Told.{told}
use Rattle.paper.specs.Told.{Answer}
use Rattle.paper.proofs.Tests.{decide}
use Rattle.follow.specs.Follows.{enough}
use Rattle.judge.proofs.Answering.{Long}
use Rattle.call_promises.specs.Calls.{RunCall}
use Rattle.call_promises.specs.Engines.{follow_answer, follow_marks, SameEngines, EnoughScratch, NeverShort, FollowCall, SameCalls}

-- Room that suffices is not short.
sufficient : (t : Table) (q : Query) (room : ℕ) → scratch_of t q ≤ room → short room (scratch_of t q) ≡ none
sufficient t q room l = ap (λ b. when b (scratch_of t q)) (le-ltb room (scratch_of t q) l)

module _ (query : List ℕ) (t : Table) (given : List ℕ) (marks_room : ℕ) where
  -- A run with this scratch answers as one with enough, or 10 with the bytes needed.
  same_or_short : (room : ℕ) → (C : Type 0) → (run_answer query t given marks_room room ≡ follow_answer query t given marks_room → C)
      → ((q : Query) → decode query ≡ some q → run_answer query t given marks_room room ≡ refusal 10 (scratch_of t q) → C) → C
  unfolding run_answer
  same_or_short room C alike lacking = go (when (Long query t given marks_room) 0) refl (decode query) refl (table_fault t) refl (marks_fault t given) refl
    where
      go : (l : Option ℕ) → when (Long query t given marks_room) 0 ≡ l → (o : Option Query) → decode query ≡ o → (u : Option ℕ) → table_fault t ≡ u → (v : Option ℕ) → marks_fault t given ≡ v → C
      go (some p) e o f u g v k = alike (rw e)
      go none e none f u g v k = alike (rw (e, f))
      go none e (some q) f (some p) g v k = alike (rw (e, f, g))
      go none e (some q) f none g (some p) k = alike (rw (e, f, g, k))
      go none e (some q) f none g none k =
          ⊎_elim
          (λ l. lacking q f (let few : short room (scratch_of t q) ≡ some (scratch_of t q) = ap (λ b. when b (scratch_of t q)) l in rw (e, f, g, k, few)))
          (λ l. alike (let many : short room (scratch_of t q) ≡ none = ap (λ b. when b (scratch_of t q)) l in rw (e, f, g, k, many, sufficient t q (scratch_of t q) (omega arith)))) (decide (ltb room (scratch_of t q)))

  -- With the bytes needed it is never 10.
  not_ten : (q : Query) → decode query ≡ some q → (room place : ℕ) → scratch_of t q ≤ room → run_answer query t given marks_room room ≡ refusal 10 place → ⊥
  unfolding run_answer
  not_ten q d room place l h = go (when (Long query t given marks_room) 0) refl (table_fault t) refl (marks_fault t given) refl
    where
      other : {n p m r : ℕ} → refusal n p ≡ refusal m r → n ≡ m
      other e = cc

      go : (o : Option ℕ) → when (Long query t given marks_room) 0 ≡ o → (u : Option ℕ) → table_fault t ≡ u → (v : Option ℕ) → marks_fault t given ≡ v → ⊥
      go (some p) e u g v k = let z : ◌≡◌ {A = ℕ} 1 10 = other (rw e at h) in omega arith
      go none e (some p) g v k = let z : ◌≡◌ {A = ℕ} 7 10 = other (rw (e, d, g) at h) in omega arith
      go none e none g (some p) k = let z : ◌≡◌ {A = ℕ} 8 10 = other (rw (e, d, g, k) at h) in omega arith
      go none e none g none k = let y = rw (e, d, g, k, sufficient t q room l) at h in let z : ◌≡◌ {A = ℕ} 0 1 = cc in omega arith

same_marks : (query : List ℕ) (t : Table) (given marks : List ℕ) (room more : ℕ) → run_answer query t given (length marks) room ≡ run_answer query t given (length marks) more
    → run_marks query t given marks room ≡ run_marks query t given marks more
unfolding run_marks
same_marks query t given marks room more e = ap (λ (a : Told). at_exit a (kept_got t given (decode query)) marks) e

pub never_short : NeverShort
unfolding run_answer
never_short query t given marks_room place h = go (decode query) refl
  where
    other : {n p m r : ℕ} → refusal n p ≡ refusal m r → n ≡ m
    other e = cc

    first : (o : Option ℕ) → when (Long query t given marks_room) 0 ≡ o → decode query ≡ none → ⊥
    first (some p) e d = let z : ◌≡◌ {A = ℕ} 1 10 = other (rw e at h) in omega arith
    first none e d = let z : ◌≡◌ {A = ℕ} 6 10 = other (rw (e, d) at h) in omega arith

    go : (o : Option Query) → decode query ≡ o → ⊥
    go none d = first (when (Long query t given marks_room) 0) refl d
    go (some q) d = not_ten query t given marks_room q d (enough t (decode query)) place (omega (arith, ap (enough t) d)) h

pub same_engines : SameEngines
same_engines query t given marks room never =
    same_or_short query t given (length marks) room _ (λ e. (e, same_marks query t given marks room (enough t (decode query)) e)) (λ q d h. absurd (never (scratch_of t q) h))

pub enough_scratch : EnoughScratch
enough_scratch query t given marks room place more h l =
    same_or_short query t given (length marks) room _ (λ e. absurd (never_short query t given (length marks) place (sym e ∙ h)))
    (λ q d k.
    let needed : scratch_of t q ≡ place = at_place (sym k ∙ h) in
    same_engines query t given marks more (λ p e. not_ten query t given (length marks) q d more p (omega arith) e))
  where
    at_place : {p r : ℕ} → refusal 10 p ≡ refusal 10 r → p ≡ r
    at_place e = cc

pub same_calls : SameCalls
same_calls query parents kinds given old marks marks' answer answer' run lent follow never =
    let t = table_of parents kinds in
    let room = length run.args.1.1.1.1.1.0.now in
    let said : told answer ≡ run_answer query t given (length old) room = rw (run.query_lent, run.parents_lent, run.kinds_lent, run.given_lent, lent) at run.met.0 in
    let left : marks ≡ run_marks query t given old room = sym run.marks_left ∙ (rw (run.query_lent, run.parents_lent, run.kinds_lent, run.given_lent, lent) at run.met.1.0) in
    let said' : told answer' ≡ follow_answer query t given (length old) = rw (follow.query_lent, follow.parents_lent, follow.kinds_lent, follow.given_lent, follow.marks_lent) at follow.met.0 in
    let left' : marks' ≡ follow_marks query t given old = sym follow.marks_left ∙ (rw (follow.query_lent, follow.parents_lent, follow.kinds_lent, follow.given_lent, follow.marks_lent) at follow.met.1) in
    let alike = same_engines query t given old room (λ p e. never p (said ∙ e)) in
    (said ∙ alike.0 ∙ sym said', left ∙ alike.1 ∙ sym left')
