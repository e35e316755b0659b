-- What a run that is accepted may do, and what any run leaves in its scratch. Assumes nothing.
use Prim.Native.Nat.{ℕ, ◌+◌, ◌-◌, ◌*◌, ◌≤◌, ◌<◌}
use native.Mathlib.Omega.{arith}
use mathlib.Core.Path.{◌≡◌, refl, sym, ◌∙◌, ap, ap₂}
use mathlib.Core.Bool.{Bool, true, false, not, ◌||◌, ◌&&◌, cond}
use mathlib.Core.List.{List, [], ◌++◌}
use mathlib.Core.Logic.{⊎_elim}
use mathlib.Core.Option.{none}
use lib.Dec.{eqb}
use lib.ListN.{length, get_or, take, drop, replicate, length-replicate}
use lib.Seq.{ext_get_or, length-take-le}
use borrow.Author.Tests.{eqb-true}
use Rattle.paper.specs.Items.{decode}
use Rattle.paper.specs.Measures.{height}
use Rattle.paper.specs.Document.{Table, nodes, parent_of, marked, good_mark, marks_fault, table_of}
use Rattle.paper.specs.Answers.{scratch_of, run_answer, run_scratch, zeros_got}
use Rattle.paper.specs.Told.{told_refusal}
use Rattle.paper.specs.declared.Refusal.{Refusal}
use Rattle.paper.proofs.Tests.{and_true, or_true}
use Rattle.paper.proofs.Searches.{length_column, column_at}
use Rattle.paper.proofs.Trees.{tree, good_marks}
use Rattle.paper.proofs.Refusing.{refused_keeps}
use Rattle.sets.specs.Sets.{bits}
use Rattle.keep.specs.Evals.{Ready, Runs}
use Rattle.judge.proofs.Answering.{Accepted, runs}

module _ (query : List ℕ) (t : Table) (given marks scratch : List ℕ) where
  -- A run that is refused leaves its scratch,
  pub scratch_stays : (why : Refusal) → told_refusal why ≡ run_answer query t given (length marks) (length scratch) → scratch ≡ run_scratch query t given (length marks) scratch
  unfolding run_scratch
  scratch_stays why h = rw (← h) (sym (refused_keeps why (zeros_got t (decode query)) scratch))

  -- and one that is not clears what it needed of it.
  pub scratch_cleared : (tall needed : ℕ) (a : Accepted query t given (length marks) tall) → needed ≡ scratch_of t a.query_is → needed ≤ length scratch → (zeros : List ℕ) → zeros ≡ replicate needed 0
      → zeros ++ drop needed scratch ≡ run_scratch query t given (length marks) scratch
  unfolding run_scratch
  scratch_cleared tall needed a same room zeros e =
      rw (runs query t given (length marks) (length scratch) tall a (omega (arith, same, room)), a.decodes)
      (ap₂ ◌++◌ (e ∙ ap (λ (k : ℕ). replicate k 0) same) (ap (λ (k : ℕ). drop k scratch) (same ∙ sym (length-replicate (scratch_of t a.query_is) 0))))

-- Good marks are a set.
one_bit : (x : ℕ) (b : Bool) → (eqb x 0 || eqb x 1 && b) ≡ true → x ≡ cond (eqb x 1) 1 0
one_bit x b h =
    ⊎_elim (λ z. let e : x ≡ 0 = eqb-true x 0 z in rw e refl)
    (λ o. let e : x ≡ 1 = eqb-true x 1 (and_true (eqb x 1) b o).0 in rw e refl)
    (or_true (eqb x 0) (eqb x 1 && b) h)

marks_are_bits : (t : Table) (marks : List ℕ) → length marks ≡ nodes t → marks_fault t marks ≡ none → marks ≡ bits (nodes t) (marked marks)
unfolding good_mark
marks_are_bits t marks e h =
    ext_get_or 0 marks (bits (nodes t) (marked marks)) (e ∙ sym (length_column (nodes t) 0 (λ k. cond (marked marks k) 1 0)))
    (λ i l.
    let inside : i < nodes t = omega (arith, e) in
    one_bit (get_or marks i 0) (marked marks (parent_of t i)) (good_marks t marks h i inside) ∙ sym (column_at (nodes t) (λ k. cond (marked marks k) 1 0) 0 i inside))

-- Where nothing refuses, the document can be searched and half of the needed scratch is room for the query's sets.
module _ (query parents kinds given : List ℕ) (marks_room tall : ℕ) (a : Accepted query (table_of parents kinds) given marks_room tall) where
  pub searchable : Ready parents kinds given
  searchable =
      record {
        kinds_all = a.agree.kinds_all;
        marks_all = a.agree.given_all;
        tree = tree (table_of parents kinds) a.table_good;
        marks_bits = marks_are_bits (table_of parents kinds) given a.agree.given_all a.marks_good;
      }

  pub runnable : (scratch : List ℕ) (needed : ℕ) → needed ≡ scratch_of (table_of parents kinds) a.query_is → needed ≤ length scratch → Runs query (length parents) (length (take needed scratch))
  runnable scratch needed same room =
      record {
        query = a.query_is;
        decodes = a.decodes;
        room_for =
            let half : length parents * height a.query_is ≤ length parents * 2 * (height a.query_is + 1) = omega arith in
            omega (arith, half, length-take-le needed scratch room, same);
      }
