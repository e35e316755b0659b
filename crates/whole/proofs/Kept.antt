-- A run of a whole document that gives a value writes all the marks, whatever they were. By the lines of its answer. Assumes nothing.
use Prim.Native.Nat.{ℕ, ◌≤◌}
use native.Mathlib.Omega.{arith}
use mathlib.Core.Path.{◌≡◌, sym, ◌∙◌}
use mathlib.Core.Bool.{not, ◌||◌}
use mathlib.Core.List.{List, [], append-nil}
use mathlib.Core.Option.{Option, none, some}
use lib.Dec.{eqb, ltb}
use lib.ListN.{length, drop, drop_of_length-le}
use Rattle.paper.specs.Tools.{when}
use Rattle.paper.specs.Limits.{item_limit, node_limit}
use Rattle.paper.specs.Query.{Query}
use Rattle.paper.specs.Items.{decode}
use Rattle.paper.specs.Document.{Table, nodes, table_fault, marks_fault}
use Rattle.paper.specs.Selection.{kept}
use Rattle.paper.specs.Answers.{value, refusal, line, line_query, too_long, short, scratch_of, marked_count, at_exit, run_answer, run_marks, kept_got}
use Rattle.paper.specs.Answers.{Answer as Told}
use Rattle.paper.specs.Sheet.{all_marked}
use Rattle.paper.proofs.Refusing.{line_value}
use Rattle.paper.proofs.Keeping.{length_kept}

kept_long : (t : Table) (given : List ℕ) (o : Option Query) (n : ℕ) (first : Option ℕ) (later : Query → Told) → line 1 first (line_query 6 0 o later) ≡ value n
    → length (kept_got t given o) ≡ nodes t
kept_long t given none n first later h =
    absurd (let refused : refusal 6 0 ≡ value n = (line_value 1 n first (refusal 6 0) h).1 in let z : ◌≡◌ {A = ℕ} 0 1 = cc in omega arith)
kept_long t given (some q) n first later h = length_kept t given q

pub marks_kept : (query : List ℕ) (t : Table) (room : ℕ) (marks new : List ℕ) (n : ℕ) → value n ≡ run_answer query t (all_marked t) (length marks) room → length marks ≡ nodes t
    → new ≡ run_marks query t (all_marked t) marks room → new ≡ kept_got t (all_marked t) (decode query)
unfolding run_answer run_marks
marks_kept query t room marks new n h long e =
    let k = kept_got t (all_marked t) (decode query) in
    let first =
    when
    (too_long query item_limit || ltb node_limit (nodes t) || not (eqb (length t.kinds) (nodes t)) || not (eqb (length (all_marked t)) (nodes t)) || not (eqb (length marks) (nodes t)))
    0 in
    let later : Query → Told =
    λ q. line 7 (table_fault t) (line 8 (marks_fault t (all_marked t)) (line 10 (short room (scratch_of t q)) (value (marked_count t (kept t (all_marked t) q))))) in
    let all : length k ≡ nodes t = kept_long t (all_marked t) (decode query) n first later (sym h) in
    let few : length marks ≤ length k = omega (arith, long, all) in
    let none_left : drop (length k) marks ≡ [] = drop_of_length-le marks few in
    let left : new ≡ at_exit (value n) k marks = rw (sym h) at e in
    rw none_left at left ∙ append-nil k
