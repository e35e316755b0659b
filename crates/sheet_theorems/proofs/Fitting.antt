-- No sum over a run outgrows 32 bits: a document that is shown has at most 4,096 nodes, each of them counted once, and at most 65,535 documents are shown. Assumes nothing.
use Prim.Native.Nat.{ℕ, zero, suc, ◌+◌, ◌*◌, ◌≤◌, ◌<◌, ◌^◌}
use native.Mathlib.Omega.{arith}
use mathlib.Core.Path.{◌≡◌, refl, sym}
use mathlib.Core.Bool.{Bool, true, false, not, ◌||◌, cond}
use mathlib.Core.List.{List, [], ◌∷◌}
use lib.Dec.{eqb, ltb}
use lib.ListN.{length}
use borrow.Author.Tests.{ltb-false}
use Rattle.paper.specs.Tools.{when}
use Rattle.paper.specs.Limits.{node_limit, item_limit}
use Rattle.paper.specs.Items.{decode}
use Rattle.paper.specs.Document.{Table, nodes}
use Rattle.paper.specs.Answers.{Answer, value, refusal, too_long, read_xml_answer, run_answer, kept_got}
use Rattle.paper.specs.Sheet.{count_below, has_name, all_of, kept_of, hidden_of, Outcome, shown, turned_down, unless_turned_down, table_read, all_marked, scratch_room, table_outcome, text_outcome, File, unreadable, holding, file_outcome, document_limit, outcomes, adds, sum_over}
use Rattle.paper.proofs.Refusing.{line_value, when_none, or_none}
use Rattle.sheet_theorems.specs.Sheets.{SumsFit}
use Rattle.sheet_theorems.proofs.Together.{sums_together}

-- No more numbers below n pass a test than there are.
count_few : (n : ℕ) (test : ℕ → Bool) → count_below n test ≤ n
count_few zero test = omega arith
count_few (suc n) test = go (test n) (count_few n test)
  where
    go : (b : Bool) {k : ℕ} → k ≤ n → cond b (suc k) k ≤ suc n
    go true l = omega arith
    go false l = omega arith

-- The nodes of a document that is shown are few, and so are its elements of a name.
abbrev Few : Outcome → Type 0
Few o = (v : ℕ) → adds all_of v o ≤ node_limit

-- A table that a run takes has at most 4,096 nodes.
run_few : (view : List ℕ) (t : Table) (given : List ℕ) (marks_room room n : ℕ) → run_answer view t given marks_room room ≡ value n → nodes t ≤ node_limit
unfolding run_answer
run_few view t given marks_room room n h =
    let none = when_none _ 0 (line_value 1 n _ _ h).0 in
    ltb-false node_limit (nodes t) (or_none (too_long view item_limit) (ltb node_limit (nodes t)) (or_none _ _ (or_none _ _ (or_none _ _ none).0).0).0).1

shown_few : (t : Table) (marks : List ℕ) → nodes t ≤ node_limit → Few (shown t marks)
unfolding all_of
shown_few t marks l v = omega (arith, count_few (nodes t) (has_name t v))

table_few : (view : List ℕ) (t : Table) → Few (table_outcome view t)
unfolding table_outcome
table_few view t = go (run_answer view t (all_marked t) (nodes t) scratch_room) refl
  where
    go : (a : Answer) → run_answer view t (all_marked t) (nodes t) scratch_room ≡ a → Few (unless_turned_down a (shown t (kept_got t (all_marked t) (decode view))))
    go (value n) e = shown_few t (kept_got t (all_marked t) (decode view)) (run_few view t (all_marked t) (nodes t) scratch_room n e)
    go (refusal number place) e = λ v. omega arith

text_few : (view list text : List ℕ) → Few (text_outcome view list text)
unfolding text_outcome
text_few view list text = go (read_xml_answer text list node_limit node_limit node_limit node_limit)
  where
    go : (a : Answer) → Few (unless_turned_down a (table_outcome view (table_read text list)))
    go (value n) = table_few view (table_read text list)
    go (refusal number place) = λ v. omega arith

file_few : (view list : List ℕ) (f : File) → Few (file_outcome view list f)
file_few view list unreadable = λ v. omega arith
file_few view list (holding text) = text_few view list text

-- Of so many documents that may be counted each adds at most 4,096, and those past them nothing.
sum_few : (view list : List ℕ) (left : ℕ) (files : List File) (v : ℕ) → sum_over (adds all_of v) (outcomes view list left files) ≤ left * node_limit
sum_few view list left [] v = omega arith
sum_few view list zero (f ∷ fs) v = omega (arith, sum_few view list zero fs v)
sum_few view list (suc left) (f ∷ fs) v = omega (arith, file_few view list f v, sum_few view list left fs v)

pub sums_fit : SumsFit
sums_fit view list files v =
    let few = sum_few view list document_limit files v in
    let parts = (sums_together (outcomes view list document_limit files)).0 v in
    (omega arith, omega arith, omega arith)
