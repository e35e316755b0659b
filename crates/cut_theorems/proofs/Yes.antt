-- What a yes means: the marks it stands for are without fault, the partner's table is their extract, and their kept leaves are leaves. From the laws of a cut in `paper`. Assumes nothing.
use Prim.Native.Nat.{ℕ, zero, suc, ◌<◌}
use native.Mathlib.Omega.{arith}
use mathlib.Core.Path.{◌≡◌, sym, ◌∙◌, ap}
use mathlib.Core.Bool.{true, false, not, ◌&&◌, cond, false≢true}
use mathlib.Core.List.{List, []}
use mathlib.Core.Logic.{⊎_elim}
use lib.Dec.{eqb}
use lib.ListN.{length, get_or, replicate, length-replicate, get_or-replicate}
use lib.Seq.{ext_get_or}
use borrow.Author.Tests.{eq-eqb, ne_eqb, not-true}
use Rattle.paper.specs.Tools.{some_below}
use Rattle.paper.specs.Document.{Table, nodes, parent_of, marked}
use Rattle.paper.specs.Selection.{child_of}
use Rattle.paper.specs.Cut.{has_child, marks_of}
use Rattle.paper.proofs.Tests.{true_and, or_true}
use Rattle.paper.proofs.Searches.{some_intro, length_column, column_at}
use Rattle.paper.proofs.Cutting.{Standing, child_elim, yes_rows, yes_stands, marked_row, row-marked, cut_extracted, numbers_back, marks_good}
use Rattle.cut_theorems.specs.Cuts.{Yes, MarksAreGood, Extracts, keeps_child, YesLeaves, EmptyMarks}

standing : {t cut : Table} {numbers : List ℕ} → Yes t cut numbers → Standing t cut numbers
standing {t} {cut} {numbers} y = yes_stands t cut numbers y.numbers_long y.says

-- THE MARKS ARE WITHOUT FAULT,
pub marks_are_good : MarksAreGood
marks_are_good t cut numbers y = marks_good t cut numbers y.ours y.numbers_long (standing y)

-- THE TABLE IS THEIR EXTRACT,
pub extracts : Extracts
extracts t cut numbers y =
    (cut_extracted t cut numbers y.ours y.numbers_long (standing y) y.kinds_long, numbers_back t cut numbers y.ours y.numbers_long (standing y))

-- A child in the cut is a marked child of ours.
child_kept : {t cut : Table} {numbers : List ℕ} → Yes t cut numbers → (r : ℕ) → r < nodes cut → has_child cut r ≡ true → keeps_child t (marks_of t numbers) (get_or numbers r 0) ≡ true
child_kept {t} {cut} {numbers} y r l h =
    child_elim cut r h (λ k z lk e. child k z lk e (standing y))
  where
    child : (k : ℕ) → 0 < k → k < nodes cut → parent_of cut k ≡ r → Standing t cut numbers → keeps_child t (marks_of t numbers) (get_or numbers r 0) ≡ true
    child zero z lk e s = absurd (omega arith)
    child (suc k) z lk e s =
        let j = get_or numbers (suc k) 0 in
        some_intro (nodes t) (λ j. marked (marks_of t numbers) j && child_of t (get_or numbers r 0) j) j (s.inside (suc k) lk)
        (true_and (marked_row t cut numbers y.ours y.numbers_long s (suc k) lk)
        (true_and (ap not (ne_eqb j 0 (λ q. omega (arith, s.rises k lk)))) (eq-eqb (parent_of t j) (get_or numbers r 0) (sym (s.parents k lk).1 ∙ ap (λ p. get_or numbers p 0) e))))

-- AND KEPT LEAVES ARE LEAVES.
pub yes_leaves : YesLeaves
yes_leaves t cut numbers y i l m childless =
    row-marked t cut numbers y.ours y.numbers_long (standing y) i l m
    (λ r lr e.
    ⊎_elim (λ c. absurd (false≢true (sym childless ∙ ap (keeps_child t (marks_of t numbers)) (sym e) ∙ child_kept y r lr c)))
    (λ c. ap (has_child t) (sym e) ∙ not-true (has_child t (get_or numbers r 0)) c)
    (or_true (has_child cut r) (not (has_child t (get_or numbers r 0))) ((yes_rows t cut numbers (omega arith) y.says).1 r lr).1))

pub length_marks : (t : Table) (numbers : List ℕ) → length (marks_of t numbers) ≡ nodes t
unfolding marks_of
length_marks t numbers = length_column (nodes t) 0 (λ i. cond (some_below (length numbers) (λ r. eqb (get_or numbers r 0) i)) 1 0)

-- THE EMPTY TABLE STANDS FOR ALL MARKS 0.
pub empty_marks : EmptyMarks
unfolding marks_of
empty_marks t =
    let f : ℕ → ℕ = λ i. 0 in
    ext_get_or 0 (marks_of t []) (replicate (nodes t) 0) (length_marks t [] ∙ sym (length-replicate (nodes t) 0))
    (λ i l.
    let b : i < nodes t = omega (arith, length_marks t []) in
    column_at (nodes t) f 0 i b ∙ sym (get_or-replicate (nodes t) i 0 0 b))
