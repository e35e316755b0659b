-- Marks without fault whose kept leaves are leaves give a yes for their extracted table: the row of a marked node is its new number, and each number below the count is one. Assumes nothing.
use Prim.Native.Nat.{ℕ, zero, suc, ◌<◌}
use native.Mathlib.Omega.{arith}
use native.Mathlib.Decide.{ℕ_discrete}
use mathlib.Core.Path.{◌≡◌, refl, sym, ◌∙◌, ap, subst}
use mathlib.Core.Bool.{Bool, true, not, ◌&&◌, ◌||◌, cond, false≢true}
use mathlib.Core.List.{List}
use mathlib.Core.Logic.{⊎_elim, by_cases}
use lib.Dec.{eqb}
use lib.ListN.{length, get_or}
use lib.Seq.{ext_get_or}
use borrow.Author.Tests.{eqb-true, eq-eqb, lt-ltb, not-true}
use Rattle.paper.specs.Tools.{some_below}
use Rattle.paper.specs.Document.{Table, nodes, parent_of, kind_of, marked, good_mark}
use Rattle.paper.specs.Selection.{child_of}
use Rattle.paper.specs.Extraction.{rank, extracted}
use Rattle.paper.specs.Cut.{has_child, same_root, parent_stands, rising, leaf_stays, marks_of, numbers_of}
use Rattle.paper.proofs.Tests.{and_true, true_and, or_true, or_left, or_right, decide, agree}
use Rattle.paper.proofs.Searches.{some_intro, some-elim, length_column, column_at}
use Rattle.paper.proofs.Trees.{Tree, Closed, parent_le, tree, closed, good_marks}
use Rattle.paper.proofs.Extracting.{rank_less, rank-back, length_pick, pick_at, nodes_extracted, parent_extracted, kind_extracted, extracted_empty}
use Rattle.paper.proofs.Cutting.{Row, child_intro, rows_yes, empty_yes}
use Rattle.cut_theorems.specs.Cuts.{keeps_child, LeavesStay, ExtractedYes, MarksBack}

-- A marked node stands at its new number among the numbers.
number_at : (t : Table) (marks : List ℕ) (i : ℕ) → i < nodes t → marked marks i ≡ true → get_or (numbers_of t marks) (rank marks i) 0 ≡ i
unfolding numbers_of
number_at t marks i l m = pick_at marks (λ i. i) (nodes t) i 0 l m

pub length_numbers : (t : Table) (marks : List ℕ) → length (numbers_of t marks) ≡ rank marks (nodes t)
unfolding numbers_of
length_numbers t marks = length_pick marks (λ i. i) (nodes t)

module _ (t : Table) (marks : List ℕ) (w : Tree t) (c : Closed t marks) where
  abbrev u : Table
  u = extracted t marks

  abbrev numbers : List ℕ
  numbers = numbers_of t marks

  -- The row r, which is the node i.
  module _ (r i : ℕ) (l : i < nodes t) (m : marked marks i ≡ true) (e : rank marks i ≡ r) where
    is : get_or numbers r 0 ≡ i
    is = ap (λ k. get_or numbers k 0) (sym e) ∙ number_at t marks i l m

    parent_is : parent_of u r ≡ rank marks (parent_of t i)
    parent_is = ap (parent_of u) (sym e) ∙ parent_extracted t marks w c i l m

    kind-is : kind_of u r ≡ kind_of t i
    kind-is = ap (kind_of u) (sym e) ∙ kind_extracted t marks w c i l m

  -- The parent's row stands for the parent.
  parent-stands : (r i : ℕ) → i < nodes t → marked marks i ≡ true → rank marks i ≡ r → parent_stands t u numbers r ≡ true
  parent-stands zero i l m e = refl
  parent-stands (suc r) i l m e =
      let p = parent_of t i in
      let up : p < nodes t = omega (arith, parent_le t w i l) in
      let row = parent_is (suc r) i l m e in
      true_and (lt-ltb (parent_of u (suc r)) (nodes u) (omega (arith, row, nodes_extracted t marks w c, rank_less marks p (nodes t) up (c i l m))))
      (eq-eqb (get_or numbers (parent_of u (suc r)) 0) (parent_of t (get_or numbers (suc r) 0))
      (ap (λ k. get_or numbers k 0) row ∙ number_at t marks p up (c i l m) ∙ ap (parent_of t) (sym (is (suc r) i l m e))))

  -- The row before stands for an earlier node.
  number_rises : (r i : ℕ) → i < nodes t → marked marks i ≡ true → rank marks i ≡ r → rising t u numbers r ≡ true
  number_rises zero i l m e = refl
  number_rises (suc r) i l m e =
      rank-back marks i r (omega arith)
      (λ j lj mj ej.
      lt-ltb (get_or numbers r 0) (get_or numbers (suc r) 0) (omega (arith, is r j (omega arith) mj ej, is (suc r) i l m e)))

  -- A marked child of a node is a child of its row.
  row_child : (r i : ℕ) → i < nodes t → marked marks i ≡ true → rank marks i ≡ r → keeps_child t marks i ≡ true → has_child u r ≡ true
  row_child r i l m e h =
      some-elim (nodes t) (λ j. marked marks j && child_of t i j) h
      (λ j lj p.
      let a = and_true (marked marks j) (child_of t i j) p in
      let b = and_true (not (eqb j 0)) (eqb (parent_of t j) i) a.1 in
      let up : parent_of t j ≡ i = eqb-true (parent_of t j) i b.1 in
      by_cases (ℕ_discrete j 0) (λ z. absurd (false≢true (sym (not-true (eqb j 0) b.0) ∙ eq-eqb j 0 z)))
      (λ z.
      let after : i < j = omega (arith, w.falls j (omega arith) lj) in
      child_intro u r (rank marks j) (omega (arith, rank_less marks i j after m)) (omega (arith, nodes_extracted t marks w c, rank_less marks j (nodes t) lj a.0))
      (parent_is (rank marks j) j lj a.0 refl ∙ ap (rank marks) up ∙ e)))

  leaf-stays : LeavesStay t marks → (r i : ℕ) → i < nodes t → marked marks i ≡ true → rank marks i ≡ r → leaf_stays t u numbers r ≡ true
  leaf-stays leaves r i l m e =
      ⊎_elim (λ h. or_left (not (has_child t (get_or numbers r 0))) (row_child r i l m e h))
      (λ h. or_right (has_child u r) (ap (λ k. not (has_child t k)) (is r i l m e) ∙ ap not (leaves i l m h)))
      (decide (keeps_child t marks i))

  rows : LeavesStay t marks → (r : ℕ) → r < nodes u → Row t u numbers r × (leaf_stays t u numbers r ≡ true)
  rows leaves r h =
      rank-back marks (nodes t) r (omega (arith, nodes_extracted t marks w c))
      (λ i l m e. (
        record {
          node = lt-ltb (get_or numbers r 0) (nodes t) (omega (arith, is r i l m e));
          later = number_rises r i l m e;
          kind = eq-eqb (kind_of u r) (kind_of t (get_or numbers r 0)) (kind-is r i l m e ∙ ap (kind_of t) (sym (is r i l m e)));
          parent = parent-stands r i l m e;
        },
        leaf-stays leaves r i l m e,
      ))

  root_stays : marked marks 0 ≡ true → same_root t u numbers ≡ true
  root_stays m =
      true_and (eq-eqb (get_or numbers 0 0) 0 (is 0 0 w.rooted m refl)) (eq-eqb (parent_of u 0) 0 (parent_is 0 0 w.rooted m refl ∙ ap (rank marks) w.root))

-- THE CONVERSE.
pub extracted_yes : ExtractedYes
extracted_yes t marks ft fm leaves =
    let w = tree t ft in
    let c = closed t marks fm in
    ⊎_elim (λ m. rows_yes t (extracted t marks) (numbers_of t marks) (root_stays t marks w c m) (rows t marks w c leaves))
    (λ m. empty_yes t (extracted t marks) (numbers_of t marks) (nodes_extracted t marks w c ∙ extracted_empty t marks ft fm m))
    (decide (marked marks 0))

-- The numbers are those of the marked nodes alone.
listed : (t : Table) (marks : List ℕ) (i : ℕ) → i < nodes t → some_below (length (numbers_of t marks)) (λ r. eqb (get_or (numbers_of t marks) r 0) i) ≡ marked marks i
listed t marks i l =
    let numbers = numbers_of t marks in
    agree (some_below (length numbers) (λ r. eqb (get_or numbers r 0) i)) (marked marks i)
    (λ h.
    some-elim (length numbers) (λ r. eqb (get_or numbers r 0) i) h
    (λ r lr p.
    rank-back marks (nodes t) r (omega (arith, length_numbers t marks))
    (λ j lj mj ej.
    let same : j ≡ i = sym (number_at t marks j lj mj) ∙ ap (λ k. get_or numbers k 0) ej ∙ eqb-true (get_or numbers r 0) i p in
    ap (marked marks) (sym same) ∙ mj)))
    (λ m.
    some_intro (length numbers) (λ r. eqb (get_or numbers r 0) i) (rank marks i) (omega (arith, length_numbers t marks, rank_less marks i (nodes t) l m))
    (eq-eqb (get_or numbers (rank marks i) 0) i (number_at t marks i l m)))

-- A good mark is its own bit.
own_bit : (x : ℕ) (c : Bool) → (eqb x 0 || eqb x 1 && c) ≡ true → cond (eqb x 1) 1 0 ≡ x
own_bit x c h =
    let is : (n : ℕ) → x ≡ n → cond (eqb n 1) 1 0 ≡ n → cond (eqb x 1) 1 0 ≡ x = λ n e same. subst (λ k. cond (eqb k 1) 1 0 ≡ k) (sym e) same in
    ⊎_elim (λ z. is 0 (eqb-true x 0 z) refl) (λ b. is 1 (eqb-true x 1 (and_true (eqb x 1) c b).0) refl) (or_true (eqb x 0) (eqb x 1 && c) h)

-- THE MARKS THAT IT STANDS FOR.
pub marks_back : MarksBack
unfolding marks_of good_mark
marks_back t marks long fm =
    let numbers = numbers_of t marks in
    let bits : ℕ → ℕ = λ i. cond (some_below (length numbers) (λ r. eqb (get_or numbers r 0) i)) 1 0 in
    let size : length (marks_of t numbers) ≡ nodes t = length_column (nodes t) 0 bits in
    ext_get_or 0 (marks_of t numbers) marks (size ∙ sym long)
    (λ i h.
    let l : i < nodes t = omega (arith, size) in
    column_at (nodes t) bits 0 i l ∙ ap (λ b. cond b 1 0) (listed t marks i l) ∙ own_bit (get_or marks i 0) (marked marks (parent_of t i)) (good_marks t marks fm i l))
