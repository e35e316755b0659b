-- A cut and the marks it stands for: where its nodes are as they must be, each is the marked node of the same new number, so the marks are closed, the cut is what an extraction gives, and it is in document order.
-- In that order the first child of a node stands right behind it. By induction over the rows. Assumes nothing.
use Prim.Native.Nat.{ℕ, zero, suc, ◌+◌, ◌-◌, ◌≤◌, ◌<◌}
use native.Mathlib.Omega.{arith}
use native.Mathlib.Decide.{ℕ_discrete, dec_lt}
use mathlib.Core.Path.{◌≡◌, refl, sym, ◌∙◌, ap, ap₂, subst}
use mathlib.Core.Bool.{Bool, true, false, not, ◌&&◌, cond, false≢true}
use mathlib.Core.List.{List}
use mathlib.Core.Logic.{⊎_elim, by_cases}
use mathlib.Core.Option.{none}
use lib.Dec.{eqb, ltb}
use lib.ListN.{length, get_or, get_or-eq_default}
use lib.Seq.{ext_get_or}
use borrow.Author.Tests.{eqb-true, eq-eqb, ne_eqb, ltb-true, not-true}
use Rattle.paper.specs.Tools.{some_below}
use Rattle.paper.specs.Document.{Table, nodes, parent_of, kind_of, over, table_fault, marked, good_mark, marks_fault, table_of}
use Rattle.paper.specs.Selection.{child_of}
use Rattle.paper.specs.Extraction.{rank, pick_from, extracted}
use Rattle.paper.specs.Cut.{every_below, has_child, same_root, is_node, parent_stands, same_kind, rising, leaf_stays, stands, is_cut, marks_of, numbers_of}
use Rattle.paper.proofs.Tests.{and_true, true_and, or_left, or_right, decide}
use Rattle.paper.proofs.Searches.{some_intro, some-elim, none_first, column_at}
use Rattle.paper.proofs.Trees.{Tree, over_self, over_parent, over-cases, climb, tree}
use Rattle.paper.proofs.Keeping.{bit, bit_fine}
use Rattle.paper.proofs.Extracting.{rank_marked, rank_unmarked, length_pick, pick_at, over_between, in_order_lem, extracted_good}

-- What every number below n passes, each passes.
pub every_elim : (n : ℕ) (test : ℕ → Bool) → every_below n test ≡ true → (i : ℕ) → i < n → test i ≡ true
every_elim n test h i l =
    ⊎_elim (λ p. p) (λ p. absurd (false≢true (sym (not-true (some_below n (λ i. not (test i))) h) ∙ some_intro n (λ i. not (test i)) i l (ap not p)))) (decide (test i))

pub every_intro : (n : ℕ) (test : ℕ → Bool) → ((i : ℕ) → i < n → test i ≡ true) → every_below n test ≡ true
every_intro n test h =
    ⊎_elim (λ p. some-elim n (λ i. not (test i)) p (λ i l q. absurd (false≢true (sym (not-true (test i) q) ∙ h i l)))) (λ p. ap not p)
    (decide (some_below n (λ i. not (test i))))

-- LEAVES.
pub child_intro : (t : Table) (i j : ℕ) → 0 < j → j < nodes t → parent_of t j ≡ i → has_child t i ≡ true
unfolding has_child
child_intro t i j z l e = some_intro (nodes t) (λ j. child_of t i j) j l (true_and (ap not (ne_eqb j 0 (λ q. omega arith))) (eq-eqb (parent_of t j) i e))

pub child_elim {ℓ} : {C : Type ℓ} (t : Table) (i : ℕ) → has_child t i ≡ true → ((j : ℕ) → 0 < j → j < nodes t → parent_of t j ≡ i → C) → C
unfolding has_child
child_elim t i h next =
    some-elim (nodes t) (λ j. child_of t i j) h
    (λ j l p.
    let b = and_true (not (eqb j 0)) (eqb (parent_of t j) i) p in
    by_cases (ℕ_discrete j 0) (λ e. absurd (false≢true (sym (not-true (eqb j 0) b.0) ∙ eq-eqb j 0 e))) (λ e. next j (omega arith) l (eqb-true (parent_of t j) i b.1)))

-- What is over a node is no greater.
pub over_low : (t : Table) → Tree t → (j i : ℕ) → i < nodes t → over t i j ≡ true → j ≤ i
over_low t w j =
    climb t w (λ i. over t i j ≡ true → j ≤ i) (λ i l up h. over-cases t w i j l h (λ e. omega arith) (λ z p. omega (arith, up z p, w.falls i z l)))

-- In document order a child of a node comes right behind it, if it has one.
pub child-behind : (t : Table) → table_fault t ≡ none → (i : ℕ) → i < nodes t → has_child t i ≡ true → (i + 1 < nodes t) × (parent_of t (i + 1) ≡ i)
child-behind t ft i l h =
    let w = tree t ft in
    child_elim t i h
    (λ j z lj e.
    let low = w.falls j z lj in
    let next : i + 1 < nodes t = omega arith in
    let far : i + 1 + (j - (i + 1)) ≡ j = omega arith in
    let under : over t j i ≡ true = over_parent t w j i lj (ap (λ k. over t k i) e ∙ over_self t w i l) in
    let here : over t (i + 1) i ≡ true = over_between t w (in_order_lem t ft) (j - (i + 1)) (i + 1) i (omega arith) (omega arith) (ap (λ k. over t k i) far ∙ under) in
    (next, over-cases t w (i + 1) i next here (λ q. absurd (omega arith)) (λ z' p. omega (arith, over_low t w i (parent_of t (i + 1)) (omega (arith, w.falls (i + 1) z' next)) p, w.falls (i + 1) z' next))))

-- A CUT.

-- What the nodes of a cut have, leaves apart.
pub record Standing (t cut : Table) (numbers : List ℕ) : Type 0 where
  pub root : get_or numbers 0 0 ≡ 0
  pub root_parent : parent_of cut 0 ≡ 0
  pub inside : (r : ℕ) → r < nodes cut → get_or numbers r 0 < nodes t
  pub rises : (r : ℕ) → suc r < nodes cut → get_or numbers r 0 < get_or numbers (suc r) 0
  pub kinds : (r : ℕ) → r < nodes cut → kind_of cut r ≡ kind_of t (get_or numbers r 0)
  pub parents : (r : ℕ) → suc r < nodes cut → (parent_of cut (suc r) < nodes cut) × (get_or numbers (parent_of cut (suc r)) 0 ≡ parent_of t (get_or numbers (suc r) 0))

-- Where no node is marked between two places, no new number is given.
rank_flat : (marks : List ℕ) (a n : ℕ) → a ≤ n → ((i : ℕ) → a ≤ i → i < n → marked marks i ≡ false) → rank marks n ≡ rank marks a
rank_flat marks a zero h none-on = let e : a ≡ 0 = omega arith in ap (rank marks) (sym e)
rank_flat marks a (suc n) h none-on =
    by_cases (ℕ_discrete a (suc n)) (λ e. ap (rank marks) (sym e))
    (λ e. rank_unmarked marks n (none-on n (omega arith) (omega arith)) ∙ rank_flat marks a n (omega arith) (λ i b l. none-on i b (omega arith)))

module _ (t cut : Table) (numbers : List ℕ) (ft : table_fault t ≡ none) (long : length numbers ≡ nodes cut) (s : Standing t cut numbers) where
  abbrev at : ℕ → ℕ
  at r = get_or numbers r 0

  abbrev marks : List ℕ
  marks = marks_of t numbers

  w : Tree t
  w = tree t ft

  -- The numbers rise from any row to any later one.
  rises_far : (r n : ℕ) → r < n → n < nodes cut → at r < at n
  rises_far r zero h l = absurd (omega arith)
  rises_far r (suc n) h l =
      by_cases (ℕ_discrete r n) (λ e. omega (arith, s.rises n l, ap at e)) (λ e. omega (arith, s.rises n l, rises_far r n (omega arith) (omega arith)))

  -- The parent of each row, the root's included, stands for the parent of its node.
  parent_row : (r : ℕ) → r < nodes cut → (parent_of cut r < nodes cut) × (at (parent_of cut r) ≡ parent_of t (at r))
  parent_row zero l = (omega (arith, s.root_parent), ap at s.root_parent ∙ s.root ∙ sym w.root ∙ ap (parent_of t) (sym s.root))
  parent_row (suc r) l = s.parents r l

  -- The marked nodes are those of the rows.
  abbrev listed : ℕ → Bool
  listed i = some_below (length numbers) (λ r. eqb (get_or numbers r 0) i)

  mark-at : (i : ℕ) → i < nodes t → get_or marks i 0 ≡ cond (listed i) 1 0
  unfolding marks_of
  mark-at i l = column_at (nodes t) (λ i. cond (listed i) 1 0) 0 i l

  marked_listed : (i : ℕ) → i < nodes t → marked marks i ≡ listed i
  marked_listed i l = ap (λ x. eqb x 1) (mark-at i l) ∙ bit (listed i)

  pub marked_row : (r : ℕ) → r < nodes cut → marked marks (at r) ≡ true
  marked_row r l = marked_listed (at r) (s.inside r l) ∙ some_intro (length numbers) (λ k. eqb (get_or numbers k 0) (at r)) r (omega arith) (eq-eqb (at r) (at r) refl)

  pub row-marked {ℓ} : {C : Type ℓ} (i : ℕ) → i < nodes t → marked marks i ≡ true → ((r : ℕ) → r < nodes cut → at r ≡ i → C) → C
  row-marked i l m next =
      some-elim (length numbers) (λ r. eqb (get_or numbers r 0) i) (sym (marked_listed i l) ∙ m) (λ r h p. next r (omega arith) (eqb-true (at r) i p))

  -- A node is unmarked if no row is its.
  unmarked : (i : ℕ) → i < nodes t → ((r : ℕ) → r < nodes cut → at r ≡ i → ⊥) → marked marks i ≡ false
  unmarked i l other = ⊎_elim (λ m. absurd (row-marked i l m other)) (λ m. m) (decide (marked marks i))

  -- THE NEW NUMBER OF A ROW'S NODE IS THE ROW.
  pub rank_row : (r : ℕ) → r < nodes cut → rank marks (at r) ≡ r
  rank_row zero l = ap (rank marks) s.root
  rank_row (suc r) l =
      rank_flat marks (suc (at r)) (at (suc r)) (s.rises r l)
      (λ i b h.
      unmarked i (omega (arith, s.inside (suc r) l))
      (λ k lk e.
      by_cases (dec_lt r k)
      (λ f. by_cases (ℕ_discrete k (suc r)) (λ q. omega (arith, ap at q)) (λ q. omega (arith, rises_far (suc r) k (omega arith) lk)))
      (λ f. by_cases (ℕ_discrete k r) (λ q. omega (arith, ap at q)) (λ q. omega (arith, f, rises_far k r (omega (arith, f)) (omega arith))))))
      ∙ rank_marked marks (at r) (marked_row r (omega arith)) ∙ ap suc (rank_row r (omega arith))

  pub rank_rows : rank marks (nodes t) ≡ nodes cut
  rank_rows = go (nodes cut) refl
    where
      go : (n : ℕ) → n ≡ nodes cut → rank marks (nodes t) ≡ n
      go zero e = rank_flat marks 0 (nodes t) (omega arith) (λ i b h. unmarked i h (λ k lk q. omega arith))
      go (suc n) e =
          rank_flat marks (suc (at n)) (nodes t) (s.inside n (omega arith))
          (λ i b h.
          unmarked i h (λ k lk q. by_cases (ℕ_discrete k n) (λ d. omega (arith, ap at d)) (λ d. omega (arith, rises_far k n (omega arith) (omega arith)))))
          ∙ rank_marked marks (at n) (marked_row n (omega arith)) ∙ ap suc (rank_row n (omega arith))

  -- What is picked at the marked nodes is what each row has.
  picked : (f : ℕ → ℕ) (l : List ℕ) → length l ≡ nodes cut → ((r : ℕ) → r < nodes cut → f (at r) ≡ get_or l r 0) → pick_from marks (nodes t) 0 f ≡ l
  picked f l e same =
      let len : length (pick_from marks (nodes t) 0 f) ≡ nodes cut = length_pick marks f (nodes t) ∙ rank_rows in
      ext_get_or 0 (pick_from marks (nodes t) 0 f) l (len ∙ sym e)
      (λ r h.
      let b : r < nodes cut = omega (arith, len) in
      ap (λ k. get_or (pick_from marks (nodes t) 0 f) k 0) (sym (rank_row r b)) ∙ pick_at marks f (nodes t) (at r) 0 (s.inside r b) (marked_row r b) ∙ same r b)

  -- THE CUT IS WHAT AN EXTRACTION GIVES FOR ITS MARKS, AND THE NUMBERS ARE THOSE OF THE MARKED NODES.
  pub cut_extracted : length cut.kinds ≡ nodes cut → extracted t (marks_of t numbers) ≡ cut
  unfolding extracted
  cut_extracted e =
      ap₂ table_of
      (picked (λ i. rank marks (parent_of t i)) cut.parents refl
      (λ r l. let p = parent_row r l in ap (rank marks) (sym p.1) ∙ rank_row (parent_of cut r) p.0))
      (picked (λ i. kind_of t i) cut.kinds e (λ r l. sym (s.kinds r l)))

  pub numbers_back : numbers_of t (marks_of t numbers) ≡ numbers
  unfolding numbers_of
  numbers_back = picked (λ i. i) numbers long (λ r l. refl)

  -- THE MARKS ARE WITHOUT FAULT.
  pub marks_good : marks_fault t (marks_of t numbers) ≡ none
  unfolding marks_fault good_mark
  marks_good =
      none_first (nodes t) 0 (λ i. not (good_mark t marks i))
      (λ i a l.
      let on : i < nodes t = omega arith in
      let fine : good_mark t marks i ≡ true =
      rw (mark-at i on)
      (bit_fine (listed i) (marked marks (parent_of t i))
      (λ m.
      row-marked i on (marked_listed i on ∙ m)
      (λ r lr e. let p = parent_row r lr in ap (marked marks) (ap (parent_of t) (sym e) ∙ sym p.1) ∙ marked_row (parent_of cut r) p.0))) in
      ap not fine)

  -- SO THE CUT IS WITHOUT FAULT TOO, where it has a node.
  pub cut_good : length cut.kinds ≡ nodes cut → 0 < nodes cut → table_fault cut ≡ none
  cut_good e some_row =
      subst (λ u. table_fault u ≡ none) (cut_extracted e) (extracted_good t marks ft marks_good (ap (marked marks) (sym s.root) ∙ marked_row 0 some_row))

-- THE TESTS.
module _ (t cut : Table) (numbers : List ℕ) where
  -- What a row has where its tests hold, leaves apart.
  pub record Row (r : ℕ) : Type 0 where
    pub node : is_node t cut numbers r ≡ true
    pub later : rising t cut numbers r ≡ true
    pub kind : same_kind t cut numbers r ≡ true
    pub parent : parent_stands t cut numbers r ≡ true

  pub standing : same_root t cut numbers ≡ true → ((r : ℕ) → r < nodes cut → Row r) → Standing t cut numbers
  standing h row =
      let both = and_true (eqb (get_or numbers 0 0) 0) (eqb (parent_of cut 0) 0) h in
      record {
        root = eqb-true (get_or numbers 0 0) 0 both.0;
        root_parent = eqb-true (parent_of cut 0) 0 both.1;
        inside = λ r l. ltb-true (get_or numbers r 0) (nodes t) (row r l).node;
        rises = λ r l. ltb-true (get_or numbers r 0) (get_or numbers (suc r) 0) (row (suc r) l).later;
        kinds = λ r l. eqb-true (kind_of cut r) (kind_of t (get_or numbers r 0)) (row r l).kind;
        parents =
            λ r l.
            let p = parent_of cut (suc r) in
            let c = and_true (ltb p (nodes cut)) (eqb (get_or numbers p 0) (parent_of t (get_or numbers (suc r) 0))) (row (suc r) l).parent in
            (ltb-true p (nodes cut) c.0, eqb-true (get_or numbers p 0) (parent_of t (get_or numbers (suc r) 0)) c.1);
      }

  -- A yes says it of every row, and that its leaf is a leaf;
  pub yes_rows : 0 < nodes cut → is_cut t cut numbers ≡ true
      → (same_root t cut numbers ≡ true) × ((r : ℕ) → r < nodes cut → Row r × (leaf_stays t cut numbers r ≡ true))
  unfolding is_cut stands
  yes_rows some_row h =
      let more = rw (ne_eqb (nodes cut) 0 (λ e. omega arith)) at h in
      let both = and_true (same_root t cut numbers) (every_below (nodes cut) (stands t cut numbers)) more in (
        both.0,
        λ r l.
            let a = is_node t cut numbers r in
            let b = rising t cut numbers r in
            let c = same_kind t cut numbers r in
            let d = parent_stands t cut numbers r in
            let four = and_true (a && b && c && d) (leaf_stays t cut numbers r) (every_elim (nodes cut) (stands t cut numbers) both.1 r l) in
            let three = and_true (a && b && c) d four.0 in
            let two = and_true (a && b) c three.0 in
            let one = and_true a b two.0 in
            (record { node = one.0; later = one.1; kind = two.1; parent = three.1 }, four.1),
      )

  -- and where it can be said, the answer is yes.
  pub rows_yes : same_root t cut numbers ≡ true → ((r : ℕ) → r < nodes cut → Row r × (leaf_stays t cut numbers r ≡ true)) → is_cut t cut numbers ≡ true
  unfolding is_cut stands
  rows_yes h row =
      or_right (eqb (nodes cut) 0)
      (true_and h
      (every_intro (nodes cut) (stands t cut numbers)
      (λ r l. let x = row r l in true_and (true_and (true_and (true_and x.0.node x.0.later) x.0.kind) x.0.parent) x.1)))

  pub empty_yes : nodes cut ≡ 0 → is_cut t cut numbers ≡ true
  unfolding is_cut
  empty_yes e = or_left (same_root t cut numbers && every_below (nodes cut) (stands t cut numbers)) (eq-eqb (nodes cut) 0 e)

-- A yes stands, the empty table too.
pub yes_stands : (t cut : Table) (numbers : List ℕ) → length numbers ≡ nodes cut → is_cut t cut numbers ≡ true → Standing t cut numbers
yes_stands t cut numbers long h =
    by_cases (ℕ_discrete (nodes cut) 0)
    (λ e.
    record {
      root = get_or-eq_default numbers 0 {n = 0} (omega arith);
      root_parent = get_or-eq_default cut.parents 0 {n = 0} (omega arith);
      inside = λ r l. absurd (omega arith);
      rises = λ r l. absurd (omega arith);
      kinds = λ r l. absurd (omega arith);
      parents = λ r l. absurd (omega arith);
    })
    (λ e. let y = yes_rows t cut numbers (omega arith) h in standing t cut numbers y.0 (λ r l. (y.1 r l).0))
