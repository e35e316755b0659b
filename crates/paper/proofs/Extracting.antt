-- What an extraction writes: the marked nodes keep their order, their kinds and their parents, so the new table is well formed, and where every node is marked it is the table itself.
-- New numbers rise with the marked nodes, and each number below the count is the number of one. Assumes nothing.
use Prim.Native.Nat.{ℕ, zero, suc, ◌+◌, ◌-◌, ◌≤◌, ◌<◌}
use native.Mathlib.Omega.{arith}
use native.Mathlib.Nat.{add-zero, zero-add}
use native.Mathlib.Decide.{ℕ_discrete, dec_lt}
use mathlib.Core.Path.{◌≡◌, refl, sym, ◌∙◌, ap, ap₂, subst}
use mathlib.Core.Bool.{true, false, not, ◌&&◌, cond, false≢true}
use mathlib.Core.List.{List, [], ◌∷◌, ◌++◌, append_assoc, append-nil}
use mathlib.Core.Logic.{⊎_elim, by_cases}
use mathlib.Core.Option.{none}
use lib.Dec.{eqb, leb}
use lib.ListN.{length, get_or, set, drop, replicate, length-append, get_or-replicate, get_or-append}
use lib.Seq.{set_at, get_or_at, drop-cons, ext_get_or}
use borrow.Author.Tests.{eqb-true, eq-eqb, ne_eqb}
use Rattle.paper.specs.Tools.{written}
use Rattle.paper.specs.Document.{Table, nodes, parent_of, kind_of, kind_limit, over, good_node, table_fault, marked, marks_fault}
use Rattle.paper.specs.Extraction.{rank, pick_from, extracted}
use Rattle.paper.proofs.Tests.{and_true, true_and, decide}
use Rattle.paper.proofs.Searches.{none_first}
use Rattle.paper.proofs.Trees.{Tree, parent_le, over_self, over_parent, over-cases, over_root, over_trans, climb, Closed, over_marked, good_nodes, tree, closed}

-- NEW NUMBERS.
module _ (marks : List ℕ) where
  -- The new number after a marked node and after an unmarked one.
  pub rank_marked : (n : ℕ) → marked marks n ≡ true → rank marks (suc n) ≡ suc (rank marks n)
  rank_marked n m = rw m

  pub rank_unmarked : (n : ℕ) → marked marks n ≡ false → rank marks (suc n) ≡ rank marks n
  rank_unmarked n m = rw m

  -- One node more raises the count by one at most.
  rank_step : (n : ℕ) → (rank marks n ≤ rank marks (suc n)) × (rank marks (suc n) ≤ suc (rank marks n))
  rank_step n = ⊎_elim (λ m. omega (arith, rank_marked n m)) (λ m. omega (arith, rank_unmarked n m)) (decide (marked marks n))

  pub rank_le : (n : ℕ) → rank marks n ≤ n
  rank_le zero = omega arith
  rank_le (suc n) = omega (arith, rank_le n, (rank_step n).1)

  -- New numbers rise with the nodes, and strictly past a marked one.
  pub rank_mono : (i n : ℕ) → i ≤ n → rank marks i ≤ rank marks n
  rank_mono i zero h = omega (arith, rank_le i)
  rank_mono i (suc n) h =
      by_cases (ℕ_discrete i (suc n)) (λ e. omega (arith, ap (rank marks) e)) (λ e. omega (arith, rank_mono i n (omega arith), (rank_step n).0))

  pub rank_less : (i n : ℕ) → i < n → marked marks i ≡ true → rank marks i < rank marks n
  rank_less i n h m = omega (arith, rank_mono (suc i) n h, rank_marked i m)

  -- Each new number below the count belongs to a marked node.
  pub rank-back {ℓ} : {C : Type ℓ} (n r : ℕ) → r < rank marks n → ((i : ℕ) → i < n → marked marks i ≡ true → rank marks i ≡ r → C) → C
  rank-back zero r h next = absurd (omega arith)
  rank-back (suc n) r h next =
      by_cases (ℕ_discrete r (rank marks n))
      (λ e. ⊎_elim (λ m. next n (omega arith) m (sym e)) (λ m. absurd (omega (arith, rank_unmarked n m))) (decide (marked marks n)))
      (λ e. rank-back n r (omega (arith, (rank_step n).1)) (λ i l m q. next i (omega arith) m q))

  -- PICKED VALUES.
  module _ (f : ℕ → ℕ) where
    -- The last of the nodes can be taken apart too.
    pick_snoc : (n at : ℕ) → pick_from marks (suc n) at f ≡ pick_from marks n at f ++ pick_from marks 1 (at + n) f
    pick_snoc zero at = ap (λ k. pick_from marks 1 k f) (sym (add-zero at))
    pick_snoc (suc n) at =
        let e : suc at + n ≡ at + suc n = omega arith in
        let more : pick_from marks (suc n) (suc at) f ≡ pick_from marks n (suc at) f ++ pick_from marks 1 (at + suc n) f =
        pick_snoc n (suc at) ∙ ap (λ k. pick_from marks n (suc at) f ++ pick_from marks 1 k f) e in
        ⊎_elim (λ m. rw m (ap (λ l. f at ∷ l) more)) (λ m. rw m more) (decide (marked marks at))

    last_value : (n : ℕ) → pick_from marks (suc n) 0 f ≡ pick_from marks n 0 f ++ cond (marked marks n) (f n ∷ []) []
    last_value n = pick_snoc n 0 ∙ ap (λ k. pick_from marks n 0 f ++ pick_from marks 1 k f) (zero-add n)

    pub pick_marked : (n : ℕ) → marked marks n ≡ true → pick_from marks (suc n) 0 f ≡ pick_from marks n 0 f ++ f n ∷ []
    pick_marked n m = last_value n ∙ ap (λ b. pick_from marks n 0 f ++ cond b (f n ∷ []) []) m

    pub pick_unmarked : (n : ℕ) → marked marks n ≡ false → pick_from marks (suc n) 0 f ≡ pick_from marks n 0 f
    pick_unmarked n m = last_value n ∙ ap (λ b. pick_from marks n 0 f ++ cond b (f n ∷ []) []) m ∙ append-nil (pick_from marks n 0 f)

    -- There are as many values as marked nodes.
    pub length_pick : (n : ℕ) → length (pick_from marks n 0 f) ≡ rank marks n
    length_pick zero = refl
    length_pick (suc n) =
        ⊎_elim
        (λ m. omega (arith, ap length (pick_marked n m), length-append (pick_from marks n 0 f) (f n ∷ []), length_pick n, rank_marked n m))
        (λ m. omega (arith, ap length (pick_unmarked n m), length_pick n, rank_unmarked n m))
        (decide (marked marks n))

    -- A marked node's value stands at its new number.
    pub pick_at : (n k d : ℕ) → k < n → marked marks k ≡ true → get_or (pick_from marks n 0 f) (rank marks k) d ≡ f k
    pick_at zero k d l m = absurd (omega arith)
    pick_at (suc n) k d l m =
        by_cases (ℕ_discrete k n)
        (λ e.
        subst (λ j. get_or (pick_from marks (suc n) 0 f) (rank marks j) d ≡ f j) (sym e)
        (ap (λ p. get_or p (rank marks n) d) (pick_marked n (subst (λ j. marked marks j ≡ true) e m))
        ∙ get_or_at (pick_from marks n 0 f) (f n) [] d (rank marks n) (length_pick n)))
        (λ e.
        let there : get_or (pick_from marks n 0 f) (rank marks k) d ≡ f k = pick_at n k d (omega arith) m in
        let short : rank marks k < length (pick_from marks n 0 f) = omega (arith, length_pick n, rank_less k n (omega arith) m) in
        ⊎_elim
        (λ q. ap (λ p. get_or p (rank marks k) d) (pick_marked n q) ∙ get_or-append (pick_from marks n 0 f) (f n ∷ []) d (rank marks k) short ∙ there)
        (λ q. ap (λ p. get_or p (rank marks k) d) (pick_unmarked n q) ∙ there)
        (decide (marked marks n)))

-- WRITING. One value more, written behind the others.
pub write_next : (new old : List ℕ) (r v : ℕ) → length new ≡ r → r < length old → set (written new old) r v ≡ written (new ++ v ∷ []) old
write_next new old r v e l =
    let h : length new < length old = omega arith in
    let rest : drop (length new) old ≡ get_or old (length new) 0 ∷ drop (suc (length new)) old = drop-cons old (length new) 0 h in
    let n : length (new ++ v ∷ []) ≡ suc (length new) = omega (arith, length-append new (v ∷ [])) in
    ap (λ l. set (new ++ l) r v) rest ∙ set_at new (get_or old (length new) 0) (drop (suc (length new)) old) v r e
    ∙ sym (append_assoc new (v ∷ []) (drop (suc (length new)) old)) ∙ ap (λ k. (new ++ v ∷ []) ++ drop k old) (sym n)

-- DOCUMENT ORDER. The parent of a node is the node before it or over that.
abbrev pub InOrder : Table → Type 0
InOrder t = (i : ℕ) → suc i < nodes t → over t i (parent_of t (suc i)) ≡ true

-- What a good node says of its kind, of its parent and of its parent's kind.
pub good_later : (t : Table) (i : ℕ) → good_node t (suc i) ≡ true
    → ((leb 1 (kind_of t (suc i)) && leb (kind_of t (suc i)) kind_limit) ≡ true) × (over t i (parent_of t (suc i)) ≡ true) × (not (eqb (kind_of t (parent_of t (suc i))) 1) ≡ true)
unfolding good_node
good_later t i g =
    let k = kind_of t (suc i) in
    let o = over t i (parent_of t (suc i)) in
    let c = not (eqb (kind_of t (parent_of t (suc i))) 1) in
    let a = and_true (leb 1 k && leb k kind_limit && o) c g in
    let b = and_true (leb 1 k && leb k kind_limit) o a.0 in
    (b.0, b.1, a.1)

pub in_order_lem : (t : Table) → table_fault t ≡ none → InOrder t
in_order_lem t h i l = (good_later t i ((good_nodes t h).1 (suc i) l)).1

module _ (t : Table) (w : Tree t) (o : InOrder t) where
  -- What is over a node is over each node between.
  pub over_between : (d j p : ℕ) → j + d < nodes t → p ≤ j → over t (j + d) p ≡ true → over t j p ≡ true
  over_between zero j p l h g = ap (λ k. over t k p) (sym (add-zero j)) ∙ g
  over_between (suc d) j p l h g =
      let e : j + suc d ≡ suc (j + d) = omega arith in
      let g' : over t (suc (j + d)) p ≡ true = ap (λ k. over t k p) (sym e) ∙ g in
      over_between d j p (omega arith) h
      (over-cases t w (suc (j + d)) p (omega arith) g' (λ q. absurd (omega arith))
      (λ z q. over_trans t w (parent_of t (suc (j + d))) p (j + d) (omega arith) (o (j + d) (omega arith)) q))

  -- The parent of a marked node is over the marked node before it.
  pub over_last : (marks : List ℕ) → Closed t marks → (i q : ℕ) → 0 < i → i < nodes t → marked marks i ≡ true → q < i → marked marks q ≡ true
      → rank marks i ≡ suc (rank marks q) → over t q (parent_of t i) ≡ true
  over_last marks c zero q z l m b mq e = absurd (omega arith)
  over_last marks c (suc h) q z l m b mq e =
      let p = parent_of t (suc h) in
      let below : p < suc h = w.falls (suc h) z l in
      let less : rank marks p < rank marks (suc h) = rank_less marks p (suc h) below (c (suc h) l m) in
      let before : p ≤ q = by_cases (dec_lt q p) (λ f. absurd (omega (arith, rank_less marks q p f mq))) (λ f. omega (arith, f)) in
      let s : q + (h - q) ≡ h = omega arith in
      over_between (h - q) q p (omega arith) before (ap (λ k. over t k p) s ∙ o h l)

-- THE NEW TABLE.
module _ (t : Table) (marks : List ℕ) (w : Tree t) (c : Closed t marks) where
  abbrev t' : Table
  t' = extracted t marks

  pub nodes_extracted : nodes (extracted t marks) ≡ rank marks (nodes t)
  unfolding extracted
  nodes_extracted = length_pick marks (λ i. rank marks (parent_of t i)) (nodes t)

  pub parent_extracted : (i : ℕ) → i < nodes t → marked marks i ≡ true → parent_of (extracted t marks) (rank marks i) ≡ rank marks (parent_of t i)
  unfolding extracted
  parent_extracted i l m = pick_at marks (λ i. rank marks (parent_of t i)) (nodes t) i 0 l m

  pub kind_extracted : (i : ℕ) → i < nodes t → marked marks i ≡ true → kind_of (extracted t marks) (rank marks i) ≡ kind_of t i
  unfolding extracted
  kind_extracted i l m = pick_at marks (λ i. kind_of t i) (nodes t) i 0 l m

  module _ (m₀ : marked marks 0 ≡ true) where
    pub tree_extracted : Tree (extracted t marks)
    tree_extracted =
        record {
          rooted = omega (arith, nodes_extracted, rank_less marks 0 (nodes t) w.rooted m₀);
          root = parent_extracted 0 w.rooted m₀ ∙ ap (rank marks) w.root;
          falls =
              λ r z l.
              rank-back marks (nodes t) r (omega (arith, nodes_extracted))
              (λ i li mi e.
              let pos : 0 < i = by_cases (ℕ_discrete i 0) (λ q. absurd (omega (arith, ap (rank marks) q))) (λ q. omega arith) in
              let less = rank_less marks (parent_of t i) i (w.falls i pos li) (c i li mi) in
              omega (arith, parent_extracted i li mi, ap (parent_of t') e));
        }

    -- What is over a marked node is over it in the new table.
    pub over_extracted : (p a : ℕ) → a < nodes t → marked marks a ≡ true → over t a p ≡ true → over (extracted t marks) (rank marks a) (rank marks p) ≡ true
    over_extracted p =
        climb t w (λ a. marked marks a ≡ true → over t a p ≡ true → over t' (rank marks a) (rank marks p) ≡ true)
        (λ a l up m h.
        let here : rank marks a < nodes t' = omega (arith, nodes_extracted, rank_less marks a (nodes t) l m) in
        over-cases t w a p l h (λ e. ap (λ x. over t' (rank marks a) (rank marks x)) (sym e) ∙ over_self t' tree_extracted (rank marks a) here)
        (λ z q. over_parent t' tree_extracted (rank marks a) (rank marks p) here (ap (λ x. over t' x (rank marks p)) (parent_extracted a l m) ∙ up z (c a l m) q)))

module _ (t : Table) (marks : List ℕ) (ft : table_fault t ≡ none) (fm : marks_fault t marks ≡ none) (m₀ : marked marks 0 ≡ true) where
  w : Tree t
  w = tree t ft

  c : Closed t marks
  c = closed t marks fm

  w' : Tree (extracted t marks)
  w' = tree_extracted t marks w c m₀

  abbrev u : Table
  u = extracted t marks

  -- The new root is the old one.
  root_good : good_node u 0 ≡ true
  unfolding good_node
  root_good =
      true_and (eq-eqb (parent_of u 0) 0 w'.root)
      (eq-eqb (kind_of u 0) 0
      (kind_extracted t marks w c 0 w.rooted m₀
      ∙ eqb-true (kind_of t 0) 0 (and_true (eqb (parent_of t 0) 0) (eqb (kind_of t 0) 0) ((good_nodes t ft).1 0 w.rooted)).1))

  -- What the kinds of a node and of its parent must be.
  kinds_good : (i : ℕ) → 0 < i → i < nodes t → ((leb 1 (kind_of t i) && leb (kind_of t i) kind_limit) ≡ true) × (not (eqb (kind_of t (parent_of t i)) 1) ≡ true)
  kinds_good zero z l = absurd (omega arith)
  kinds_good (suc h) z l = let g = good_later t h ((good_nodes t ft).1 (suc h) l) in (g.0, g.2)

  -- The new node of number suc q, which is the node i, after the node j.
  later_good : (q i j : ℕ) → i < nodes t → marked marks i ≡ true → rank marks i ≡ suc q → j < i → marked marks j ≡ true → rank marks j ≡ q → good_node u (suc q) ≡ true
  unfolding good_node
  later_good q i j li mi ei lj mj ej =
      let p = parent_of t i in
      let up : p < nodes t = omega (arith, parent_le t w i li) in
      let k = kinds_good i (omega arith) li in
      let kind-is : kind_of t i ≡ kind_of u (suc q) = sym (kind_extracted t marks w c i li mi) ∙ ap (kind_of u) ei in
      let parent_is : rank marks p ≡ parent_of u (suc q) = sym (parent_extracted t marks w c i li mi) ∙ ap (parent_of u) ei in
      let above-is : kind_of t p ≡ kind_of u (parent_of u (suc q)) = sym (kind_extracted t marks w c p up (c i li mi)) ∙ ap (kind_of u) parent_is in
      let o : over t j p ≡ true = over_last t w (in_order_lem t ft) marks c i j (omega arith) li mi lj mj (ei ∙ ap suc (sym ej)) in
      let o' : over u q (parent_of u (suc q)) ≡ true =
      ap₂ (λ x y. over u x y) (sym ej) (sym parent_is) ∙ over_extracted t marks w c m₀ p j (omega arith) mj o in
      true_and (true_and (subst (λ x. (leb 1 x && leb x kind_limit) ≡ true) kind-is k.0) o') (subst (λ x. not (eqb x 1) ≡ true) above-is k.1)

  new_good : (r : ℕ) → r < nodes u → good_node u r ≡ true
  new_good zero l = root_good
  new_good (suc q) l =
      rank-back marks (nodes t) (suc q) (omega (arith, nodes_extracted t marks w c))
      (λ i li mi ei. rank-back marks i q (omega arith) (λ j lj mj ej. later_good q i j li mi ei lj mj ej))

  -- THE EXTRACTED TABLE IS WELL FORMED, where the root is marked; where it is not, nothing is marked and the count is 0.
  pub extracted_good : table_fault (extracted t marks) ≡ none
  unfolding table_fault
  extracted_good = rw (ne_eqb (nodes u) 0 (λ e. omega (arith, w'.rooted))) (none_first (nodes u) 0 (λ i. not (good_node u i)) (λ r a l. ap not (new_good r (omega arith))))

pub extracted_empty : (t : Table) (marks : List ℕ) → table_fault t ≡ none → marks_fault t marks ≡ none → marked marks 0 ≡ false → rank marks (nodes t) ≡ 0
extracted_empty t marks ft fm m₀ =
    by_cases (ℕ_discrete (rank marks (nodes t)) 0) (λ e. e)
    (λ e.
    let w = tree t ft in
    rank-back marks (nodes t) 0 (omega arith)
    (λ i l m q. absurd (false≢true (sym m₀ ∙ over_marked t w marks (closed t marks fm) 0 i l m (over_root t w i l)))))

-- EXTRACTION OF ALL-ONE MARKS GIVES THE TABLE ITSELF.
module _ (t : Table) (w : Tree t) (e : length t.kinds ≡ nodes t) where
  abbrev ones : List ℕ
  ones = replicate (nodes t) 1

  all : (i : ℕ) → i < nodes t → marked ones i ≡ true
  all i l = eq-eqb (get_or ones i 0) 1 (get_or-replicate (nodes t) i 1 0 l)

  rank_all : (i : ℕ) → i ≤ nodes t → rank ones i ≡ i
  rank_all zero h = refl
  rank_all (suc i) h = rank_marked ones i (all i h) ∙ ap suc (rank_all i (omega arith))

  pick_all : (f : ℕ → ℕ) (l : List ℕ) → length l ≡ nodes t → ((i : ℕ) → i < nodes t → f i ≡ get_or l i 0) → pick_from ones (nodes t) 0 f ≡ l
  pick_all f l n same =
      let len : length (pick_from ones (nodes t) 0 f) ≡ nodes t = length_pick ones f (nodes t) ∙ rank_all (nodes t) (omega arith) in
      ext_get_or 0 (pick_from ones (nodes t) 0 f) l (len ∙ sym n)
      (λ i h.
      let b : i < nodes t = omega (arith, len) in
      ap (λ k. get_or (pick_from ones (nodes t) 0 f) k 0) (sym (rank_all i (omega arith))) ∙ pick_at ones f (nodes t) i 0 b (all i b) ∙ same i b)

  extracted_ones : extracted t (replicate (nodes t) 1) ≡ t
  unfolding extracted
  extracted_ones =
      let ps = pick_all (λ i. rank ones (parent_of t i)) t.parents refl (λ i l. rank_all (parent_of t i) (omega (arith, parent_le t w i l))) in
      let ks = pick_all (λ i. kind_of t i) t.kinds e (λ i l. refl) in
      ap₂ (λ a b. record { parents = a; kinds = b }) ps ks

pub extracted_whole : (t : Table) → table_fault t ≡ none → length t.kinds ≡ nodes t → extracted t (replicate (nodes t) 1) ≡ t
extracted_whole t ft e = extracted_ones t (tree t ft) e
