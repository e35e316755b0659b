-- The parents and kinds of any tree are a table without fault, and so are those that an accepted call writes.
-- Parents fall, all nodes of a row are under the node above it, and each node's parent is over the node before it. Assumes nothing.
use Prim.Native.Nat.{ℕ, zero, suc, ◌+◌, ◌<◌, ◌≤◌}
use native.Mathlib.Omega.{arith}
use native.Mathlib.Decide.{dec_lt}
use mathlib.Core.Path.{◌≡◌, refl, sym, ◌∙◌, ap, subst}
use mathlib.Core.Bool.{true, false, not, ◌&&◌}
use mathlib.Core.List.{List, [], ◌∷◌, map}
use mathlib.Core.Logic.{⊎_elim, by_cases}
use mathlib.Core.Option.{Option, none, some}
use lib.Dec.{eqb, leb}
use lib.ListN.{length, get_or, replicate, length-map, get_or-replicate, get_or-map}
use borrow.Author.Tests.{eq-eqb, ne_eqb, le-leb}
use Rattle.paper.specs.Tools.{same}
use Rattle.paper.specs.Names.{Line, lines_from, first_bad, bad_line, names_fault, names_of, number_from, number_of}
use Rattle.paper.specs.Document.{Table, nodes, table_of, parent_of, kind_of, over, good_node, table_fault, marked, good_mark, marks_fault}
use Rattle.paper.specs.Xml.{Nodes, nothing, element, chars, What, Row, row, rows, table, count, name_kind, kind_by}
use Rattle.paper.specs.Answers.{parent_field, kind_field}
use Rattle.paper.proofs.Tests.{true_and, or_right, decide, none-some}
use Rattle.paper.proofs.Searches.{none_first}
use Rattle.paper.proofs.Trees.{Tree, parent_le, climb, over_self, over_parent}
use Rattle.paper.proofs.Lines.{bad_many}
use Rattle.xml_theorems.specs.Tables.{line_at, GoodTable}
use Rattle.xml_theorems.proofs.Numbered.{Stand, stand_element, stand_inside, stand_rest, stand_chars, stand_behind, three, two}
use Rattle.xml_theorems.proofs.Placed.{named_text, parents, stand_table, length_table}

-- NAMES.

-- Lines without fault are few.
few_lines : (ls : List Line) (earlier : List (List ℕ)) → length earlier ≤ 256 → first_bad earlier ls ≡ none → length earlier + length ls ≤ 256
few_lines [] earlier l h = omega arith
few_lines (x ∷ ls) earlier l h =
    ⊎_elim (λ b. none-some (sym (rw b at h)))
    (λ b.
    let short : length earlier < 256 =
    by_cases (dec_lt (length earlier) 256) (λ s. s) (λ s. absurd (let z : true ≡ false = sym (bad_many earlier x (omega arith)) ∙ b in let y : ◌≡◌ {A = ℕ} 0 1 = cc in omega arith)) in
    omega (arith, few_lines ls (x.says ∷ earlier) (omega arith) (rw b at h)))
    (decide (bad_line earlier x))

few_names : (list : List ℕ) → names_fault list ≡ none → length (names_of list) ≤ 256
unfolding names_fault names_of
few_names list h = omega (arith, few_lines (lines_from 0 list) [] (omega arith) h, length-map (lines_from 0 list) (λ (l : Line). l.says))

-- A number is below the number of names.
number_below : (names : List (List ℕ)) (v k : ℕ) (word : List ℕ) → number_from v names word ≡ some k → k < v + length names
number_below [] v k word h = none-some h
number_below (n ∷ ns) v k word h =
    ⊎_elim
    (λ e. let f : some v ≡ some k = rw e at h in let g : v ≡ k = cc in omega arith)
    (λ e. omega (arith, number_below ns (suc v) k word (rw e at h)))
    (decide (same n word))

-- KINDS.
pub element_low : (o : Option ℕ) → 2 ≤ name_kind o
element_low none = omega arith
element_low (some v) = omega arith

element_high : (o : Option ℕ) → ((v : ℕ) → o ≡ some v → v < 256) → name_kind o ≤ 257
element_high none h = omega arith
element_high (some v) h = omega (arith, h v refl)

module _ (look : List ℕ → Option ℕ) where
  kind_low : (w : What) → (w ≡ What.root → ⊥) → 1 ≤ kind_by look w
  kind_low What.root h = absurd (h refl)
  kind_low What.text h = omega arith
  kind_low (What.named name) h = omega (arith, element_low (look name))

  kind_high : (w : What) → ((name : List ℕ) (v : ℕ) → look name ≡ some v → v < 256) → kind_by look w ≤ 257
  kind_high What.root h = omega arith
  kind_high What.text h = omega arith
  kind_high (What.named name) h = element_high (look name) (h name)

  kind_text : (w : What) → kind_by look w ≡ 1 → w ≡ What.text
  kind_text What.root h = absurd (omega arith)
  kind_text What.text h = refl
  kind_text (What.named name) h = absurd (omega (arith, element_low (look name)))

text_root : What.text ≡ What.root → ⊥
text_root h = let z : ◌≡◌ {A = ℕ} 0 1 = cc in omega arith

named_root : (name : List ℕ) → What.named name ≡ What.root → ⊥
named_root name h = let z : ◌≡◌ {A = ℕ} 0 1 = cc in omega arith

module _ (lines : List Row) where
  abbrev parent_at : ℕ → ℕ
  parent_at i = (line_at lines i).parent

  abbrev what_at : ℕ → What
  what_at i = (line_at lines i).what

  -- No node but the first is a root, and no parent is a text.
  not_root : (ns : Nodes) (up n : ℕ) → Stand lines n (rows up n ns) → (i : ℕ) → n ≤ i → i < n + count ns → what_at i ≡ What.root → ⊥
  not_root nothing up n h i a l r = absurd (omega arith)
  not_root (element name begin end inside rest) up n h i a l r =
      three n (count inside) (count rest) i a l
      (λ e. named_root name (sym (ap what_at e ∙ ap (λ (x : Row). x.what) (stand_element lines up n name begin end inside rest h)) ∙ r))
      (λ b m. not_root inside n (suc n) (stand_inside lines up n name begin end inside rest h) i b m r)
      (λ b m. not_root rest up (suc n + count inside) (stand_rest lines up n name begin end inside rest h) i b m r)
  not_root (chars begin end rest) up n h i a l r =
      two n (count rest) i a l (λ e. text_root (sym (ap what_at e ∙ ap (λ (x : Row). x.what) (stand_chars lines up n begin end rest h)) ∙ r))
      (λ b m. not_root rest up (suc n) (stand_behind lines up n begin end rest h) i b m r)

  not_text : (ns : Nodes) (up n : ℕ) → Stand lines n (rows up n ns) → (what_at up ≡ What.text → ⊥) → (i : ℕ) → n ≤ i → i < n + count ns → what_at (parent_at i) ≡ What.text → ⊥
  not_text nothing up n h u i a l r = absurd (omega arith)
  not_text (element name begin end inside rest) up n h u i a l r =
      let here = stand_element lines up n name begin end inside rest h in
      three n (count inside) (count rest) i a l
      (λ e. u (sym (ap what_at (ap parent_at e ∙ ap (λ (x : Row). x.parent) here)) ∙ r))
      (λ b m. not_text inside n (suc n) (stand_inside lines up n name begin end inside rest h) (λ z. named_text name (sym (ap (λ (x : Row). x.what) here) ∙ z)) i b m r)
      (λ b m. not_text rest up (suc n + count inside) (stand_rest lines up n name begin end inside rest h) u i b m r)
  not_text (chars begin end rest) up n h u i a l r =
      two n (count rest) i a l
      (λ e. u (sym (ap what_at (ap parent_at e ∙ ap (λ (x : Row). x.parent) (stand_chars lines up n begin end rest h))) ∙ r))
      (λ b m. not_text rest up (suc n) (stand_behind lines up n begin end rest h) u i b m r)

  -- In a table with these parents, which is a tree, a row of nodes is under the node above it,
  module _ (t : Table) (w : Tree t) (says : (i : ℕ) → parent_of t i ≡ parent_at i) where
    pub under : (ns : Nodes) (up n : ℕ) → Stand lines n (rows up n ns) → up < n → n + count ns ≤ nodes t
        → (i : ℕ) → n ≤ i → i < n + count ns → over t i up ≡ true
    under ns up n h u s i a l =
        climb t w (λ i. n ≤ i → i < n + count ns → over t i up ≡ true)
        (λ i on rec a l.
        over_parent t w i up on
        (⊎_elim (λ e. ap (λ p. over t p up) (says i ∙ e) ∙ over_self t w up (omega arith))
        (λ q. rec (omega arith) (omega (arith, says i, q.0)) (omega (arith, says i, q.1)))
        (parents lines ns up n h i a l)))
        i (omega arith) a l

    -- and a node's parent is over the node before it.
    ordered : (ns : Nodes) (up n : ℕ) → Stand lines n (rows up n ns) → up < n → n + count ns ≤ nodes t → ((b : ℕ) → suc b ≡ n → over t b up ≡ true)
        → (i : ℕ) → n ≤ suc i → suc i < n + count ns → over t i (parent_at (suc i)) ≡ true
    ordered nothing up n h u s f i a l = absurd (omega arith)
    ordered (element name begin end inside rest) up n h u s f i a l =
        three n (count inside) (count rest) (suc i) a l
        (λ e. ap (over t i) (ap parent_at e ∙ ap (λ (x : Row). x.parent) (stand_element lines up n name begin end inside rest h)) ∙ f i e)
        (λ b m.
        ordered inside n (suc n) (stand_inside lines up n name begin end inside rest h) (omega arith) (omega arith)
        (λ c e. let d : c ≡ n = omega arith in ap (λ x. over t x n) d ∙ over_self t w n (omega arith)) i b m)
        (λ b m.
        ordered rest up (suc n + count inside) (stand_rest lines up n name begin end inside rest h) (omega arith) (omega arith)
        (λ c e. under (element name begin end inside rest) up n h u s c (omega arith) (omega arith)) i b m)
    ordered (chars begin end rest) up n h u s f i a l =
        two n (count rest) (suc i) a l
        (λ e. ap (over t i) (ap parent_at e ∙ ap (λ (x : Row). x.parent) (stand_chars lines up n begin end rest h)) ∙ f i e)
        (λ b m.
        ordered rest up (suc n) (stand_behind lines up n begin end rest h) (omega arith) (omega arith)
        (λ c e. under (chars begin end rest) up n h u s c (omega arith) (omega arith)) i b m)

-- The parents of any tree are those of a table that is a tree, whatever its kinds are.
module _ (long : ℕ) (tree : Nodes) (kinds : List ℕ) where
  pub parent_column : (i : ℕ) → parent_of (table_of (map parent_field (table long tree)) kinds) i ≡ (line_at (table long tree) i).parent
  parent_column i = get_or-map parent_field (table long tree) i (row 0 What.root 0 0)

  pub column_tree : Tree (table_of (map parent_field (table long tree)) kinds)
  column_tree =
      let many = length-map (table long tree) parent_field in
      record {
        rooted = omega (arith, many);
        root = refl;
        falls =
            λ i z l.
            ⊎_elim (λ e. omega (arith, parent_column i)) (λ q. omega (arith, parent_column i, q.1))
            (parents (table long tree) tree 0 1 (stand_table long tree) i (omega arith) (omega (arith, many, length_table long tree)));
      }

-- THE TABLE.
module _ (list : List ℕ) (long : ℕ) (tree : Nodes) (fine : names_fault list ≡ none) where
  abbrev lines : List Row
  lines = table long tree

  abbrev look : List ℕ → Option ℕ
  look = number_of (names_of list)

  abbrev t : Table
  t = table_of (map parent_field lines) (map (kind_field list) lines)

  parent_says : (i : ℕ) → parent_of t i ≡ (line_at lines i).parent
  parent_says = parent_column long tree (map (kind_field list) lines)

  kind_says : (i : ℕ) → kind_of t i ≡ kind_by look (line_at lines i).what
  kind_says i = get_or-map (kind_field list) lines i (row 0 What.root 0 0)

  long_as : nodes t ≡ length lines
  long_as = length-map lines parent_field

  is_tree : Tree t
  is_tree = column_tree long tree (map (kind_field list) lines)

  node_good : (i : ℕ) → i < nodes t → good_node t i ≡ true
  unfolding good_node
  node_good zero l = refl
  node_good (suc i) l =
      let s = stand_table long tree in
      let m : suc i < 1 + count tree = omega (arith, long_as, length_table long tree) in
      let p = (line_at lines (suc i)).parent in
      let k = kind_by look (line_at lines (suc i)).what in
      let low : 1 ≤ k = kind_low look (line_at lines (suc i)).what (not_root lines tree 0 1 s (suc i) (omega arith) m) in
      let high : k ≤ 257 = kind_high look (line_at lines (suc i)).what (λ name v e. omega (arith, number_below (names_of list) 0 v name e, few_names list fine)) in
      let o : over t i p ≡ true =
      ordered lines t is_tree parent_says tree 0 1 s (omega arith) (omega (arith, long_as, length_table long tree))
      (λ b e. let d : b ≡ 0 = omega arith in ap (λ x. over t x 0) d ∙ over_self t is_tree 0 is_tree.rooted) i (omega arith) m in
      let other : eqb (kind_by look (line_at lines p).what) 1 ≡ false =
      ne_eqb (kind_by look (line_at lines p).what) 1
      (λ e. not_text lines tree 0 1 s (λ z. text_root (sym z)) (suc i) (omega arith) m (kind_text look (line_at lines p).what e)) in
      true_and
      (true_and (subst (λ x. (leb 1 x && leb x 257) ≡ true) (sym (kind_says (suc i))) (true_and (le-leb 1 k low) (le-leb k 257 high)))
      (ap (over t i) (parent_says (suc i)) ∙ o))
      (ap not (ap (λ x. eqb x 1) (ap (kind_of t) (parent_says (suc i)) ∙ kind_says p) ∙ other))

  table_good : table_fault t ≡ none
  unfolding table_fault
  table_good = rw (ne_eqb (nodes t) 0 (λ e. omega (arith, is_tree.rooted))) (none_first (nodes t) 0 (λ i. not (good_node t i)) (λ i a l. ap not (node_good i (omega arith))))

  marks_good : marks_fault t (replicate (length lines) 1) ≡ none
  unfolding marks_fault good_mark
  marks_good =
      none_first (nodes t) 0 (λ i. not (good_mark t (replicate (length lines) 1) i))
      (λ i a l.
      let all : (j : ℕ) → j < length lines → marked (replicate (length lines) 1) j ≡ true = λ j m. eq-eqb (get_or (replicate (length lines) 1) j 0) 1 (get_or-replicate (length lines) j 1 0 m) in
      ap not
      (or_right (eqb (get_or (replicate (length lines) 1) i 0) 0)
      (true_and (all i (omega (arith, long_as))) (all (parent_of t i) (omega (arith, long_as, parent_le t is_tree i (omega arith)))))))

pub good_table : GoodTable
good_table list long tree fine =
    record {
      parents_long = length-map (table long tree) _;
      kinds_long = length-map (table long tree) _;
      table_fine = table_good list long tree fine;
      marks_fine = marks_good list long tree fine;
    }
