-- Texts side by side made one: in the table, where a text behind a text goes, and in the tree, which keeps the first of them.
-- By induction over the nodes; what stands before a node tells whether it is a text of the same parent. Assumes nothing.
use Prim.Native.Nat.{ℕ, zero, suc, ◌+◌, ◌<◌, ◌≤◌}
use native.Mathlib.Omega.{arith}
use native.Mathlib.Decide.{dec_lt}
use mathlib.Core.Path.{◌≡◌, refl, sym, ◌∙◌, ap, ap₂}
use mathlib.Core.Bool.{Bool, true, false, not, ◌&&◌, cond, false≢true}
use mathlib.Core.List.{List, map}
use mathlib.Core.Logic.{⊎_elim, by_cases}
use lib.Dec.{eqb}
use lib.ListN.{length, length-map, get_or-map}
use borrow.Author.Tests.{eq-eqb, ne_eqb}
use Rattle.paper.specs.Names.{names_of, number_of}
use Rattle.paper.specs.Document.{Table, nodes, parent_of, kind_of, marked}
use Rattle.paper.specs.Xml.{Nodes, nothing, element, chars, What, Row, row, rows, table, count, name_kind}
use Rattle.paper.specs.WriteXml.{pruned}
use Rattle.paper.specs.Answers.{parent_field, kind_field}
use Rattle.paper.proofs.Searches.{column_at}
use Rattle.xml_theorems.specs.Tables.{line_at}
use Rattle.xml_theorems.proofs.Numbered.{Stand, stand_element, stand_inside, stand_rest, stand_chars, stand_behind}
use Rattle.xml_theorems.proofs.Placed.{parents, stand_table, length_table}
use Rattle.xml_theorems.proofs.Tabled.{element_low, parent_column}
use Rattle.file_theorems.specs.Files.{columns_of, follows_text, first_texts, merged}
use Rattle.file_theorems.proofs.Rebuilt.{joined}
use Rattle.file_theorems.proofs.Pruning.{Shut, extracted_pruned}

no_other : (a : Bool) → (a && false) ≡ false
no_other true = refl
no_other false = refl

module _ (list : List ℕ) (long : ℕ) (tree : Nodes) where
  abbrev lines : List Row
  lines = table long tree

  abbrev t : Table
  t = columns_of list long tree

  abbrev stay : List ℕ
  stay = first_texts t

  many : nodes t ≡ length lines
  many = length-map lines parent_field

  parent_says : (i : ℕ) → parent_of t i ≡ (line_at lines i).parent
  parent_says i = parent_column long tree (map (kind_field list) lines) i

  kind_says : (i : ℕ) → kind_of t i ≡ kind_field list (line_at lines i)
  kind_says i = get_or-map (kind_field list) lines i (row 0 What.root 0 0)

  -- A node stays exactly if it follows no text.
  stays : (i : ℕ) → i < length lines → marked stay i ≡ not (follows_text t i)
  stays i l = ap (λ n. eqb n 1) (column_at (nodes t) (λ i. cond (follows_text t i) 0 1) 0 i (omega (arith, many))) ∙ go (follows_text t i)
    where
      go : (b : Bool) → eqb (cond b 0 1) 1 ≡ not b
      go true = refl
      go false = refl

  -- Whether the node before number n is a text under `up`, so that none may begin there.
  abbrev Prior : Bool → ℕ → ℕ → Type 0
  Prior fresh up n = (j : ℕ) → n ≡ suc j → (eqb (kind_of t j) 1 && eqb up (parent_of t j)) ≡ not fresh

  -- An element is no text,
  module _ (up n : ℕ) (name : List ℕ) (begin end : ℕ) (inside rest : Nodes) (h : Stand lines n (rows up n (element name begin end inside rest))) where
    element-kind : eqb (kind_of t n) 1 ≡ false
    element-kind =
        let is : kind_of t n ≡ name_kind (number_of (names_of list) name) = kind_says n ∙ ap (kind_field list) (stand_element lines up n name begin end inside rest h) in
        ne_eqb (kind_of t n) 1 (λ e. omega (arith, is, element_low (number_of (names_of list) name)))

    element_follows : (i : ℕ) → i ≡ n → follows_text t i ≡ false
    element_follows zero e = refl
    element_follows (suc i) e = let k : eqb (kind_of t (suc i)) 1 ≡ false = ap (λ m. eqb (kind_of t m) 1) e ∙ element-kind in rw k

    element_stays : n < length lines → marked stay n ≡ true
    element_stays l = stays n l ∙ ap not (element_follows n refl)

    -- nor is what stands before the first node inside it, and what stands before the node behind it is under it or itself.
    prior_inside : Prior true n (suc n)
    prior_inside j e = let d : j ≡ n = omega arith in let k : eqb (kind_of t j) 1 ≡ false = ap (λ m. eqb (kind_of t m) 1) d ∙ element-kind in rw k

    prior_rest : up < n → Prior true up (suc n + count inside)
    prior_rest u j e =
        by_cases (dec_lt n j)
        (λ l.
        let below : up < (line_at lines j).parent =
        ⊎_elim (λ q. omega (arith, q)) (λ q. omega (arith, q.0)) (parents lines inside n (suc n) (stand_inside lines up n name begin end inside rest h) j l (omega arith)) in
        let other : eqb up (parent_of t j) ≡ false = ne_eqb up (parent_of t j) (λ z. omega (arith, z, parent_says j)) in
        ap (λ b. eqb (kind_of t j) 1 && b) other ∙ no_other (eqb (kind_of t j) 1))
        (λ l. let d : j ≡ n = omega arith in let k : eqb (kind_of t j) 1 ≡ false = ap (λ m. eqb (kind_of t m) 1) d ∙ element-kind in rw k)

  -- A text is one, and stays exactly where one may begin.
  module _ (up n begin end : ℕ) (rest : Nodes) (h : Stand lines n (rows up n (chars begin end rest))) where
    text_kind : eqb (kind_of t n) 1 ≡ true
    text_kind = eq-eqb (kind_of t n) 1 (kind_says n ∙ ap (kind_field list) (stand_chars lines up n begin end rest h))

    text_parent : parent_of t n ≡ up
    text_parent = parent_says n ∙ ap (λ (r : Row). r.parent) (stand_chars lines up n begin end rest h)

    text_stays : (fresh : Bool) → Prior fresh up n → (i : ℕ) → i ≡ n → 0 < n → n < length lines → marked stay n ≡ fresh
    text_stays fresh p zero e z l = absurd (omega arith)
    text_stays fresh p (suc i) e z l =
        let kind : eqb (kind_of t (suc i)) 1 ≡ true = ap (λ m. eqb (kind_of t m) 1) e ∙ text_kind in
        let above : parent_of t (suc i) ≡ up = ap (parent_of t) e ∙ text_parent in
        let follows : follows_text t (suc i) ≡ not fresh = ap₂ (λ a b. a && eqb (kind_of t i) 1 && eqb b (parent_of t i)) kind above ∙ p i (sym e) in
        stays n l ∙ ap (λ m. not (follows_text t m)) (sym e) ∙ ap not follows ∙ twice fresh
      where
        twice : (b : Bool) → not (not b) ≡ b
        twice true = refl
        twice false = refl

    prior_behind : Prior false up (suc n)
    prior_behind j e =
        let d : j ≡ n = omega arith in
        let kind : eqb (kind_of t j) 1 ≡ true = ap (λ m. eqb (kind_of t m) 1) d ∙ text_kind in
        let above : eqb up (parent_of t j) ≡ true = eq-eqb up (parent_of t j) (sym (ap (parent_of t) d ∙ text_parent)) in
        rw (kind, above)

  joins : (ns : Nodes) (up n : ℕ) (fresh : Bool) → Stand lines n (rows up n ns) → up < n → n + count ns ≤ length lines → Prior fresh up n
      → (pruned stay n ns ≡ joined fresh ns) × Shut stay n ns
  joins nothing up n fresh h u l p = (refl, tt)
  joins (element name begin end inside rest) up n fresh h u l p =
      let m : marked stay n ≡ true = element_stays up n name begin end inside rest h (omega arith) in
      let within = joins inside n (suc n) true (stand_inside lines up n name begin end inside rest h) (omega arith) (omega arith) (prior_inside up n name begin end inside rest h) in
      let behind = joins rest up (suc n + count inside) true (stand_rest lines up n name begin end inside rest h) (omega arith) (omega arith) (prior_rest up n name begin end inside rest h u) in (
        rw m (ap₂ (λ a b. element name begin end a b) within.0 behind.0),
        (λ f. absurd (false≢true (sym f ∙ m)), within.1, behind.1),
      )
  joins (chars begin end rest) up n fresh h u l p =
      let m : marked stay n ≡ fresh = text_stays up n begin end rest h fresh p n refl (omega arith) (omega arith) in
      let behind = joins rest up (suc n) false (stand_behind lines up n begin end rest h) (omega arith) (omega arith) (prior_behind up n begin end rest h) in
      (ap₂ (λ b ns. cond b (chars begin end ns) ns) m behind.0, behind.1)

  -- THE MERGED TABLE is that of the joined tree.
  pub merged_joined : merged (columns_of list long tree) ≡ columns_of list long (joined true tree)
  unfolding merged
  merged_joined =
      let Long-as = length_table long tree in
      let j = joins tree 0 1 true (stand_table long tree) (omega arith) (omega (arith, Long-as)) (λ i e. let d : i ≡ 0 = omega arith in ap (λ k. eqb (kind_of t k) 1 && eqb 0 (parent_of t k)) d) in
      extracted_pruned stay list long tree (stays 0 (omega (arith, Long-as))) j.1 ∙ ap (columns_of list long) j.0
