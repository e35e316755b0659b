-- What is written is read again as the extracted table of the marks with texts side by side made one.
-- The written bytes are derived as the pruned and joined tree, apart from places; its columns are those of the table, pruned and joined too. Assumes nothing.
use Prim.Native.Nat.{ℕ, suc, ◌+◌}
use native.Mathlib.Omega.{arith}
use native.Mathlib.Decide.{ℕ_discrete, dec_lt}
use mathlib.Core.Path.{◌≡◌, refl, sym, ◌∙◌, ap, ap₂, subst}
use mathlib.Core.Bool.{Bool, true, false, ◌&&◌}
use mathlib.Core.List.{List, [], ◌∷◌, ◌++◌, map, map-append}
use mathlib.Core.Logic.{⊎_elim, by_cases}
use mathlib.Core.Option.{Option, none}
use lib.Dec.{leb}
use lib.ListN.{length, length-map}
use borrow.Author.Tests.{leb-true}
use Rattle.paper.specs.Names.{names_of, number_of}
use Rattle.paper.specs.Document.{Table, nodes, table_of, kind_of, element_kind, marked, marks_fault}
use Rattle.paper.specs.Extraction.{extracted}
use Rattle.paper.specs.Xml.{Nodes, nothing, element, chars, What, Row, row, rows, table, count, lacks, unnamed, wanted, read_xml}
use Rattle.paper.specs.WriteXml.{pruned, as_xml, kept_of, kept_xml}
use Rattle.paper.specs.Answers.{parent_field, kind_field, element_marked}
use Rattle.paper.proofs.Tests.{and_true, none-some, decide}
use Rattle.paper.proofs.Searches.{some-elim}
use Rattle.paper.proofs.Trees.{Tree, Closed, over_root, over_marked, closed}
use Rattle.xml_grammar.specs.Productions.{Derives, text}
use Rattle.xml_verdicts.proofs.Accepted.{accepted}
use Rattle.xml_theorems.proofs.Numbered.{stand_inside}
use Rattle.xml_theorems.proofs.Placed.{stand_table, length_table}
use Rattle.xml_theorems.proofs.Tabled.{under, parent_column, column_tree}
use Rattle.file_theorems.specs.Files.{columns_of, merged, Parts, parts_of, escaped_runs, WrittenParts, ReadBack}
use Rattle.file_theorems.proofs.Rebuilt.{Sound, derived_sound, pruned_sound, Alike, alike_nothing, alike_element, alike_chars, joined, File, file}
use Rattle.file_theorems.proofs.Pruning.{closed_shut, extracted_pruned}
use Rattle.file_theorems.proofs.Merging.{merged_joined}

-- ALIKE TREES have the same parents and kinds.
alike_count : {a b : Nodes} → Alike a b → count a ≡ count b
alike_count alike_nothing = refl
alike_count (alike_element i r) = ap₂ (λ m n. suc (m + n)) (alike_count i) (alike_count r)
alike_count (alike_chars r) = ap suc (alike_count r)

-- A column that does not tell places.
module _ (g : Row → ℕ) (same : (up : ℕ) (w : What) (b e b' e' : ℕ) → g (row up w b e) ≡ g (row up w b' e')) where
  alike_rows : {a b : Nodes} → Alike a b → (up n : ℕ) → map g (rows up n a) ≡ map g (rows up n b)
  alike_rows alike_nothing up n = refl
  alike_rows (alike_element {name = name} {b = b} {e = e} {b' = b'} {e' = e'} {inside = i} {rest = r} {inside' = i'} {rest' = r'} x y) up n =
      let m = suc n + count i in
      let m' = suc n + count i' in
      let far : m ≡ m' = ap (λ k. suc n + k) (alike_count x) in
      ap₂ (λ (k : ℕ) (l : List ℕ). k ∷ l) (same up (What.named name) b e b' e')
      (map-append g (rows n (suc n) i) (rows up m r)
      ∙ ap₂ ◌++◌ (alike_rows x n (suc n)) (alike_rows y up m ∙ ap (λ k. map g (rows up k r')) far)
      ∙ sym (map-append g (rows n (suc n) i') (rows up m' r')))
  alike_rows (alike_chars {b = b} {e = e} {b' = b'} {e' = e'} y) up n = ap₂ (λ (k : ℕ) (l : List ℕ). k ∷ l) (same up What.text b e b' e') (alike_rows y up (suc n))

alike_columns : (list : List ℕ) (long long' : ℕ) {a b : Nodes} → Alike a b → columns_of list long a ≡ columns_of list long' b
alike_columns list long long' h =
    ap₂ (λ (ps ks : List ℕ). table_of (0 ∷ ps) (0 ∷ ks)) (alike_rows parent_field (λ up w b e b' e'. refl) h 0 1)
    (alike_rows (kind_field list) (λ up w b e b' e'. refl) h 0 1)

-- NAMES that the list has.
module _ (look : List ℕ → Option ℕ) where
  abbrev pub Named : List Row → Type 0
  Named [] = Unit
  Named (r ∷ rs) = (lacks look r.what ≡ false) × Named rs

  pub named_lines : (lines : List Row) → unnamed look lines ≡ none → Named lines
  named_lines [] h = tt
  named_lines (r ∷ rs) h =
      ⊎_elim (λ (l : lacks look r.what ≡ true). none-some (sym (rw l at h))) (λ (l : lacks look r.what ≡ false). (l, named_lines rs (rw l at h)))
      (decide (lacks look r.what))

  lines_named : (lines : List Row) → Named lines → unnamed look lines ≡ none
  lines_named [] h = refl
  lines_named (r ∷ rs) h = rw h.0 (lines_named rs h.1)

  named_then : (xs ys : List Row) → Named xs → Named ys → Named (xs ++ ys)
  named_then [] ys h i = i
  named_then (x ∷ xs) ys h i = (h.0, named_then xs ys h.1 i)

  named_parts : (xs ys : List Row) → Named (xs ++ ys) → Named xs × Named ys
  named_parts [] ys h = (tt, h)
  named_parts (x ∷ xs) ys h = let (a, b) = named_parts xs ys h.1 in ((h.0, a), b)

  abbrev pub Known : Nodes → Type 0
  Known nothing = Unit
  Known (element name begin end inside rest) = (lacks look (What.named name) ≡ false) × Known inside × Known rest
  Known (chars begin end rest) = Known rest

  pub rows_known : (ns : Nodes) (up n : ℕ) → Named (rows up n ns) → Known ns
  rows_known nothing up n h = tt
  rows_known (element name begin end inside rest) up n h =
      let (a, b) = named_parts (rows n (suc n) inside) (rows up (suc n + count inside) rest) h.1 in
      (h.0, rows_known inside n (suc n) a, rows_known rest up (suc n + count inside) b)
  rows_known (chars begin end rest) up n h = rows_known rest up (suc n) h.1

  pub known_rows : (ns : Nodes) (up n : ℕ) → Known ns → Named (rows up n ns)
  known_rows nothing up n h = tt
  known_rows (element name begin end inside rest) up n h =
      (h.0, named_then (rows n (suc n) inside) (rows up (suc n + count inside) rest) (known_rows inside n (suc n) h.1) (known_rows rest up (suc n + count inside) h.2))
  known_rows (chars begin end rest) up n h = (refl, known_rows rest up (suc n) h)

  -- Those of the marked nodes, of the joined ones and of a tree alike are among them.
  pub known_pruned : (marks : List ℕ) (ns : Nodes) (n : ℕ) → Known ns → Known (pruned marks n ns)
  known_pruned marks nothing n h = tt
  known_pruned marks (element name begin end inside rest) n h =
      let later = known_pruned marks rest (suc n + count inside) h.2 in
      ⊎_elim (λ (m : marked marks n ≡ true). rw m (h.0, known_pruned marks inside (suc n) h.1, later)) (λ (m : marked marks n ≡ false). rw m later) (decide (marked marks n))
  known_pruned marks (chars begin end rest) n h =
      let later = known_pruned marks rest (suc n) h in
      ⊎_elim (λ (m : marked marks n ≡ true). rw m later) (λ (m : marked marks n ≡ false). rw m later) (decide (marked marks n))

  known_joined : (ns : Nodes) (fresh : Bool) → Known ns → Known (joined fresh ns)
  known_joined nothing fresh h = tt
  known_joined (element name begin end inside rest) fresh h = (h.0, known_joined inside true h.1, known_joined rest true h.2)
  known_joined (chars begin end rest) true h = known_joined rest false h
  known_joined (chars begin end rest) false h = known_joined rest false h

  known_alike : {a b : Nodes} → Alike a b → Known a → Known b
  known_alike alike_nothing h = tt
  known_alike (alike_element x y) h = (h.0, known_alike x h.1, known_alike y h.2)
  known_alike (alike_chars y) h = known_alike y h

-- THE ONE ELEMENT is marked where any is, and so is the root.
module _ (list marks : List ℕ) (long : ℕ) (name : List ℕ) (begin end : ℕ) (inside : Nodes) where
  abbrev tree : Nodes
  tree = element name begin end inside nothing

  abbrev t : Table
  t = columns_of list long tree

  module _ (c : Closed t marks) (some-marked : element_marked t marks ≡ true) where
    w : Tree t
    w = column_tree long tree (map (kind_field list) (table long tree))

    many : nodes t ≡ 2 + count inside
    many = length-map (table long tree) parent_field ∙ length_table long tree ∙ omega arith

    root_marked : marked marks 0 ≡ true
    root_marked =
        some-elim (nodes t) (λ i. marked marks i && leb element_kind (kind_of t i)) some-marked
        (λ i l h. over_marked t w marks c 0 i l (and_true (marked marks i) (leb element_kind (kind_of t i)) h).0 (over_root t w i l))

    element-marked : marked marks 1 ≡ true
    element-marked =
        some-elim (nodes t) (λ i. marked marks i && leb element_kind (kind_of t i)) some-marked
        (λ i l h.
        let (m, k) = and_true (marked marks i) (leb element_kind (kind_of t i)) h in
        by_cases (dec_lt 1 i)
        (λ f.
        over_marked t w marks c 1 i l m
        (under (table long tree) t w (parent_column long tree (map (kind_field list) (table long tree))) inside 1 2
        (stand_inside (table long tree) 0 1 name begin end inside nothing (stand_table long tree)) (omega arith) (omega (arith, many)) i (omega arith) (omega (arith, many))))
        (λ f.
        by_cases (ℕ_discrete i 0)
        (λ z. absurd (omega (arith, leb-true element_kind (kind_of t i) k, ap (kind_of t) z)))
        (λ z. let one : i ≡ 1 = omega arith in ap (marked marks) (sym one) ∙ m)))

    -- What is left is that element with what is marked inside it,
    abbrev left : Nodes
    left = element name begin end (pruned marks 2 inside) nothing

    left_is : pruned marks 1 tree ≡ left
    left_is = let one = element-marked in rw one

    -- and a tree like it, joined, has the columns and the names that are asked.
    module _ (back : Nodes) (far : ℕ) (h : Alike (joined true left) back) where
      back_columns : columns_of list far back ≡ merged (extracted t marks)
      back_columns =
          sym (alike_columns list long far h) ∙ sym (merged_joined list long left)
          ∙ ap merged (ap (columns_of list long) (sym left_is) ∙ sym (extracted_pruned marks list long tree root_marked (closed_shut list marks long tree c)))

      back_named : unnamed (number_of (names_of list)) (table long tree) ≡ none → unnamed (number_of (names_of list)) (table far back) ≡ none
      back_named u =
          let look = number_of (names_of list) in
          let known : Known look left = subst (Known look) left_is (known_pruned look marks tree 1 (rows_known look tree 0 1 (named_lines look (table long tree) u).1)) in
          lines_named look (table far back) (refl, known_rows look back 0 1 (known_alike look h (known_joined look left true known)))

-- What is owed of the bytes that are written.
record Owed (whole list marks : List ℕ) (tree : Nodes) (bytes : List ℕ) : Type 0 where
  back : Nodes
  read : read_xml bytes ≡ wanted back
  parts : parts_of bytes back ≡ escaped_runs (parts_of whole (pruned marks 1 tree))
  named : unnamed (number_of (names_of list)) (table (length whole) tree) ≡ none → unnamed (number_of (names_of list)) (table (length bytes) back) ≡ none
  columns : columns_of list (length bytes) back ≡ merged (extracted (columns_of list (length whole) tree) marks)

module _ (whole list marks name : List ℕ) (begin end : ℕ) (inside : Nodes) (c : Closed (columns_of list (length whole) (element name begin end inside nothing)) marks)
    (some-marked : element_marked (columns_of list (length whole) (element name begin end inside nothing)) marks ≡ true) where
  abbrev all : Nodes
  all = element name begin end inside nothing

  is : pruned marks 1 all ≡ element name begin end (pruned marks 2 inside) nothing
  is = left_is list marks (length whole) name begin end inside c some-marked

  file_owed : {bytes : List ℕ} → File whole bytes name (pruned marks 2 inside) → Owed whole list marks all bytes
  file_owed {bytes} f =
      let back : Nodes = element name 0 f.past f.within nothing in
      record {
        back = back;
        read = (accepted bytes back).1 f.derived;
        parts = ap (λ p. Parts.tag name p Parts.end) f.parts ∙ ap (λ ns. escaped_runs (parts_of whole ns)) (sym is);
        named = back_named list marks (length whole) name begin end inside c some-marked back (length bytes) (alike_element f.alike alike_nothing);
        columns = back_columns list marks (length whole) name begin end inside c some-marked back (length bytes) (alike_element f.alike alike_nothing);
      }

  element_owed : Sound whole all → Owed whole list marks all (as_xml whole 0 (pruned marks 1 all))
  element_owed s =
      subst (λ ns. Owed whole list marks all (as_xml whole 0 ns)) (sym is)
      (file_owed (file whole name begin end (pruned marks 2 inside) (subst (Sound whole) is (pruned_sound whole marks all 1 s))))

derived_owed : {whole : List ℕ} {tree : Nodes} → Derives whole tree → (list marks : List ℕ) → marks_fault (columns_of list (length whole) tree) marks ≡ none
    → element_marked (columns_of list (length whole) tree) marks ≡ true → Owed whole list marks tree (as_xml whole 0 (pruned marks 1 tree))
derived_owed {whole} {tree} (text {name = name} {begin = begin} {past = past} {inside = inside} d s r e) list marks fm some-marked =
    element_owed whole list marks name begin past inside (closed (columns_of list (length whole) tree) marks fm) some-marked (derived_sound (text d s r e))

owed : (whole list marks : List ℕ) (tree : Nodes) → read_xml whole ≡ wanted tree → marks_fault (columns_of list (length whole) tree) marks ≡ none
    → element_marked (columns_of list (length whole) tree) marks ≡ true → Owed whole list marks tree (kept_xml whole marks)
unfolding kept_xml
owed whole list marks tree h fm some-marked =
    subst (Owed whole list marks tree) (ap (kept_of whole marks) (sym h)) (derived_owed ((accepted whole tree).0 h) list marks fm some-marked)

pub written_parts : WrittenParts
written_parts whole list marks tree h fm some-marked = let o = owed whole list marks tree h fm some-marked in (o.back, o.read, o.parts)

pub read_back : ReadBack
read_back whole list marks tree h u fm some-marked = let o = owed whole list marks tree h fm some-marked in (o.back, o.read, o.named u, o.columns)
