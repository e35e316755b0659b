-- What an accepted call writes is read again.
-- By the lines of the two answers: where writing answers with a value its text is read as the lent columns, and of what was written each line of reading fails. Assumes nothing.
use Prim.Native.Nat.{ℕ, ◌≤◌}
use native.Mathlib.Omega.{arith}
use mathlib.Core.Path.{◌≡◌, refl, sym, ◌∙◌, ap, ap₂, subst}
use mathlib.Core.Bool.{Bool, true, false, not, ◌&&◌, ◌||◌, false≢true}
use mathlib.Core.List.{List, [], map, append-nil}
use mathlib.Core.Option.{none}
use lib.Dec.{eqb, ltb}
use lib.ListN.{length, take, drop, length-map}
use borrow.Author.Tests.{eqb-true, eq-eqb, le-ltb}
use Rattle.paper.specs.Tools.{when, written, same}
use Rattle.paper.specs.Limits.{text_limit, list_limit, node_limit}
use Rattle.paper.specs.Names.{names_fault, names_of, number_of}
use Rattle.paper.specs.Document.{Table, nodes, table_of, parent_of, table_fault, marks_fault}
use Rattle.paper.specs.Extraction.{rank, extracted}
use Rattle.paper.specs.Xml.{Nodes, wanted, read_xml, Row, table, unnamed}
use Rattle.paper.specs.WriteXml.{kept_xml}
use Rattle.paper.specs.Answers.{Answer, value, refusal, line, at_exit, too_long, short, read_xml_answer, parent_field, kind_field, begin_field, end_field, read_xml_column}
use Rattle.paper.specs.Answers.{element_marked, answers, reads_as, write_xml_answer, write_xml_out}
use Rattle.paper.proofs.Tests.{and_true}
use Rattle.paper.proofs.Same.{same_equal}
use Rattle.paper.proofs.Refusing.{line_value, when_none, or_none}
use Rattle.paper.proofs.Extracting.{rank_le, length_pick}
use Rattle.xml_theorems.proofs.Written.{Taken, taken, take_front, column_front, table_is}
use Rattle.xml_theorems.specs.Tables.{written_table}
use Rattle.file_theorems.specs.Files.{columns_of, first_texts, merged, ReadBackAnswers}
use Rattle.file_theorems.proofs.Back.{read_back}

-- What is known where the lent columns are those of the text,
pub record Reads (text list : List ℕ) (t : Table) (begins ends : List ℕ) : Type 0 where
  pub tree : Nodes
  pub read : read_xml text ≡ wanted tree
  pub names_fine : names_fault list ≡ none
  pub named : unnamed (number_of (names_of list)) (table (length text) tree) ≡ none
  pub few : nodes t ≤ node_limit
  pub columns : t ≡ columns_of list (length text) tree
  pub begins_at : begins ≡ map begin_field (table (length text) tree)
  pub ends_at : ends ≡ map end_field (table (length text) tree)

answered : (n : ℕ) (a : Answer) → answers n a ≡ true → a ≡ value n
answered n (value m) h = ap value (eqb-true m n h)
answered n (refusal number place) h = absurd (false≢true h)

take_all : (xs : List ℕ) → take (length xs) xs ≡ xs
take_all xs = ap (take (length xs)) (sym (append-nil xs)) ∙ take_front xs []

-- A column that reading leaves as it was.
column_as : (text list : List ℕ) (n : ℕ) (a : Answer) (field : Row → ℕ) (column : List ℕ) → (k : Taken text list n) → a ≡ value n → length column ≡ n
    → same (read_xml_column field text a column) column ≡ true → column ≡ map field (table (length text) k.tree)
column_as text list n a field column k e l h =
    sym (ap (λ m. take m column) (sym l) ∙ take_all column)
    ∙ ap (take n) (sym (same_equal (read_xml_column field text a column) column h)) ∙ ap (λ b. take n (read_xml_column field text b column)) e ∙ column_front text list n k field column

pub reads : (text list : List ℕ) (t : Table) (begins ends : List ℕ) → length t.kinds ≡ nodes t → length begins ≡ nodes t → length ends ≡ nodes t → reads_as text list t begins ends ≡ true
    → Reads text list t begins ends
unfolding reads_as
reads text list t begins ends kinds_long begins_long ends_long h =
    let a = read_xml_answer text list (nodes t) (length t.kinds) (length begins) (length ends) in
    let p = same (read_xml_column parent_field text a t.parents) t.parents in
    let k = same (read_xml_column (kind_field list) text a t.kinds) t.kinds in
    let b = same (read_xml_column begin_field text a begins) begins in
    let e = same (read_xml_column end_field text a ends) ends in
    let (pkb, he) = and_true (answers (nodes t) a && p && k && b) e h in
    let (pk, hb) = and_true (answers (nodes t) a && p && k) b pkb in
    let (ps, hk) = and_true (answers (nodes t) a && p) k pk in
    let (is, hp) = and_true (answers (nodes t) a) p ps in
    let value_is : a ≡ value (nodes t) = answered (nodes t) a is in
    let got = taken text list (nodes t) (length t.kinds) (length begins) (length ends) (nodes t) value_is in
    record {
      tree = got.tree;
      read = got.read;
      names_fine = got.names_fine;
      named = got.named;
      few = got.few;
      columns =
          ap₂ table_of (column_as text list (nodes t) a parent_field t.parents got value_is refl hp)
          (column_as text list (nodes t) a (kind_field list) t.kinds got value_is kinds_long hk);
      begins_at = column_as text list (nodes t) a begin_field begins got value_is begins_long hb;
      ends_at = column_as text list (nodes t) a end_field ends got value_is ends_long he;
    }

-- and where writing answers with a value.
pub record Granted (text list : List ℕ) (t : Table) (begins ends marks : List ℕ) (n : ℕ) : Type 0 where
  pub reading : Reads text list t begins ends
  pub list_short : too_long list list_limit ≡ false
  pub marks_fine : marks_fault t marks ≡ none
  pub some_element : element_marked t marks ≡ true
  pub many : length (kept_xml text marks) ≡ n

pub not_not : (b : Bool) → not b ≡ false → b ≡ true
not_not true h = refl
not_not false h = absurd (false≢true (sym h))

pub granted : (text list : List ℕ) (t : Table) (begins ends marks : List ℕ) (room n : ℕ) → write_xml_answer text list t begins ends marks room ≡ value n → Granted text list t begins ends marks n
unfolding write_xml_answer
granted text list t begins ends marks room n h =
    let needed = length (kept_xml text marks) in
    let ten = line 10 (short room needed) (value needed) in
    let fourteen = line 14 (when (not (reads_as text list t begins ends)) 0) ten in
    let thirteen = line 13 (when (not (element_marked t marks)) 0) fourteen in
    let eight = line 8 (marks_fault t marks) thirteen in
    let seven = line 7 (table_fault t) eight in
    let k = not (eqb (length t.kinds) (nodes t)) in
    let b = not (eqb (length begins) (nodes t)) in
    let e = not (eqb (length ends) (nodes t)) in
    let m = not (eqb (length marks) (nodes t)) in
    let long = too_long text text_limit || too_long list list_limit in
    let over = long || ltb node_limit (nodes t) in
    let l1 = line_value 1 n (when (over || k || b || e || m) 0) (line 2 (names_fault list) seven) h in
    let l2 = line_value 2 n (names_fault list) seven l1.1 in
    let l7 = line_value 7 n (table_fault t) eight l2.1 in
    let l8 = line_value 8 n (marks_fault t marks) thirteen l7.1 in
    let l13 = line_value 13 n (when (not (element_marked t marks)) 0) fourteen l8.1 in
    let l14 = line_value 14 n (when (not (reads_as text list t begins ends)) 0) ten l13.1 in
    let l10 = line_value 10 n (short room needed) (value needed) l14.1 in
    let c1 = or_none (over || k || b || e) m (when_none (over || k || b || e || m) 0 l1.0) in
    let c2 = or_none (over || k || b) e c1.0 in
    let c3 = or_none (over || k) b c2.0 in
    let c4 = or_none over k c3.0 in
    let c5 = or_none long (ltb node_limit (nodes t)) c4.0 in
    let equal : (x : ℕ) → not (eqb x (nodes t)) ≡ false → x ≡ nodes t = λ x z. eqb-true x (nodes t) (not_not (eqb x (nodes t)) z) in
    let is : value needed ≡ value n = l10.1 in
    record {
      reading =
          reads text list t begins ends (equal (length t.kinds) c4.1) (equal (length begins) c3.1) (equal (length ends) c2.1)
          (not_not (reads_as text list t begins ends) (when_none (not (reads_as text list t begins ends)) 0 l14.0));
      list_short = (or_none (too_long text text_limit) (too_long list list_limit) c5.0).1;
      marks_fine = l8.0;
      some_element = not_not (element_marked t marks) (when_none (not (element_marked t marks)) 0 l13.0);
      many = cc;
    }

-- What was written.
pub file_is : (text list : List ℕ) (t : Table) (begins ends marks out : List ℕ) (n : ℕ) → write_xml_answer text list t begins ends marks (length out) ≡ value n
    → take n (write_xml_out text list t begins ends marks out) ≡ kept_xml text marks
unfolding write_xml_out
file_is text list t begins ends marks out n h =
    let file = kept_xml text marks in
    let many = (granted text list t begins ends marks (length out) n h).many in
    ap (λ a. take n (at_exit a file out)) h ∙ ap (λ m. take m (written file out)) (sym many) ∙ take_front file (drop (length file) out)

-- An extracted table has no more nodes.
extracted_few : (t : Table) (marks : List ℕ) → nodes (extracted t marks) ≤ nodes t
unfolding extracted
extracted_few t marks = omega (arith, length_pick marks (λ i. rank marks (parent_of t i)) (nodes t), rank_le marks (nodes t))

merged_few : (t : Table) → nodes (merged t) ≤ nodes t
unfolding merged
merged_few t = extracted_few t (first_texts t)

-- Reading a wanted text whose names the list has, with room enough, answers the number of nodes.
read_answer_lem : (text list : List ℕ) (tree : Nodes) (p k b e : ℕ) → length text ≤ text_limit → too_long list list_limit ≡ false → k ≡ p → b ≡ p → e ≡ p → names_fault list ≡ none
    → read_xml text ≡ wanted tree → unnamed (number_of (names_of list)) (table (length text) tree) ≡ none → length (table (length text) tree) ≤ p → length (table (length text) tree) ≤ node_limit
    → read_xml_answer text list p k b e ≡ value (length (table (length text) tree))
unfolding read_xml_answer
read_answer_lem text list tree p k b e long short-list ek eb ee fine read named room few =
    let n = length (table (length text) tree) in
    let a : too_long text text_limit ≡ false = le-ltb text_limit (length text) long in
    let x : eqb k p ≡ true = eq-eqb k p ek in
    let y : eqb b p ≡ true = eq-eqb b p eb in
    let z : eqb e p ≡ true = eq-eqb e p ee in
    let r : ltb p n ≡ false = le-ltb p n room in
    let f : ltb node_limit n ≡ false = le-ltb node_limit n few in
    rw (a, short-list, x, y, z, fine, read, named, r, f)

wanted_same : {a b : Nodes} → wanted a ≡ wanted b → a ≡ b
wanted_same h = cc

-- So the columns written are those of its tree.
columns_written : (file list : List ℕ) (back : Nodes) (m : ℕ) (k : Taken file list m) (ps ks : List ℕ) → read_xml file ≡ wanted back
    → written_table file list ps ks m ≡ columns_of list (length file) back
columns_written file list back m k ps ks read = table_is file list m k ps ks ∙ ap (columns_of list (length file)) (wanted_same (sym k.read ∙ read))

module _ (text list : List ℕ) (t : Table) (begins ends marks : List ℕ) (n : ℕ) (g : Granted text list t begins ends marks n) (short-file : n ≤ text_limit) (ps ks bs es : List ℕ)
    (room : nodes t ≤ length ps) (ek : length ks ≡ length ps) (eb : length bs ≡ length ps) (ee : length es ≡ length ps) where
  abbrev file : List ℕ
  file = kept_xml text marks

  -- What was written is read again, as this tree.
  reread : (back : Nodes) → read_xml file ≡ wanted back → unnamed (number_of (names_of list)) (table (length file) back) ≡ none
      → columns_of list (length file) back ≡ merged (extracted t marks)
      → (m : ℕ) × (read_xml_answer file list (length ps) (length ks) (length bs) (length es) ≡ value m) × (written_table file list ps ks m ≡ merged (extracted t marks))
  reread back read named columns =
      let lines = table (length file) back in
      let few : length lines ≤ nodes t = omega (arith, length-map lines parent_field, ap nodes columns, merged_few (extracted t marks), extracted_few t marks) in
      let answer : read_xml_answer file list (length ps) (length ks) (length bs) (length es) ≡ value (length lines) =
      read_answer_lem file list back (length ps) (length ks) (length bs) (length es) (omega (arith, g.many)) g.list_short ek eb ee g.reading.names_fine read named (omega arith)
      (omega (arith, g.reading.few)) in (
        length lines,
        answer,
        columns_written file list back (length lines) (taken file list (length ps) (length ks) (length bs) (length es) (length lines) answer) ps ks read ∙ columns,
      )

  rereads : (m : ℕ) × (read_xml_answer file list (length ps) (length ks) (length bs) (length es) ≡ value m) × (written_table file list ps ks m ≡ merged (extracted t marks))
  rereads =
      let r = g.reading in
      let is = r.columns in
      let b =
      read_back text list marks r.tree r.read r.named (ap (λ u. marks_fault u marks) (sym is) ∙ g.marks_fine) (ap (λ u. element_marked u marks) (sym is) ∙ g.some_element) in
      reread b.0 b.1 b.2 (b.3 ∙ ap (λ u. merged (extracted u marks)) (sym is))

pub read_back_answers : ReadBackAnswers
read_back_answers text list parents kinds begins ends marks out n h short-file ps ks bs es room ek eb ee =
    subst
    (λ (file : List ℕ).
    (m : ℕ)
    × (read_xml_answer file list (length ps) (length ks) (length bs) (length es) ≡ value m)
    × (written_table file list ps ks m ≡ merged (extracted (table_of parents kinds) marks)))
    (sym (file_is text list (table_of parents kinds) begins ends marks out n h))
    (rereads text list (table_of parents kinds) begins ends marks n (granted text list (table_of parents kinds) begins ends marks (length out) n h) short-file ps ks bs es room ek eb ee)
