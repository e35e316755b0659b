-- What an accepted call writes: the lines of the table in each column, so a table without fault, on which every query runs.
-- By the lines of the answer, none of which holds where it is a value. Assumes nothing.
use Prim.Native.Nat.{ℕ, zero, suc, ◌≤◌, ◌<◌}
use native.Mathlib.Omega.{arith}
use mathlib.Core.Path.{◌≡◌, refl, sym, ◌∙◌, ap, ap₂, subst}
use mathlib.Core.Bool.{true, false, not, ◌||◌}
use mathlib.Core.List.{List, [], ◌∷◌, ◌++◌, map}
use mathlib.Core.Option.{none, some}
use lib.Dec.{eqb, ltb}
use lib.ListN.{length, get_or, take, drop, replicate, length-map, length-replicate, length-append, get_or-append, get_or-map}
use borrow.Author.Tests.{ltb-false, le-ltb, eq-eqb}
use Rattle.paper.specs.Tools.{when, written}
use Rattle.paper.specs.Limits.{text_limit, list_limit, item_limit, node_limit}
use Rattle.paper.specs.Query.{Query}
use Rattle.paper.specs.Items.{decode}
use Rattle.paper.specs.Names.{names_fault, names_of, number_of}
use Rattle.paper.specs.Document.{Table, nodes, table_of}
use Rattle.paper.specs.Selection.{kept}
use Rattle.paper.specs.Xml.{Nodes, Judged, wanted, unwanted, read_xml, What, Row, row, table, unnamed}
use Rattle.paper.specs.Answers.{value, line, too_long, short, scratch_of, marked_count, run_answer, line_xml, short_of_nodes, rows_got, read_xml_last, read_xml_answer, parent_field, kind_field, read_xml_column}
use Rattle.paper.specs.Sheet.{rows}
use Rattle.paper.proofs.Refusing.{line_value, when_none, or_none}
use Rattle.paper.proofs.Giving.{Gives}
use Rattle.xml_theorems.specs.Tables.{line_at, Good, written_table, WrittenTable, WrittenRuns, WrittenLines}
use Rattle.xml_theorems.proofs.Tabled.{good_table}

-- What is known where the answer is a value.
pub record Taken (text list : List ℕ) (n : ℕ) : Type 0 where
  pub tree : Nodes
  pub read : read_xml text ≡ wanted tree
  pub names_fine : names_fault list ≡ none
  pub named : unnamed (number_of (names_of list)) (table (length text) tree) ≡ none
  pub many : length (table (length text) tree) ≡ n
  pub few : n ≤ node_limit

judged : (text list : List ℕ) (room n : ℕ) (j : Judged) → read_xml text ≡ j → names_fault list ≡ none
    → line_xml j (λ tree. read_xml_last list room (table (length text) tree)) ≡ value n → Taken text list n
judged text list room n (unwanted number place) e f h = absurd (let z : ◌≡◌ {A = ℕ} 0 1 = cc in omega arith)
judged text list room n (wanted tree) e f h =
    let lines = table (length text) tree in
    let a = line_value 5 n (unnamed (number_of (names_of list)) lines) (line 10 (short_of_nodes room (length lines)) (value (length lines))) h in
    let b = line_value 10 n (short_of_nodes room (length lines)) (value (length lines)) a.1 in
    let same : value (length lines) ≡ value n = b.1 in
    let many : length lines ≡ n = cc in
    let c = or_none (ltb room (length lines)) (ltb node_limit (length lines)) (when_none (ltb room (length lines) || ltb node_limit (length lines)) (length lines) b.0) in
    record { tree = tree; read = e; names_fine = f; named = a.0; many = many; few = omega (arith, ltb-false node_limit (length lines) c.1) }

pub taken : (text list : List ℕ) (parent_room kind_room begin_room end_room n : ℕ) → read_xml_answer text list parent_room kind_room begin_room end_room ≡ value n → Taken text list n
unfolding read_xml_answer
taken text list parent_room kind_room begin_room end_room n h =
    let later = line_xml (read_xml text) (λ tree. read_xml_last list parent_room (table (length text) tree)) in
    let a =
    line_value 1 n
    (when
    (too_long text text_limit || too_long list list_limit || not (eqb kind_room parent_room) || not (eqb begin_room parent_room) || not (eqb end_room parent_room))
    0)
    (line 2 (names_fault list) later) h in
    let b = line_value 2 n (names_fault list) later a.1 in
    judged text list parent_room n (read_xml text) refl b.0 b.1

pub take_front : (xs ys : List ℕ) → take (length xs) (xs ++ ys) ≡ xs
take_front [] ys = refl
take_front (x ∷ xs) ys = ap (λ (l : List ℕ). x ∷ l) (take_front xs ys)

-- Inside a list the value for what is past its end does not tell.
get_d_any : (xs : List ℕ) (i d e : ℕ) → i < length xs → get_or xs i d ≡ get_or xs i e
get_d_any [] i d e l = absurd (omega arith)
get_d_any (x ∷ xs) zero d e l = refl
get_d_any (x ∷ xs) (suc i) d e l = get_d_any xs i d e (omega arith)

module _ (text list : List ℕ) (n : ℕ) (k : Taken text list n) where
  abbrev lines : List Row
  lines = table (length text) k.tree

  -- A column up to the number of nodes.
  pub column_front : (field : Row → ℕ) (out : List ℕ) → take n (read_xml_column field text (value n) out) ≡ map field lines
  unfolding read_xml_column
  column_front field out =
      let e : n ≡ length (map field lines) = sym (length-map lines field ∙ k.many) in
      ap (λ j. take n (written (map field (rows_got (length text) j)) out)) k.read
      ∙ ap (λ m. take m (written (map field lines) out)) e ∙ take_front (map field lines) (drop (length (map field lines)) out)

  column_says : (field : Row → ℕ) (out : List ℕ) (i : ℕ) → i < n → get_or (read_xml_column field text (value n) out) i 0 ≡ field (line_at lines i)
  unfolding read_xml_column
  column_says field out i l =
      let short : i < length (map field lines) = omega (arith, length-map lines field, k.many) in
      ap (λ j. get_or (written (map field (rows_got (length text) j)) out) i 0) k.read
      ∙ get_or-append (map field lines) (drop (length (map field lines)) out) 0 i short
      ∙ get_d_any (map field lines) i 0 (field (row 0 What.root 0 0)) short
      ∙ get_or-map field lines i (row 0 What.root 0 0)

  pub table_is : (parents kinds : List ℕ) → written_table text list parents kinds n ≡ table_of (map parent_field lines) (map (kind_field list) lines)
  table_is parents kinds = ap₂ (λ a b. table_of a b) (column_front parent_field parents) (column_front (kind_field list) kinds)

  good : (parents kinds : List ℕ) → Good (written_table text list parents kinds n) n
  good parents kinds =
      subst (λ t. Good t n) (sym (table_is parents kinds))
      (subst (λ m. Good (table_of (map parent_field lines) (map (kind_field list) lines)) m) k.many (good_table list (length text) k.tree k.names_fine))

pub written-table : WrittenTable
written-table text list parents kinds begins ends n h = good text list n (taken text list (length parents) (length kinds) (length begins) (length ends) n h) parents kinds

pub written_lines : WrittenLines
written_lines text list parents kinds begins ends n h =
    let k = taken text list (length parents) (length kinds) (length begins) (length ends) n h in
    (k.tree, k.read, sym k.many, λ field out i l. column_says text list n k field out i l)

-- Every line of a run's answer fails.
runs : (query : List ℕ) (q : Query) (t : Table) (n room : ℕ) → Good t n → n ≤ node_limit → length query ≤ item_limit → decode query ≡ some q → scratch_of t q ≤ room
    → run_answer query t (replicate n 1) n room ≡ value (marked_count t (kept t (replicate n 1) q))
unfolding run_answer
runs query q t n room g few l d s =
    let a : too_long query item_limit ≡ false = le-ltb item_limit (length query) l in
    let b : ltb node_limit (nodes t) ≡ false = le-ltb node_limit (nodes t) (omega (arith, g.parents_long)) in
    let c : eqb (length t.kinds) (nodes t) ≡ true = eq-eqb (length t.kinds) (nodes t) (g.kinds_long ∙ sym g.parents_long) in
    let ones : List ℕ = replicate n 1 in
    let e : eqb (length ones) (nodes t) ≡ true = eq-eqb (length ones) (nodes t) (length-replicate n 1 ∙ sym g.parents_long) in
    let f : eqb n (nodes t) ≡ true = eq-eqb n (nodes t) (sym g.parents_long) in
    let r : ltb room (scratch_of t q) ≡ false = le-ltb room (scratch_of t q) s in
    rw (a, b, c, e, f, d, g.table_fine, g.marks_fine, r)

pub written_runs : WrittenRuns
written_runs text list parents kinds begins ends n h query q l d room s =
    let k = taken text list (length parents) (length kinds) (length begins) (length ends) n h in
    let t = written_table text list parents kinds n in
    (marked_count t (kept t (replicate n 1) q), runs query q t n room (good text list n k parents kinds) k.few l d s)

-- What reading leaves in a column, up to the number of nodes.
module _ (text list : List ℕ) (n : ℕ) (k : Taken text list n) where
  pub column_left : (field : Row → ℕ) (room : ℕ) (old out : List ℕ) → n ≤ room → out ≡ read_xml_column field text (value n) old → Gives (map field (rows text)) n room out
  unfolding read_xml_column
  column_left field room old out l w =
      let lines = table (length text) k.tree in
      let same : map field lines ≡ map field (rows text) = ap (λ j. map field (rows_got (length text) j)) (sym k.read) in
      let starts : take n out ≡ map field (rows text) = rw w (column_front text list n k field old ∙ same) in
      let many : length (map field (rows text)) ≡ n = ap length (sym same) ∙ length-map lines field ∙ k.many in
      record {
        fits = l;
        inside = omega (arith, many, ap length w, length-append (map field (rows text)) (drop (length (map field (rows text))) old));
        counts = sym (ap length starts ∙ many);
        starts = starts;
      }
