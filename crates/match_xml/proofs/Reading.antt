-- Reading the text gives exactly these columns where the lines of its table agree with them and are as many. By induction over the lines, with what is left of each column. Assumes nothing.
use Prim.Native.Nat.{ℕ, zero, suc, ◌+◌, ◌≤◌}
use native.Mathlib.Omega.{arith}
use mathlib.Core.Path.{◌≡◌, refl, sym, ◌∙◌, ap}
use mathlib.Core.Bool.{Bool, true, false, ◌&&◌, ◌||◌, false≢true}
use mathlib.Core.List.{List, [], ◌∷◌, ◌++◌, map, append-nil}
use mathlib.Core.Option.{Option, none}
use lib.Dec.{eqb, ltb}
use lib.ListN.{length, get_or, drop, length-map}
use lib.Seq.{drop-cons, drop-length}
use borrow.Author.Tests.{eqb-true, eq-eqb, le-ltb}
use Rattle.paper.specs.Tools.{same, when, written}
use Rattle.paper.specs.Limits.{text_limit, list_limit, node_limit}
use Rattle.paper.specs.Names.{names_fault, names_of, number_of}
use Rattle.paper.specs.Document.{Table, table_of}
use Rattle.paper.specs.Xml.{Nodes, wanted, read_xml, Row, lacks, unnamed, table}
use Rattle.paper.specs.Answers.{value, refusal, line, line_xml, short_of_nodes, rows_got, read_xml_last, read_xml_answer, read_xml_column, parent_field, kind_field, begin_field, end_field, answers, reads_as}
use Rattle.paper.specs.Answers.{Answer as Told}
use Rattle.paper.proofs.Tests.{and_true, true_and, agree, none-some}
use Rattle.paper.proofs.Same.{same_equal, same_refl}
use Rattle.paper.proofs.Refusing.{line_value}
use Rattle.xml_lines.specs.Kept.{Columns, xml_answer}
use Rattle.xml_lines.proofs.Answered.{wrong, good_list}
use Rattle.match_lines.specs.Lines.{LineIs, Agree}
use Rattle.line_tests.specs.Telling.{Has}
use Rattle.match_lines.specs.Compared.{IsRefused, Says}
use Rattle.match_lines.specs.declared.Match.{Match}

-- COLUMNS. What is left of a column from an index on is what the lines say.
has_field : (column : List ℕ) (n v : ℕ) (vs : List ℕ) → drop n column ≡ v ∷ vs → Has column n v × (drop (suc n) column ≡ vs)
has_field [] zero v vs e = absurd (omega (arith, ap length e))
has_field [] (suc n) v vs e = absurd (omega (arith, ap length e))
has_field (x ∷ xs) zero v vs e = ((omega arith, ap (λ (l : List ℕ). get_or l 0 0) e), ap (λ (l : List ℕ). drop 1 l) e)
has_field (x ∷ xs) (suc n) v vs e = let h = has_field xs n v vs e in ((omega (arith, h.0.0), h.0.1), h.1)

module _ (list : List ℕ) (cols : Columns) where
  abbrev look : List ℕ → Option ℕ
  look = number_of (names_of list)

  -- The lines agree, so the columns are they,
  fields : (field : Row → ℕ) (column : List ℕ) (n : ℕ) (rs : List Row) → ((n : ℕ) (r : Row) → LineIs list cols n r → Has column n (field r)) → Agree list cols n rs → length column ≡ n + length rs → drop n column ≡ map field rs
  fields field column n [] has a l = let all : n ≡ length column = omega arith in ap (λ k. drop k column) all ∙ drop-length column
  fields field column n (r ∷ rs) has a l =
      drop-cons column n 0 (omega arith) ∙ ap (λ v. v ∷ drop (suc n) column) (has n r a.0).1 ∙ ap (λ (l : List ℕ). field r ∷ l) (fields field column (suc n) rs has a.1 (omega arith))

  all_named : (n : ℕ) (rs : List Row) → Agree list cols n rs → unnamed look rs ≡ none
  all_named n [] a = refl
  all_named n (r ∷ rs) a = let own = a.0.named in rw own (all_named (suc n) rs a.1)

  -- and where the columns are the lines, these agree.
  none_first : (r : Row) (rs : List Row) → unnamed look (r ∷ rs) ≡ none → (lacks look r.what ≡ false) × (unnamed look rs ≡ none)
  none_first r rs e = go (lacks look r.what) refl
    where
      go : (b : Bool) → lacks look r.what ≡ b → (lacks look r.what ≡ false) × (unnamed look rs ≡ none)
      go true p = absurd (none-some (sym (rw p at e)))
      go false p = (p, rw p at e)

  agree_fields : (n : ℕ) (rs : List Row) → unnamed look rs ≡ none → drop n cols.parents ≡ map parent_field rs → drop n cols.kinds ≡ map (kind_field list) rs → drop n cols.begins ≡ map begin_field rs
      → drop n cols.ends ≡ map end_field rs → Agree list cols n rs
  agree_fields n [] u p k b e = tt
  agree_fields n (r ∷ rs) u p k b e =
      let (own, rest) = none_first r rs u in
      let hp = has_field cols.parents n _ _ p in
      let hk = has_field cols.kinds n _ _ k in
      let hb = has_field cols.begins n _ _ b in
      let he = has_field cols.ends n _ _ e in
      (record { parent = hp.0; named = own; kind = hk.0; begin = hb.0; end = he.0 }, agree_fields (suc n) rs rest hp.1 hk.1 hb.1 he.1)

-- ANSWERS. One that is this value, and the value of one.
answers_value : (n : ℕ) (a : Told) → answers n a ≡ true → a ≡ value n
answers_value n (value m) h = ap value (eqb-true m n h)
answers_value n (refusal number place) h = absurd (false≢true h)

value_same : (m n : ℕ) → ◌≡◌ {A = Told} (value m) (value n) → m ≡ n
value_same m n e = cc

-- WRITTEN OVER. A column stays as it is exactly if the lines are it, where they are as many.
written_all : (new old : List ℕ) → length new ≡ length old → written new old ≡ new
written_all new old e = ap (λ k. new ++ drop k old) e ∙ ap (λ l. new ++ l) (drop-length old) ∙ append-nil new

module _ (text list : List ℕ) (cols : Columns) where
  abbrev ours : Table
  ours = table_of cols.parents cols.kinds

  abbrev answer : Told
  answer = read_xml_answer text list (length cols.parents) (length cols.kinds) (length cols.begins) (length cols.ends)

  -- What line 1 and 2 of reading ask.
  pub record Fit : Type 0 where
    pub text_short : length text ≤ text_limit
    pub list_short : length list ≤ list_limit
    pub good : names_fault list ≡ none
    pub few : length cols.parents ≤ node_limit
    pub kinds : length cols.kinds ≡ length cols.parents
    pub begins : length cols.begins ≡ length cols.parents
    pub ends : length cols.ends ≡ length cols.parents

  module _ (fit : Fit) where
    not_wrong : wrong text list (length cols.parents) (length cols.kinds) (length cols.begins) (length cols.ends) ≡ false
    not_wrong =
        let a = le-ltb text_limit (length text) fit.text_short in
        let b = le-ltb list_limit (length list) fit.list_short in
        let k = eq-eqb (length cols.kinds) (length cols.parents) fit.kinds in
        let m = eq-eqb (length cols.begins) (length cols.parents) fit.begins in
        let e = eq-eqb (length cols.ends) (length cols.parents) fit.ends in
        rw (a, b, k, m, e)

    answered : answer ≡ xml_answer text list (length cols.parents)
    answered = sym (good_list text list (length cols.parents) (length cols.kinds) (length cols.begins) (length cols.ends) not_wrong (sym fit.good))

    -- A text that is refused.
    pub refused_as : IsRefused text → false ≡ reads_as text list ours cols.begins cols.ends
    unfolding reads_as
    refused_as r =
        let e : answer ≡ refusal r.number r.place = answered ∙ ap (λ j. line_xml j (λ tree. read_xml_last list (length cols.parents) (table (length text) tree))) r.is in
        rw e

    -- A text that is wanted.
    module _ (tree : Nodes) (is : read_xml text ≡ wanted tree) where
      abbrev lines : List Row
      lines = table (length text) tree

      last : answer ≡ read_xml_last list (length cols.parents) lines
      last = answered ∙ ap (λ j. line_xml j (λ tree. read_xml_last list (length cols.parents) (table (length text) tree))) is

      -- What reading leaves in a column.
      left : (field : Row → ℕ) (column : List ℕ) (n : ℕ) → length column ≡ length lines → read_xml_column field text (value n) column ≡ map field lines
      unfolding read_xml_column
      left field column n many =
          ap (λ j. written (map field (rows_got (length text) j)) column) is ∙ written_all (map field lines) column (length-map lines field ∙ sym many)

      stays : (field : Row → ℕ) (column : List ℕ) (n : ℕ) → length column ≡ length lines → drop 0 column ≡ map field lines → same (read_xml_column field text (value n) column) column ≡ true
      stays field column n many e = ap (λ (l : List ℕ). same l column) (left field column n many ∙ sym e) ∙ same_refl column

      -- The lines agree and are as many, so reading gives the columns,
      gives : Agree list cols 0 lines → length lines ≡ length cols.parents → reads_as text list ours cols.begins cols.ends ≡ true
      unfolding reads_as
      gives a many =
          let n = length cols.parents in
          let none-lacks = all_named list cols 0 lines a in
          let room = le-ltb n (length lines) (omega (arith, many)) in
          let few = le-ltb node_limit (length lines) (omega (arith, many, fit.few)) in
          let short : (ltb n (length lines) || ltb node_limit (length lines)) ≡ false = rw (room, few) in
          let e : answer ≡ value n =
          last ∙ ap (λ o. line 5 o (line 10 (short_of_nodes n (length lines)) (value (length lines)))) none-lacks ∙ ap (λ b. line 10 (when b (length lines)) (value (length lines))) short ∙ ap value many in
          let p = stays parent_field cols.parents n (sym many) (fields list cols parent_field cols.parents 0 lines (λ k r h. h.parent) a (omega (arith, many))) in
          let k = stays (kind_field list) cols.kinds n (fit.kinds ∙ sym many) (fields list cols (kind_field list) cols.kinds 0 lines (λ k r h. h.kind) a (omega (arith, many, fit.kinds))) in
          let b = stays begin_field cols.begins n (fit.begins ∙ sym many) (fields list cols begin_field cols.begins 0 lines (λ k r h. h.begin) a (omega (arith, many, fit.begins))) in
          let z = stays end_field cols.ends n (fit.ends ∙ sym many) (fields list cols end_field cols.ends 0 lines (λ k r h. h.end) a (omega (arith, many, fit.ends))) in
          rw e (true_and (true_and (true_and (true_and (eq-eqb n n refl) p) k) b) z)

      -- and where it gives them, the lines agree and are as many.
      was_left : (field : Row → ℕ) (column : List ℕ) (n : ℕ) (a : Told) → a ≡ value n → length column ≡ length lines → same (read_xml_column field text a column) column ≡ true → drop 0 column ≡ map field lines
      was_left field column n a e many h =
          let here : same (read_xml_column field text (value n) column) column ≡ true = ap (λ b. same (read_xml_column field text b column) column) (sym e) ∙ h in
          sym (same_equal (read_xml_column field text (value n) column) column here) ∙ left field column n many

      given : reads_as text list ours cols.begins cols.ends ≡ true → Agree list cols 0 lines × (length lines ≡ length cols.parents)
      unfolding reads_as
      given h =
          let n = length cols.parents in
          let P = same (read_xml_column parent_field text answer cols.parents) cols.parents in
          let K = same (read_xml_column (kind_field list) text answer cols.kinds) cols.kinds in
          let B = same (read_xml_column begin_field text answer cols.begins) cols.begins in
          let Z = same (read_xml_column end_field text answer cols.ends) cols.ends in
          let (h3, z) = and_true (answers n answer && P && K && B) Z h in
          let (h2, b) = and_true (answers n answer && P && K) B h3 in
          let (h1, k) = and_true (answers n answer && P) K h2 in
          let (h0, p) = and_true (answers n answer) P h1 in
          let e = answers_value n answer h0 in
          let five = line_value 5 n (unnamed (number_of (names_of list)) lines) (line 10 (short_of_nodes n (length lines)) (value (length lines))) (sym last ∙ e) in
          let ten = line_value 10 n (short_of_nodes n (length lines)) (value (length lines)) five.1 in
          let many : length lines ≡ n = value_same (length lines) n ten.1 in (
            agree_fields list cols 0 lines five.0 (was_left parent_field cols.parents n answer e (sym many) p) (was_left (kind_field list) cols.kinds n answer e (fit.kinds ∙ sym many) k)
                (was_left begin_field cols.begins n answer e (fit.begins ∙ sym many) b) (was_left end_field cols.ends n answer e (fit.ends ∙ sym many) z),
            many,
          )

    pub told_as : (p : Match) → Says text list cols p → (p.same && eqb p.nodes (length cols.parents)) ≡ reads_as text list ours cols.begins cols.ends
    told_as p w =
        agree (p.same && eqb p.nodes (length cols.parents)) (reads_as text list ours cols.begins cols.ends)
        (λ h.
        let (agrees, many) = and_true p.same (eqb p.nodes (length cols.parents)) h in
        gives w.tree w.is (w.yes agrees) (sym w.nodes ∙ eqb-true p.nodes (length cols.parents) many))
        (λ h.
        let (agrees, many) = given w.tree w.is h in
        true_and (is_same p.same refl agrees) (eq-eqb p.nodes (length cols.parents) (w.nodes ∙ many)))
      where
        is_same : (b : Bool) → p.same ≡ b → Agree list cols 0 (table (length text) w.tree) → p.same ≡ true
        is_same true e a = e
        is_same false e a = absurd (w.no e a)
