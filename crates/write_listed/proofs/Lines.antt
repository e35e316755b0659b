-- The lines of writing XML in their order, and what each answer leaves in the lent bytes. Assumes nothing.
use Prim.Native.Nat.{ℕ}
use mathlib.Core.Path.{◌≡◌, refl, sym, ◌∙◌, ap}
use mathlib.Core.Bool.{Bool, true, false, not, ◌||◌}
use mathlib.Core.List.{List}
use mathlib.Core.Option.{none, some}
use borrow.Author.Tests.{le-ltb, eq-eqb, ltb-false, eqb-true, not-false}
use lib.Dec.{eqb, ltb}
use lib.ListN.{length}
use Rattle.paper.specs.Tools.{when}
use Rattle.paper.specs.Limits.{text_limit, list_limit, node_limit}
use Rattle.paper.specs.Names.{names_fault}
use Rattle.paper.specs.Document.{Table, nodes, table_of, table_fault, marks_fault}
use Rattle.paper.specs.WriteXml.{kept_xml}
use Rattle.paper.specs.Answers.{Answer, value, refusal, line, too_long, short, at_exit, element_marked, reads_as, write_xml_answer, write_xml_out}
use Rattle.paper.proofs.Refusing.{or_none}
use Rattle.kept_file.specs.Filing.{Filed}
use Rattle.write_listed.specs.Lengths.{Lengths}

module _ (text list parents kinds begins ends marks : List ℕ) where
  abbrev t : Table
  t = table_of parents kinds

  -- Line 1 holds where a length is wrong.
  abbrev pub wrong : Bool
  wrong =
      too_long text text_limit || too_long list list_limit || ltb node_limit (nodes t) || not (eqb (length kinds) (nodes t)) || not (eqb (length begins) (nodes t))
      || not (eqb (length ends) (nodes t)) || not (eqb (length marks) (nodes t))

  -- Where it does not hold, the lengths are right.
  pub lengths : wrong ≡ false → Lengths text list parents kinds begins ends marks
  lengths h =
      let k = not (eqb (length kinds) (nodes t)) in
      let b = not (eqb (length begins) (nodes t)) in
      let e = not (eqb (length ends) (nodes t)) in
      let m = not (eqb (length marks) (nodes t)) in
      let long = too_long text text_limit || too_long list list_limit in
      let over = long || ltb node_limit (nodes t) in
      let c1 = or_none (over || k || b || e) m h in
      let c2 = or_none (over || k || b) e c1.0 in
      let c3 = or_none (over || k) b c2.0 in
      let c4 = or_none over k c3.0 in
      let c5 = or_none long (ltb node_limit (nodes t)) c4.0 in
      let c6 = or_none (too_long text text_limit) (too_long list list_limit) c5.0 in
      let equal : (x : ℕ) → not (eqb x (nodes t)) ≡ false → x ≡ nodes t = λ x z. eqb-true x (nodes t) (not-false (eqb x (nodes t)) z) in
      record {
        text_short = ltb-false text_limit (length text) c6.0;
        list_short = ltb-false list_limit (length list) c6.1;
        few = ltb-false node_limit (nodes t) c5.1;
        kinds_long = equal (length kinds) c4.1;
        begins_long = equal (length begins) c3.1;
        ends_long = equal (length ends) c2.1;
        marks_long = equal (length marks) c1.1;
      }

  module _ (out : List ℕ) where
    -- What a call answers.
    abbrev pub answer : Answer
    answer = write_xml_answer text list t begins ends marks (length out)

    -- The lines from each on.
    abbrev ten : Answer
    ten = let needed = length (kept_xml text marks) in line 10 (short (length out) needed) (value needed)

    abbrev fourteen : Answer
    fourteen = line 14 (when (not (reads_as text list t begins ends)) 0) ten

    abbrev thirteen : Answer
    thirteen = line 13 (when (not (element_marked t marks)) 0) fourteen

    abbrev eight : Answer
    eight = line 8 (marks_fault t marks) thirteen

    abbrev seven : Answer
    seven = line 7 (table_fault t) eight

    -- An answer, and what it leaves.
    abbrev pub Ends : Answer → List ℕ → Type 0
    Ends said new = (said ≡ answer) × (new ≡ write_xml_out text list t begins ends marks out)

    -- A refusal leaves the bytes as they were.
    stays : (number place : ℕ) → refusal number place ≡ answer → Ends (refusal number place) out
    unfolding write_xml_out
    stays number place said = (said, ap (λ a. at_exit a (kept_xml text marks) out) said)

    pub too_long_lem : wrong ≡ true → Ends (refusal 1 0) out
    unfolding write_xml_answer
    too_long_lem h = stays 1 0 (sym (ap (λ b. line 1 (when b 0) (line 2 (names_fault list) seven)) h))

    pub bad_list : (place : ℕ) → wrong ≡ false → names_fault list ≡ some place → Ends (refusal 2 place) out
    unfolding write_xml_answer
    bad_list place h f = stays 2 place (sym (ap (λ b. line 1 (when b 0) (line 2 (names_fault list) seven)) h ∙ ap (λ o. line 2 o seven) f))

    -- Past the lines 1 and 2.
    module _ (right : Lengths text list parents kinds begins ends marks) (named : names_fault list ≡ none) where
      begun : seven ≡ answer
      unfolding write_xml_answer
      begun =
          sym
          (rw (
            le-ltb text_limit (length text) right.text_short,
            le-ltb list_limit (length list) right.list_short,
            le-ltb node_limit (nodes t) right.few,
            eq-eqb (length kinds) (nodes t) right.kinds_long,
            eq-eqb (length begins) (nodes t) right.begins_long,
            eq-eqb (length ends) (nodes t) right.ends_long,
            eq-eqb (length marks) (nodes t) right.marks_long,
            named,
          )
          refl)

      pub bad_table : (place : ℕ) → some place ≡ table_fault t → Ends (refusal 7 place) out
      bad_table place f = stays 7 place (ap (λ o. line 7 o eight) f ∙ begun)

      module _ (sound : none ≡ table_fault t) where
        past-7 : eight ≡ answer
        past-7 = ap (λ o. line 7 o eight) sound ∙ begun

        pub bad_marks : (place : ℕ) → some place ≡ marks_fault t marks → Ends (refusal 8 place) out
        bad_marks place f = stays 8 place (ap (λ o. line 8 o thirteen) f ∙ past-7)

        module _ (closed : none ≡ marks_fault t marks) where
          past-8 : thirteen ≡ answer
          past-8 = ap (λ o. line 8 o thirteen) closed ∙ past-7

          pub no_element : false ≡ element_marked t marks → Ends (refusal 13 0) out
          no_element f = stays 13 0 (ap (λ b. line 13 (when (not b) 0) fourteen) f ∙ past-8)

          module _ (some_element : true ≡ element_marked t marks) where
            past-13 : fourteen ≡ answer
            past-13 = ap (λ b. line 13 (when (not b) 0) fourteen) some_element ∙ past-8

            pub other_text : false ≡ reads_as text list t begins ends → Ends (refusal 14 0) out
            other_text f = stays 14 0 (ap (λ b. line 14 (when (not b) 0) ten) f ∙ past-13)

            -- Line 10, and the file.
            pub filed : {new : List ℕ} {said : Answer} → true ≡ reads_as text list t begins ends → Filed (kept_xml text marks) out new said → Ends said new
            unfolding write_xml_out
            filed same f =
                let is = f.says ∙ ap (λ b. line 14 (when (not b) 0) ten) same ∙ past-13 in (is, f.leaves ∙ ap (λ a. at_exit a (kept_xml text marks) out) is)
