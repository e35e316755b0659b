-- The lines of reading XML in their order, and what each answer leaves in the columns. Assumes nothing.
use Prim.Native.Nat.{ℕ, ◌≤◌}
use native.Mathlib.Omega.{arith}
use borrow.Author.Tests.{ltb-false, eqb-true, not-false}
use mathlib.Core.Path.{◌≡◌, refl, sym, ◌∙◌, ap, subst}
use mathlib.Core.Bool.{Bool, true, false, not, ◌||◌}
use mathlib.Core.List.{List, map}
use mathlib.Core.Option.{Option, none, some}
use lib.Dec.{eqb, ltb}
use lib.ListN.{length, take}
use Rattle.paper.specs.Tools.{when, written}
use Rattle.paper.specs.Limits.{text_limit, list_limit, node_limit}
use Rattle.paper.specs.Names.{names_fault, names_of, number_of}
use Rattle.paper.specs.Xml.{read_xml, table, unnamed}
use Rattle.paper.specs.Answers.{value, refusal, line, too_long, line_xml, short_of_nodes, rows_got, read_xml_last, read_xml_answer, read_xml_column, parent_field, kind_field, begin_field, end_field}
use Rattle.paper.specs.Answers.{Answer as Told}
use Rattle.paper.specs.Told.{found, told_refusal}
use Rattle.paper.specs.declared.Refusal.{Refusal}
use Rattle.paper.proofs.Refusing.{line_value, when_none, or_none, refusal_told, refused_keeps}
use Rattle.xml_bytes.specs.Seeking.{refusal_number, refusal_place}
use Rattle.xml_lines.specs.Kept.{Columns, columns, Filled, xml_answer, exit_columns}
use Rattle.xml_lines.specs.Judges.{Refuses, Wanted, Judges}
use Rattle.xml_lines.specs.declared.Progress.{Progress}
use Rattle.std.specs.Prelude.{Result, Some, None, Ok, Err}
use Rattle.xml_lines.proofs.Filling.{copied_room, copied}

-- A refusal is told by its number and its place.
as_told : (why : Refusal) → told_refusal why ≡ refusal (refusal_number why) (refusal_place why)
as_told why = let t = refusal_told why in rw t.2

module _ (text list : List ℕ) (room : ℕ) where
  -- 12 and 11.
  pub refused_text : (why : Refusal) → Refuses text why → told_refusal why ≡ xml_answer text list room
  refused_text why h = as_told why ∙ sym (ap (λ j. line_xml j (λ tree. read_xml_last list room (table (length text) tree))) h)

  -- 5 and 10 of a wanted text.
  module _ (cols : Columns) (p : Progress) (h : Wanted text list cols p) where
    wanted_answer : read_xml_last list room (table (length text) h.tree) ≡ xml_answer text list room
    wanted_answer = sym (ap (λ j. line_xml j (λ tree. read_xml_last list room (table (length text) tree))) h.is)

    answer_by : (o : Option ℕ) → found p.unnamed ≡ o → line 5 o (line 10 (short_of_nodes room p.nodes) (value p.nodes)) ≡ xml_answer text list room
    answer_by o e =
        ap (λ n. line 5 o (line 10 (short_of_nodes room n) (value n))) h.counted.nodes
        ∙ ap (λ u. line 5 u (line 10 (short_of_nodes room (length (table (length text) h.tree))) (value (length (table (length text) h.tree))))) (sym e ∙ h.counted.lacking) ∙ wanted_answer

    pub name_lacking : (place : ℕ) → p.unnamed ≡ Some place → refusal 5 place ≡ xml_answer text list room
    name_lacking place e = answer_by (some place) (ap found e)

    all_named : p.unnamed ≡ None → line 10 (short_of_nodes room p.nodes) (value p.nodes) ≡ xml_answer text list room
    all_named e = answer_by none (ap found e)

    pub too_short : p.unnamed ≡ None → (ltb room p.nodes || ltb node_limit p.nodes) ≡ true → refusal 10 p.nodes ≡ xml_answer text list room
    too_short named e = sym (ap (λ b. line 10 (when b p.nodes) (value p.nodes)) e) ∙ all_named named

    pub enough : p.unnamed ≡ None → (ltb room p.nodes || ltb node_limit p.nodes) ≡ false → value p.nodes ≡ xml_answer text list room
    enough named e = sym (ap (λ b. line 10 (when b p.nodes) (value p.nodes)) e) ∙ all_named named

-- What was kept of an accepted text.
pub record Accepted (text list : List ℕ) (cols : Columns) (room n : ℕ) : Type 0 where
  pub many : n ≡ length (rows_got (length text) (read_xml text))
  pub few : n ≤ node_limit
  pub fits : n ≤ room
  pub filled : Filled list (rows_got (length text) (read_xml text)) cols

refused_value : (number place n : ℕ) → refusal number place ≡ value n → ⊥
refused_value number place n e = let z : ◌≡◌ {A = ℕ} 0 1 = cc in absurd (omega arith)

value_same : (m n : ℕ) → ◌≡◌ {A = Told} (value m) (value n) → n ≡ m
value_same m n e = cc

pub accepted : (text list : List ℕ) (cols : Columns) (room n : ℕ) (judged : Result Progress Refusal) → Judges text list cols judged → xml_answer text list room ≡ value n → Accepted text list cols room n
accepted text list cols room n (Err why) h a = absurd (refused_value (refusal_number why) (refusal_place why) n (sym (as_told why) ∙ refused_text text list room why h ∙ a))
accepted text list cols room n (Ok p) h a =
    let lines = table (length text) h.tree in
    let e : read_xml_last list room lines ≡ value n = sym (ap (λ j. line_xml j (λ tree. read_xml_last list room (table (length text) tree))) h.is) ∙ a in
    let last = (line_value 5 n (unnamed (number_of (names_of list)) lines) _ e).1 in
    let ten = line_value 10 n (short_of_nodes room (length lines)) (value (length lines)) last in
    let both = or_none (ltb room (length lines)) (ltb node_limit (length lines)) (when_none _ (length lines) ten.0) in
    let enough = ltb-false room (length lines) both.0 in
    let few = ltb-false node_limit (length lines) both.1 in
    let many : n ≡ length lines = value_same (length lines) n ten.1 in
    let same : rows_got (length text) (read_xml text) ≡ lines = ap (rows_got (length text)) h.is in
    record {
      many = many ∙ ap length (sym same);
      few = omega (arith, few, many);
      fits = omega (arith, enough, many);
      filled = subst (λ l. Filled list l cols) (sym same) (h.counted.filled (omega (arith, few)));
    }

-- So many lines are there to be copied.
pub kept_room : {text list : List ℕ} {cols : Columns} {room n : ℕ} → Accepted text list cols room n
    → (n ≤ length cols.parents) × (n ≤ length cols.kinds) × (n ≤ length cols.begins) × (n ≤ length cols.ends)
kept_room {text} {list} {cols} {room} {n} h =
    let rows = rows_got (length text) (read_xml text) in (
      copied_room parent_field rows n cols.parents h.many h.filled.parents,
      copied_room (kind_field list) rows n cols.kinds h.many h.filled.kinds,
      copied_room begin_field rows n cols.begins h.many h.filled.begins,
      copied_room end_field rows n cols.ends h.many h.filled.ends,
    )

-- What is copied, and that a refusal writes nothing.
pub copied_exit : (text list : List ℕ) (cols old : Columns) (room n : ℕ) (parents kinds begins ends : List ℕ) → Accepted text list cols room n → parents ≡ written (take n cols.parents) old.parents
    → kinds ≡ written (take n cols.kinds) old.kinds → begins ≡ written (take n cols.begins) old.begins → ends ≡ written (take n cols.ends) old.ends
    → columns parents kinds begins ends ≡ exit_columns text list (value n) old
unfolding read_xml_column
copied_exit text list cols old room n parents kinds begins ends h p k b e =
    let rows = rows_got (length text) (read_xml text) in
    rw (
      p ∙ copied parent_field rows n cols.parents old.parents h.many h.filled.parents,
      k ∙ copied (kind_field list) rows n cols.kinds old.kinds h.many h.filled.kinds,
      b ∙ copied begin_field rows n cols.begins old.begins h.many h.filled.begins,
      e ∙ copied end_field rows n cols.ends old.ends h.many h.filled.ends,
    )
    refl

pub refused_exit : (text list : List ℕ) (old : Columns) (why : Refusal) → columns old.parents old.kinds old.begins old.ends ≡ exit_columns text list (told_refusal why) old
unfolding read_xml_column
refused_exit text list old why =
    let rows = rows_got (length text) (read_xml text) in
    rw (
      refused_keeps why (map parent_field rows) old.parents,
      refused_keeps why (map (kind_field list) rows) old.kinds,
      refused_keeps why (map begin_field rows) old.begins,
      refused_keeps why (map end_field rows) old.ends,
    )
    refl

-- LINES 1 AND 2.
module _ (text list : List ℕ) (parent_room kind_room begin_room end_room : ℕ) where
  abbrev pub wrong : Bool
  wrong = too_long text text_limit || too_long list list_limit || not (eqb kind_room parent_room) || not (eqb begin_room parent_room) || not (eqb end_room parent_room)

  pub too_long_lem : wrong ≡ true → refusal 1 0 ≡ read_xml_answer text list parent_room kind_room begin_room end_room
  unfolding read_xml_answer
  too_long_lem h = sym (ap (λ b. line 1 (when b 0) (line 2 (names_fault list) (xml_answer text list parent_room))) h)

  pub bad_list : (start : ℕ) → wrong ≡ false → some start ≡ names_fault list → refusal 2 start ≡ read_xml_answer text list parent_room kind_room begin_room end_room
  unfolding read_xml_answer
  bad_list start h e = sym (ap (λ b. line 1 (when b 0) (line 2 (names_fault list) (xml_answer text list parent_room))) h ∙ ap (λ o. line 2 o (xml_answer text list parent_room)) (sym e))

  pub good_list : wrong ≡ false → none ≡ names_fault list → xml_answer text list parent_room ≡ read_xml_answer text list parent_room kind_room begin_room end_room
  unfolding read_xml_answer
  good_list h e = sym (ap (λ b. line 1 (when b 0) (line 2 (names_fault list) (xml_answer text list parent_room))) h ∙ ap (λ o. line 2 o (xml_answer text list parent_room)) (sym e))

  -- The lengths are right, as line 1 asks.
  pub record Agree : Type 0 where
    pub text_short : length text ≤ text_limit
    pub list_short : length list ≤ list_limit
    pub kinds : kind_room ≡ parent_room
    pub begins : begin_room ≡ parent_room
    pub ends : end_room ≡ parent_room

  pub agree : wrong ≡ false → Agree
  agree h =
      let a = too_long text text_limit in
      let b = too_long list list_limit in
      let k = not (eqb kind_room parent_room) in
      let m = not (eqb begin_room parent_room) in
      let e = not (eqb end_room parent_room) in
      let p = or_none (a || b || k || m) e h in
      let q = or_none (a || b || k) m p.0 in
      let r = or_none (a || b) k q.0 in
      let s = or_none a b r.0 in
      record {
        text_short = ltb-false text_limit (length text) s.0;
        list_short = ltb-false list_limit (length list) s.1;
        kinds = eqb-true kind_room parent_room (not-false (eqb kind_room parent_room) r.1);
        begins = eqb-true begin_room parent_room (not-false (eqb begin_room parent_room) q.1);
        ends = eqb-true end_room parent_room (not-false (eqb end_room parent_room) p.1);
      }
