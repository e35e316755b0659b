-- The lines of an extract: which lengths make line 1 hold, what comes after it, what an accepted extract has, and what each answer leaves in the columns written. Assumes nothing.
use Prim.Native.Nat.{ℕ, ◌≤◌}
use mathlib.Core.Path.{◌≡◌, sym, ◌∙◌, ap, subst}
use mathlib.Core.Bool.{Bool, true, not, ◌||◌}
use mathlib.Core.List.{List}
use mathlib.Core.Option.{none}
use borrow.Author.Tests.{le-ltb, ltb-false, eqb-true, eq-eqb, not-false}
use lib.Dec.{eqb, ltb}
use lib.ListN.{length}
use Rattle.paper.specs.Tools.{when, written}
use Rattle.paper.specs.Limits.{node_limit}
use Rattle.paper.specs.Document.{Table, nodes, table_fault, marks_fault}
use Rattle.paper.specs.Extraction.{rank, extracted}
use Rattle.paper.specs.Answers.{value, refusal, line, short, at_exit, marked_count, extract_answer, extract_parents, extract_kinds}
use Rattle.paper.specs.Answers.{Answer as Told}
use Rattle.paper.specs.Told.{told_refusal}
use Rattle.paper.specs.declared.Refusal.{Refusal}
use Rattle.paper.proofs.Refusing.{line_value, when_none, or_none, refused_keeps}

module _ (t : Table) (marks : List ℕ) (parent_room kind_room : ℕ) where
  -- Line 1 holds where a length is wrong.
  abbrev pub wrong : Bool
  wrong = ltb node_limit (nodes t) || not (eqb (length t.kinds) (nodes t)) || not (eqb (length marks) (nodes t)) || not (eqb parent_room kind_room)

  -- The lines after line 1.
  abbrev pub judged : Told
  judged = line 7 (table_fault t) (line 8 (marks_fault t marks) (line 10 (short parent_room (marked_count t marks)) (value (marked_count t marks))))

  pub too_long_lem : wrong ≡ true → extract_answer t marks parent_room kind_room ≡ refusal 1 0
  unfolding extract_answer
  too_long_lem h = ap (λ b. line 1 (when b 0) judged) h

  -- The lengths are right, as line 1 asks.
  pub record Agree : Type 0 where
    pub few : nodes t ≤ node_limit
    pub kinds_long : length t.kinds ≡ nodes t
    pub marks_long : length marks ≡ nodes t
    pub rooms : parent_room ≡ kind_room

  pub right_lengths : Agree → extract_answer t marks parent_room kind_room ≡ judged
  unfolding extract_answer
  right_lengths a =
      rw (
        le-ltb node_limit (nodes t) a.few,
        eq-eqb (length t.kinds) (nodes t) a.kinds_long,
        eq-eqb (length marks) (nodes t) a.marks_long,
        eq-eqb parent_room kind_room a.rooms,
      )

  -- What an accepted extract has.
  pub record Accepted : Type 0 where
    pub agree : Agree
    pub table : table_fault t ≡ none
    pub closed : marks_fault t marks ≡ none
    pub fits : rank marks (length marks) ≤ parent_room

  pub accepted : (n : ℕ) → extract_answer t marks parent_room kind_room ≡ value n → Accepted
  unfolding extract_answer
  accepted n h =
      let a = ltb node_limit (nodes t) in
      let b = not (eqb (length t.kinds) (nodes t)) in
      let c = not (eqb (length marks) (nodes t)) in
      let d = not (eqb parent_room kind_room) in
      let one = line_value 1 n (when wrong 0) judged h in
      let abcd = or_none (a || b || c) d (when_none wrong 0 one.0) in
      let abc = or_none (a || b) c abcd.0 in
      let ab = or_none a b abc.0 in
      let count = marked_count t marks in
      let last = line 10 (short parent_room count) (value count) in
      let seven = line_value 7 n (table_fault t) (line 8 (marks_fault t marks) last) one.1 in
      let eight = line_value 8 n (marks_fault t marks) last seven.1 in
      let ten = line_value 10 n (short parent_room count) (value count) eight.1 in
      let marks_long : length marks ≡ nodes t = eqb-true (length marks) (nodes t) (not-false (eqb (length marks) (nodes t)) abc.1) in
      record {
        agree = record {
          few = ltb-false node_limit (nodes t) ab.0;
          kinds_long = eqb-true (length t.kinds) (nodes t) (not-false (eqb (length t.kinds) (nodes t)) ab.1);
          marks_long = marks_long;
          rooms = eqb-true parent_room kind_room (not-false (eqb parent_room kind_room) abcd.1);
        };
        table = seven.0;
        closed = eight.0;
        fits = subst (λ k. rank marks k ≤ parent_room) (sym marks_long) (ltb-false parent_room count (when_none (ltb parent_room count) count ten.0));
      }

module _ (t : Table) (marks parents kinds : List ℕ) where
  -- A refusal leaves both columns as they were,
  pub refused : (why : Refusal) → told_refusal why ≡ extract_answer t marks (length parents) (length kinds)
      → (parents ≡ extract_parents t marks parents (length kinds)) × (kinds ≡ extract_kinds t marks (length parents) kinds)
  unfolding extract_parents extract_kinds
  refused why said = (
    sym (ap (λ x. at_exit x (extracted t marks).parents parents) (sym said) ∙ refused_keeps why (extracted t marks).parents parents),
    sym (ap (λ x. at_exit x (extracted t marks).kinds kinds) (sym said) ∙ refused_keeps why (extracted t marks).kinds kinds),
  )

  -- and a value stands for the new table written over them.
  pub wrote : (n : ℕ) → extract_answer t marks (length parents) (length kinds) ≡ value n
      → (written (extracted t marks).parents parents ≡ extract_parents t marks parents (length kinds)) × (written (extracted t marks).kinds kinds ≡ extract_kinds t marks (length parents) kinds)
  unfolding extract_parents extract_kinds
  wrote n said = (ap (λ x. at_exit x (extracted t marks).parents parents) (sym said), ap (λ x. at_exit x (extracted t marks).kinds kinds) (sym said))
