-- The lines of the question whether a table is a cut: which lengths make line 1 hold, and what comes after it. Assumes nothing.
use Prim.Native.Nat.{ℕ, ◌≤◌}
use mathlib.Core.Path.{◌≡◌, ap}
use mathlib.Core.Bool.{Bool, true, not, ◌||◌, cond}
use mathlib.Core.List.{List}
use mathlib.Core.Option.{none}
use borrow.Author.Tests.{le-ltb, ltb-false, eqb-true, eq-eqb, not-false}
use lib.Dec.{eqb, ltb}
use lib.ListN.{length}
use Rattle.paper.specs.Tools.{when}
use Rattle.paper.specs.Limits.{node_limit}
use Rattle.paper.specs.Document.{Table, nodes, table_fault}
use Rattle.paper.specs.Cut.{is_cut}
use Rattle.paper.specs.Answers.{value, refusal, line, is_cut_answer}
use Rattle.paper.specs.Answers.{Answer as Told}
use Rattle.paper.proofs.Refusing.{line_value, when_none, or_none}

module _ (t cut : Table) (numbers : List ℕ) where
  -- Line 1 holds where a length is wrong.
  abbrev pub wrong : Bool
  wrong = ltb node_limit (nodes t) || not (eqb (length t.kinds) (nodes t)) || ltb node_limit (nodes cut) || not (eqb (length cut.kinds) (nodes cut)) || not (eqb (length numbers) (nodes cut))

  -- The lines after line 1.
  abbrev pub judged : Told
  judged = line 7 (table_fault t) (value (cond (is_cut t cut numbers) 1 0))

  pub too_long_lem : wrong ≡ true → is_cut_answer t cut numbers ≡ refusal 1 0
  unfolding is_cut_answer
  too_long_lem h = ap (λ b. line 1 (when b 0) judged) h

  -- The lengths are right, as line 1 asks.
  pub record Agree : Type 0 where
    pub few : nodes t ≤ node_limit
    pub kinds_long : length t.kinds ≡ nodes t
    pub cut_few : nodes cut ≤ node_limit
    pub cut_kinds_long : length cut.kinds ≡ nodes cut
    pub numbers_long : length numbers ≡ nodes cut

  pub right_lengths : Agree → is_cut_answer t cut numbers ≡ judged
  unfolding is_cut_answer
  right_lengths a =
      rw (
        le-ltb node_limit (nodes t) a.few,
        eq-eqb (length t.kinds) (nodes t) a.kinds_long,
        le-ltb node_limit (nodes cut) a.cut_few,
        eq-eqb (length cut.kinds) (nodes cut) a.cut_kinds_long,
        eq-eqb (length numbers) (nodes cut) a.numbers_long,
      )

  -- What an answered question has.
  pub record Answered (n : ℕ) : Type 0 where
    pub agree : Agree
    pub ours : table_fault t ≡ none
    pub says : value (cond (is_cut t cut numbers) 1 0) ≡ value n

  pub answered : (n : ℕ) → is_cut_answer t cut numbers ≡ value n → Answered n
  unfolding is_cut_answer
  answered n h =
      let a = ltb node_limit (nodes t) in
      let b = not (eqb (length t.kinds) (nodes t)) in
      let c = ltb node_limit (nodes cut) in
      let d = not (eqb (length cut.kinds) (nodes cut)) in
      let e = not (eqb (length numbers) (nodes cut)) in
      let one = line_value 1 n (when wrong 0) judged h in
      let abcde = or_none (a || b || c || d) e (when_none wrong 0 one.0) in
      let abcd = or_none (a || b || c) d abcde.0 in
      let abc = or_none (a || b) c abcd.0 in
      let ab = or_none a b abc.0 in
      let seven = line_value 7 n (table_fault t) (value (cond (is_cut t cut numbers) 1 0)) one.1 in
      record {
        agree = record {
          few = ltb-false node_limit (nodes t) ab.0;
          kinds_long = eqb-true (length t.kinds) (nodes t) (not-false (eqb (length t.kinds) (nodes t)) ab.1);
          cut_few = ltb-false node_limit (nodes cut) abc.1;
          cut_kinds_long = eqb-true (length cut.kinds) (nodes cut) (not-false (eqb (length cut.kinds) (nodes cut)) abcd.1);
          numbers_long = eqb-true (length numbers) (nodes cut) (not-false (eqb (length numbers) (nodes cut)) abcde.1);
        };
        ours = seven.0;
        says = seven.1;
      }
