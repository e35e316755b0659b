-- Each test is a line of the question, in their order.
use Rattle.std.proofs.Common.{◌≡◌, ◌≤◌, ◌<◌, ℕ, List, Bool, true, false, ◌∙◌, length, arith, sym, ap}
use mathlib.Core.Bool.{not, ◌||◌, cond}
use mathlib.Core.Option.{none, some}
use borrow.Author.Tests.{lt-ltb, ne_eqb}
use lib.Dec.{eqb, ltb}
use Rattle.paper.specs.Limits.{node_limit}
use Rattle.paper.specs.Document.{Table, nodes, table_fault, table_of}
use Rattle.paper.specs.Cut.{is_cut}
use Rattle.paper.specs.Answers.{value, refusal, line, is_cut_answer}
use Rattle.paper.proofs.Tests.{or_left, or_right}
use Rattle.cut.proofs.Lines.{Agree, too_long_lem, right_lengths}
use Rattle.cut.proofs.is_cut.Goals as goal

module _ (t cut : Table) (numbers : List ℕ) where
  -- LINE 1.
  many : node_limit < nodes t → refusal 1 0 ≡ is_cut_answer t cut numbers
  many l =
      sym
      (too_long_lem t cut numbers
      (or_left (not (eqb (length numbers) (nodes cut)))
      (or_left (not (eqb (length cut.kinds) (nodes cut))) (or_left (ltb node_limit (nodes cut)) (or_left (not (eqb (length t.kinds) (nodes t))) (lt-ltb node_limit (nodes t) l))))))

  kinds_differ : (length t.kinds ≡ nodes t → ⊥) → refusal 1 0 ≡ is_cut_answer t cut numbers
  kinds_differ h =
      sym
      (too_long_lem t cut numbers
      (or_left (not (eqb (length numbers) (nodes cut)))
      (or_left (not (eqb (length cut.kinds) (nodes cut))) (or_left (ltb node_limit (nodes cut)) (or_right (ltb node_limit (nodes t)) (ap not (ne_eqb (length t.kinds) (nodes t) h)))))))

  many_rows : node_limit < nodes cut → refusal 1 0 ≡ is_cut_answer t cut numbers
  many_rows l =
      sym
      (too_long_lem t cut numbers
      (or_left (not (eqb (length numbers) (nodes cut)))
      (or_left (not (eqb (length cut.kinds) (nodes cut))) (or_right (ltb node_limit (nodes t) || not (eqb (length t.kinds) (nodes t))) (lt-ltb node_limit (nodes cut) l)))))

  cut_kinds_differ : (length cut.kinds ≡ nodes cut → ⊥) → refusal 1 0 ≡ is_cut_answer t cut numbers
  cut_kinds_differ h =
      sym
      (too_long_lem t cut numbers
      (or_left (not (eqb (length numbers) (nodes cut)))
      (or_right (ltb node_limit (nodes t) || not (eqb (length t.kinds) (nodes t)) || ltb node_limit (nodes cut)) (ap not (ne_eqb (length cut.kinds) (nodes cut) h)))))

  numbers_differ : (length numbers ≡ nodes cut → ⊥) → refusal 1 0 ≡ is_cut_answer t cut numbers
  numbers_differ h =
      sym
      (too_long_lem t cut numbers
      (or_right (ltb node_limit (nodes t) || not (eqb (length t.kinds) (nodes t)) || ltb node_limit (nodes cut) || not (eqb (length cut.kinds) (nodes cut))) (ap not (ne_eqb (length numbers) (nodes cut) h))))

  -- LINES AFTER IT.
  agreed : nodes t ≤ node_limit → length t.kinds ≡ nodes t → nodes cut ≤ node_limit → length cut.kinds ≡ nodes cut → length numbers ≡ nodes cut → Agree t cut numbers
  agreed few kinds cut_few cut_kinds long = record { few = few; kinds_long = kinds; cut_few = cut_few; cut_kinds_long = cut_kinds; numbers_long = long }

  module _ (g : Agree t cut numbers) where
    bad_table : (i : ℕ) → some i ≡ table_fault t → refusal 7 i ≡ is_cut_answer t cut numbers
    bad_table i e = ap (λ o. line 7 o (value (cond (is_cut t cut numbers) 1 0))) e ∙ sym (right_lengths t cut numbers g)

    says : none ≡ table_fault t → (b : Bool) → b ≡ is_cut t cut numbers → value (cond b 1 0) ≡ is_cut_answer t cut numbers
    says sound b e = ap (λ y. value (cond y 1 0)) e ∙ ap (λ o. line 7 o (value (cond (is_cut t cut numbers) 1 0))) sound ∙ sym (right_lengths t cut numbers g)

pub returns-then-parent-gt-NODE_LIMIT : goal.returns-then-parent-gt-NODE_LIMIT
returns-then-parent-gt-NODE_LIMIT c = many (table_of c.args.parent.now c.args.kind.now) (table_of c.args.cut_parent.now c.args.cut_kind.now) c.args.cut_node.now c.if-parent-gt-NODE_LIMIT.true

pub returns-then-kind-parent : goal.returns-then-kind-parent
returns-then-kind-parent c = kinds_differ (table_of c.args.parent.now c.args.kind.now) (table_of c.args.cut_parent.now c.args.cut_kind.now) c.args.cut_node.now c.if-kind-parent.true

pub returns-then-cut_parent-gt-NODE_LIMIT : goal.returns-then-cut_parent-gt-NODE_LIMIT
returns-then-cut_parent-gt-NODE_LIMIT c = many_rows (table_of c.args.parent.now c.args.kind.now) (table_of c.args.cut_parent.now c.args.cut_kind.now) c.args.cut_node.now c.if-cut_parent-gt-NODE_LIMIT.true

pub returns-then-cut_kind-cut_parent : goal.returns-then-cut_kind-cut_parent
returns-then-cut_kind-cut_parent c = cut_kinds_differ (table_of c.args.parent.now c.args.kind.now) (table_of c.args.cut_parent.now c.args.cut_kind.now) c.args.cut_node.now c.if-cut_kind-cut_parent.true

pub returns-then-cut_node-cut_parent : goal.returns-then-cut_node-cut_parent
returns-then-cut_node-cut_parent c = numbers_differ (table_of c.args.parent.now c.args.kind.now) (table_of c.args.cut_parent.now c.args.cut_kind.now) c.args.cut_node.now c.if-cut_node-cut_parent.true

pub returns-in-Some : goal.returns-in-Some
returns-in-Some c =
    let t = table_of c.args.parent.now c.args.kind.now in
    let cut = table_of c.args.cut_parent.now c.args.cut_kind.now in
    bad_table t cut c.args.cut_node.now (agreed t cut c.args.cut_node.now (omega arith) (omega arith) (omega arith) (omega arith) (omega arith)) c.in-Some.i c.in-Some.ensures

pub returns-then-all_stand : goal.returns-then-all_stand
returns-then-all_stand c =
    let t = table_of c.args.parent.now c.args.kind.now in
    let cut = table_of c.args.cut_parent.now c.args.cut_kind.now in
    says t cut c.args.cut_node.now (agreed t cut c.args.cut_node.now (omega arith) (omega arith) (omega arith) (omega arith) (omega arith)) c.in_default.ensures true (sym c.if-all_stand.true ∙ c.all_stand.ensures)

pub returns : goal.returns
returns c =
    let t = table_of c.args.parent.now c.args.kind.now in
    let cut = table_of c.args.cut_parent.now c.args.cut_kind.now in
    says t cut c.args.cut_node.now (agreed t cut c.args.cut_node.now (omega arith) (omega arith) (omega arith) (omega arith) (omega arith)) c.in_default.ensures false (sym c.if-all_stand.false ∙ c.all_stand.ensures)
