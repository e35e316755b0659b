-- A table whose rows pass is a cut, and a cut passes.
use Rattle.std.proofs.Common.{◌≡◌, ◌<◌, ℕ, List, true, false, ◌∙◌, length, arith, sym}
use mathlib.Core.Bool.{false≢true}
use mathlib.Core.Option.{none}
use Rattle.paper.specs.Document.{Table, nodes, table_fault, table_of}
use Rattle.paper.specs.Cut.{same_root, is_cut}
use Rattle.paper.proofs.Cutting.{empty_yes}
use Rattle.cut_row.specs.Rows.{row_stands}
use Rattle.cut_row.proofs.Asking.{fails}
use Rattle.cut_rows.proofs.Passing.{all-rows, each_row}
use Rattle.cut_rows.proofs.all_stand.Goals as goal

module _ (t cut : Table) (numbers : List ℕ) (sound : table_fault t ≡ none) (long : nodes cut ≡ length numbers) (kinds_long : length cut.kinds ≡ length numbers) (rows : 0 < length numbers) where
  wrong_root : same_root t cut numbers ≡ false → false ≡ is_cut t cut numbers
  wrong_root h = fails _ (λ y. false≢true (sym h ∙ (each_row t cut numbers sound (sym long) (kinds_long ∙ sym long) (omega arith) y).0))

  wrong_row : (r : ℕ) → r < length numbers → row_stands t cut numbers r ≡ false → false ≡ is_cut t cut numbers
  wrong_row r l h = fails _ (λ y. false≢true (sym h ∙ (each_row t cut numbers sound (sym long) (kinds_long ∙ sym long) (omega arith) y).1 r (omega arith)))

  right : same_root t cut numbers ≡ true → ((k : ℕ) → k < length numbers → row_stands t cut numbers k ≡ true) → true ≡ is_cut t cut numbers
  right root all = sym (all-rows t cut numbers sound (sym long) (kinds_long ∙ sym long) (omega arith) root (λ k l. all k (omega arith)))

pub returns-then-cut_node-eq0 : goal.returns-then-cut_node-eq0
returns-then-cut_node-eq0 c = sym (empty_yes (table_of c.args.parent.now c.args.kind.now) (table_of c.args.cut_parent.now c.args.cut_kind.now) c.args.cut_node.now (omega arith))

pub returns-then-not-same_root : goal.returns-then-not-same_root
returns-then-not-same_root c =
    let t = table_of c.args.parent.now c.args.kind.now in
    let cut = table_of c.args.cut_parent.now c.args.cut_kind.now in
    wrong_root t cut c.args.cut_node.now c.requires.kind_len.1 c.requires.cut_parent_len.0 c.requires.cut_parent_len.1 (omega arith) (sym (c.same_root.ensures t c.args.cut_kind.now) ∙ c.if-not-same_root.true)

pub returns-then-not-row_stands : goal.returns-then-not-row_stands
returns-then-not-row_stands c =
    let t = table_of c.args.parent.now c.args.kind.now in
    let cut = table_of c.args.cut_parent.now c.args.cut_kind.now in
    wrong_row t cut c.args.cut_node.now c.requires.kind_len.1 c.requires.cut_parent_len.0 c.requires.cut_parent_len.1 (omega arith) c.loop-r.r (omega arith) (sym c.row_stands.ensures ∙ c.if-not-row_stands.true)

pub returns : goal.returns
returns c =
    let t = table_of c.args.parent.now c.args.kind.now in
    let cut = table_of c.args.cut_parent.now c.args.cut_kind.now in
    right t cut c.args.cut_node.now c.requires.kind_len.1 c.requires.cut_parent_len.0 c.requires.cut_parent_len.1 (omega arith) (sym (c.same_root.ensures t c.args.cut_kind.now) ∙ c.if-not-same_root.false) (λ k l. c.loop-r.invariant k (omega arith))
