-- The tests are those of a row, in their order.
use Rattle.std.proofs.Common.{◌≡◌, ◌≤◌, ◌<◌, ℕ, List, true, false, ◌∙◌, get_or, arith, sym, ap}
use mathlib.Core.Bool.{not, ◌&&◌, ◌||◌}
use borrow.Author.Tests.{lt-ltb, le-ltb, eq-eqb, ne_eqb}
use Rattle.paper.specs.Document.{Table, nodes, kind_of, table_of}
use Rattle.paper.specs.Cut.{parent_stands, rising}
use Rattle.cut_row.specs.Rows.{child_behind, row_stands}
use Rattle.cut_row.proofs.row_stands.Goals as goal

module _ (t cut : Table) (numbers : List ℕ) (r : ℕ) where
  no_node : nodes t ≤ get_or numbers r 0 → row_stands t cut numbers r ≡ false
  unfolding row_stands
  no_node l = let e = le-ltb (get_or numbers r 0) (nodes t) l in rw e

  module _ (node : get_or numbers r 0 < nodes t) where
    other_kind : (kind_of cut r ≡ kind_of t (get_or numbers r 0) → ⊥) → row_stands t cut numbers r ≡ false
    unfolding row_stands
    other_kind h = let e = lt-ltb (get_or numbers r 0) (nodes t) node in let f = ne_eqb (kind_of cut r) (kind_of t (get_or numbers r 0)) h in rw (e, f)

    module _ (kind : kind_of cut r ≡ kind_of t (get_or numbers r 0)) where
      other_place : (rising t cut numbers r && parent_stands t cut numbers r) ≡ false → row_stands t cut numbers r ≡ false
      unfolding row_stands
      other_place g =
          let e = lt-ltb (get_or numbers r 0) (nodes t) node in
          let f = eq-eqb (kind_of cut r) (kind_of t (get_or numbers r 0)) kind in
          rw (e, f, g)

      leaf_asked : (rising t cut numbers r && parent_stands t cut numbers r) ≡ true → row_stands t cut numbers r ≡ (child_behind cut.parents r || not (child_behind t.parents (get_or numbers r 0)))
      unfolding row_stands
      leaf_asked g =
          let e = lt-ltb (get_or numbers r 0) (nodes t) node in
          let f = eq-eqb (kind_of cut r) (kind_of t (get_or numbers r 0)) kind in
          rw (e, f, g)

pub returns-then-parent-n : goal.returns-then-parent-n
returns-then-parent-n c = sym (no_node (table_of c.args.parent.now c.args.kind.now) (table_of c.args.cut_parent.now c.args.cut_kind.now) c.args.cut_node.now c.args.r (omega arith))

pub returns-then-own-kind : goal.returns-then-own-kind
returns-then-own-kind c =
    let numbers = c.args.cut_node.now in
    let r = c.args.r in
    sym (other_kind (table_of c.args.parent.now c.args.kind.now) (table_of c.args.cut_parent.now c.args.cut_kind.now) numbers r (omega arith) (λ e. c.if-own-kind.true (e ∙ ap (λ k. get_or c.args.kind.now k 0) (sym c.from-n.ensures))))

pub returns-then-not-in_place : goal.returns-then-not-in_place
returns-then-not-in_place c =
    let kinds = c.args.kind.now in
    let cut_kinds = c.args.cut_kind.now in
    sym (other_place (table_of c.args.parent.now kinds) (table_of c.args.cut_parent.now cut_kinds) c.args.cut_node.now c.args.r (omega arith) (c.if-own-kind.false ∙ ap (λ k. get_or kinds k 0) c.from-n.ensures) (sym (c.in_place.ensures kinds cut_kinds) ∙ c.if-not-in_place.true))

pub returns-then-child_behind : goal.returns-then-child_behind
returns-then-child_behind c =
    let kinds = c.args.kind.now in
    let cut_kinds = c.args.cut_kind.now in
    let t = table_of c.args.parent.now kinds in
    let cut = table_of c.args.cut_parent.now cut_kinds in
    let numbers = c.args.cut_node.now in
    let r = c.args.r in
    let asked = leaf_asked t cut numbers r (omega arith) (c.if-own-kind.false ∙ ap (λ k. get_or kinds k 0) c.from-n.ensures) (sym (c.in_place.ensures kinds cut_kinds) ∙ c.if-not-in_place.false) in
    c.if-child_behind.true ∙ sym (asked ∙ ap (λ b. b || not (child_behind t.parents (get_or numbers r 0))) (sym c.child_behind.ensures ∙ c.if-child_behind.true))

pub returns-else-child_behind : goal.returns-else-child_behind
returns-else-child_behind c =
    let kinds = c.args.kind.now in
    let cut_kinds = c.args.cut_kind.now in
    let t = table_of c.args.parent.now kinds in
    let cut = table_of c.args.cut_parent.now cut_kinds in
    let numbers = c.args.cut_node.now in
    let r = c.args.r in
    let asked = leaf_asked t cut numbers r (omega arith) (c.if-own-kind.false ∙ ap (λ k. get_or kinds k 0) c.from-n.ensures) (sym (c.in_place.ensures kinds cut_kinds) ∙ c.if-not-in_place.false) in
    ap not (c.child_behind-else-child_behind.ensures ∙ ap (child_behind t.parents) c.from-n.ensures)
    ∙ sym (asked ∙ ap (λ b. b || not (child_behind t.parents (get_or numbers r 0))) (sym c.child_behind.ensures ∙ c.if-child_behind.false))
