-- A table has no fault where all its nodes are good; else the first bad one is found.
use Rattle.std.proofs.Common.{◌≡◌, ◌∙◌, arith, sym, ap}
use borrow.Author.Tests.{eq-eqb, ne_eqb}
use mathlib.Core.Bool.{not, cond}
use mathlib.Core.Option.{some}
use Rattle.paper.specs.Tools.{first_below}
use Rattle.paper.specs.Document.{Table, nodes, good_node, table_fault, table_of}
use Rattle.table.proofs.Firsts.{no_fault, fault_at}
use Rattle.table.proofs.Ways.{falls_good}
use Rattle.table.proofs.table_fault.Goals as goal

-- The fault of a table that has nodes is its first bad node.
of_nodes : (t : Table) → (nodes t ≡ 0 → ⊥) → table_fault t ≡ first_below (nodes t) (λ i. not (good_node t i))
unfolding table_fault
of_nodes t h = ap (λ b. cond b (some 0) (first_below (nodes t) (λ i. not (good_node t i)))) (ne_eqb (nodes t) 0 h)

pub returns-then-parent-eq0 : goal.returns-then-parent-eq0
unfolding table_fault
returns-then-parent-eq0 c =
    let t = table_of c.args.parent.now c.args.kind.now in
    sym (ap (λ b. cond b (some 0) (first_below (nodes t) (λ i. not (good_node t i)))) (eq-eqb (nodes t) 0 c.if-parent-eq0.true))

pub returns-then-all_good : goal.returns-then-all_good
returns-then-all_good c =
    let t = table_of c.args.parent.now c.args.kind.now in
    sym (of_nodes t c.if-parent-eq0.false ∙ no_fault (nodes t) (good_node t) (c.all_good.ensures c.if-all_good.true))

pub good_node-requires-clause-falls : goal.good_node-requires-clause-falls
good_node-requires-clause-falls c = falls_good (table_of c.args.parent.now c.args.kind.now) c.loop-i.i (omega arith) c.loop-i.invariant

pub returns-then-not-good_node : goal.returns-then-not-good_node
returns-then-not-good_node c =
    let t = table_of c.args.parent.now c.args.kind.now in
    let l = c.loop-i in
    sym (of_nodes t (λ e. omega arith) ∙ fault_at (nodes t) l.i (good_node t) (omega arith) l.invariant (sym c.good_node.ensures ∙ c.if-not-good_node.true))

pub returns : goal.returns
returns c =
    let t = table_of c.args.parent.now c.args.kind.now in
    sym (of_nodes t c.if-parent-eq0.false ∙ no_fault (nodes t) (good_node t) (λ k b. c.loop-i.invariant k (omega arith)))
