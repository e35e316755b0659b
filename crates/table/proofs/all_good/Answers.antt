-- Good nodes are a tree as far as they go, and a node after the root is good by `later`.
use Rattle.std.proofs.Common.{◌≡◌, true, ◌∙◌, arith, sym}
use borrow.Author.Count.{below_more}
use Rattle.paper.specs.Document.{good_node, table_of}
use Rattle.paper.proofs.Tests.{true_and}
use Rattle.table.proofs.Nodes.{later}
use Rattle.table.proofs.Ways.{falls_good}
use Rattle.table.proofs.all_good.Goals as goal

pub good_parent-requires-clause-falls : goal.good_parent-requires-clause-falls
good_parent-requires-clause-falls c = falls_good (table_of c.args.parent.now c.args.kind.now) c.loop-i.i (omega arith) c.loop-i.invariant

pub loop-i-preserved : goal.loop-i-preserved
loop-i-preserved c =
    let t = table_of c.args.parent.now c.args.kind.now in
    let i = c.loop-i.i in
    let fit = c.kinds_fit.ensures c.if-not-kinds_fit.false i (omega arith) (omega (arith, c.requires)) in
    below_more (λ k. good_node t k ≡ true) i c.loop-i.invariant (later t i (omega arith) ∙ true_and fit (sym c.good_parent.ensures ∙ c.if-not-good_parent.false))
