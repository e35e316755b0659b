-- A marked node is put, one that is not is passed by, and what is open in the end is closed.
use Rattle.std.proofs.Common.{sym, ◌∙◌, arith}
use borrow.Author.Tests.{eq-eqb, ne_eqb}
use Rattle.put_kept.proofs.Walking.{walking_as, walk_start, walk_placeable, walk_node, walk_pass, walk_closable, walk_done}
use Rattle.put_kept.proofs.put_kept.Goals.{then-mark-eq1, else-mark-eq1}
use Rattle.put_kept.proofs.put_kept.Goals as goal

pub loop-i-init : goal.loop-i-init
loop-i-init c g =
    let a = c.args in
    walk_start a.kept.now g a.pen a.out.now

pub mark-mark-requires : goal.mark-mark-requires
mark-mark-requires c = omega (arith, c.nodes-i-end.ensures.lent.marks_long, c.nodes-i-end.ensures.counted)

pub put_node-next-requires : goal.put_node-next-requires
put_node-next-requires c =
    let a = c.args in
    let g = c.nodes-i-end.ensures.lent in
    rw c.given.ensures (walk_placeable a.kept.now g (c.loop-i.invariant g) (omega arith) (eq-eqb _ 1 (sym c.mark-mark.ensures ∙ c.if-mark-eq1.true)) c.requires)

pub loop-i-preserved : goal.loop-i-preserved
loop-i-preserved c g =
    let a = c.args in
    let walked = c.loop-i.invariant g in
    elim c.if-mark-eq1.branch [
      | then-mark-eq1 w ↦
          walking_as w.out-is w.at-is w.squares-is w.top-is
          (walk_node a.kept.now g walked (omega arith) (eq-eqb _ 1 (sym c.mark-mark.ensures ∙ w.if-mark-eq1.true)) (rw w.given.ensures at w.put_node-next.ensures))
      | else-mark-eq1 w ↦
          walking_as w.out-is w.at-is w.squares-is w.top-is
          (walk_pass a.kept.now g walked (omega arith) (ne_eqb _ 1 (λ e. w.if-mark-eq1.false (c.mark-mark.ensures ∙ e))))
    ]

pub close-requires : goal.close-requires
close-requires c =
    let a = c.args in
    let g = c.nodes-i-end.ensures.lent in
    walk_closable a.kept.now g (c.loop-i.invariant g) (omega arith) c.requires

pub returns : goal.returns
returns c =
    let a = c.args in
    let g = c.nodes-i-end.ensures.lent in
    walk_done a.kept.now g (c.loop-i.invariant g) (omega arith) c.close.ensures
