-- A node hands what it has to its parent, which has handed on its own before.
use Rattle.std.proofs.Common.{[], ◌∙◌, length, length-set, arith}
use Rattle.paper.specs.Document.{table_of}
use Rattle.paper.specs.Query.{Axis}
use Rattle.sets.specs.Sets.{image}
use Rattle.sets.proofs.Bits.{resized}
use Rattle.vertical.proofs.ParentPass.{parent_start, parent_turn, parent_end, parent_first}
use Rattle.std.specs.Prelude.{not, ◌&&◌, eqb}
use Rattle.vertical.proofs.parents.Goals as goal

pub bounds-set-0 : goal.bounds-set-0
bounds-set-0 c = let there = (c.requires.1 []).rooted in omega arith

pub loop-i-init : goal.loop-i-init
loop-i-init c =
    let a = c.args in
    let there = (c.requires.1 []).rooted in
    record {
      least = omega arith;
      most = omega arith;
      sizes = simp length-set (omega arith);
      stands = λ kinds f e. e ∙ parent_start (table_of a.parent.now kinds) (c.requires.1 kinds) f a.set.now (omega arith) e;
    }

pub bounds-set-up : goal.bounds-set-up
bounds-set-up c = let down = (c.requires.1 []).falls c.loop-i.i (omega arith) (omega arith) in simp length-set (omega arith)

pub bounds-set-up-in-loop-i : goal.bounds-set-up-in-loop-i
bounds-set-up-in-loop-i c = let down = (c.requires.1 []).falls c.loop-i.i (omega arith) (omega arith) in simp length-set (omega arith)

pub loop-i-preserved : goal.loop-i-preserved
loop-i-preserved c =
    let here = c.loop-i in
    let p = here.invariant in
    record {
      least = omega arith;
      most = omega arith;
      sizes = simp length-set p.sizes;
      stands = λ kinds f e. parent_turn (table_of c.args.parent.now kinds) (c.requires.1 kinds) f here.set here.i (omega arith) (omega arith) (p.stands kinds f e);
    }

pub returns : goal.returns
returns c =
    λ kinds f.
    let a = c.args in
    let t = table_of a.parent.now kinds in
    let w = c.requires.1 kinds in
    let last = c.loop-i in
    resized c.requires.0 f (image t Axis.parent f) (λ e. last.invariant.stands kinds (λ k. not (eqb k 0) && f k) (parent_first t w f a.set.now e) ∙ parent_end t w f last.i (omega arith))
