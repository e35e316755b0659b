-- A node takes what its parent, which comes before it, still has; the root has nothing in the end.
use Rattle.std.proofs.Common.{[], ◌-◌, ◌∙◌, length, length-set, arith}
use Rattle.paper.specs.Document.{table_of}
use Rattle.paper.specs.Query.{child}
use Rattle.sets.specs.Sets.{image}
use Rattle.sets.proofs.Bits.{resized}
use Rattle.vertical.proofs.ChildPass.{child_start, child_turn, child_end}
use Rattle.vertical.proofs.children.Goals as goal

pub loop-taker-init : goal.loop-taker-init
loop-taker-init c =
    let a = c.args in
    let there = (c.requires.1 []).rooted in
    record {
      least = omega arith;
      most = omega arith;
      sizes = omega arith;
      stands = λ kinds f e. e ∙ child_start (table_of a.parent.now kinds) (c.requires.1 kinds) f (length a.set.now) (omega arith);
    }

pub bounds-set-parent : goal.bounds-set-parent
bounds-set-parent c = let down = (c.requires.1 []).falls (c.loop-taker.taker - 1) (omega arith) (omega arith) in omega arith

pub loop-taker-preserved : goal.loop-taker-preserved
loop-taker-preserved c =
    let here = c.loop-taker in
    let p = here.invariant in
    record {
      least = omega arith;
      most = omega arith;
      sizes = simp length-set p.sizes;
      stands = λ kinds f e. child_turn (table_of c.args.parent.now kinds) (c.requires.1 kinds) f here.set here.taker (omega arith) (omega arith) (p.stands kinds f e);
    }

pub bounds-set-0 : goal.bounds-set-0
bounds-set-0 c = let there = (c.requires.1 []).rooted in omega arith

pub returns : goal.returns
returns c =
    λ kinds f.
    let t = table_of c.args.parent.now kinds in
    let last = c.loop-taker in
    resized c.requires.0 f (image t child f) (λ e. child_end t (c.requires.1 kinds) f last.set last.taker (omega arith) (last.invariant.stands kinds f e))
