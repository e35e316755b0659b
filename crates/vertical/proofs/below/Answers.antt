-- A node takes what its parent has, which is done before it.
use Rattle.std.proofs.Common.{[], ◌∙◌, length, length-set, arith}
use Rattle.paper.specs.Document.{table_of}
use Rattle.paper.specs.Query.{descendant_or_self}
use Rattle.sets.specs.Sets.{image}
use Rattle.sets.proofs.Bits.{resized}
use Rattle.vertical.proofs.BelowPass.{below_start, below_turn, below_end}
use Rattle.vertical.proofs.below.Goals as goal

pub loop-i-init : goal.loop-i-init
loop-i-init c =
    let there = (c.requires.1 []).rooted in
    record {
      least = omega arith;
      most = omega arith;
      sizes = omega arith;
      stands = λ kinds f e. e ∙ below_start (table_of c.args.parent.now kinds) (c.requires.1 kinds) f;
    }

pub bounds-set-parent : goal.bounds-set-parent
bounds-set-parent c = let down = (c.requires.1 []).falls c.loop-i.i (omega arith) (omega arith) in omega arith

pub loop-i-preserved : goal.loop-i-preserved
loop-i-preserved c =
    let here = c.loop-i in
    let p = here.invariant in
    record {
      least = omega arith;
      most = omega arith;
      sizes = simp length-set p.sizes;
      stands = λ kinds f e. below_turn (table_of c.args.parent.now kinds) (c.requires.1 kinds) f here.set here.i (omega arith) (omega arith) (p.stands kinds f e);
    }

pub returns : goal.returns
returns c =
    λ kinds f.
    let t = table_of c.args.parent.now kinds in
    let last = c.loop-i in
    resized c.requires.0 f (image t descendant_or_self f) (λ e. last.invariant.stands kinds f e ∙ below_end t (c.requires.1 kinds) f last.i (omega arith))
