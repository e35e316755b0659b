-- A node takes what its parent's second bit says, and tells it of itself; the bit is dropped with the parent's turn.
use Rattle.std.proofs.Common.{[], ◌-◌, ◌∙◌, length, length-set, arith}
use Rattle.paper.specs.Query.{preceding_sibling}
use Rattle.paper.specs.Document.{table_of}
use Rattle.sets.specs.Sets.{image}
use Rattle.sets.proofs.Bits.{resized}
use Rattle.sideways.proofs.AheadPass.{ahead_start, ahead_turn, ahead_end}
use Rattle.sideways.proofs.preceding_siblings.Goals as goal

pub loop-elder-init : goal.loop-elder-init
loop-elder-init c =
    let there = (c.requires.1 []).rooted in
    record {
      least = omega arith;
      most = omega arith;
      sizes = omega arith;
      stands = λ kinds f e. e ∙ ahead_start (table_of c.args.parent.now kinds) (c.requires.1 kinds) f (length c.args.set.now) (omega arith);
    }

pub bounds-set-up : goal.bounds-set-up
bounds-set-up c = let down = (c.requires.1 []).falls (c.loop-elder.elder - 1) (omega arith) (omega arith) in omega arith

pub bounds-set-up-in-loop-elder : goal.bounds-set-up-in-loop-elder
bounds-set-up-in-loop-elder c = let down = (c.requires.1 []).falls (c.loop-elder.elder - 1) (omega arith) (omega arith) in simp length-set (omega arith)

pub loop-elder-preserved : goal.loop-elder-preserved
loop-elder-preserved c =
    let here = c.loop-elder in
    record {
      least = omega arith;
      most = omega arith;
      sizes = simp length-set here.invariant.sizes;
      stands = λ kinds f e. ahead_turn (table_of c.args.parent.now kinds) (c.requires.1 kinds) f here.set here.elder (omega arith) (omega arith) (here.invariant.stands kinds f e);
    }

pub bounds-set-0 : goal.bounds-set-0
bounds-set-0 c = let there = (c.requires.1 []).rooted in omega arith

pub returns : goal.returns
returns c =
    λ kinds f.
    let t = table_of c.args.parent.now kinds in
    let last = c.loop-elder in
    resized c.requires.0 f (image t preceding_sibling f) (λ e. ahead_end t (c.requires.1 kinds) f last.set last.elder (omega arith) (last.invariant.stands kinds f e))
