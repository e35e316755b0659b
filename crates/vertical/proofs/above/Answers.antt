-- A node hands what it has to its parent, from the last node on.
use Rattle.std.proofs.Common.{[], ◌-◌, ◌∙◌, length, length-set, arith}
use Rattle.paper.specs.Document.{table_of}
use Rattle.paper.specs.Query.{ancestor_or_self}
use Rattle.sets.specs.Sets.{image}
use Rattle.sets.proofs.Bits.{resized}
use Rattle.vertical.proofs.AbovePass.{above_start, above_turn, above_end}
use Rattle.vertical.proofs.above.Goals as goal

pub loop-giver-init : goal.loop-giver-init
loop-giver-init c =
    let a = c.args in
    let there = (c.requires.1 []).rooted in
    record {
      least = omega arith;
      most = omega arith;
      sizes = omega arith;
      stands = λ kinds f e. e ∙ above_start (table_of a.parent.now kinds) (c.requires.1 kinds) f (length a.set.now) (omega arith);
    }

pub bounds-set-up : goal.bounds-set-up
bounds-set-up c = let down = (c.requires.1 []).falls (c.loop-giver.giver - 1) (omega arith) (omega arith) in omega arith

pub bounds-set-up-in-loop-giver : goal.bounds-set-up-in-loop-giver
bounds-set-up-in-loop-giver c = let down = (c.requires.1 []).falls (c.loop-giver.giver - 1) (omega arith) (omega arith) in omega arith

pub loop-giver-preserved : goal.loop-giver-preserved
loop-giver-preserved c =
    let here = c.loop-giver in
    let p = here.invariant in
    record {
      least = omega arith;
      most = omega arith;
      sizes = simp length-set p.sizes;
      stands = λ kinds f e. above_turn (table_of c.args.parent.now kinds) (c.requires.1 kinds) f here.set here.giver (omega arith) (omega arith) (p.stands kinds f e);
    }

pub returns : goal.returns
returns c =
    λ kinds f.
    let t = table_of c.args.parent.now kinds in
    let last = c.loop-giver in
    resized c.requires.0 f (image t ancestor_or_self f) (λ e. last.invariant.stands kinds f e ∙ above_end t (c.requires.1 kinds) f last.giver (omega arith))
