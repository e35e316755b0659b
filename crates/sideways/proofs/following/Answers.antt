-- A node follows what its parent follows, and the last node of the set before it, if its parent comes before that.
use Rattle.std.proofs.Common.{[], ◌∙◌, not, ◌&&◌, eqb, length, length-set, arith}
use Rattle.paper.specs.Query.{Axis}
use Rattle.paper.specs.Document.{table_of}
use Rattle.sets.specs.Sets.{image}
use Rattle.sets.proofs.Bits.{resized}
use Rattle.vertical.proofs.ParentPass.{parent_first}
use Rattle.sideways.proofs.FollowingPass.{latest_start, latest_turn, follow_start, follow_turn, follow_end}
use Rattle.sideways.proofs.following.Goals as goal

pub bounds-set-0 : goal.bounds-set-0
bounds-set-0 c = let there = (c.requires.1 []).rooted in omega arith

pub loop-i-init : goal.loop-i-init
loop-i-init c =
    let a = c.args in
    let there = (c.requires.1 []).rooted in
    record {
      least = omega arith;
      most = omega arith;
      sizes = simp length-set (omega arith);
      stands = λ kinds f e. (e ∙ follow_start (table_of a.parent.now kinds) (c.requires.1 kinds) f a.set.now (omega arith) e, latest_start f);
    }

pub bounds-set-up : goal.bounds-set-up
bounds-set-up c = let down = (c.requires.1 []).falls c.loop-i.i (omega arith) (omega arith) in omega arith

pub loop-i-preserved : goal.loop-i-preserved
loop-i-preserved c =
    let here = c.loop-i in
    record {
      least = omega arith;
      most = omega arith;
      sizes = simp length-set here.invariant.sizes;
      stands = λ kinds f e.
          let t = table_of c.args.parent.now kinds in
          let w = c.requires.1 kinds in
          let s = here.invariant.stands kinds f e in (
            follow_turn t w f here.set here.i here.last (omega arith) (omega arith) s.0 s.1,
            latest_turn t w f here.set here.i here.last c.chosen-last.result (omega arith) s.0 s.1 c.chosen-last.ensures,
          );
    }

pub returns : goal.returns
returns c =
    λ kinds f.
    let a = c.args in
    let t = table_of a.parent.now kinds in
    let w = c.requires.1 kinds in
    let last = c.loop-i in
    resized c.requires.0 f (image t Axis.following f)
    (λ e. (last.invariant.stands kinds (λ k. not (eqb k 0) && f k) (parent_first t w f a.set.now e)).0 ∙ follow_end t w f last.i (omega arith))
