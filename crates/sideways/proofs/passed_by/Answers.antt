-- A node precedes one of the set if the way up from that one passes it by.
use Rattle.std.proofs.Common.{[], ◌-◌, ◌∙◌, length, length-set, arith}
use Rattle.paper.specs.Query.{Axis, ancestor_or_self}
use Rattle.paper.specs.Document.{table_of}
use Rattle.sets.specs.Sets.{image}
use Rattle.sets.proofs.Bits.{resized}
use Rattle.sideways.proofs.PrecedingPass.{lowest_start, lowest_turn, precede_start, precede_turn, precede_end}
use Rattle.sideways.proofs.passed_by.Goals as goal

pub loop-at-init : goal.loop-at-init
loop-at-init c =
    let a = c.args in
    let there = (c.requires.1 []).rooted in
    let n = length a.set.now in
    record {
      least = omega arith;
      most = omega arith;
      sizes = omega arith;
      stands = λ kinds f e.
          let t = table_of a.parent.now kinds in
          (e ∙ precede_start t (c.requires.1 kinds) f n (omega arith), lowest_start t f n n (omega arith) (omega arith));
    }

pub loop-at-preserved : goal.loop-at-preserved
loop-at-preserved c =
    let here = c.loop-at in
    record {
      least = omega arith;
      most = omega arith;
      sizes = simp length-set here.invariant.sizes;
      stands = λ kinds f e.
          let t = table_of c.args.parent.now kinds in
          let w = c.requires.1 kinds in
          let s = here.invariant.stands kinds f e in (
            precede_turn t w f here.set here.at here.low (omega arith) (omega arith) s.0 s.1,
            lowest_turn t w f here.set here.at here.low c.chosen-low.result (omega arith) (omega arith) s.0 s.1 c.chosen-low.ensures,
          );
    }

pub bounds-set-0 : goal.bounds-set-0
bounds-set-0 c = let there = (c.requires.1 []).rooted in omega arith

pub returns : goal.returns
returns c =
    λ kinds f.
    let t = table_of c.args.parent.now kinds in
    let last = c.loop-at in
    resized c.requires.0 (image t ancestor_or_self f) (image t Axis.preceding f)
    (λ e. precede_end t (c.requires.1 kinds) f last.set last.at (omega arith) (last.invariant.stands kinds f e).0)
