-- A node takes what its parent's second bit says, and tells it of itself.
use Rattle.std.proofs.Common.{ℕ, ◌≡◌, [], ◌%◌, ◌∙◌, get_or, set, length, length-set, subst, arith}
use Rattle.paper.specs.Tools.{column}
use Rattle.paper.specs.Query.{following_sibling}
use Rattle.paper.specs.Document.{table_of}
use Rattle.sets.specs.Sets.{bits, image}
use Rattle.sideways.proofs.BehindPass.{behind_start, behind_turn, behind_end}
use Rattle.sideways.proofs.behind_siblings.Goals as goal

pub loop-younger-init : goal.loop-younger-init
loop-younger-init c =
    let there = (c.requires.1 []).rooted in
    record {
      least = omega arith;
      most = omega arith;
      sizes = omega arith;
      stands = λ kinds f e. e ∙ behind_start (table_of c.args.parent.now kinds) (c.requires.1 kinds) f;
    }

pub bounds-set-up : goal.bounds-set-up
bounds-set-up c = let down = (c.requires.1 []).falls c.loop-younger.younger (omega arith) (omega arith) in omega arith

pub bounds-set-up-in-loop-younger : goal.bounds-set-up-in-loop-younger
bounds-set-up-in-loop-younger c = let down = (c.requires.1 []).falls c.loop-younger.younger (omega arith) (omega arith) in simp length-set (omega arith)

pub loop-younger-preserved : goal.loop-younger-preserved
loop-younger-preserved c =
    let here = c.loop-younger in
    record {
      least = omega arith;
      most = omega arith;
      sizes = simp length-set here.invariant.sizes;
      stands = λ kinds f e. behind_turn (table_of c.args.parent.now kinds) (c.requires.1 kinds) f here.set here.younger (omega arith) (omega arith) (here.invariant.stands kinds f e);
    }

pub bounds-set-0 : goal.bounds-set-0
bounds-set-0 c = let there = (c.requires.1 []).rooted in omega arith

pub returns : goal.returns
returns c =
    λ kinds f.
    let t = table_of c.args.parent.now kinds in
    let last = c.loop-younger in
    subst (λ n. c.args.set.now ≡ bits n f → column n (λ k. get_or (set last.set 0 0) k 0 % 2) ≡ bits n (image t following_sibling f)) c.requires.0
    (λ e. behind_end t (c.requires.1 kinds) f last.set last.younger (omega arith) (last.invariant.stands kinds f e))
