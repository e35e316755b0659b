-- An item more is guarded, where it fits.
use Rattle.std.proofs.Common.{arith}
use Rattle.guards.proofs.Guarding.{guarded_asks, guarded_more}
use Rattle.guards.proofs.guard_steps.Goals as goal

pub guard_item-at-requires : goal.guard_item-at-requires
guard_item-at-requires c =
    let a = c.args in
    let l = c.loop-place in
    guarded_asks a.steps.now a.says.now a.out.now l.out a.start l.place l.at a.from a.count (omega arith) l.invariant c.requires.2 c.requires.3

pub loop-place-preserved : goal.loop-place-preserved
loop-place-preserved c =
    let a = c.args in
    let l = c.loop-place in
    let put = c.guard_item-at in
    guarded_more a.steps.now a.says.now a.out.now l.out put.new.out a.start l.place l.at put.result a.from a.count (omega arith) l.invariant c.requires.2 c.requires.3 put.ensures.0 put.ensures.1
