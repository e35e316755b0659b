-- The invariant: what was written and what guarding makes of the items left are the whole.
use Rattle.std.proofs.Common.{take, drop}
use Rattle.guards.proofs.Guarding.{Guarded}
use Rattle.guards.proofs.guard_steps.Given as goal

abbrev pub invariant-loop-place : goal.invariant-loop-place
invariant-loop-place l = Guarded (take l.count (drop l.from l.fn.out)) l.steps l.says l.fn.out l.out l.start l.place l.at
