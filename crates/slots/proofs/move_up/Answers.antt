-- `slots::move_up` meets its contract: a turn moves one item, and where none is left all have moved. Assumes nothing.
use Rattle.std.proofs.Common.{refl}
use lib.ListN.{length-set}
use Rattle.slots.proofs.Writing.{moving_starts, moving_more, moving_ends}
use Rattle.slots.proofs.move_up.Goals as goal

pub loop-i-init : goal.loop-i-init
loop-i-init c = (refl, moving_starts _ _ _ _)

pub loop-i-preserved : goal.loop-i-preserved
loop-i-preserved c = (simp length-set c.loop-i.invariant.0, moving_more _ _ _ _ _ _ _ c.loop-i-test.true c.requires.2 c.loop-i.invariant.1 refl)

pub returns : goal.returns
returns c = moving_ends _ _ _ _ _ _ c.loop-i-test.false c.loop-i.invariant.1
