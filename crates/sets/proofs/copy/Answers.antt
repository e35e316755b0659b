-- `sets::copy` meets its contract: a turn passes one node more, and in the end the sets are equal. Assumes nothing.
use Rattle.std.proofs.Common.{arith, refl}
use Rattle.sets.proofs.Passes.{none_passed, one_passed, same_elements}
use Rattle.sets.proofs.copy.Goals as goal

pub loop-i-init : goal.loop-i-init
loop-i-init c = none_passed

pub loop-i-preserved : goal.loop-i-preserved
loop-i-preserved c = one_passed c.loop-i.invariant (omega arith) refl

pub returns : goal.returns
returns c = same_elements c.loop-i.invariant (omega arith) c.args.from.now (omega arith) (λ k l. refl)
