-- Each byte is worked on by itself.
use Rattle.std.proofs.Common.{◌%◌, get_or, refl, ap, arith}
use Rattle.sets.proofs.Passes.{none_passed, one_passed, all_passed}
use Rattle.sideways.proofs.first_bits.Goals as goal

pub loop-i-init : goal.loop-i-init
loop-i-init c = none_passed

pub loop-i-preserved : goal.loop-i-preserved
loop-i-preserved c = let p = c.loop-i.invariant in one_passed p (omega arith) (ap (λ x. x % 2) (p.left c.loop-i.i (omega arith)))

pub returns : goal.returns
returns c = all_passed c.loop-i.invariant (omega arith) (λ k. get_or c.args.set.now k 0 % 2) (λ k l. refl)
