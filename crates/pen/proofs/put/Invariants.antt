-- The loop of `pen::put`: the bytes passed are put. Assumes nothing.
use lib.ListN.{take}
use Rattle.pen.specs.Putting.{Puts}
use Rattle.pen.proofs.put.Given as goal

abbrev pub invariant-loop-b : goal.invariant-loop-b
invariant-loop-b l = Puts (take l.b-index l.bytes) l.pen l.initial.out l.out l.at
