-- The loop of `lines::list_end`: the bytes passed belong to the list, and it is told whether a line starts here. Assumes nothing.
use Rattle.lines.proofs.Parting.{Listed}
use Rattle.lines.proofs.list_end.Given as goal

abbrev pub invariant-loop-at : goal.invariant-loop-at
invariant-loop-at l = Listed l.bytes l.starts l.at
