-- The invariant: the nodes from `elder` on have been told of the siblings behind them (`ahead_state`).
use Rattle.sideways.proofs.Twins.{Telling}
use Rattle.sideways.proofs.AheadPass.{ahead_state}
use Rattle.sideways.proofs.preceding_siblings.Given as goal

abbrev pub invariant-loop-elder : goal.invariant-loop-elder
invariant-loop-elder l = Telling ahead_state l.parent l.initial.set l.set l.elder
