-- The loop of `view_union::gather`: what is gathered, with the views that are left, is the whole. Assumes nothing.
use Prim.Native.Nat.{◌-◌}
use lib.ListN.{length}
use Rattle.view_union.proofs.Unions.{Gathering}
use Rattle.view_union.proofs.gather.Given as goal

abbrev pub invariant-loop-at : goal.invariant-loop-at
invariant-loop-at l = Gathering l.views l.list l.mask l.spare l.union l.at l.view l.left l.size

abbrev pub decreases-loop-at : goal.decreases-loop-at
decreases-loop-at l = length l.views - l.at
