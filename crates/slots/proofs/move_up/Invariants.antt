-- The invariant: what stands from `i` on has moved.
use Rattle.std.proofs.Common.{◌≡◌, length}
use Rattle.slots.proofs.Writing.{Moving}
use Rattle.slots.proofs.move_up.Given as goal

abbrev pub invariant-loop-i : goal.invariant-loop-i
invariant-loop-i l = (length l.out ≡ length l.fn.out) × Moving l.fn.out l.out l.slot l.end l.count l.i
