-- The invariant: so many items are copied.
use Rattle.std.proofs.Common.{◌≡◌, length}
use lib.Seq.{paste}
use Rattle.item.proofs.put_items.Given as goal

abbrev pub invariant-loop-done : goal.invariant-loop-done
invariant-loop-done l = (length l.out ≡ length l.fn.out) × (l.out ≡ paste l.fn.out l.at l.items l.done)
