-- No more nodes are marked than there are.
use Rattle.std.proofs.Common.{◌≤◌, Bool, true, false, arith}
use mir.Val.{bool_byte}
use Rattle.paper.specs.Document.{marked}
use Rattle.paper.proofs.Extracting.{rank_le}
use Rattle.table.proofs.count.Goals as goal

bit : (b : Bool) → bool_byte b ≤ 1
bit true = omega arith
bit false = omega arith

pub overflow_add-n : goal.overflow_add-n
overflow_add-n c = omega (arith, rank_le c.args.marks.now c.loop-mark.mark-index, bit (marked c.args.marks.now c.loop-mark.mark-index))
