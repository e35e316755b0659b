-- The loop of `sheet::sum`: the total is the sum of the numbers passed, each of which has 32 bits. Assumes nothing.
use Prim.Native.Nat.{◌*◌, ◌^◌, ◌≤◌}
use mathlib.Core.Path.{◌≡◌}
use Rattle.paper.specs.Sheet.{sum_below}
use Rattle.sheet.specs.Sheets.{at}
use Rattle.sheet.proofs.sum.Given as goal

abbrev pub invariant-loop-v : goal.invariant-loop-v
invariant-loop-v l = (l.total ≡ sum_below l.v (at l.column)) × (l.total ≤ l.v * 2 ^ 32)
