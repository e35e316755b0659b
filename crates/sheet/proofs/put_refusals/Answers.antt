-- `sheet::put_refusals` meets its contract: the line of one number more is put. Assumes nothing.
use native.Mathlib.Numerals.{add-one}
use native.Mathlib.Omega.{arith}
use Rattle.pen.proofs.Putting.{puts_both}
use Rattle.sheet.proofs.put_refusals.Goals as goal

pub loop-number-preserved : goal.loop-number-preserved
loop-number-preserved c =
    let l = c.loop-number in
    let line = rw c.times_at.ensures at c.put_refused-next.ensures.puts in (
      rw (add-one l.number) (puts_both l.invariant.0 line),
      omega (arith, c.put_refused-next.ensures.upper_bound, l.invariant.1),
    )
