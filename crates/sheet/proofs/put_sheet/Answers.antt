-- `sheet::put_sheet` meets its contract: the list has no fault, so that its lines, the sums and the refusals are put one after the other. Assumes nothing.
use Prim.Native.Nat.{ℕ}
use native.Mathlib.Omega.{arith}
use mathlib.Core.Path.{◌≡◌}
use mathlib.Core.Option.{Option, none, some}
use Rattle.paper.specs.Sheet.{tallied}
use Rattle.pen.proofs.Putting.{puts_both}
use Rattle.sheet.proofs.put_sheet.Goals as goal

no_fault : (o : Option ℕ) (at : ℕ) → o ≡ some at → o ≡ none → ⊥
no_fault o at s n = let z : ◌≡◌ {A = ℕ} 0 1 = cc in omega arith

pub returns-in_default : goal.returns-in_default
returns-in_default c = let bad = c.in_default.ensures.bad in absurd (no_fault _ bad.start bad.fault c.requires.1)

pub returns : goal.returns
unfolding tallied
returns c =
    let good = c.in-Ok.ensures.good.0 in
    let named = rw good at c.put_names-named.ensures.puts in
    let summed = rw (c.count.ensures.counted, good) at c.put_sums-summed.ensures.puts in
    record {
      puts = puts_both (puts_both named summed) c.put_refusals.ensures.puts;
      few = omega (arith, c.put_names-named.ensures.upper_bound, c.put_sums-summed.ensures.upper_bound, c.put_refusals.ensures.upper_bound);
    }
