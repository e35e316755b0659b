-- `pen::put` meets its contract: one byte more is put. Assumes nothing.
use native.Mathlib.Numerals.{add-one}
use native.Mathlib.Omega.{arith}
use mathlib.Core.Path.{◌≡◌, sym}
use mathlib.Core.List.{[], ◌∷◌, ◌++◌}
use Prim.Native.Nat.{◌+◌}
use lib.ListN.{get_or, take}
use lib.Seq.{take-suc}
use Rattle.pen.proofs.Putting.{puts_as, puts_both}
use Rattle.pen.proofs.put.Goals as goal

pub loop-b-preserved : goal.loop-b-preserved
loop-b-preserved c =
    let l = c.loop-b in
    let bytes = c.args.bytes.now in
    let more : take l.b-index bytes ++ (get_or bytes l.b-index 0 ∷ []) ≡ take (l.b-index + 1) bytes = rw (add-one l.b-index) (sym (take-suc bytes l.b-index 0 (omega arith))) in
    puts_as more (puts_both l.invariant c.put_byte-at.ensures)
