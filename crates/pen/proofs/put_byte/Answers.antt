-- `pen::put_byte` meets its contract: a byte past the room is only counted. Assumes nothing.
use Rattle.pen.proofs.Putting.{puts_byte, puts_past}
use Rattle.pen.proofs.put_byte.Goals as goal
use Rattle.pen.proofs.put_byte.Goals.{then-pen-out, else-pen-out}

pub returns : goal.returns
returns c =
    let a = c.args in
    elim c.if-pen-out.branch [
      | then-pen-out w ↦ puts_byte a.b a.pen a.out.now c.if-pen-out.out w.out-is
      | else-pen-out w ↦ puts_past a.b a.pen a.out.now c.if-pen-out.out w.if-pen-out.false w.out-is
    ]
