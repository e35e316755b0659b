-- The invariant: the bytes passed are put as a text.
use Rattle.std.proofs.Common.{take}
use Rattle.put_text.specs.Escaping.{PutsText}
use Rattle.put_text.proofs.put_text.Given as goal

abbrev pub invariant-loop-b : goal.invariant-loop-b
invariant-loop-b l = PutsText (take l.b-index l.bytes) l.squares l.pen l.fn.out l.out l.at l.k
