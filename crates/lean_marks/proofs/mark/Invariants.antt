-- The invariant: the turns of the items that are left, of what is left so far, are the turns of all.
use Rattle.std.proofs.Common.{◌≡◌, length, drop}
use Rattle.lean_marks.specs.Turns.{turns}
use Rattle.lean_marks.proofs.mark.Given as goal

abbrev pub invariant-loop-place : goal.invariant-loop-place
invariant-loop-place l = (length l.marks ≡ length l.fn.marks) × (turns l.items 0 l.items l.fn.marks ≡ turns l.items l.place (drop l.place l.items) l.marks)
