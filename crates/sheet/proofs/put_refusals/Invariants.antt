-- The loop of `sheet::put_refusals`: the lines of the numbers passed are put. Assumes nothing.
use Prim.Native.Nat.{◌+◌, ◌*◌, ◌≤◌}
use Rattle.paper.specs.Sheet.{refused_lines}
use Rattle.pen.specs.Putting.{Puts}
use Rattle.lines.specs.Lines.{line_room}
use Rattle.sheet.specs.Sheets.{at}
use Rattle.sheet.proofs.put_refusals.Given as goal

abbrev pub invariant-loop-number : goal.invariant-loop-number
invariant-loop-number l = Puts (refused_lines l.number (at l.refusals)) l.pen l.initial.out l.out l.next × (l.next ≤ l.pen + l.number * line_room)
