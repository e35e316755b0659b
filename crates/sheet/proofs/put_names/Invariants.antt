-- The loop of `sheet::put_names`: the lines of the names passed are put, in reach of so many names. Assumes nothing.
use Prim.Native.Nat.{◌≤◌}
use lib.ListN.{take}
use Rattle.paper.specs.Names.{names_of}
use Rattle.paper.specs.Sheet.{name_lines}
use Rattle.pen.specs.Putting.{Puts}
use Rattle.sheet.specs.Sheets.{at}
use Rattle.sheet.proofs.Growing.{reach}
use Rattle.sheet.proofs.put_names.Given as goal

abbrev pub invariant-loop-v : goal.invariant-loop-v
invariant-loop-v l =
    Puts (name_lines (at l.all) (at l.kept) (at l.hidden) 0 (take l.v (names_of l.names))) 0 l.initial.out l.out l.pen × (l.pen ≤ reach (names_of l.names) l.v)
