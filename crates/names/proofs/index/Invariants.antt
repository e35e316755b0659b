-- The loop of `index`: what is left to check from the line's start gives the answer of the whole (`Upto`), and the keys are those of the lines before it.
use Rattle.std.proofs.Common.{◌≡◌, ◌-◌, length}
use Rattle.name_lines.specs.Lines.{starts_count}
use Rattle.name_keys.specs.Keys.{Keyed}
use Rattle.names.proofs.Upto.{Upto}
use Rattle.names.proofs.index.Given as goal

abbrev pub invariant-loop-start : goal.invariant-loop-start
invariant-loop-start l = record { upto : Upto l.list l.initial.starts l.starts l.count l.start; keyed : Keyed l.list l.starts l.keys l.count; long : length l.keys ≡ starts_count }

abbrev pub decreases-loop-start : goal.decreases-loop-start
decreases-loop-start l = length l.list - l.start
