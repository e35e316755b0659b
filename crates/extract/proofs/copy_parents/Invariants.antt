-- The new parents of the marked nodes before `i` are written, `n` of them, the rest is untouched, and `last` is the last of those nodes.
use Rattle.std.proofs.Common.{◌<◌}
use Rattle.extract.specs.Numbering.{Last, new_parent}
use Rattle.extract.proofs.Writes.{Written}
use Rattle.extract.proofs.copy_parents.Given as goal

abbrev pub invariant-loop-i : goal.invariant-loop-i
invariant-loop-i l = record {
  so_far : Written l.marks (new_parent l.parent l.marks) l.initial.out l.out l.n l.i;
  before : 0 < l.n → Last l.marks l.i l.last;
}
