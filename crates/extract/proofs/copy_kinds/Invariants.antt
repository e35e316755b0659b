-- The kinds of the marked nodes before `i` are written, `n` of them, and the rest is untouched.
use Rattle.std.proofs.Common.{get_or}
use Rattle.extract.proofs.Writes.{Written}
use Rattle.extract.proofs.copy_kinds.Given as goal

abbrev pub invariant-loop-i : goal.invariant-loop-i
invariant-loop-i l = Written l.marks (λ k. get_or l.kind k 0) l.initial.out l.out l.n l.i
