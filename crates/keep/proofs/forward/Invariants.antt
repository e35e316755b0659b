-- What is left of the steps leads, from the set as it is, where all of them lead from the set as it was; the sets kept are those of their entries.
use Rattle.std.proofs.Common.{◌≡◌, length, ◌-◌}
use Rattle.paper.specs.Document.{table_of}
use Rattle.keep.specs.Recall.{Kept}
use Rattle.keep.proofs.Selecting.{Going}
use Rattle.keep.proofs.forward.Given as goal

abbrev pub invariant-loop : goal.invariant-loop
invariant-loop l =
    (length l.sets ≡ length l.fn.sets) × Going (table_of l.parent l.kind) l.given l.items l.at l.count l.place (l.count - l.counter) l.fn.sets l.sets × (length l.known ≡ length l.fn.known) × Kept (table_of l.parent l.kind) l.given l.items (length l.parent) l.known l.sets
