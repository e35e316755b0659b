-- The invariant: what is put, with what the walk still writes, is the kept part.
use Rattle.put_tags.specs.Lending.{IsLent}
use Rattle.put_kept.proofs.Walking.{Walking, lines}
use Rattle.put_kept.proofs.put_kept.Given as goal

abbrev pub invariant-loop-i : goal.invariant-loop-i
invariant-loop-i l = (g : IsLent l.kept) → Walking l.kept.text l.kept.marks (lines l.kept g) l.pen l.fn.out l.out l.at l.squares l.top l.i
