-- The invariant: some end tags are put, and the others are still to be. The measure is the innermost open element.
use Rattle.std.proofs.Common.{ℕ, List}
use Rattle.put_tags.specs.Tags.{Open}
use Rattle.put_tags.proofs.Closing.{Closing}
use Rattle.put_tags.proofs.Given.close.Given as goal

abbrev pub invariant-loop-inner : goal.invariant-loop-inner
invariant-loop-inner l = (bytes : List ℕ) → Open l.self-inside.text.now l.self-inside.parents.now l.self-inside.begins.now l.top l.up bytes → Closing l.self-inside.text.now l.self-inside.parents.now l.self-inside.begins.now bytes l.pen l.fn.out l.out l.at l.inner l.up

abbrev pub decreases-loop-inner : goal.decreases-loop-inner
decreases-loop-inner l = l.inner
