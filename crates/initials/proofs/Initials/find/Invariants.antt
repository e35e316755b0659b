-- The loop of `find`: the names before the one that the link names are not the word. The measure is how many links may still come.
use Rattle.std.proofs.Common.{length}
use Rattle.paper.specs.Names.{names_of}
use Rattle.initials.proofs.Linking.{Seeks, left}
use Rattle.initials.proofs.Initials.find.Given as goal

abbrev pub invariant-loop-at : goal.invariant-loop-at
invariant-loop-at l = Seeks (names_of l.self-inside.names) l.word l.at

abbrev pub decreases-loop-at : goal.decreases-loop-at
decreases-loop-at l = left (length (names_of l.self-inside.names)) l.at
