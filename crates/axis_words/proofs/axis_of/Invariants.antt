-- The invariant: the word names one of the axes that are left, if any.
use Rattle.std.proofs.Common.{◌≡◌, drop}
use Rattle.paper.specs.Reading.{axis_named}
use Rattle.axis_words.specs.AxisWords.{in_order}
use Rattle.axis_words.proofs.Words.{among}
use Rattle.axis_words.proofs.axis_of.Given as goal

abbrev pub invariant-loop-axis : goal.invariant-loop-axis
invariant-loop-axis l = axis_named l.word ≡ among l.word (drop l.axis in_order)
