-- `ahead::axis_ahead` meets its contract: a word, `::` and the name of an axis. Assumes nothing.
use mathlib.Core.Path.{sym}
use Rattle.marks.proofs.Lexed.{none_letters, word_slice, word_past}
use Rattle.ahead.proofs.Words.{unnamed, no_colons, no_axis_word, axis_there}
use Rattle.ahead.proofs.axis_ahead.Goals as goal

pub returns-in_default : goal.returns-in_default
returns-in_default c = unnamed _ _ (none_letters _ _ _ c.take-place.ensures c.in_default.not-Word)

pub returns-in_default-mark : goal.returns-in_default-mark
returns-in_default-mark c = no_colons _ _ _ (word_past _ _ _ c.take-place.ensures _ c.in-Word.is) c.in_default-mark.ensures.0

pub returns-in_err-axis : goal.returns-in_err-axis
returns-in_err-axis c = rw c.from_residual.ensures (no_axis_word _ _ _ (word_slice _ _ _ c.take-place.ensures _ c.in-Word.is) (sym c.in_err-axis.ensures))

pub returns : goal.returns
returns c =
    let t = c.take-place.ensures in
    let is = c.in-Word.is in
    let m = c.in-Ok.ensures in
    axis_there _ _ _ _ _ _ (word_past _ _ _ t _ is) (word_slice _ _ _ t _ is) m.0 m.2 (sym c.in_ok-axis.ensures)
