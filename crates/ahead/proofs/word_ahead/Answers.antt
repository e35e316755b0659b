-- `ahead::word_ahead` meets its contract: a word's letters are compared, and nothing else has letters. Assumes nothing.
use mathlib.Core.Path.{sym, ◌∙◌}
use Rattle.marks.proofs.Lexed.{none_letters, no_same, word_letters, word_past, taken_at}
use Rattle.ahead.proofs.word_ahead.Goals as goal

pub returns-in_default : goal.returns-in_default
returns-in_default c = (rw (none_letters _ _ _ c.take-place.ensures c.in_default.not-Word) (no_same c.args.word.now c.requires.1), taken_at _ _ _ c.take-place.ensures)

pub returns-then-same_word : goal.returns-then-same_word
returns-then-same_word c =
    let t = c.take-place.ensures in
    let is = c.in-Word.is in
    (rw (word_letters _ _ _ t _ is) (sym c.same_word.ensures ∙ c.if-same_word.true), taken_at _ _ _ t, word_past _ _ _ t _ is)

pub returns-else-same_word : goal.returns-else-same_word
returns-else-same_word c =
    let t = c.take-place.ensures in
    let is = c.in-Word.is in
    (rw (word_letters _ _ _ t _ is) (sym c.same_word.ensures ∙ c.if-same_word.false), taken_at _ _ _ t)
