-- `ahead::starts_step` meets its contract: a step begins with a word or with such a mark. Assumes nothing.
use Rattle.marks.proofs.Lexed.{taken_next}
use Rattle.ahead.proofs.Steps.{none_starts}
use Rattle.ahead.proofs.starts_step.Goals as goal

pub returns-in-Word : goal.returns-in-Word
returns-in-Word c = rw (taken_next _ _ _ c.take.ensures, c.in-Word.is)

pub returns-in-Mark : goal.returns-in-Mark
returns-in-Mark c = rw (taken_next _ _ _ c.take.ensures, c.in-Mark.is) c.begins_step.ensures

pub returns-in_default : goal.returns-in_default
returns-in_default c = rw (taken_next _ _ _ c.take.ensures) (none_starts c.args.text.now c.take.result.place c.take.result.token c.in_default.not-Mark c.in_default.not-Word)
