-- `read::answer` meets its contract: what the list's names read, any names read (`any_later`); then room. Assumes nothing.
use mathlib.Core.Path.{◌∙◌}
use Rattle.read.proofs.Answering.{whole_sized, any_later, short_room, over_items, enough_room, kept_few}
use Rattle.read.proofs.answer.Goals as goal

pub returns-then-room-part-clause-answered : goal.returns-then-room-part-clause-answered
returns-then-room-part-clause-answered c =
    let s = whole_sized _ _ _ _ c.in-Ok.ensures.reads_all in
    short_room _ _ _ s c.if-room-part.true ∙ any_later _ _ _ _ _ s

pub returns-then-part-gt-ITEM_LIMIT-clause-answered : goal.returns-then-part-gt-ITEM_LIMIT-clause-answered
returns-then-part-gt-ITEM_LIMIT-clause-answered c =
    let s = whole_sized _ _ _ _ c.in-Ok.ensures.reads_all in
    over_items _ _ _ s c.if-room-part.false c.if-part-gt-ITEM_LIMIT.true ∙ any_later _ _ _ _ _ s

pub returns-clause-answered : goal.returns-clause-answered
returns-clause-answered c =
    let s = whole_sized _ _ _ _ c.in-Ok.ensures.reads_all in
    enough_room _ _ _ s c.if-room-part.false c.if-part-gt-ITEM_LIMIT.false ∙ any_later _ _ _ _ _ s

pub returns-clause-kept : goal.returns-clause-kept
returns-clause-kept c = (c.if-room-part.false, kept_few _ _ _ _ c.paths.auto.out c.in-Ok.ensures.reads_all c.if-part-gt-ITEM_LIMIT.false)
