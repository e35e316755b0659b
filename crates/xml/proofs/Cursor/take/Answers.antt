-- `xml::Cursor::take` meets its contract: the bytes at the cursor say which piece it is. Assumes nothing.
use mathlib.Core.Path.{refl, sym, ◌∙◌}
use Rattle.xml.proofs.Taking.{takes_left_out, takes_mark, takes_tag}
use Rattle.xml.proofs.Cursor.take.Goals as goal

pub returns-then-text-at-ne60 : goal.returns-then-text-at-ne60
returns-then-text-at-ne60 c = c.text_piece.ensures c.args.inner

pub returns-then-markup : goal.returns-then-markup
returns-then-markup c = takes_left_out _ _ _ c.if-text-at.false (sym c.markup.ensures ∙ c.if-markup.true)

pub returns-then-text-next : goal.returns-then-text-next
returns-then-text-next c = takes_mark _ _ _ c.if-text-at.false c.if-text-at-ne60.false (sym c.markup.ensures ∙ c.if-markup.false) _ refl c.if-text-next.true

pub returns : goal.returns
returns c = takes_tag _ _ _ c.if-text-at.false c.if-text-at-ne60.false (sym c.markup.ensures ∙ c.if-markup.false) _ _ refl c.if-text-next-eq47.false c.start_tag.ensures
