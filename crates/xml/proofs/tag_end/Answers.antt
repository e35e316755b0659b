-- `xml::tag_end` meets its contract: the byte past the name and white space decides. Assumes nothing.
use mathlib.Core.Path.{refl, sym, ◌∙◌}
use Rattle.xml.proofs.Tagging.{tag_closes, tag_empties, tag_foreign, tag_refused}
use Rattle.xml.proofs.tag_end.Goals as goal

pub returns-then-b-eq62 : goal.returns-then-b-eq62
returns-then-b-eq62 c = tag_closes _ _ _ c.if-text-at.false (c.requires.2 c.if-text-at.false) c.requires.1 _ c.if-b-eq62.true refl

pub returns-then-b-eq47 : goal.returns-then-b-eq47
returns-then-b-eq47 c = tag_empties _ _ _ c.if-text-at.false (c.requires.2 c.if-text-at.false) c.requires.1 _ c.if-b-eq47.true c.empty_end.ensures

pub returns-then-foreign : goal.returns-then-foreign
returns-then-foreign c = tag_foreign _ _ _ c.if-text-at.false (c.requires.2 c.if-text-at.false) c.requires.1 (sym c.foreign.ensures ∙ c.if-foreign.true)

pub returns : goal.returns
returns c = tag_refused _ _ _ c.if-text-at.false (c.requires.2 c.if-text-at.false) c.requires.1 _ (sym c.foreign.ensures ∙ c.if-foreign.false) c.if-b-eq62.false c.if-b-eq47.false c.refuse.ensures
