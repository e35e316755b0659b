-- `xml::finish` meets its contract: the text ends behind the white space, or another byte stands there. Assumes nothing.
use Rattle.xml.proofs.Finishing.{finish_ends, finish_refused}
use Rattle.xml.proofs.finish.Goals as goal

pub returns-then-end-text : goal.returns-then-end-text
returns-then-end-text c = finish_refused _ _ _ c.requires c.skip-end.ensures _ c.if-end-text.true c.refuse.ensures

pub returns-else-end-text : goal.returns-else-end-text
returns-else-end-text c = finish_ends _ _ _ c.requires c.skip-end.ensures c.if-end-text.false
