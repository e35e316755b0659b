-- Three puts in a row.
use Rattle.pen.proofs.Putting.{puts_both}
use Rattle.put_tags.proofs.put_tag.Goals as goal

pub returns : goal.returns
returns c = puts_both (puts_both c.put-opened.ensures c.put-named.ensures) c.put.ensures
