-- `xml::Cursor::root` meets its contract: past its `<` the one element is a start tag. Assumes nothing.
use mathlib.Core.Path.{refl}
use Rattle.xml.proofs.Finishing.{roots}
use Rattle.xml.proofs.Cursor.root.Goals as goal

pub returns : goal.returns
returns c = roots _ _ _ _ c.requires.0 c.requires.1 c.requires.2 refl c.start_tag.ensures
