-- `xml_runs::narrow` meets its contract: one byte, then the others. Assumes nothing.
use mathlib.Core.List.{[], ◌∷◌}
use mathlib.Core.Path.{sym, ◌∙◌, subst}
use Rattle.paper.specs.Xml.{from}
use Rattle.xml_bytes.specs.Promised.{Reads, tailing}
use Rattle.xml_bytes.proofs.Rows.{row_next}
use Rattle.xml_runs.proofs.narrow.Goals as goal

pub returns : goal.returns
returns c =
    let first = subst (Reads c.args.text.now c.args.at (from c.args.low c.args.high ∷ [])) c.in_ok-next.was c.within.ensures in
    record { comes = c.tails.ensures.comes ∙ sym (row_next _ _ _ _ first (tailing c.args.count)) }
