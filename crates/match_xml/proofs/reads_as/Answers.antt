-- The columns are read exactly if all lines agree with them and are as many.
use Rattle.xml_lines.specs.Kept.{columns}
use Rattle.match_xml.proofs.Reading.{Fit, told_as, refused_as}
use Rattle.match_xml.proofs.reads_as.Goals as goal

pub returns-in-Some : goal.returns-in-Some
returns-in-Some c =
    let short = c.requires.text_len_bound in
    let long = c.requires.kind_len in
    let fit : Fit c.args.text.now c.args.names.now (columns c.args.parent.now c.args.kind.now c.args.begin.now c.args.end.now) =
    record { text_short = short.0; list_short = short.1; good = c.requires.good; few = short.2; kinds = long.0; begins = long.1; ends = long.2 } in
    told_as _ _ _ fit _ c.in-Some.ensures

pub returns-in-None : goal.returns-in-None
returns-in-None c =
    let short = c.requires.text_len_bound in
    let long = c.requires.kind_len in
    let fit : Fit c.args.text.now c.args.names.now (columns c.args.parent.now c.args.kind.now c.args.begin.now c.args.end.now) =
    record { text_short = short.0; list_short = short.1; good = c.requires.good; few = short.2; kinds = long.0; begins = long.1; ends = long.2 } in
    refused_as _ _ _ fit c.in-None.ensures
