-- White space is passed, and `?>` comes. Assumes nothing.
use mathlib.Core.Path.{refl}
use Rattle.paper.specs.Tools.{ascii}
use Rattle.paper.specs.Tokens.{white}
use Rattle.paper.specs.Xml.{done}
use Rattle.xml_bytes.proofs.Steps.{run_inside}
use Rattle.prolog.proofs.Heading.{word_heads}
use Rattle.prolog.proofs.Declaring.{over_on}
use Rattle.prolog.proofs.declaration_end.Goals as goal

pub say-requires : goal.say-requires
say-requires c = run_inside white _ _ _ c.skip.ensures c.requires

pub returns : goal.returns
returns c =
    let text = c.args.text.now in
    let inside = run_inside white text c.args.at c.skip.result c.skip.ensures c.requires in
    over_on text c.args.at c.skip.result c.requires c.skip.ensures c.say.result (word_heads text c.skip.result (ascii "?>") c.say.result refl inside c.say.ensures done)
