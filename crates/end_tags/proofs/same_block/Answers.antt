-- A byte more was looked at. Assumes nothing.
use mathlib.Core.Bool.{◌&&◌}
use mathlib.Core.Path.{◌≡◌, subst}
use Rattle.std.specs.Prelude.{◌+◌, eqb, get_or}
use Rattle.xml_bytes.specs.Blocks.{Sooner}
use Rattle.xml_bytes.proofs.Blocks.{fit_more}
use Rattle.end_tags.specs.Renaming.{repeated_from}
use Rattle.end_tags.proofs.same_block.Goals as goal

pub loop-i-preserved : goal.loop-i-preserved
loop-i-preserved c =
    let text = c.args.text.now in
    let place = c.args.place in
    let letter = c.args.letter in
    let i = c.loop-i.i in
    let fits : (c.name_part.result && eqb (get_or text (letter + c.from.result) 0) (get_or text (place + c.from-in-loop-i.result) 0)) ≡ repeated_from text place letter i = rw (c.name_part.ensures, c.from.ensures, c.from-in-loop-i.ensures) in
    let turn : Sooner c.loop-i.stop i (repeated_from text place letter i) c.sooner-stop.result = subst (λ t. Sooner c.loop-i.stop i t c.sooner-stop.result) fits c.sooner-stop.ensures in
    fit_more _ _ _ _ c.loop-i.invariant turn
