-- White space is passed, and what stands there decides. Assumes nothing.
use mathlib.Core.Path.{sym, ◌∙◌}
use Rattle.prolog.proofs.Landing.{place_inside, land_other, land_left_out, land_here}
use Rattle.prolog.proofs.land.Goals as goal

pub refuse-requires : goal.refuse-requires
refuse-requires c = place_inside c.args.text.now c.args.at c.skip-place.result c.requires c.skip-place.ensures

pub returns-then-not-stands : goal.returns-then-not-stands
returns-then-not-stands c = land_other c.args.text.now c.args.at c.skip-place.result c.requires c.skip-place.ensures c.refuse.result (sym c.stands.ensures ∙ c.if-not-stands.true) c.refuse.ensures

pub returns-then-markup : goal.returns-then-markup
returns-then-markup c =
    land_left_out c.args.text.now c.args.at c.skip-place.result c.requires c.skip-place.ensures (sym c.stands.ensures ∙ c.if-not-stands.false) (sym c.markup.ensures ∙ c.if-markup.true)

pub returns-else-markup : goal.returns-else-markup
returns-else-markup c =
    land_here c.args.text.now c.args.at c.skip-place.result c.requires c.skip-place.ensures (sym c.stands.ensures ∙ c.if-not-stands.false) (sym c.markup.ensures ∙ c.if-markup.false)
