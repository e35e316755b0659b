-- White space and `encoding` come, or what may follow without it. Assumes nothing.
use borrow.Author.Tests.{ltb-true}
use lib.Dec.{ltb}
use mathlib.Core.Bool.{Bool, ◌&&◌}
use mathlib.Core.Path.{sym, ◌∙◌, ap}
use Rattle.paper.proofs.Tests.{and_true}
use Rattle.prolog.proofs.Declaring.{coded_on, coded_off}
use Rattle.prolog.proofs.after_version.Goals as goal

pub returns-then-at-place : goal.returns-then-at-place
returns-then-at-place c =
    let both = and_true (ltb c.args.at c.skip-place.result) c.stands.result c.if-at-place.true in
    coded_on c.args.text.now c.args.at c.skip-place.result c.requires c.skip-place.ensures c.encoding.result (ltb-true c.args.at c.skip-place.result both.0) (sym c.stands.ensures ∙ both.1) c.encoding.ensures

pub returns-else-at-place : goal.returns-else-at-place
returns-else-at-place c =
    let place = c.skip-place.result in
    coded_off c.args.text.now c.args.at place c.requires c.skip-place.ensures c.after_encoding.result (ap (λ (t : Bool). ltb c.args.at place && t) (sym c.stands.ensures) ∙ c.if-at-place.false) c.after_encoding.ensures
