-- The first byte decides between the two words. Assumes nothing.
use mathlib.Core.Path.{refl, sym, ◌∙◌}
use Rattle.paper.specs.Tools.{ascii}
use Rattle.prolog.proofs.Heading.{word_heads}
use Rattle.prolog.proofs.Declaring.{is_yes, is_no}
use Rattle.prolog.proofs.yes_no.Goals as goal

pub returns-then-stands : goal.returns-then-stands
returns-then-stands c = λ p. is_yes _ _ p _ (sym c.stands.ensures ∙ c.if-stands.true) (word_heads _ _ (ascii "yes") c.say.result refl c.requires c.say.ensures p)

pub returns-else-stands : goal.returns-else-stands
returns-else-stands c = λ p. is_no _ _ p _ (sym c.stands.ensures ∙ c.if-stands.false) (word_heads _ _ (ascii "no") c.say-else-stands.result refl c.requires c.say-else-stands.ensures p)
