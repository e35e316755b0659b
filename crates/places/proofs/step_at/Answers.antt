-- `places::step_at` meets its contract: the item says that it is a step. Assumes nothing.
use mathlib.Core.Path.{sym, ◌∙◌}
use lib.ListN.{get_or}
use Rattle.paper.proofs.Tests.{none-some}
use Rattle.item.proofs.Saying.{said}
use Rattle.shape.proofs.Operands.{no_step_said}
use Rattle.places.proofs.step_at.Goals as goal

pub returns-in_default : goal.returns-in_default
returns-in_default c =
    let w = get_or c.args.items.now c.args.place 0 in
    let u = c.unpack-item in
    none-some (sym (no_step_said w u.result (said w u.result u.ensures) c.in_default.not-Step) ∙ c.requires.1.1)

pub returns : goal.returns
returns c = said (get_or c.args.items.now c.args.place 0) _ (sym c.in-Step.is ∙ c.unpack-item.ensures)
