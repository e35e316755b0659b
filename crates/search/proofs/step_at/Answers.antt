-- `search::step_at`: the item is a step, since one stands there.
use Rattle.std.proofs.Common.{get_or, sym, ◌∙◌}
use Rattle.paper.proofs.Tests.{none-some}
use Rattle.item.proofs.Saying.{said}
use Rattle.shape.proofs.Operands.{no_step_said}
use Rattle.search.proofs.step_at.Goals as goal

pub returns-in-Step : goal.returns-in-Step
returns-in-Step c = said _ _ (sym c.in-Step.is ∙ c.unpack-item.ensures)

pub returns-in_default : goal.returns-in_default
returns-in_default c =
    let u = c.unpack-item in
    let w = get_or c.args.items.now c.args.place 0 in
    none-some (sym (no_step_said w u.result (said w u.result u.ensures) c.in_default.not-Step) ∙ c.requires.1.1)
