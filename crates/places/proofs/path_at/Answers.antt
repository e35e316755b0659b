-- `places::path_at` meets its contract: the item says that it is a path. Assumes nothing.
use mathlib.Core.Path.{sym, ◌∙◌}
use lib.ListN.{get_or}
use Rattle.paper.proofs.Tests.{none-some}
use Rattle.item.proofs.Saying.{said}
use Rattle.shape.proofs.Operands.{no_path_said}
use Rattle.places.proofs.path_at.Goals as goal

pub returns-in_default : goal.returns-in_default
returns-in_default c =
    let w = get_or c.args.items.now c.args.place 0 in
    let u = c.unpack-item in
    none-some (sym (no_path_said w u.result (said w u.result u.ensures) c.in_default.not-Path) ∙ c.requires.1.1)

pub returns : goal.returns
returns c = said (get_or c.args.items.now c.args.place 0) _ (sym c.in-Path.is ∙ c.unpack-item.ensures)
