-- `guards::one_guard` meets its contract: an item is no step, or a step whose axis says whether it is guarded. Assumes nothing.
use mathlib.Core.Path.{sym, ◌∙◌}
use Rattle.guards.proofs.Reading.{step_counted, no_step_counted}
use borrow.Author.Rules.{rules}
use Rattle.guards.proofs.one_guard.Statement.{statement}
use Rattle.guards.proofs.one_guard.Tie as tie

-- The item is a step.
abbrev step : tie.After-guarded → tie.In-Step
step c = c.before

unpack-requires : tie.Need-unpack-item-requires
unpack-requires c κs = search rules

enum-known-item : tie.Need-enum_known-item
enum-known-item c = search rules

returns : tie.Need-returns-in_default
returns c = no_step_counted _ _ c.unpack-item.ensures c.in_default.in_default-own.keys2

guarded-requires : tie.Need-guarded-requires
guarded-requires c κs = search rules

returns-2 : tie.Need-returns-then-guarded
returns-2 c =
    let s = step c.before in
    step_counted _ _ _ _ s.unpack-item.ensures s.in-Step.is (sym c.if-guarded.true ∙ c.guarded.ensures)

returns-3 : tie.Need-returns-else-guarded
returns-3 c =
    let s = step c.before in
    step_counted _ _ _ _ s.unpack-item.ensures s.in-Step.is (sym c.if-guarded.false ∙ c.guarded.ensures)

pub one_guard_spec : {M : Type 1} → statement M
one_guard_spec = tie.close (tie.spec unpack-requires enum-known-item returns guarded-requires returns-2 returns-3)
