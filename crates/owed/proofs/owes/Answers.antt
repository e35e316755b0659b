-- `owed::owes` meets its contract, case by case of the unpacked item. Assumes nothing.
use mathlib.Core.Logic.{⊎_elim}
use Rattle.item.specs.declared.Item.TheVariants.{Path, Step as StepItem, And, Or, Not, Bad}
use Rattle.owed.proofs.Passing.{owes_as}
use Rattle.owed.proofs.owes.Goals as goal

pub returns-in-Path : goal.returns-in-Path
returns-in-Path c = owes_as c.args.w c.unpack.result (Path c.in-Path.count) c.unpack.ensures c.in-Path.is

pub returns-in-Step : goal.returns-in-Step
returns-in-Step c = owes_as c.args.w c.unpack.result (StepItem c.in-Step.step) c.unpack.ensures c.in-Step.is

pub returns-in-And : goal.returns-in-And
returns-in-And c = ⊎_elim (owes_as c.args.w c.unpack.result And c.unpack.ensures) (owes_as c.args.w c.unpack.result Or c.unpack.ensures) c.in-And.is

pub returns-in-Not : goal.returns-in-Not
returns-in-Not c = owes_as c.args.w c.unpack.result Not c.unpack.ensures c.in-Not.is

pub returns-in-Bad : goal.returns-in-Bad
returns-in-Bad c = owes_as c.args.w c.unpack.result Bad c.unpack.ensures c.in-Bad.is
