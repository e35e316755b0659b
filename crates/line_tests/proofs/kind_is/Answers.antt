-- The name's number is small. Assumes nothing.
use native.Mathlib.Omega.{arith}
use mathlib.Core.Path.{ap}
use Rattle.paper.specs.Told.{found}
use Rattle.line_tests.proofs.kind_is.Goals as goal

pub overflow_add-from : goal.overflow_add-from
overflow_add-from c = omega (arith, c.requires _ (ap found c.in-Some.is))
