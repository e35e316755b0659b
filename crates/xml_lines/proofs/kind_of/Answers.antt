-- The name's number is small. Assumes nothing.
use native.Mathlib.Omega.{arith}
use mathlib.Core.Path.{ap}
use Rattle.paper.specs.Told.{found}
use Rattle.xml_lines.proofs.kind_of.Goals as goal

pub narrow-requires : goal.narrow-requires
narrow-requires c = omega (arith, c.requires _ (ap found c.in-Some.is))

pub overflow_add-result : goal.overflow_add-result
overflow_add-result c = omega (arith, c.requires _ (ap found c.in-Some.is))
