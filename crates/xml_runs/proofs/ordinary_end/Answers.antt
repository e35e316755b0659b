-- A block more is passed, or the part of it that is ordinary. Assumes nothing.
use native.Mathlib.Omega.{arith}
use Rattle.xml_runs.proofs.Passing.{ends_more}
use Rattle.xml_runs.proofs.ordinary_end.Goals as goal

pub returns-then-count-from : goal.returns-then-count-from
returns-then-count-from c = ends_more _ _ _ _ (omega arith) c.ordinary_block-count.ensures.0 c.loop-at.invariant c.ordinary_block-count.ensures.1

pub loop-at-preserved : goal.loop-at-preserved
loop-at-preserved c = ends_more _ _ _ _ (omega arith) c.ordinary_block-count.ensures.0 c.loop-at.invariant c.ordinary_block-count.ensures.1
