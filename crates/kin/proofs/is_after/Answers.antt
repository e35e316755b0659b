-- `kin::is_after`: the column falls up to the node that is climbed from.
use Rattle.std.proofs.Common.{arith}
use Rattle.kin.proofs.Climbing.{falls_up}
use Rattle.kin.proofs.is_after.Goals as goal

pub is_over-requires : goal.is_over-requires
is_over-requires c = falls_up _ _ c.requires.0 (omega arith)
