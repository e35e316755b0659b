-- `owed::skip` meets its contract: where nothing is owed, nothing is left. Assumes nothing.
use native.Mathlib.Omega.{arith}
use Rattle.owed.proofs.Passing.{eaten_none}
use Rattle.owed.proofs.skip.Goals as goal

pub returns-then-owed-eq0 : goal.returns-then-owed-eq0
returns-then-owed-eq0 c =
    let l = c.loop-place in
    (omega (arith, eaten_none c.args.items.now l.place l.owed c.if-owed-eq0.true), omega arith)
