-- `search::stood`: the last of the first k nodes is the one before k.
use Rattle.std.proofs.Common.{arith, sym, ◌∙◌}
use Rattle.search.proofs.Stands.{last_stood}
use Rattle.search.proofs.stood.Goals as goal

pub returns-else-k-eq0 : goal.returns-else-k-eq0
returns-else-k-eq0 c = c.from.ensures ∙ sym (last_stood c.args.node c.args.stand.now c.args.k (omega (arith, c.if-k-eq0.false)) c.requires)
