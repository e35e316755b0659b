-- The place of the one element, the element, and what follows it.
use Rattle.std.proofs.Common.{rules}
use Rattle.read_listed.proofs.Moved.{lead_refused}
use Rattle.read_listed.proofs.Judged.{ends_wanted, ends_refused}
use Rattle.read_listed.proofs.judge.Goals as goal

pub returns-in_err-at : goal.returns-in_err-at
returns-in_err-at c = search (rules, lead_refused)

pub returns-in_err-finish : goal.returns-in_err-finish
returns-in_err-finish c = search (rules, ends_refused)

pub returns : goal.returns
returns c = search (rules, ends_wanted)
