-- The place of the one element, the element, and what follows it.
use Rattle.std.proofs.Common.{rules}
use Rattle.match_lines.proofs.Matching.{lead_stops, ends_wanted, ends_refused}
use Rattle.match_lines.proofs.compare.Goals as goal

pub returns-in_err-at : goal.returns-in_err-at
returns-in_err-at c = let refused = lead_stops _ c.args.names.now c.args.lent.now _ c.in_err-at.ensures in search rules

pub returns-in_err-finish : goal.returns-in_err-finish
returns-in_err-finish c = search (rules, ends_refused)

pub returns : goal.returns
returns c = search (rules, ends_wanted)
