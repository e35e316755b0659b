-- Comparing stands between two pieces, and the text that is left falls.
use Rattle.std.proofs.Common.{◌-◌, length}
use Rattle.match_lines.specs.Compared.{Standing}
use Rattle.match_lines.proofs.match_inside.Given as goal

abbrev pub invariant-loop-so_far : goal.invariant-loop-so_far
invariant-loop-so_far l = Standing l.text l.names l.open l.lent l.so_far

abbrev pub decreases-loop-so_far : goal.decreases-loop-so_far
decreases-loop-so_far l = length l.text - l.so_far.at
