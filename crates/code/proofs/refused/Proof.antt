-- `refused` meets its contract: below 2^32 a place is its own remainder. Assumes nothing.
use native.Mathlib.Omega.{arith}
use borrow.Author.Rules.{rules}
use Rattle.code.proofs.refused.Statement.{statement}
use Rattle.code.proofs.refused.Tie as tie

mul-result : tie.Need-overflow_mul-result
mul-result c = search rules

add-result : tie.Need-overflow_add-result
add-result c = search rules

returns : tie.Need-returns
returns c = (λ small. omega arith, omega arith)

pub refused_spec : {M : Type 1} → statement M
refused_spec = tie.close (tie.spec mul-result add-result returns)
