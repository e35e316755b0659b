-- A quote comes, or another byte does. Assumes nothing.
use native.Mathlib.Omega.{arith}
use mathlib.Core.Path.{refl}
use Rattle.std.specs.Prelude.{◌+◌}
use Rattle.prolog.proofs.Declaring.{quote_taken, quote_other}
use Rattle.prolog.proofs.quote.Goals as goal

pub returns-then-b : goal.returns-then-b
returns-then-b c = quote_taken c.args.text.now c.args.at (c.args.at + 1) (omega arith) c.if-b.true refl

pub returns-else-b : goal.returns-else-b
returns-else-b c = quote_other c.args.text.now c.args.at c.refuse.result (omega arith) c.if-b.false c.refuse.ensures
