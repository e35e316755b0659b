-- `marks::mark` meets its contract: where another byte stands than the mark starts with, it does not; else the token that was taken is the mark or not. Assumes nothing.
use borrow.Author.Rules.{rules}
use mathlib.Core.Path.{◌≡◌}
use Rattle.token.specs.declared.Token.TheVariants.{Mark}
use Rattle.marks.proofs.Lexed.{other_here, looks_there, looks_other}
use Rattle.marks.proofs.mark.Goals as goal

pub returns-then-other_byte : goal.returns-then-other_byte
returns-then-other_byte c = other_here _ _ _ _ c.first_byte.ensures (c.other_byte.ensures c.if-other_byte.true)

pub returns-then-eq : goal.returns-then-eq
returns-then-eq c =
    let e : c.take-place.result.token ≡ Mark c.args.wanted = search rules in
    looks_there _ _ _ c.take-place.ensures _ e

pub returns-else-eq : goal.returns-else-eq
returns-else-eq c =
    let n : c.take-place.result.token ≡ Mark c.args.wanted → ⊥ = search rules in
    looks_other _ _ _ c.take-place.ensures _ n
