-- `good_names::name_part` meets its contract: a byte that starts a name goes on with it; of another the tests are those of the definition. Assumes nothing.
use mathlib.Core.Path.{◌≡◌, sym, ◌∙◌, ap}
use mathlib.Core.Bool.{true, false, ◌&&◌, ◌||◌}
use borrow.Author.Rules.{rules}
use lib.Dec.{eqb, leb}
use Rattle.paper.specs.Names.{name_start}
use Rattle.good_names.proofs.name_part.Statement.{statement}
use Rattle.good_names.proofs.name_part.Tie as tie

name-start-requires : tie.Need-name_start-requires
name-start-requires c κs = search rules

returns : tie.Need-returns-then-name_start
returns c =
    let b = c.args.b in
    let starts : name_start b ≡ true = sym c.name_start.ensures ∙ c.if-name_start.true in
    sym (ap (λ x. x || leb 48 b && leb b 57 || eqb b 46 || eqb b 45) starts)

returns-2 : tie.Need-returns
returns-2 c =
    let b = c.args.b in
    let starts : name_start b ≡ false = sym c.name_start.ensures ∙ c.if-name_start.false in
    sym (ap (λ x. x || leb 48 b && leb b 57 || eqb b 46 || eqb b 45) starts)

pub name_part_spec : {M : Type 1} → statement M
name_part_spec = tie.close (tie.spec name-start-requires returns returns-2)
