-- `may_hide` meets its contract: what `guarded` says, or self behind a loose node. Assumes nothing.
use mathlib.Core.Path.{ap}
use mathlib.Core.Bool.{◌||◌, ◌&&◌}
use lib.Dec.{eqb}
use borrow.Author.Rules.{rules}
use Rattle.lean_marks.proofs.may_hide.Statement.{statement}
use Rattle.lean_marks.proofs.may_hide.Tie as tie
use Rattle.lean_marks.proofs.may_hide.Reads as reads
use Rattle.lean_marks.proofs.may_hide.Lts as lts
use Rattle.item.proofs.guarded.Reads as guarded-reads

guarded-requires : tie.Need-guarded-requires
guarded-requires c κs = search rules

returns : tie.Need-returns
returns c = let a = c.args in ap (λ b. b || (eqb a.axis 0 && a.loose)) c.guarded.ensures

pub may_hide_spec : {M : Type 1} → statement M
may_hide_spec = tie.close (tie.spec guarded-requires returns)
