-- `read_paths::finished` meets its contract: the token that was taken is the end of the text or not. Assumes nothing.
use borrow.Author.Rules.{rules}
use mathlib.Core.Path.{◌≡◌, refl, ap}
use Rattle.paper.specs.declared.Refusal.TheVariants.{NoQuery}
use Rattle.token.specs.declared.Token.TheVariants.{Finish}
use Rattle.marks.proofs.Lexed.{taken_at, is_finish, no_finish}
use Rattle.read_paths.proofs.finished.Goals as goal

pub returns-then-eq-clause-finishes : goal.returns-then-eq-clause-finishes
returns-then-eq-clause-finishes c =
    let e : c.take-place.result.token ≡ Finish = search rules in
    (refl, is_finish _ _ _ c.take-place.ensures e)

pub returns-else-eq-clause-finishes : goal.returns-else-eq-clause-finishes
returns-else-eq-clause-finishes c =
    let n : c.take-place.result.token ≡ Finish → ⊥ = search rules in
    let t = c.take-place.ensures in
    (no_finish _ _ _ t n, ap NoQuery (taken_at _ _ _ t))
