-- The letters that were looked at together have come again, and then one more; or the text is refused. Assumes nothing.
use mathlib.Core.Path.{refl, sym, ◌∙◌, subst}
use Rattle.std.specs.Prelude.{[], ◌∷◌, eqb, get_or}
use Rattle.std.proofs.lemmas.Result.{err_from_is_err_and}
use Rattle.xml_bytes.specs.Promised.{Reads}
use Rattle.end_tags.proofs.Ending.{letters_again, renaming_begins, renaming_more, renaming_refused}
use Rattle.end_tags.proofs.same_name.Goals as goal

pub loop-place-init : goal.loop-place-init
loop-place-init c = let again = c.same_letters-passed.ensures in letters_again _ _ _ _ _ again.0 again.1 (renaming_begins _ _ _ _ c.requires.0 c.requires.1 refl)

pub returns-in_err-place : goal.returns-in_err-place
returns-in_err-place c =
    let text = c.args.text.now in
    let p = err_from_is_err_and c.from_residual.result c.from_residual.ensures.1 in
    rw (p.1, p.2)
    (renaming_refused _ _ _ _ _ c.loop-place.invariant (sym c.name_part.ensures ∙ c.loop-place-test.true) _
    (subst (Reads text c.loop-place.place (eqb (get_or text c.loop-place.letter 0) ∷ [])) c.in_err-place.was c.byte.ensures))

pub loop-place-preserved : goal.loop-place-preserved
loop-place-preserved c =
    let text = c.args.text.now in
    renaming_more _ _ _ _ _ c.loop-place.invariant (sym c.name_part.ensures ∙ c.loop-place-test.true) _
    (subst (Reads text c.loop-place.place (eqb (get_or text c.loop-place.letter 0) ∷ [])) c.in_ok-place.was c.byte.ensures)
