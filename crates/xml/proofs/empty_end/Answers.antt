-- `xml::empty_end` meets its contract: the `>` is read, or the text is refused. Assumes nothing.
use mathlib.Core.Path.{subst}
use Rattle.std.specs.Prelude.{[], ◌∷◌, eqb}
use Rattle.std.proofs.lemmas.Result.{err_from_is_err_and}
use Rattle.xml_bytes.specs.Promised.{Reads}
use Rattle.xml.proofs.Tagging.{empty_read, empty_refused}
use Rattle.xml.proofs.empty_end.Goals as goal

pub returns-in_err-next : goal.returns-in_err-next
returns-in_err-next c =
    let p = err_from_is_err_and c.from_residual.result c.from_residual.ensures.1 in
    rw (p.1, p.2) (empty_refused _ _ _ _ c.requires.0 (subst (Reads c.args.text.now c.args.at (eqb 62 ∷ [])) c.in_err-next.was c.byte.ensures))

pub returns : goal.returns
returns c = empty_read _ _ _ _ c.requires.1 c.requires.0 (subst (Reads c.args.text.now c.args.at (eqb 62 ∷ [])) c.in_ok-next.was c.byte.ensures)
