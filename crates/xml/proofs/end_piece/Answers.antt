-- `xml::end_piece` meets its contract: the tag is read, or the text is refused. Assumes nothing.
use native.Mathlib.Omega.{arith}
use mathlib.Core.Path.{refl, subst}
use Rattle.std.specs.Prelude.{◌+◌}
use Rattle.std.proofs.lemmas.Result.{err_from_is_err_and}
use Rattle.end_tags.specs.Renaming.{Ends}
use Rattle.xml.proofs.Taking.{takes_end, end_refused}
use Rattle.xml.proofs.end_piece.Goals as goal

pub returns-in_err-next : goal.returns-in_err-next
returns-in_err-next c =
    let p = err_from_is_err_and c.from_residual.result c.from_residual.ensures.1 in
    rw (p.1, p.2)
    (end_refused _ _ _ (omega arith) c.requires.1 c.requires.4 c.requires.0 c.requires.2 _ refl _ (subst (Ends c.args.text.now (c.args.at + 2) c.args.inner) c.in_err-next.was c.end_tag.ensures))

pub returns : goal.returns
returns c = takes_end _ _ _ (omega arith) c.requires.1 c.requires.4 c.requires.0 c.requires.2 _ refl _ (subst (Ends c.args.text.now (c.args.at + 2) c.args.inner) c.in_ok-next.was c.end_tag.ensures)
