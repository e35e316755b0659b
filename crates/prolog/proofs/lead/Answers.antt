-- Past the declaration, at a byte order mark, or past white space alone. Assumes nothing.
use mathlib.Core.Path.{sym, ◌∙◌}
use mathlib.Core.List.{[], ◌∷◌}
use Rattle.std.proofs.lemmas.Result.{err_from_is_err_and}
use Rattle.prolog.proofs.Beginnings.{starts_same}
use Rattle.prolog.proofs.Landing.{version_inside, lead_stuck, lead_declared, lead_mark, lead_plain}
use Rattle.prolog.proofs.lead.Goals as goal

pub version-requires : goal.version-requires
version-requires c = version_inside c.args.text.now (sym c.declared.ensures ∙ c.if-declared.true) c.skip.result c.skip.ensures

pub returns-in_err-end : goal.returns-in_err-end
returns-in_err-end c =
    let p = err_from_is_err_and c.from_residual.result c.from_residual.ensures.1 in
    rw (p.1, p.2) (lead_stuck c.args.text.now (sym c.declared.ensures ∙ c.if-declared.true) c.skip.result c.skip.ensures _ c.in_err-end.ensures)

pub returns-then-declared : goal.returns-then-declared
returns-then-declared c = lead_declared c.args.text.now (sym c.declared.ensures ∙ c.if-declared.true) c.skip.result c.skip.ensures c.in_ok-end.end c.land.result c.in_ok-end.ensures c.land.ensures

pub returns-then-starts_with : goal.returns-then-starts_with
returns-then-starts_with c = lead_mark c.args.text.now (sym (starts_same (239 ∷ 187 ∷ 191 ∷ []) c.args.text.now) ∙ sym c.starts_with.ensures.value ∙ c.if-starts_with.true)

pub returns : goal.returns
returns c =
    lead_plain c.args.text.now c.land-2.result (sym c.declared.ensures ∙ c.if-declared.false) (sym (starts_same (239 ∷ 187 ∷ 191 ∷ []) c.args.text.now) ∙ sym c.starts_with.ensures.value ∙ c.if-starts_with.false) c.land-2.ensures
