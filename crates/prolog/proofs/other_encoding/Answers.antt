-- A letter stands there, so the name goes on as a name of the paper does. Assumes nothing.
use native.Mathlib.Omega.{arith}
use mathlib.Core.Bool.{Bool, not, ◌&&◌}
use mathlib.Core.List.{map}
use mathlib.Core.Path.{refl, sym, ◌∙◌, ap, ap₂}
use Rattle.std.specs.Prelude.{◌-◌, take, drop}
use Rattle.paper.specs.Tools.{ascii, same}
use Rattle.paper.specs.Xml.{lower}
use Rattle.prolog.proofs.Beginnings.{other_is, named_same}
use Rattle.prolog.proofs.other_encoding.Goals as goal

pub returns-then-not-stands : goal.returns-then-not-stands
returns-then-not-stands c =
    let text = c.args.text.now in
    let at = c.args.at in
    let end = c.run_end-end.result in
    let letter = sym c.is_ascii_alphabetic.ensures.value ∙ c.if-not-is_ascii_alphabetic.false in
    sym (other_is text at c.args.closing (omega arith) end c.run_end-end.ensures letter ∙ ap (λ (t : Bool). t && not (same (map lower (take (end - at) (drop at text))) (ascii "utf-8"))) (sym c.stands.ensures ∙ c.if-not-stands.true))

pub returns : goal.returns
returns c =
    let text = c.args.text.now in
    let at = c.args.at in
    let end = c.run_end-end.result in
    let letter = sym c.is_ascii_alphabetic.ensures.value ∙ c.if-not-is_ascii_alphabetic.false in
    let utf-8 = c.eq_ignore_ascii_case.ensures.test in
    let named = named_same (take (end - at) (drop at text)) (ascii "utf-8") c.eq_ignore_ascii_case.result utf-8.0 utf-8.1 refl in
    sym (other_is text at c.args.closing (omega arith) end c.run_end-end.ensures letter ∙ ap₂ (λ (t u : Bool). t && not u) (sym c.stands.ensures ∙ c.if-not-stands.false) (sym named))
