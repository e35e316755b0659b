-- `unknown_names::unknown` meets its contract. Assumes nothing.
use mathlib.Core.Path.{◌≡◌, ap}
use mathlib.Core.Option.{none}
use borrow.Author.Rules.{rules}
use Rattle.paper.specs.Items.{test_number, step_at}
use Rattle.paper.proofs.Fields.{step_found}
use Rattle.item.proofs.Saying.{said, not_step}
use Rattle.unknown_names.proofs.Unknowns.{unknown-test}
use Rattle.unknown_names.proofs.unknown.Statement.{statement}
use Rattle.unknown_names.proofs.unknown.Tie as tie

unpack-requires : tie.Need-unpack-item-requires
unpack-requires c κs = search rules

enum-known-item : tie.Need-enum_known-item
enum-known-item c = search rules

returns : tie.Need-returns-in_default
returns c =
    let a = c.args in
    let u = c.unpack-item in
    let e : step_at a.w ≡ none = not_step a.w u.result (said a.w u.result u.ensures) c.in_default.in_default-own.keys2 in
    rw e

cast-test : tie.Need-overflow_cast-test
cast-test c = search rules

cast-result : tie.Need-overflow_cast-result
cast-result c = search rules

cast-result-2 : tie.Need-overflow_cast-result-2
cast-result-2 c = search rules

add-result : tie.Need-overflow_add-result
add-result c = search rules

returns-2 : tie.Need-returns
returns-2 c =
    let a = c.args in
    let u = c.unpack-item in
    let s = rw c.in-Step.is at (said a.w u.result u.ensures) in
    let h = s.0 in
    let same : c.in-Step.step.test ≡ test_number h.test = ap (λ x. x.test) s.2 in
    rw (same, s.1) (unknown-test a.count h.test (step_found a.w h s.1).1)

pub unknown_spec : {M : Type 1} → statement M
unknown_spec =
    tie.close
    (tie.spec unpack-requires enum-known-item returns cast-test cast-result cast-result-2 add-result returns-2)
