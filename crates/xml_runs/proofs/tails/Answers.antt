-- A byte comes, and the bytes behind it are left; or the text is refused. Assumes nothing.
use native.Mathlib.Omega.{arith}
use mathlib.Core.List.{[], ◌∷◌}
use mathlib.Core.Path.{◌≡◌, ◌∙◌, ap, subst}
use Rattle.std.specs.Prelude.{Ok, Err, suc, ◌+◌, ◌-◌, drop}
use Rattle.std.proofs.lemmas.Result.{err_from_is_err_and}
use Rattle.paper.specs.Xml.{from}
use Rattle.xml_bytes.specs.Promised.{row_of, Reads, tailing}
use Rattle.xml_bytes.proofs.Rows.{passed_on, passed_stuck, reads_bounds}
use Rattle.xml_runs.proofs.tails.Goals as goal

pub returns-in_err-next : goal.returns-in_err-next
returns-in_err-next c =
    let text = c.args.text.now in
    let place = c.loop.next in
    let left = c.args.count - suc c.loop.counter in
    let one : c.args.count - c.loop.counter ≡ suc left = omega arith in
    let stuck : Reads text place (from 128 191 ∷ []) (Err c.in_err-next.field-0.0) = subst (Reads text place (from 128 191 ∷ [])) c.in_err-next.was c.within.ensures in
    let p = err_from_is_err_and c.from_residual.result c.from_residual.ensures.1 in
    rw (p.1, p.2) (passed_stuck text c.args.at (tailing c.args.count) place (from 128 191) (tailing left) _ (c.loop.invariant.passed ∙ ap (λ n. row_of place (tailing n) (drop place text)) one) stuck)

pub loop-preserved : goal.loop-preserved
loop-preserved c =
    let text = c.args.text.now in
    let place = c.loop.next in
    let left = c.args.count - suc c.loop.counter in
    let one : c.args.count - c.loop.counter ≡ suc left = omega arith in
    let rest : c.args.count - (c.loop.counter + 1) ≡ left = omega arith in
    let came : Reads text place (from 128 191 ∷ []) (Ok c.in_ok-next.next) = subst (Reads text place (from 128 191 ∷ [])) c.in_ok-next.was c.within.ensures in
    record {
      inside = (reads_bounds text place (from 128 191 ∷ []) _ c.loop.invariant.inside came).1;
      passed = rw rest (passed_on text c.args.at (tailing c.args.count) place _ (from 128 191) (tailing left) (c.loop.invariant.passed ∙ ap (λ n. row_of place (tailing n) (drop place text)) one) came);
    }
