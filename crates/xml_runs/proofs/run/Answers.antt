-- The run begins, goes on with ordinary bytes and a character, and ends before a `<`, or the text is refused. Assumes nothing.
use native.Mathlib.Omega.{arith}
use lib.ListN.{get_or}
use mathlib.Core.Path.{subst}
use Rattle.std.proofs.lemmas.Result.{err_from_is_err_and}
use Rattle.paper.specs.Xml.{run}
use Rattle.xml_runs.specs.Runs.{Crosses, squares_after}
use Rattle.xml_runs.proofs.Running.{run_begins, run_ends_lem, run_cut, run_more, run_refused}
use Rattle.xml_runs.proofs.Passing.{ordinary_past}
use Rattle.xml_runs.proofs.run.Goals as goal

pub loop-at-init : goal.loop-at-init
loop-at-init c = run_begins _ _ c.requires.0 c.requires.1

pub returns-then-text-past : goal.returns-then-text-past
returns-then-text-past c = run_cut _ _ _ _ (omega arith) (ordinary_past _ _ _ _ _ _ c.ordinary_end-past.ensures c.squares_past-squares.ensures c.loop-at.invariant)

pub returns-then-b-eq60 : goal.returns-then-b-eq60
returns-then-b-eq60 c = run_ends_lem _ _ _ _ c.requires.1 (omega arith) c.if-b-eq60.true (ordinary_past _ _ _ _ _ _ c.ordinary_end-past.ensures c.squares_past-squares.ensures c.loop-at.invariant)

pub returns-in_err-at : goal.returns-in_err-at
returns-in_err-at c =
    let text = c.args.text.now in
    let past = c.ordinary_end-past.result in
    let k = c.squares_past-squares.result in
    let p = err_from_is_err_and c.from_residual.result c.from_residual.ensures.1 in
    rw (p.1, p.2)
    (run_refused text c.args.begin past k (λ b. run b (squares_after (get_or text past 0) k)) _ (ordinary_past _ _ _ _ _ _ c.ordinary_end-past.ensures c.squares_past-squares.ensures c.loop-at.invariant)
    (subst (Crosses text past (λ b. run b k) (λ b. run b (squares_after (get_or text past 0) k))) c.in_err-at.was c.character.ensures))

pub loop-at-preserved : goal.loop-at-preserved
loop-at-preserved c =
    let text = c.args.text.now in
    let past = c.ordinary_end-past.result in
    let k = c.squares_past-squares.result in
    run_more _ _ _ _ _ _ (ordinary_past _ _ _ _ _ _ c.ordinary_end-past.ensures c.squares_past-squares.ensures c.loop-at.invariant)
    (rw c.squares_after-squares.ensures (subst (Crosses text past (λ b. run b k) (λ b. run b (squares_after (get_or text past 0) k))) c.in_ok-at.was c.character.ensures))
