-- `candidates::step_reaches`: the node is marked, meets the test, and is led to.
use Rattle.std.proofs.Common.{sym, ◌∙◌}
use Rattle.paper.specs.Document.{table_of}
use Rattle.candidates.proofs.Leading.{not_marked, not_met, led}
use Rattle.candidates.proofs.step_reaches.Goals as goal
use Rattle.candidates.proofs.step_reaches.Goals.{then-marked, else-marked}
use mathlib.Core.Bool.{false≢true}
use borrow.Author.Tests.{eq-eqb, ne_eqb}

pub returns-then-test_met : goal.returns-then-test_met
returns-then-test_met c =
    let d = c.args in
    λ a x g e f.
    elim c.if-marked.branch [
      | then-marked w ↦ c.axis_leads.ensures d.kind.now a e ∙ led (table_of d.parent.now d.kind.now) d.given.now a x d.i d.j (eq-eqb _ 1 w.if-marked.true) (sym (w.test_met.ensures x g f) ∙ (sym w.value-is ∙ c.if-test_met.true))
      | else-marked w ↦ absurd (false≢true (sym (ne_eqb _ 1 w.if-marked.false) ∙ (sym w.value-is ∙ c.if-test_met.true)))
    ]

pub returns-else-test_met : goal.returns-else-test_met
returns-else-test_met c =
    let d = c.args in
    λ a x g e f.
    elim c.if-marked.branch [
      | then-marked w ↦ c.if-test_met.false ∙ sym (not_met (table_of d.parent.now d.kind.now) d.given.now a x d.i d.j (sym (w.test_met.ensures x g f) ∙ (sym w.value-is ∙ c.if-test_met.false)))
      | else-marked w ↦ c.if-test_met.false ∙ sym (not_marked (table_of d.parent.now d.kind.now) d.given.now a x d.i d.j (ne_eqb _ 1 w.if-marked.false))
    ]
