-- `candidates::candidate`: self and parent lead to one node; what is passed from the bound down is led to by nothing.
use Rattle.std.proofs.Common.{[], arith}
use Rattle.paper.specs.Document.{table_of}
use Rattle.paper.proofs.Trees.{parent_le}
use Rattle.candidates.proofs.Leading.{self_alone, parent_alone}
use Rattle.candidates.proofs.candidate.Goals as goal

pub lone-requires-clause-k_value : goal.lone-requires-clause-k_value
lone-requires-clause-k_value c = let d = c.args in self_alone (table_of d.parent.now d.kind.now) d.given.now c.if-axis-eq-SELF.true d.i

pub lone-requires-then-axis-eq-PARENT-clause-i_in_bounds : goal.lone-requires-then-axis-eq-PARENT-clause-i_in_bounds
lone-requires-then-axis-eq-PARENT-clause-i_in_bounds c =
    let d = c.args in
    let low = parent_le (table_of d.parent.now []) (c.requires.ready.tree []) d.i c.requires.i_in_bounds.0 in
    (c.requires.i_in_bounds.0, omega (arith, c.from.ensures, low, c.requires.i_in_bounds.0), c.requires.i_in_bounds.1)

pub lone-requires-then-axis-eq-PARENT-clause-k_value : goal.lone-requires-then-axis-eq-PARENT-clause-k_value
lone-requires-then-axis-eq-PARENT-clause-k_value c = let d = c.args in parent_alone (table_of d.parent.now d.kind.now) d.given.now c.if-axis-eq-PARENT.true d.i _ c.from.ensures
