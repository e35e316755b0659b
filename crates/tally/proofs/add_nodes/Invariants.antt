-- `tally::add_nodes`: the three columns have grown by the elements among the nodes passed.
use Rattle.tally.specs.Tallies.{NodesTold}
use Rattle.tally.proofs.add_nodes.Given as goal

abbrev pub invariant-loop-i : goal.invariant-loop-i
invariant-loop-i l = NodesTold l.i l.kind l.marks l.fn.all l.all l.fn.kept l.kept l.fn.hidden l.hidden
