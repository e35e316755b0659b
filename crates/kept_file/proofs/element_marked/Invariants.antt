-- Among the nodes before i an element is marked exactly if one was found.
use Rattle.kept_file.proofs.Elements.{Looked}
use Rattle.kept_file.proofs.element_marked.Given as goal

abbrev pub invariant-loop-i : goal.invariant-loop-i
invariant-loop-i l = Looked l.kind l.marks l.i l.found
