-- What the functions that search and call each other keep.
-- A path's search: the answer of what is left to find is that of the whole (`State`); its measure is how many moves are left (`worth`).
-- The measure of a call is the number of items left, an expression's after the operators that it begins with, then the order predicates, expression, operand, path, seek.
use Rattle.std.proofs.Common.{length, take, drop, ◌+◌, ◌-◌, ◌*◌}
use Rattle.paper.specs.Document.{table_of}
use Rattle.shape.specs.Walks.{operators}
use Rattle.search.proofs.Running.{Turn}
use Rattle.search.proofs.Rows.{Owed}
use Rattle.search.proofs.Searching.{worth}
use Rattle.search.proofs.Paths.{State}
use Rattle.search.proofs.Seeking.{Past}
use Rattle.search.proofs.+expression_operand_path_predicates_seek.Given as goal

abbrev pub decreases-expression : goal.decreases-expression
decreases-expression l = (length l.items.now - l.at - operators (drop l.at l.items.now)) * 5 + 3

abbrev pub decreases-operand : goal.decreases-operand
decreases-operand l = (length l.items.now - l.at) * 5 + 2

abbrev pub decreases-path : goal.decreases-path
decreases-path l = (length l.items.now - l.at) * 5 + 1

abbrev pub decreases-predicates : goal.decreases-predicates
decreases-predicates l = (length l.items.now - l.at) * 5 + 4

abbrev pub decreases-seek : goal.decreases-seek
decreases-seek l = (length l.items.now - l.place) * 5

abbrev pub invariant-expression-loop-ands : goal.invariant-expression-loop-ands
invariant-expression-loop-ands l = Turn (table_of l.parent l.kind) l.given l.node l.depth l.items l.at l.place l.ands l.ors l.any l.all

abbrev pub decreases-expression-loop-ands : goal.decreases-expression-loop-ands
decreases-expression-loop-ands l = length l.items - l.place

abbrev pub invariant-path-loop-k : goal.invariant-path-loop-k
invariant-path-loop-k l = State (table_of l.parent l.kind) l.given l.items l.at l.depth l.count l.node l.wanted (take l.k l.stand) l.k l.place l.bound

abbrev pub decreases-path-loop-k : goal.decreases-path-loop-k
decreases-path-loop-k l = worth (length l.parent) l.count (take l.k l.stand) l.bound

abbrev pub invariant-predicates-loop : goal.invariant-predicates-loop
invariant-predicates-loop l = Owed (table_of l.parent l.kind) l.given l.node l.items l.at l.depth l.count l.place (l.count - l.counter)

abbrev pub invariant-seek-loop-node : goal.invariant-seek-loop-node
invariant-seek-loop-node l = Past (table_of l.parent l.kind) l.given l.items l.place l.depth l.from l.bound l.below

abbrev pub decreases-seek-loop-node : goal.decreases-seek-loop-node
decreases-seek-loop-node l = l.below
