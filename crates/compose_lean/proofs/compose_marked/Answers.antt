-- `compose_lean::compose_marked` meets its contract: the copy is the marked query, so it says what the lean decision says, and the composition by that is the lean one. Assumes nothing.
use Rattle.paper.specs.Lean.{compose_lean_answer, compose_lean_out}
use Rattle.compose_lean.proofs.Saying.{copy_marked, marked_says, marked_nests}
use Rattle.compose_lean.proofs.compose_marked.Goals as goal

pub compose_by-requires : goal.compose_by-requires
compose_by-requires c =
    let q = c.requires in
    let m = copy_marked c.args.outer.now c.mark_query.new.marks _ c.args.outer_nesting q.0 c.mark_query.ensures in
    ((marked_says _ _ _ m, marked_nests _ _ _ m c.guards_of-guards.result c.guards_of-guards.ensures), q.1, q.2, q.3)

pub returns : goal.returns
unfolding compose_lean_answer compose_lean_out marked_says
returns c =
    let m = copy_marked c.args.outer.now c.mark_query.new.marks _ c.args.outer_nesting c.requires.0 c.mark_query.ensures in
    c.compose_by.ensures (marked_says _ _ _ m) (marked_nests _ _ _ m c.guards_of-guards.result c.guards_of-guards.ensures)
