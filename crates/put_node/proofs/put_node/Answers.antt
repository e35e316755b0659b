-- End tags, then the node's own.
use Rattle.put_node.proofs.Placing.{node_put}
use Rattle.put_node.proofs.put_node.Goals as goal

pub returns : goal.returns
returns c bytes o =
    let says = c.line-line.ensures in
    node_put c.args.kept.now c.args.walk.squares c.args.walk.top c.args.node says (c.close-closed.ensures bytes (rw (← says.up_is) at o)) c.past_tags-squares.ensures
    (rw c.text.ensures at c.put_piece-point.ensures) c.inner_by.ensures
