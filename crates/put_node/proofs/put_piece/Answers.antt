-- An element's start tag, or a text's bytes.
use Rattle.std.proofs.Common.{◌∙◌}
use Rattle.pen.proofs.Putting.{puts_as}
use Rattle.put_node.proofs.Placing.{text-piece, element_piece, text_squares, element_squares}
use Rattle.put_node.proofs.put_piece.Goals as goal

pub returns-then-line-ne1 : goal.returns-then-line-ne1
returns-then-line-ne1 c =
    let a = c.args in
    record {
      puts = puts_as (element_piece a.text.now a.line.kind a.line.begin a.line.end a.squares c.if-line-ne1.true) c.start_at-at.ensures;
      counts = element_squares a.text.now a.line.kind a.line.begin a.line.end a.squares c.if-line-ne1.true;
    }

pub returns : goal.returns
returns c =
    let a = c.args in
    record {
      puts = puts_as (text-piece a.text.now a.line.kind a.line.begin a.line.end a.squares c.if-line-ne1.false) c.put_text.ensures.puts;
      counts = c.put_text.ensures.counts ∙ text_squares a.text.now a.line.kind a.line.begin a.line.end a.squares c.if-line-ne1.false;
    }
