-- A byte more is put, and there is room for it in the numbers.
use Rattle.std.proofs.Common.{arith}
use Rattle.put_text.proofs.Texts.{text_more, text_room}
use Rattle.put_text.proofs.put_text.Goals as goal

pub put_char-at-requires : goal.put_char-at-requires
put_char-at-requires c = let l = c.loop-b in omega (arith, text_room c.args.bytes.now l.b-index l.invariant (omega arith), c.requires)

pub loop-b-preserved : goal.loop-b-preserved
loop-b-preserved c = let l = c.loop-b in text_more c.args.bytes.now l.b-index l.invariant (omega arith) c.put_char-at.ensures c.squares_by-k.ensures
