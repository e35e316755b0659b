-- `lines::put_result` meets its contract: the text, the words and the numbers one after the other. Assumes nothing.
use native.Mathlib.Omega.{arith}
use Rattle.pen.proofs.Putting.{puts_both}
use borrow.Author.Rules.{rules}
use Rattle.lines.proofs.put_result.Statement.{statement}
use Rattle.lines.proofs.put_result.Tie as tie

put-requires : tie.Need-put-ended-requires
put-requires c κs = search rules

put-requires-2 : tie.Need-put-begun-requires
put-requires-2 c κs = search rules

put-decimal-requires : tie.Need-put_decimal-sized-requires
put-decimal-requires c κs = search rules

put-requires-3 : tie.Need-put-parted-requires
put-requires-3 c κs = search rules

put-decimal-requires-2 : tie.Need-put_decimal-nested-requires
put-decimal-requires-2 c κs = search rules

put-requires-4 : tie.Need-put-requires
put-requires-4 c κs = search rules

same_length : tie.Need-shape_of-out
same_length c = search rules

returns : tie.Need-returns
returns c =
    let ended = c in
    let nested = ended in
    let parted = nested in
    let sized = parted in
    let begun = sized in
    let written = begun in
    record {
      puts = puts_both (puts_both (puts_both (puts_both (puts_both written.put-ended.ensures begun.put-begun.ensures) sized.put_decimal-sized.ensures.0) parted.put-parted.ensures) nested.put_decimal-nested.ensures.0) ended.put.ensures;
      few =
          omega (
            arith,
            written.put-ended.ensures.moved,
            begun.put-begun.ensures.moved,
            sized.put_decimal-sized.ensures.1,
            parted.put-parted.ensures.moved,
            nested.put_decimal-nested.ensures.1,
            ended.put.ensures.moved,
            written.requires,
          );
    }

pub put_result_spec : {M : Type 1} → statement M
put_result_spec =
    tie.close
    (tie.spec
    put-requires
    put-requires-2
    put-decimal-requires
    put-requires-3
    put-decimal-requires-2
    put-requires-4
    same_length
    returns)
