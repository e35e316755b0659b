-- `sheet::put_counts` meets its contract: spaces and numbers one after the other. Assumes nothing.
use native.Mathlib.Omega.{arith}
use Rattle.pen.proofs.Putting.{puts_both}
use borrow.Author.Rules.{rules}
use Rattle.sheet.proofs.put_counts.Statement.{statement}
use Rattle.sheet.proofs.put_counts.Tie as tie

put-requires : tie.Need-put-apart-requires
put-requires c κs = search rules

put-decimal-requires : tie.Need-put_decimal-all_told-requires
put-decimal-requires c κs = search rules

put-requires-2 : tie.Need-put-apart_again-requires
put-requires-2 c κs = search rules

put-decimal-requires-2 : tie.Need-put_decimal-kept_told-requires
put-decimal-requires-2 c κs = search rules

put-requires-3 : tie.Need-put-last-requires
put-requires-3 c κs = search rules

put-decimal-requires-3 : tie.Need-put_decimal-hidden_told-requires
put-decimal-requires-3 c κs = search rules

put-requires-4 : tie.Need-put-requires
put-requires-4 c κs = search rules

same_length : tie.Need-shape_of-out
same_length c = search rules

returns : tie.Need-returns
returns c =
    let ended = c in
    let third = ended in
    let apart = third in
    let second = apart in
    let between = second in
    let first = between in
    let begun = first in (
      puts_both (puts_both (puts_both (puts_both (puts_both (puts_both begun.put-apart.ensures first.put_decimal-all_told.ensures.0) between.put-apart_again.ensures) second.put_decimal-kept_told.ensures.0) apart.put-last.ensures) third.put_decimal-hidden_told.ensures.0) ended.put.ensures,
      omega (
        arith,
        begun.put-apart.ensures.moved,
        first.put_decimal-all_told.ensures.1,
        between.put-apart_again.ensures.moved,
        second.put_decimal-kept_told.ensures.1,
        apart.put-last.ensures.moved,
        third.put_decimal-hidden_told.ensures.1,
        ended.put.ensures.moved,
      ),
    )

pub put_counts_spec : {M : Type 1} → statement M
put_counts_spec =
    tie.close
    (tie.spec
    put-requires
    put-decimal-requires
    put-requires-2
    put-decimal-requires-2
    put-requires-3
    put-decimal-requires-3
    put-requires-4
    same_length
    returns)
