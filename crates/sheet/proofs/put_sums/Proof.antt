-- `sheet::put_sums` meets its contract: the word, then the three sums. Assumes nothing.
use native.Mathlib.Omega.{arith}
use Rattle.pen.proofs.Putting.{puts_both}
use borrow.Author.Rules.{rules}
use Rattle.sheet.proofs.put_sums.Statement.{statement}
use Rattle.sheet.proofs.put_sums.Tie as tie

put-requires : tie.Need-put-begun-requires
put-requires c κs = search rules

sum-requires : tie.Need-sum-sum_all-requires
sum-requires c κs = search rules

sum-requires-2 : tie.Need-sum-sum_kept-requires
sum-requires-2 c κs = search rules

sum-requires-3 : tie.Need-sum-sum_hidden-requires
sum-requires-3 c κs = search rules

put-counts-requires : tie.Need-put_counts-requires
put-counts-requires c κs = search rules

same_length : tie.Need-shape_of-out
same_length c = search rules

returns : tie.Need-returns
returns c =
    let told = c in
    let hidden = told in
    let kept = hidden in
    let all = kept in
    let named = all in (
      rw (hidden.sum-sum_hidden.ensures, kept.sum-sum_kept.ensures, all.sum-sum_all.ensures) at (puts_both named.put-begun.ensures told.put_counts.ensures.0),
      omega (arith, named.put-begun.ensures.moved, told.put_counts.ensures.1),
    )

pub put_sums_spec : {M : Type 1} → statement M
put_sums_spec =
    tie.close
    (tie.spec
    put-requires
    sum-requires
    sum-requires-2
    sum-requires-3
    put-counts-requires
    same_length
    returns)
