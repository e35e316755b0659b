-- `sheet::put_names` meets its contract: one line more, in reach of one name more. Assumes nothing.
use Prim.Native.Nat.{◌<◌}
use native.Mathlib.Numerals.{add-one}
use native.Mathlib.Omega.{arith}
use lib.ListN.{length}
use Rattle.paper.specs.Names.{names_of}
use Rattle.pen.proofs.Putting.{puts_both, puts_as}
use Rattle.sheet.specs.Sheets.{at}
use Rattle.sheet.proofs.Growing.{first_more, reach_more, reach_most}
use Rattle.sheet.proofs.put_names.Goals as goal

pub put_line-pen-requires : goal.put_line-pen-requires
put_line-pen-requires c =
    let l = c.loop-v in
    let counted = c.count-v-end.ensures in
    (omega (arith, c.loop-v-test.true, counted.counted), omega (arith, l.invariant.1, reach_most c.args.names.now l.v, c.requires, c.loop-v-test.true, counted.few))

pub loop-v-preserved : goal.loop-v-preserved
loop-v-preserved c =
    let l = c.loop-v in
    let names = names_of c.args.names.now in
    let inside : l.v < length names = omega (arith, c.loop-v-test.true, c.count-v-end.ensures.counted) in (
      rw (add-one l.v) (puts_as (first_more (at c.args.all.now) (at c.args.kept.now) (at c.args.hidden.now) names l.v inside) (puts_both l.invariant.0 c.put_line-pen.ensures.puts)),
      reach_more names l.v l.pen c.put_line-pen.result inside l.invariant.1 c.put_line-pen.ensures.upper_bound,
    )

pub returns-clause-upper_bound : goal.returns-clause-upper_bound
returns-clause-upper_bound c =
    let l = c.loop-v in
    omega (arith, l.invariant.1, reach_most c.args.names.now l.v, c.requires, l.auto.v-end, c.count-v-end.ensures.few)
