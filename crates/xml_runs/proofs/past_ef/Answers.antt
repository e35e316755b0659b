-- `xml_runs::past_ef` meets its contract: after BF the last byte goes up to BD, after another byte any comes. Assumes nothing.
use native.Mathlib.Omega.{arith}
use borrow.Author.Tests.{ne_eqb}
use mathlib.Core.Bool.{Bool, true, false, cond}
use mathlib.Core.List.{[]}
use mathlib.Core.Option.{none, some}
use mathlib.Core.Path.{◌≡◌, refl, sym}
use lib.ListN.{get_or}
use Rattle.paper.specs.Xml.{from, done, one, tail, ways}
use Rattle.xml_bytes.specs.Promised.{tailing}
use Rattle.xml_bytes.proofs.Rows.{range_calm, tails_calm}
use Rattle.xml_runs.specs.Runs.{past_ef}
use Rattle.xml_runs.proofs.Holding.{cross_row, byte_on, pattern_same}
use Rattle.xml_runs.proofs.past_ef.Goals as goal

-- Of two ways one is left.
one_way : (t : Bool) → ways (cond t (some (tail done)) none) none ≡ cond t (some (tail done)) none
one_way true = refl
one_way false = refl

pub returns-then-text-at-2 : goal.returns-then-text-at-2
returns-then-text-at-2 c =
    byte_on _ _ (omega arith) past_ef 191 _ c.if-text-at-2.true refl (one (from 128 189) done) refl refl (cross_row _ _ (from 128 189) [] _ (range_calm 128 189 (omega arith)) tt (omega arith) c.within.ensures)

pub returns : goal.returns
returns c =
    let b = get_or c.args.text.now c.args.at 0 in
    pattern_same _ _ (omega arith) past_ef (one (from 128 190) (tail done)) _ _ (rw (ne_eqb 191 b (λ e. c.if-text-at-2.false (sym e))) (one_way (from 128 190 b))) (cross_row _ _ (from 128 190) (tailing 1) _ (range_calm 128 190 (omega arith)) (tails_calm 1) (omega arith) c.narrow.ensures)
