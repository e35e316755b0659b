-- `xml_runs::wide` meets its contract: the first byte says what must come. Assumes nothing.
use Prim.Native.Nat.{ℕ, suc, ◌+◌, ◌<◌}
use native.Mathlib.Omega.{arith}
use mathlib.Core.List.{List, ◌∷◌}
use mathlib.Core.Path.{refl, ap}
use lib.ListN.{length, get_or}
use Rattle.paper.specs.Xml.{from, done, one, after, wide, run, partly}
use Rattle.xml_bytes.specs.Promised.{Reach, Reads, tailing}
use Rattle.xml_bytes.proofs.Rows.{range_calm, tails_calm, ones}
use Rattle.xml_runs.specs.Runs.{Crosses}
use Rattle.xml_runs.proofs.Holding.{cross_row}
use Rattle.xml_runs.proofs.Leading.{past, wide_two, wide_three, wide_four, wide_low, wide_high, high_on, high_wrong}
use Rattle.xml_runs.proofs.wide.Goals as goal

-- What comes behind it: bytes that go on with a character, or one of a range before them.
module _ (text : List ℕ) (at : ℕ) (inside : at < length text) where
  tails_on : (n : ℕ) (r : Reach) → Reads text (at + 1) (tailing (suc n)) r → Crosses text (at + 1) (λ begin. partly begin (ones (tailing (suc n)) done)) (λ begin. run begin 0) r
  tails_on n r h = cross_row text (at + 1) (from 128 191) (tailing n) r (range_calm 128 191 (omega arith)) (tails_calm n) (omega arith) h

  narrows : (low high n : ℕ) (r : Reach) → 60 < low → Reads text (at + 1) (from low high ∷ tailing n) r
      → Crosses text (at + 1) (λ begin. partly begin (one (from low high) (ones (tailing n) done))) (λ begin. run begin 0) r
  narrows low high n r high-enough h = cross_row text (at + 1) (from low high) (tailing n) r (range_calm low high high-enough) (tails_calm n) (omega arith) h

pub returns-in-224 : goal.returns-in-224
returns-in-224 c = high_on _ _ c.requires.0 c.requires.1 _ _ (ap (after wide) c.in-224.is) refl (narrows _ _ c.requires.0 160 191 1 _ (omega arith) c.narrow.ensures)

pub returns-in-237 : goal.returns-in-237
returns-in-237 c = high_on _ _ c.requires.0 c.requires.1 _ _ (ap (after wide) c.in-237.is) refl (narrows _ _ c.requires.0 128 159 1 _ (omega arith) c.narrow-in-237.ensures)

pub returns-in-238 : goal.returns-in-238
returns-in-238 c = high_on _ _ c.requires.0 c.requires.1 _ _ (ap (after wide) c.in-238.is) refl (tails_on _ _ c.requires.0 1 _ c.tails.ensures)

pub returns-in-239 : goal.returns-in-239
returns-in-239 c = high_on _ _ c.requires.0 c.requires.1 _ _ (ap (after wide) c.in-239.is) refl c.past_ef.ensures

pub returns-in-240 : goal.returns-in-240
returns-in-240 c = high_on _ _ c.requires.0 c.requires.1 _ _ (ap (after wide) c.in-240.is) refl (narrows _ _ c.requires.0 144 191 2 _ (omega arith) c.narrow-in-240.ensures)

pub returns-in-244 : goal.returns-in-244
returns-in-244 c = high_on _ _ c.requires.0 c.requires.1 _ _ (ap (after wide) c.in-244.is) refl (narrows _ _ c.requires.0 128 143 2 _ (omega arith) c.narrow-in-244.ensures)

pub returns-in-194-to-223 : goal.returns-in-194-to-223
returns-in-194-to-223 c =
    let here = get_or c.args.text.now c.args.at 0 in
    high_on _ _ c.requires.0 c.requires.1 _ _ (wide_two here (omega arith) (omega arith)) refl (tails_on _ _ c.requires.0 0 _ c.tails-in-194-to-223.ensures)

pub returns-in-225-to-236 : goal.returns-in-225-to-236
returns-in-225-to-236 c =
    let here = get_or c.args.text.now c.args.at 0 in
    high_on _ _ c.requires.0 c.requires.1 _ _ (wide_three here (past 224 here (omega arith) c.in-225-to-236.in_default-own.rest.0.0.0.0.0.1) (omega arith)) refl (tails_on _ _ c.requires.0 1 _ c.tails-in-225-to-236.ensures)

pub returns-in-241-to-243 : goal.returns-in-241-to-243
returns-in-241-to-243 c =
    let here = get_or c.args.text.now c.args.at 0 in
    let n = c.in-241-to-243.in_default-own.rest in
    let p237 = past 237 here (omega arith) n.0.0.0.0.1 in
    let p238 = past 238 here p237 n.0.0.0.1 in
    let p239 = past 239 here p238 n.0.0.1 in
    let p240 = past 240 here p239 n.0.1 in
    high_on _ _ c.requires.0 c.requires.1 _ _ (wide_four here p240 (omega arith)) refl (tails_on _ _ c.requires.0 2 _ c.tails-in-241-to-243.ensures)

pub returns-in_default : goal.returns-in_default
returns-in_default c = high_wrong _ _ c.requires.0 c.requires.1 (wide_low (get_or c.args.text.now c.args.at 0) (omega arith))

pub returns-in_default-2 : goal.returns-in_default-2
returns-in_default-2 c =
    let here = get_or c.args.text.now c.args.at 0 in
    high_wrong _ _ c.requires.0 c.requires.1 (wide_high here (past 244 here (omega arith) c.in_default.in_default-own.rest.1))
