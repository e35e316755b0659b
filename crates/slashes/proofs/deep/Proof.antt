-- `slashes::deep` meets its contract: where it is worth asking, the fields of the item decide. Assumes nothing.
use native.Mathlib.Omega.{arith}
use mathlib.Core.Path.{sym, ◌∙◌, ap}
use mathlib.Core.Bool.{true, ◌&&◌}
use lib.Dec.{eqb, ltb}
use lib.ListN.{length, get_or}
use borrow.Author.Tests.{ltb-true, not-true, not-false}
use borrow.Author.Rules.{rules}
use Prim.Native.Nat.{◌<◌}
use Rattle.paper.proofs.Tests.{and_true}
use Rattle.item.proofs.Saying.{said, not_step}
use Rattle.slashes.proofs.Deepening.{Worth, not_worth, no_step_there, fields_pass, fields_fail}
use Rattle.slashes.proofs.deep.Statement.{statement}
use Rattle.slashes.proofs.deep.Tie as tie

returns : tie.Need-returns-then-not-asked
returns c =
    let a = c.args in
    not_worth a.brief a.items.now a.at a.left (not-true (a.brief && ltb 1 a.left && ltb a.at (length a.items.now)) c.if-not-asked.true-raw)

-- Past the test it is worth asking, and the item is there.
abbrev start : tie.Else-not-asked → tie.Start
start c = c.before.before

worth : (c : tie.Else-not-asked) → Worth (start c).args.brief (start c).args.items.now (start c).args.at (start c).args.left true
worth c =
    let a = (start c).args in
    not-false (a.brief && ltb 1 a.left && ltb a.at (length a.items.now)) c.if-not-asked.false-raw

there : (c : tie.Else-not-asked) → (start c).args.at < length (start c).args.items.now
there c =
    let a = (start c).args in
    ltb-true a.at (length a.items.now) (and_true (a.brief && ltb 1 a.left) (ltb a.at (length a.items.now)) (worth c)).1

mul-unpack : tie.Need-offset_bounds-items-at
mul-unpack c = omega (arith, there c, (start c).well_formed.0.1)

shared-slice-read-unpack : tie.Need-bounds-items-at
shared-slice-read-unpack c = there c.before

unpack-requires : tie.Need-unpack-item-requires
unpack-requires c κs = search rules

enum-known-item : tie.Need-enum_known-item
enum-known-item c = search rules

returns-2 : tie.Need-returns-in_default
returns-2 c =
    let a = (start c.before.before.before).args in
    let u = c.unpack-item in
    let w = get_or a.items.now a.at 0 in
    no_step_there a.brief a.items.now a.at a.left (not_step w u.result (said w u.result u.ensures) c.in_default.in_default-own.keys2)

returns-3 : tie.Need-returns-then-found
returns-3 c =
    let else = c in
    let a = (start else.before.before.before.before.before.before.before).args in
    let u = c.unpack-item in
    let w = get_or a.items.now a.at 0 in
    let s = rw c.in-Step.is at (said w u.result u.ensures) in
    fields_pass a.brief a.items.now a.at a.left s.0 s.1 (worth else.before.before.before.before.before.before.before) (sym (ap (λ x. eqb x.axis 3 && eqb x.test 0 && eqb x.count 0) s.2) ∙ c.if-found.true)

returns-4 : tie.Need-returns-else-found
returns-4 c =
    let else = c in
    let a = (start else.before.before.before.before.before.before.before).args in
    let u = c.unpack-item in
    let w = get_or a.items.now a.at 0 in
    let s = rw c.in-Step.is at (said w u.result u.ensures) in
    fields_fail a.brief a.items.now a.at a.left s.0 s.1 (worth else.before.before.before.before.before.before.before) (sym (ap (λ x. eqb x.axis 3 && eqb x.test 0 && eqb x.count 0) s.2) ∙ c.if-found.false)

pub deep_spec : {M : Type 1} → statement M
deep_spec =
    tie.close
    (tie.spec
    returns
    mul-unpack
    shared-slice-read-unpack
    unpack-requires
    enum-known-item
    returns-2
    returns-3
    returns-4)
