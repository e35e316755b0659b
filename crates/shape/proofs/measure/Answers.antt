-- `shape::measure` meets its contract. Assumes nothing.
use Rattle.std.proofs.Common.{sym, ◌∙◌, arith, ◌<◌, length, get_or}
use Rattle.std.proofs.lemmas.Grind.{common_steps}
use Rattle.item.proofs.Saying.{said}
use Rattle.shape.proofs.Operands.{no_path_said}
use Rattle.shape.proofs.Queries.{paths_start, paths_none, paths_bad, paths_more, paths_done, no_items}
use Rattle.shape.proofs.measure.Goals as goal

pub returns-then-is_empty : goal.returns-then-is_empty
returns-then-is_empty c = no_items c.args.items.now (grind (arith, common_steps))

pub loop-place-init : goal.loop-place-init
loop-place-init c = paths_start c.args.items.now

pub returns-in_default : goal.returns-in_default
returns-in_default c =
    let a = c.args in
    let l = c.loop-place in
    let u = c.unpack-item in
    let w = get_or a.items.now l.place 0 in
    paths_none a.items.now l.place l.deep l.high l.guarded c.loop-place-test.true l.invariant (no_path_said w u.result (said w u.result u.ensures) c.in_default.not-Path)

pub returns-in_err-more : goal.returns-in_err-more
returns-in_err-more c =
    let a = c.args in
    let l = c.loop-place in
    let s = said (get_or a.items.now l.place 0) _ (sym c.in-Path.is ∙ c.unpack-item.ensures) in
    rw c.from_residual.ensures (paths_bad a.items.now l.place l.deep l.high l.guarded _ c.loop-place-test.true l.invariant s c.in_err-more.ensures)

pub loop-place-preserved : goal.loop-place-preserved
loop-place-preserved c =
    let a = c.args in
    let l = c.loop-place in
    let s = said (get_or a.items.now l.place 0) _ (sym c.in-Path.is ∙ c.unpack-item.ensures) in
    let m = c.in_ok-more.more in
    paths_more a.items.now l.place l.deep l.high l.guarded _ m.next m.nesting m.height m.guards _ _ _ c.loop-place-test.true l.invariant s c.in_ok-more.ensures c.max-deep.ensures
    c.max-high.ensures c.max-guarded.ensures

pub returns : goal.returns
returns c =
    let l = c.loop-place in
    let some_item : 0 < length c.args.items.now = grind (arith, common_steps) in
    paths_done c.args.items.now l.place l.deep l.high l.guarded some_item c.loop-place-test.false l.invariant
