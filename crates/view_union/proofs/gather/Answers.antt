-- `view_union::gather` meets its contract: each turn reads one view into the spare room and joins its items with the union; the views left give the rest. Assumes nothing.
use native.Mathlib.Omega.{arith}
use mathlib.Core.Path.{◌≡◌, refl, sym, ◌∙◌, subst}
use Prim.Native.Nat.{◌<◌}
use lib.ListN.{length, take, drop}
use Rattle.paper.proofs.Giving.{read_gives}
use Rattle.paper.proofs.Refusing.{refusal_told}
use Rattle.lines.specs.Lines.{Ends}
use Rattle.view_union.proofs.Viewing.{whole_part}
use Rattle.view_union.proofs.Unions.{read_length, can_read, can_not, begin, stops, turn}
use Rattle.view_union.proofs.gather.Goals as goal

pub loop-at-init : goal.loop-at-init
loop-at-init c = begin _ _ _ _ _ c.requires.1 c.requires.2

pub returns-in_default : goal.returns-in_default
returns-in_default c =
    let l = c.loop-at in
    let views = c.args.views.now in
    let list = c.args.list.now in
    let whole = whole_part views l.at in
    let ends = subst (λ part. Ends part c.line_end-end.result) whole c.line_end-end.ensures in
    let (number, place, t) = refusal_told c.in_default.field-0 in
    let says = rw (whole, l.invariant.spare_long) at c.in_default.ensures.result_value in
    let refused = can_not list (take c.line_end-end.result (drop l.at views)) number place (sym t ∙ says) in
    let more : l.at < length views = c.loop-at-test.true in
    (l.view, refl, stops views list _ _ _ _ _ _ _ l.invariant more _ ends refused)

pub slice_bounds-join-end : goal.slice_bounds-join-end
slice_bounds-join-end c = (read_gives _ _ _ _ _ c.in-Ok.ensures.result_value c.in-Ok.ensures.out_after).inside

pub slice_bounds-join-end-in-loop-at : goal.slice_bounds-join-end-in-loop-at
slice_bounds-join-end-in-loop-at c = (read_gives _ _ _ _ _ c.in-Ok.ensures.result_value c.in-Ok.ensures.out_after).counts

pub loop-at-preserved : goal.loop-at-preserved
loop-at-preserved c =
    let l = c.loop-at in
    let views = c.args.views.now in
    let list = c.args.list.now in
    let whole = whole_part views l.at in
    let ends = subst (λ part. Ends part c.line_end-end.result) whole c.line_end-end.ensures in
    let gives = read_gives _ _ _ _ _ c.in-Ok.ensures.result_value c.in-Ok.ensures.out_after in
    let says = rw (whole, l.invariant.spare_long) at c.in-Ok.ensures.result_value in
    let long = read_length _ _ _ _ c.in-Ok.ensures.out_after ∙ l.invariant.spare_long in
    let more : l.at < length views = c.loop-at-test.true in
    turn views list _ _ _ _ _ _ _ l.invariant more _ ends _ _ _ _ (can_read list (take c.line_end-end.result (drop l.at views)) c.in-Ok.count says) long
    (rw whole at gives.starts) (omega (arith, gives.counts, gives.fits, l.invariant.spare_long)) c.join-size.ensures
