-- `view_union::compose_union` meets its contract: the first view that can't be read, the refusal of the query, a union that is too large, or what composing answers and writes. Assumes nothing.
use Prim.Native.Nat.{◌≤◌}
use native.Mathlib.Omega.{arith}
use borrow.Author.Rules.{rules}
use mathlib.Core.Path.{◌≡◌, sym, ◌∙◌, ap}
use lib.ListN.{length}
use Rattle.std.specs.Prelude.{Err}
use Rattle.paper.specs.Limits.{item_limit}
use Rattle.paper.specs.Answers.{refusal}
use Rattle.paper.specs.Roles.{role_union}
use Rattle.paper.specs.Told.{told, told_refusal}
use Rattle.paper.proofs.Giving.{read_gives}
use Rattle.paper.proofs.Refusing.{refusal_told}
use Rattle.view_union.proofs.Answering.{view_unread, query_refused, union_over, to_compose, kept_union, composed_out}
use Rattle.view_union.proofs.compose_union.Goals as goal

pub returns-in_err-size-clause-result_value : goal.returns-in_err-size-clause-result_value
returns-in_err-size-clause-result_value c =
    let e = c.in_err-size in
    let w : c.from_residual.result ≡ Err e.field-0.0 = search rules in
    let (view, is, unread) = e.ensures in
    ap told w ∙ ap told_refusal is ∙ view_unread c.args.views.now c.args.list.now c.args.text.now c.args.mask (length c.args.out.now) view unread

pub returns-in_err-size-clause-out_after : goal.returns-in_err-size-clause-out_after
returns-in_err-size-clause-out_after c =
    let (view, is, unread) = c.in_err-size.ensures in
    kept_union c.args.views.now c.args.list.now c.args.text.now c.args.out.now c.args.mask 17 view (view_unread c.args.views.now c.args.list.now c.args.text.now c.args.mask (length c.args.out.now) view unread)

pub returns-in_err-count-clause-result_value : goal.returns-in_err-count-clause-result_value
returns-in_err-count-clause-result_value c =
    let e = c.in_err-count in
    let all = c.in_ok-size.ensures in
    let w : c.from_residual-in_err-count.result ≡ Err e.field-0.0 = search rules in
    let (number, place, t) = refusal_told e.field-0.0 in
    let says = rw all.3 at e.ensures.result_value in
    ap told w ∙ t ∙ query_refused c.args.views.now c.args.list.now c.args.text.now c.args.mask (length c.args.out.now) all.0 number place (sym t ∙ says)

pub returns-in_err-count-clause-out_after : goal.returns-in_err-count-clause-out_after
returns-in_err-count-clause-out_after c =
    let e = c.in_err-count in
    let all = c.in_ok-size.ensures in
    let (number, place, t) = refusal_told e.field-0.0 in
    let says = rw all.3 at e.ensures.result_value in
    kept_union c.args.views.now c.args.list.now c.args.text.now c.args.out.now c.args.mask number place
    (query_refused c.args.views.now c.args.list.now c.args.text.now c.args.mask (length c.args.out.now) all.0 number place (sym t ∙ says))

pub returns-then-size-gt-ITEM_LIMIT-clause-result_value : goal.returns-then-size-gt-ITEM_LIMIT-clause-result_value
returns-then-size-gt-ITEM_LIMIT-clause-result_value c =
    let all = c.in_ok-size.ensures in
    let counts = all.1.counts in
    let says = rw all.3 at c.in_ok-count.ensures.result_value in
    ap (λ n. refusal 10 n) counts
    ∙ union_over c.args.views.now c.args.list.now c.args.text.now c.args.mask (length c.args.out.now) all.0 c.in_ok-count.count says (omega (arith, counts, c.if-size-gt-ITEM_LIMIT.true))

pub returns-then-size-gt-ITEM_LIMIT-clause-out_after : goal.returns-then-size-gt-ITEM_LIMIT-clause-out_after
returns-then-size-gt-ITEM_LIMIT-clause-out_after c =
    let all = c.in_ok-size.ensures in
    let says = rw all.3 at c.in_ok-count.ensures.result_value in
    kept_union c.args.views.now c.args.list.now c.args.text.now c.args.out.now c.args.mask 10 _
    (union_over c.args.views.now c.args.list.now c.args.text.now c.args.mask (length c.args.out.now) all.0 c.in_ok-count.count says (omega (arith, all.1.counts, c.if-size-gt-ITEM_LIMIT.true)))

pub slice_bounds-room-end : goal.slice_bounds-room-end
slice_bounds-room-end c = (read_gives _ _ _ _ _ c.in_ok-count.ensures.result_value c.in_ok-count.ensures.out_after).inside

pub slice_bounds-compose-end : goal.slice_bounds-compose-end
slice_bounds-compose-end c = (read_gives _ _ _ _ _ c.in_ok-count.ensures.result_value c.in_ok-count.ensures.out_after).counts

pub returns-clause-result_value : goal.returns-clause-result_value
returns-clause-result_value c =
    let all = c.in_ok-size.ensures in
    let says = rw all.3 at c.in_ok-count.ensures.result_value in
    let gives = read_gives _ _ _ _ _ c.in_ok-count.ensures.result_value c.in_ok-count.ensures.out_after in
    let few : length (role_union c.args.views.now c.args.list.now c.args.mask) ≤ item_limit = omega (arith, c.if-size-gt-ITEM_LIMIT.false, all.1.counts) in
    let stands = all.1.stands (omega (arith, c.if-size-gt-ITEM_LIMIT.false, all.2)) in
    (rw (gives.starts, stands) at c.compose.ensures.0)
    ∙ sym (to_compose c.args.views.now c.args.list.now c.args.text.now c.args.mask (length c.args.out.now) all.0 c.in_ok-count.count says few)

pub returns-clause-out_after : goal.returns-clause-out_after
returns-clause-out_after c =
    let all = c.in_ok-size.ensures in
    let says = rw all.3 at c.in_ok-count.ensures.result_value in
    let gives = read_gives _ _ _ _ _ c.in_ok-count.ensures.result_value c.in_ok-count.ensures.out_after in
    let few : length (role_union c.args.views.now c.args.list.now c.args.mask) ≤ item_limit = omega (arith, c.if-size-gt-ITEM_LIMIT.false, all.1.counts) in
    let stands = all.1.stands (omega (arith, c.if-size-gt-ITEM_LIMIT.false, all.2)) in
    composed_out c.args.views.now c.args.list.now c.args.text.now c.args.out.now _ c.args.mask
    (to_compose c.args.views.now c.args.list.now c.args.text.now c.args.mask (length c.args.out.now) all.0 c.in_ok-count.count says few)
    (rw (gives.starts, stands) at c.compose.ensures.1)
