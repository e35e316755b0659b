-- One item more is counted, at most one guard.
use Rattle.std.proofs.Common.{get_or, arith}
use Rattle.guards.proofs.Reading.{counted_more, step_item_most}
use Rattle.guards.proofs.count_guards.Goals as goal

pub overflow_add-guards : goal.overflow_add-guards
overflow_add-guards c = omega (arith, c.one_guard-guards.ensures, step_item_most (get_or c.args.items.now c.loop-item.item-index 0))

pub loop-item-preserved : goal.loop-item-preserved
loop-item-preserved c =
    let l = c.loop-item in
    let most = step_item_most (get_or c.args.items.now l.item-index 0) in
    let more = counted_more c.args.items.now l.item-index (omega arith) in
    (omega (arith, c.one_guard-guards.ensures, most), omega (arith, c.one_guard-guards.ensures, more))
