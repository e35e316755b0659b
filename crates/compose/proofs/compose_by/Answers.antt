-- `compose::compose_by` meets its contract: each return is the first line of the table that holds. Assumes nothing.
use Prim.Native.Nat.{ℕ, ◌+◌, ◌≤◌, max}
use native.Mathlib.Omega.{arith}
use mathlib.Core.Path.{◌≡◌}
use lib.ListN.{length}
use Rattle.paper.specs.Lean.{composed_by}
use Rattle.compose.proofs.Answering.{inner_query, outer_shallow, inner_shallow, refused, accepted, number_is, line_9, ending}
use Rattle.compose.proofs.compose_by.Goals as goal

pub overflow_add-guard_nesting : goal.overflow_add-guard_nesting
overflow_add-guard_nesting c =
    let a = c.args in
    let q = c.requires in
    omega (arith, outer_shallow a.outer.now a.says.now a.outer_nesting a.outer_guards q.0.0 q.0.1, q.0.1.within)

pub overflow_add-guard_nesting-2 : goal.overflow_add-guard_nesting-2
overflow_add-guard_nesting-2 c =
    let a = c.args in
    let q = c.requires in
    omega (arith, outer_shallow a.outer.now a.says.now a.outer_nesting a.outer_guards q.0.0 q.0.1, q.0.1.within, inner_shallow a.inner.now a.inner_nesting q.2, c.max.ensures)

pub returns-then-nesting-gt-BRACKET_LIMIT : goal.returns-then-nesting-gt-BRACKET_LIMIT
returns-then-nesting-gt-BRACKET_LIMIT c =
    let a = c.args in
    let q = c.requires in
    let r : c.max.result ≡ max 2 a.inner_nesting = omega (arith, c.max.ensures) in
    λ g o. refused (composed_by g.decides) a.outer.now a.inner.now a.out.now 9 _
    (line_9 a.outer.now a.inner.now a.says.now (length a.out.now) _ _ _ q.1 q.3 g o q.2 c.max.result c.max-nesting.result r c.max-nesting.ensures c.if-nesting-gt-BRACKET_LIMIT.true)

pub returns-then-out-size : goal.returns-then-out-size
returns-then-out-size c =
    let a = c.args in
    let q = c.requires in
    let r : c.max.result ≡ max 2 a.inner_nesting = omega (arith, c.max.ensures) in
    λ g o.
    let left = ending a.outer.now a.inner.now a.says.now (length a.out.now) _ _ _ q.1 q.3 g o q.2 c.max.result c.max-nesting.result r c.max-nesting.ensures (omega (arith, c.if-nesting-gt-BRACKET_LIMIT.false))
    c.selected_size-count.result c.composed_size-size.result c.selected_size-count.ensures.0 (c.composed_size-size.ensures g) in
    refused (composed_by g.decides) a.outer.now a.inner.now a.out.now 10 _ (left.lacks_room c.if-out-size.true)

pub returns-then-size-gt-ITEM_LIMIT : goal.returns-then-size-gt-ITEM_LIMIT
returns-then-size-gt-ITEM_LIMIT c =
    let a = c.args in
    let q = c.requires in
    let r : c.max.result ≡ max 2 a.inner_nesting = omega (arith, c.max.ensures) in
    λ g o.
    let left = ending a.outer.now a.inner.now a.says.now (length a.out.now) _ _ _ q.1 q.3 g o q.2 c.max.result c.max-nesting.result r c.max-nesting.ensures (omega (arith, c.if-nesting-gt-BRACKET_LIMIT.false))
    c.selected_size-count.result c.composed_size-size.result c.selected_size-count.ensures.0 (c.composed_size-size.ensures g) in
    refused (composed_by g.decides) a.outer.now a.inner.now a.out.now 10 _ (left.over_long c.if-out-size.false c.if-size-gt-ITEM_LIMIT.true)

pub put_composed-requires : goal.put_composed-requires
put_composed-requires c =
    let a = c.args in
    let q = c.requires in (
      q.0.0,
      q.1,
      inner_query _ _ q.2,
      q.3,
      c.count_paths-paths.ensures,
      c.selected_size-count.ensures.0,
      (λ g. number_is a.outer.now a.inner.now a.says.now _ g q.2 _ _ c.selected_size-count.ensures.0 (c.composed_size-size.ensures g)),
      c.if-out-size.false,
    )

pub returns : goal.returns
returns c =
    let a = c.args in
    let q = c.requires in
    let r : c.max.result ≡ max 2 a.inner_nesting = omega (arith, c.max.ensures) in
    λ g o.
    let left = ending a.outer.now a.inner.now a.says.now (length a.out.now) _ _ _ q.1 q.3 g o q.2 c.max.result c.max-nesting.result r c.max-nesting.ensures (omega (arith, c.if-nesting-gt-BRACKET_LIMIT.false))
    c.selected_size-count.result c.composed_size-size.result c.selected_size-count.ensures.0 (c.composed_size-size.ensures g) in
    accepted (composed_by g.decides) a.outer.now a.inner.now a.out.now c.put_composed.new.out _ (left.fits c.if-out-size.false c.if-size-gt-ITEM_LIMIT.false) (c.put_composed.ensures g)
