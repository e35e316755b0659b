-- `compose_lean::compose_lean` meets its contract: each return is the first line of the table that holds, and past line 6 the lean decision decides. Assumes nothing.
use native.Mathlib.Omega.{arith}
use mathlib.Core.Path.{◌≡◌}
use lib.ListN.{length}
use Rattle.std.proofs.Common.{rules, Err}
use Rattle.paper.specs.Items.{decode}
use Rattle.paper.specs.Lean.{composed_lean, compose_lean_answer, compose_lean_out}
use Rattle.paper.specs.declared.Refusal.TheVariants.{BadQuery}
use Rattle.shape.proofs.Shaping.{shape_refused}
use Rattle.compose.proofs.Answering.{shape_some, inner_nests, refused}
use Rattle.compose.proofs.Answering.{line_1_outer, line_1_inner, line_6_outer, line_6_inner}
use Rattle.compose_lean.proofs.compose_lean.Goals as goal

pub returns-then-outer-gt-ITEM_LIMIT : goal.returns-then-outer-gt-ITEM_LIMIT
unfolding compose_lean_answer compose_lean_out
returns-then-outer-gt-ITEM_LIMIT c =
    let a = c.args in
    refused composed_lean a.outer.now a.inner.now a.out.now 1 0 (line_1_outer composed_lean a.outer.now a.inner.now (length a.out.now) c.if-outer-gt-ITEM_LIMIT.true)

pub returns-then-inner-gt-ITEM_LIMIT : goal.returns-then-inner-gt-ITEM_LIMIT
unfolding compose_lean_answer compose_lean_out
returns-then-inner-gt-ITEM_LIMIT c =
    let a = c.args in
    refused composed_lean a.outer.now a.inner.now a.out.now 1 0 (line_1_inner composed_lean a.outer.now a.inner.now (length a.out.now) (omega (arith, c.if-outer-gt-ITEM_LIMIT.false)) c.if-inner-gt-ITEM_LIMIT.true)

pub returns-in_err-outer_shape : goal.returns-in_err-outer_shape
unfolding compose_lean_answer compose_lean_out
returns-in_err-outer_shape c =
    let a = c.args in
    let e = c.in_err-outer_shape in
    let w : c.from_residual.result ≡ Err e.field-0.0 = search rules in
    let r = shape_refused (decode a.outer.now) c.measure.result (BadQuery 0) e.field-0.0 c.measure.ensures e.ensures.value in
    rw (w, r.1)
    (refused composed_lean a.outer.now a.inner.now a.out.now 6 0
    (line_6_outer composed_lean a.outer.now a.inner.now (length a.out.now) (omega (arith, c.if-outer-gt-ITEM_LIMIT.false)) (omega (arith, c.if-inner-gt-ITEM_LIMIT.false)) r.0))

pub returns-in_err-inner_shape : goal.returns-in_err-inner_shape
unfolding compose_lean_answer compose_lean_out
returns-in_err-inner_shape c =
    let a = c.args in
    let e = c.in_err-inner_shape in
    let o = shape_some a.outer.now c.measure.result (BadQuery 0) c.in_ok-outer_shape.outer_shape c.measure.ensures c.in_ok-outer_shape.ensures.value in
    let w : c.from_residual-in_err-inner_shape.result ≡ Err e.field-0.0 = search rules in
    let r = shape_refused (decode a.inner.now) c.measure-2.result (BadQuery 1) e.field-0.0 c.measure-2.ensures e.ensures.value in
    rw (w, r.1)
    (refused composed_lean a.outer.now a.inner.now a.out.now 6 1
    (line_6_inner composed_lean a.outer.now a.inner.now (length a.out.now) (omega (arith, c.if-outer-gt-ITEM_LIMIT.false)) (omega (arith, c.if-inner-gt-ITEM_LIMIT.false)) _ _ o r.0))

pub compose_marked-requires : goal.compose_marked-requires
compose_marked-requires c =
    let a = c.args in
    let o = shape_some a.outer.now c.measure.result (BadQuery 0) c.in_ok-outer_shape.outer_shape c.measure.ensures c.in_ok-outer_shape.ensures.value in
    let i = shape_some a.inner.now c.measure-2.result (BadQuery 1) c.in_ok-inner_shape.inner_shape c.measure-2.ensures c.in_ok-inner_shape.ensures.value in
    (inner_nests _ _ _ o, omega (arith, c.if-outer-gt-ITEM_LIMIT.false), inner_nests _ _ _ i, omega (arith, c.if-inner-gt-ITEM_LIMIT.false))
