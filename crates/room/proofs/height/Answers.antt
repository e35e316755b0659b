-- `room::height` meets its contract, line by line. Assumes nothing.
use mathlib.Core.Path.{◌≡◌, ◌∙◌, ap}
use native.Mathlib.Omega.{arith}
use Rattle.paper.specs.Items.{decode}
use Rattle.paper.specs.Measures.{height}
use Rattle.paper.specs.Answers.{value}
use Rattle.paper.specs.declared.Refusal.TheVariants.{BadQuery}
use Rattle.std.proofs.Common.{rules, Err}
use Rattle.shape.proofs.Shaping.{shape_refused, shape_accepted}
use Rattle.room.proofs.Answering.{too_long_lem, no_query, measured}
use Rattle.room.proofs.height.Goals as goal

pub returns-then-query-gt-ITEM_LIMIT : goal.returns-then-query-gt-ITEM_LIMIT
returns-then-query-gt-ITEM_LIMIT c = too_long_lem height c.args.query.now c.if-query-gt-ITEM_LIMIT.true

pub returns-in_err-shape : goal.returns-in_err-shape
returns-in_err-shape c =
    let query = c.args.query.now in
    let e = c.in_err-shape in
    let w : c.from_residual.result ≡ Err e.field-0.0 = search rules in
    let r = shape_refused (decode query) c.measure.result (BadQuery 0) e.field-0.0 c.measure.ensures e.ensures.value in
    rw (w, r.1) (no_query height query (omega (arith, c.if-query-gt-ITEM_LIMIT.false)) r.0)

pub returns : goal.returns
returns c =
    let s = shape_accepted (decode c.args.query.now) c.measure.result _ c.in_ok-shape.shape c.measure.ensures c.in_ok-shape.ensures.value in
    ap value s.heights ∙ measured height c.args.query.now (omega (arith, c.if-query-gt-ITEM_LIMIT.false)) s.query s.decodes
