-- `room::paths` meets its contract, line by line. Assumes nothing.
use mathlib.Core.Path.{◌≡◌, ◌∙◌, ap}
use native.Mathlib.Omega.{arith}
use Rattle.paper.specs.Items.{decode}
use Rattle.paper.specs.Room.{path_count}
use Rattle.paper.specs.Answers.{value}
use Rattle.paper.specs.declared.Refusal.TheVariants.{BadQuery}
use Rattle.reverse.specs.Reverses.{paths_got}
use Rattle.std.proofs.Common.{rules, Err}
use Rattle.shape.proofs.Shaping.{shape_refused, shape_accepted}
use Rattle.room.proofs.Answering.{too_long_lem, no_query, measured}
use Rattle.room.proofs.paths.Goals as goal

pub returns-then-query-gt-ITEM_LIMIT : goal.returns-then-query-gt-ITEM_LIMIT
returns-then-query-gt-ITEM_LIMIT c = too_long_lem path_count c.args.query.now c.if-query-gt-ITEM_LIMIT.true

pub returns-in_err-ok_or : goal.returns-in_err-ok_or
returns-in_err-ok_or c =
    let query = c.args.query.now in
    let e = c.in_err-ok_or in
    let w : c.from_residual.result ≡ Err e.field-0.0 = search rules in
    let r = shape_refused (decode query) c.measure.result (BadQuery 0) e.field-0.0 c.measure.ensures e.ensures.value in
    rw (w, r.1) (no_query path_count query (omega (arith, c.if-query-gt-ITEM_LIMIT.false)) r.0)

pub returns : goal.returns
returns c =
    let query = c.args.query.now in
    let s = shape_accepted (decode query) c.measure.result (BadQuery 0) c.in_ok-ok_or.field-0 c.measure.ensures c.in_ok-ok_or.ensures.value in
    ap value (c.count_paths.ensures ∙ ap paths_got s.decodes) ∙ measured path_count query (omega (arith, c.if-query-gt-ITEM_LIMIT.false)) s.query s.decodes
