-- `paths` meets its contract: what is printed, with the text of the paths left, is the text of the query. Assumes nothing.
use Rattle.std.proofs.Common.{◌≡◌, subst, arith, get_or}
use Rattle.std.proofs.Math.Option.{some}
use Rattle.paper.specs.Tools.{ascii}
use Rattle.paper.specs.Items.{path_at}
use Rattle.item.proofs.Saying.{Said, said}
use Rattle.shape.proofs.Operands.{no_path_said}
use Rattle.put_query.proofs.Rows.{between_brief}
use Rattle.put_query.proofs.Queries.{paths_start, path_there, path_skips, path_steps, paths_more, paths_done}
use Rattle.put_query.proofs.listed_paths.Goals as goal

pub loop-place-init : goal.loop-place-init
loop-place-init c = paths_start _ _ _ _ c.requires.query

pub returns-in_default : goal.returns-in_default
returns-in_default c =
    let l = c.loop-place in
    let u = c.unpack-item in
    let w = get_or c.args.items.now l.place 0 in
    absurd (path_there _ _ _ _ _ _ _ c.loop-place-test.true l.invariant (no_path_said w u.result (said w u.result u.ensures) c.in_default.not-Path))

pub overflow_sub-number : goal.overflow_sub-number
overflow_sub-number c =
    let l = c.loop-place in
    let u = c.unpack-item in
    let w = get_or c.args.items.now l.place 0 in
    let path : path_at w ≡ some c.in-Path.number = subst (Said w) c.in-Path.is (said w u.result u.ensures) in
    (path_skips _ _ _ _ _ _ _ c.loop-place-test.true l.invariant _ path _ c.deep-skipped.ensures).0

pub steps-more-requires-clause-at_in_bounds : goal.steps-more-requires-clause-at_in_bounds
steps-more-requires-clause-at_in_bounds c =
    let l = c.loop-place in
    let u = c.unpack-item in
    let w = get_or c.args.items.now l.place 0 in
    let path : path_at w ≡ some c.in-Path.number = subst (Said w) c.in-Path.is (said w u.result u.ensures) in (
      (path_skips _ _ _ _ _ _ _ c.loop-place-test.true l.invariant _ path _ c.deep-skipped.ensures).1,
      omega (arith, l.invariant.low, l.invariant.inside, c.put_byte-opened.ensures.moved, c.put_slash-ready.ensures.moved, between_brief (ascii "/") c.deep-skipped.result, c.requires.query.few_items),
    )

pub steps-more-requires-clause-some : goal.steps-more-requires-clause-some
steps-more-requires-clause-some c =
    let l = c.loop-place in
    let u = c.unpack-item in
    let w = get_or c.args.items.now l.place 0 in
    let path : path_at w ≡ some c.in-Path.number = subst (Said w) c.in-Path.is (said w u.result u.ensures) in
    path_steps _ _ _ _ _ _ _ c.loop-place-test.true l.invariant _ path _ c.deep-skipped.ensures

pub loop-place-preserved : goal.loop-place-preserved
loop-place-preserved c =
    let l = c.loop-place in
    let u = c.unpack-item in
    let w = get_or c.args.items.now l.place 0 in
    let path : path_at w ≡ some c.in-Path.number = subst (Said w) c.in-Path.is (said w u.result u.ensures) in
    paths_more _ _ _ _ _ _ _ c.loop-place-test.true l.invariant _ path _ _ _ _ _ _ _ _ _ c.put_byte-opened.ensures c.deep-skipped.ensures c.put_slash-ready.ensures
    c.steps-more.ensures c.put_bar-byte.ensures

pub returns : goal.returns
returns c = paths_done _ _ _ _ _ _ _ c.loop-place-test.false c.loop-place.invariant
