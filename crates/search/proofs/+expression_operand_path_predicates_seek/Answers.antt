-- The functions that search and call each other meet their contracts. Assumes nothing.
use Rattle.std.proofs.Common.{◌≡◌, ℕ, ◌+◌, ◌-◌, ◌<◌, ◌≤◌, List, [], length, get_or, take, drop, sym, ap, ◌∙◌, subst, arith}
use mathlib.Core.Bool.{false≢true}
use lib.Dec.{eqb}
use borrow.Author.Tests.{eqb-true, not-true, not-false}
use borrow.Rule.Slice.PartMut.{put_mid}
use Rattle.paper.specs.Items.{take_preds, take_expr, take_within}
use Rattle.paper.specs.Document.{table_of}
use Rattle.paper.proofs.Tests.{and_true}
use Rattle.item.proofs.Saying.{said}
use Rattle.shape.specs.Ending.{Ends}
use Rattle.shape.proofs.Operands.{operators_there}
use Rattle.search.specs.Searches.{Fits, ending}
use Rattle.search.proofs.Running.{turn_start, turn_onward, turn_and, turn_or, turn_done}
use Rattle.search.proofs.Operating.{operand_there, not_deep, path_fits, path_says, must_join, opens_joined, opens_not, closes_joined, closes_not}
use Rattle.search.proofs.Rows.{Owed, pred_fits, fails, one_owed_less}
use Rattle.search.proofs.Stands.{part_length, length_stays, pushed_front, popped_front}
use Rattle.search.proofs.Steps.{skip_ends, count_few, first_readable}
use Rattle.search.proofs.Searching.{worth, not_both}
use Rattle.search.proofs.Paths.{State, state_room, state_from, state_step, state_found, state_dead, state_dry, state_back, back_less, state_within, state_push, push_less}
use Rattle.search.proofs.Seeking.{past_all, past_led, led_within, led_here, past_failed, step_count, sought_none, sought_here}
use Rattle.search.proofs.+expression_operand_path_predicates_seek.Goals as goal

pub expression-loop-ands-init : goal.expression-loop-ands-init
expression-loop-ands-init t c =
    let a = c.args in
    let o = c.joins-ors in
    let r = c.joins-ands in
    turn_start (table_of a.parent.now a.kind.now) a.given.now a.node a.depth a.items.now a.at o.result r.result o.ensures.0 r.ensures.0 o.ensures.1 r.ensures.1

pub expression-loop-ands-smaller-then-ands-gt0 : goal.expression-loop-ands-smaller-then-ands-gt0
expression-loop-ands-smaller-then-ands-gt0 t c =
    let v = c.operand-one.ensures in
    omega (arith, turn_onward c.loop-ands.invariant v, v.ends.inside)

pub expression-loop-ands-preserved-then-ands-gt0 : goal.expression-loop-ands-preserved-then-ands-gt0
expression-loop-ands-preserved-then-ands-gt0 t c = turn_and c.loop-ands.invariant c.operand-one.ensures c.if-ands-gt0.true

pub expression-returns-then-ors-eq0 : goal.expression-returns-then-ors-eq0
expression-returns-then-ors-eq0 t c = turn_done c.loop-ands.invariant c.operand-one.ensures (omega (arith, c.if-ands-gt0.false)) (omega (arith, c.if-ors-eq0.true))

pub expression-loop-ands-smaller : goal.expression-loop-ands-smaller
expression-loop-ands-smaller t c = omega (arith, turn_onward c.loop-ands.invariant c.operand-one.ensures, c.joins-ands-else-ands-gt0.ensures.1)

pub expression-loop-ands-preserved : goal.expression-loop-ands-preserved
expression-loop-ands-preserved t c =
    let r = c.joins-ands-else-ands-gt0.ensures in
    turn_or c.loop-ands.invariant c.operand-one.ensures (omega (arith, c.if-ands-gt0.false)) (omega (arith, c.if-ors-eq0.false)) r.0 r.1

pub operand-bounds-items-at : goal.operand-bounds-items-at
operand-bounds-items-at t c = operand_there _ _ _ c.args.depth c.requires.fits

pub operand-path-holds-requires : goal.operand-path-holds-requires
operand-path-holds-requires t c =
    let a = c.args in
    let fits = c.requires.fits in
    let on = operand_there _ _ _ a.depth fits in
    let u = c.unpack-item in
    let w = get_or a.items.now a.at 0 in
    let p = said w _ (sym c.in-Path.is ∙ u.ensures) in
    let f = path_fits _ _ _ a.depth fits _ p in
    (omega (arith, on, c.decreases), (c.requires.depth_le_bracket_limit, (c.requires.ready, (c.requires.node_in_bounds, f))))

pub operand-skip-next-requires : goal.operand-skip-next-requires
operand-skip-next-requires t c =
    let a = c.args in
    let fits = c.requires.fits in
    let on = operand_there _ _ _ a.depth fits in
    let u = c.unpack-item in
    let w = get_or a.items.now a.at 0 in
    let p = said w _ (sym c.in-Path.is ∙ u.ensures) in
    let f = path_fits _ _ _ a.depth fits _ p in
    (f.few, f.inside, count_few _ _ _ a.depth c.in-Path.count f)

pub operand-returns-in-Path : goal.operand-returns-in-Path
operand-returns-in-Path t c =
    let a = c.args in
    let fits = c.requires.fits in
    let on = operand_there _ _ _ a.depth fits in
    let u = c.unpack-item in
    let w = get_or a.items.now a.at 0 in
    let p = said w _ (sym c.in-Path.is ∙ u.ensures) in
    let f = path_fits _ _ _ a.depth fits _ p in
    path_says _ _ _ a.depth fits (table_of a.parent.now a.kind.now) a.given.now a.node _ _ _ p c.path-holds.ensures
    (skip_ends _ _ a.depth c.in-Path.count _ f.inside ((f.what, f.rest), f.reads) c.skip-next.ensures)

pub operand-overflow_sub-depth : goal.operand-overflow_sub-depth
operand-overflow_sub-depth t c =
    let a = c.args in
    let fits = c.requires.fits in
    let on = operand_there _ _ _ a.depth fits in
    let u = c.unpack-item in
    let w = get_or a.items.now a.at 0 in
    let deep = not_deep _ _ _ a.depth fits u.result (said w u.result u.ensures) c.in_default.not-Path in
    omega (arith, deep)

pub operand-expression-denied-requires : goal.operand-expression-denied-requires
operand-expression-denied-requires t c =
    let a = c.args in
    let fits = c.requires.fits in
    let on = operand_there _ _ _ a.depth fits in
    let u = c.unpack-item in
    let w = get_or a.items.now a.at 0 in
    let deep = not_deep _ _ _ a.depth fits u.result (said w u.result u.ensures) c.in_default.not-Path in
    let e = said w _ (sym c.in-Not.is ∙ u.ensures) in
    let inside = opens_not (table_of a.parent.now a.kind.now) a.given.now a.node _ _ _ a.depth deep fits e in
    (omega (arith, on, c.decreases), (omega (arith, c.requires.depth_le_bracket_limit), (c.requires.ready, (c.requires.node_in_bounds, inside))))

pub operand-returns-in-Not : goal.operand-returns-in-Not
operand-returns-in-Not t c =
    let a = c.args in
    let fits = c.requires.fits in
    let on = operand_there _ _ _ a.depth fits in
    let u = c.unpack-item in
    let w = get_or a.items.now a.at 0 in
    let deep = not_deep _ _ _ a.depth fits u.result (said w u.result u.ensures) c.in_default.not-Path in
    let e = said w _ (sym c.in-Not.is ∙ u.ensures) in
    closes_not (table_of a.parent.now a.kind.now) a.given.now a.node _ _ _ a.depth deep fits c.expression-denied.result e c.expression-denied.ensures

pub operand-overflow_sub-depth-2 : goal.operand-overflow_sub-depth-2
operand-overflow_sub-depth-2 t c =
    let a = c.args in
    let fits = c.requires.fits in
    let on = operand_there _ _ _ a.depth fits in
    let u = c.unpack-item in
    let w = get_or a.items.now a.at 0 in
    let deep = not_deep _ _ _ a.depth fits u.result (said w u.result u.ensures) c.in_default.not-Path in
    omega (arith, deep)

pub operand-expression-requires : goal.operand-expression-requires
operand-expression-requires t c =
    let a = c.args in
    let fits = c.requires.fits in
    let on = operand_there _ _ _ a.depth fits in
    let u = c.unpack-item in
    let w = get_or a.items.now a.at 0 in
    let deep = not_deep _ _ _ a.depth fits u.result (said w u.result u.ensures) c.in_default.not-Path in
    let joins = must_join _ _ _ a.depth fits u.result (said w u.result u.ensures) c.in_default.not-Path c.in_default-item.not-Not in
    let run = opens_joined (table_of a.parent.now a.kind.now) a.given.now a.node _ _ _ a.depth deep fits joins in
    (omega (arith, on, operators_there a.items.now a.at a.depth on joins, c.decreases), (omega (arith, c.requires.depth_le_bracket_limit), (c.requires.ready, (c.requires.node_in_bounds, run))))

pub operand-returns : goal.operand-returns
operand-returns t c =
    let a = c.args in
    let fits = c.requires.fits in
    let on = operand_there _ _ _ a.depth fits in
    let u = c.unpack-item in
    let w = get_or a.items.now a.at 0 in
    let deep = not_deep _ _ _ a.depth fits u.result (said w u.result u.ensures) c.in_default.not-Path in
    let joins = must_join _ _ _ a.depth fits u.result (said w u.result u.ensures) c.in_default.not-Path c.in_default-item.not-Not in
    closes_joined (table_of a.parent.now a.kind.now) a.given.now a.node _ _ _ a.depth deep fits c.expression.result joins c.expression.ensures

pub path-returns-then-k-count : goal.path-returns-then-k-count
path-returns-then-k-count t c =
    let a = c.args in
    let f = c.requires.fits in
    let l = c.loop-k in
    let s = l.invariant in
    let both = and_true (eqb l.k a.count) c.arrived.result c.if-k-count.true in
    state_found _ _ _ _ _ _ _ _ _ f s (eqb-true l.k a.count both.0) (ap (ending (length a.parent.now) a.wanted) (sym c.stood-from.ensures) ∙ sym c.arrived.ensures ∙ both.1)

pub path-seek-found-requires : goal.path-seek-found-requires
path-seek-found-requires t c =
    let a = c.args in
    let f = c.requires.fits in
    let l = c.loop-k in
    let s = l.invariant in
    let room : l.k ≤ length l.stand = omega (arith, state_room _ _ _ _ _ _ _ _ _ f s, l.auto.stand) in
    let from = state_from _ _ _ _ _ _ _ _ _ f s c.requires.node_in_bounds in
    let part = part_length l.k l.stand [] room ∙ ap (λ (n : ℕ). n - l.k) l.auto.stand in (
      omega (arith, c.decreases, s.there.onward),
      (c.requires.depth_le_bracket_limit, (c.requires.ready, ((omega (arith, c.stood-from.ensures, from), s.under), λ h. state_step _ _ _ _ _ _ _ _ _ f s _ part h))),
    )

pub path-overflow_cast-stand : goal.path-overflow_cast-stand
path-overflow_cast-stand t c =
    let a = c.args in
    let f = c.requires.fits in
    let l = c.loop-k in
    let s = l.invariant in
    let r = c.in-Some.sought in
    let q = c.in-Some.ensures in
    let from = c.stood-from in
    omega (arith, state_within _ _ _ _ _ _ _ _ _ f s from.result r from.ensures q, s.under, c.requires.ready.few)

pub path-bounds-stand-k : goal.path-bounds-stand-k
path-bounds-stand-k t c =
    let a = c.args in
    let f = c.requires.fits in
    let l = c.loop-k in
    let s = l.invariant in
    let r = c.in-Some.sought in
    let q = c.in-Some.ensures in
    let from = c.stood-from in
    let room : l.k ≤ length l.stand = omega (arith, state_room _ _ _ _ _ _ _ _ _ f s, l.auto.stand) in
    let pushed = state_push _ _ _ _ _ _ _ _ _ f s from.result r from.ensures q in
    let on : l.k < length l.stand = omega (arith, state_room _ _ _ _ _ _ _ _ _ f pushed, l.auto.stand) in
    let back = c.seek-found in
    omega (arith, on, length_stays l.k l.stand back.new.stand room back.auto.stand)

pub path-loop-k-smaller-in-Some : goal.path-loop-k-smaller-in-Some
path-loop-k-smaller-in-Some t c =
    let a = c.args in
    let f = c.requires.fits in
    let l = c.loop-k in
    let s = l.invariant in
    let r = c.in-Some.sought in
    let q = c.in-Some.ensures in
    let from = c.stood-from in
    let room : l.k ≤ length l.stand = omega (arith, state_room _ _ _ _ _ _ _ _ _ f s, l.auto.stand) in
    let pushed = state_push _ _ _ _ _ _ _ _ _ f s from.result r from.ensures q in
    let on : l.k < length l.stand = omega (arith, state_room _ _ _ _ _ _ _ _ _ f pushed, l.auto.stand) in
    let back = c.seek-found in
    let grown = pushed_front l.stand back.new.stand l.k room back.auto.stand r.node on in
    subst (λ (ys : List ℕ). worth (length a.parent.now) a.count ys (length a.parent.now) < worth (length a.parent.now) a.count (take l.k l.stand) l.bound) (sym grown) (push_less _ _ _ _ _ _ _ _ _ f s from.result r from.ensures q)

pub path-loop-k-preserved-in-Some : goal.path-loop-k-preserved-in-Some
path-loop-k-preserved-in-Some t c =
    let a = c.args in
    let f = c.requires.fits in
    let l = c.loop-k in
    let s = l.invariant in
    let r = c.in-Some.sought in
    let q = c.in-Some.ensures in
    let from = c.stood-from in
    let room : l.k ≤ length l.stand = omega (arith, state_room _ _ _ _ _ _ _ _ _ f s, l.auto.stand) in
    let pushed = state_push _ _ _ _ _ _ _ _ _ f s from.result r from.ensures q in
    let on : l.k < length l.stand = omega (arith, state_room _ _ _ _ _ _ _ _ _ f pushed, l.auto.stand) in
    let back = c.seek-found in
    let grown = pushed_front l.stand back.new.stand l.k room back.auto.stand r.node on in
    subst (λ (ys : List ℕ). State (table_of a.parent.now a.kind.now) a.given.now a.items.now a.at a.depth a.count a.node a.wanted ys (l.k + 1) r.next (length a.parent.now)) (sym grown) pushed

pub path-returns-then-k-eq0 : goal.path-returns-then-k-eq0
path-returns-then-k-eq0 t c =
    let a = c.args in
    let f = c.requires.fits in
    let l = c.loop-k in
    let s = l.invariant in
    let from = c.stood-from in
    let dead = state_dead _ _ _ _ _ _ _ _ _ f s from.result from.ensures c.in-None.ensures (λ e. sym c.arrived.ensures ∙ not_both l.k a.count _ c.if-k-count.false e) in
    state_dry _ _ _ _ _ _ _ _ _ f s dead c.if-k-eq0.true

pub path-skip-place-requires : goal.path-skip-place-requires
path-skip-place-requires t c =
    let a = c.args in
    let f = c.requires.fits in
    let l = c.loop-k in
    let s = l.invariant in
    (f.few, f.inside, omega (arith, count_few _ _ _ a.depth a.count f, s.few))

pub path-loop-k-smaller : goal.path-loop-k-smaller
path-loop-k-smaller t c =
    let a = c.args in
    let f = c.requires.fits in
    let l = c.loop-k in
    let s = l.invariant in
    let from = c.stood-from in
    let dead = state_dead _ _ _ _ _ _ _ _ _ f s from.result from.ensures c.in-None.ensures (λ e. sym c.arrived.ensures ∙ not_both l.k a.count _ c.if-k-count.false e) in
    let room : l.k ≤ length l.stand = omega (arith, state_room _ _ _ _ _ _ _ _ _ f s, l.auto.stand) in
    let back = c.seek-found in
    let all = put_mid l.k (length l.stand - l.k) l.stand back.new.stand in
    let last = popped_front l.stand back.new.stand l.k room back.auto.stand c.if-k-eq0.false in
    subst (λ (j : ℕ). worth (length a.parent.now) a.count (take (l.k - 1) all) j < worth (length a.parent.now) a.count (take l.k l.stand) l.bound) (sym c.from-bound.ensures)
    (back_less _ _ _ _ _ _ _ _ _ f s dead (take (l.k - 1) all) (get_or all (l.k - 1) 0) last)

pub path-loop-k-preserved : goal.path-loop-k-preserved
path-loop-k-preserved t c =
    let a = c.args in
    let f = c.requires.fits in
    let l = c.loop-k in
    let s = l.invariant in
    let from = c.stood-from in
    let dead = state_dead _ _ _ _ _ _ _ _ _ f s from.result from.ensures c.in-None.ensures (λ e. sym c.arrived.ensures ∙ not_both l.k a.count _ c.if-k-count.false e) in
    let room : l.k ≤ length l.stand = omega (arith, state_room _ _ _ _ _ _ _ _ _ f s, l.auto.stand) in
    let back = c.seek-found in
    let all = put_mid l.k (length l.stand - l.k) l.stand back.new.stand in
    let last = popped_front l.stand back.new.stand l.k room back.auto.stand c.if-k-eq0.false in
    let ends = skip_ends a.items.now a.at a.depth (l.k - 1) _ f.inside (first_readable _ _ _ a.depth a.count f (l.k - 1) (omega (arith, s.few))) c.skip-place.ensures in
    subst (State (table_of a.parent.now a.kind.now) a.given.now a.items.now a.at a.depth a.count a.node a.wanted (take (l.k - 1) all) (l.k - 1) c.skip-place.result) (sym c.from-bound.ensures)
    (state_back _ _ _ _ _ _ _ _ _ f s dead (take (l.k - 1) all) (get_or all (l.k - 1) 0) last c.skip-place.result ends)

pub predicates-expression-one-requires : goal.predicates-expression-one-requires
predicates-expression-one-requires t c =
    let a = c.args in
    let l = c.loop in
    let row = l.invariant in
    let more : 0 < a.count - l.counter = omega (arith, c.loop-test.true) in
    pred_fits (table_of a.parent.now a.kind.now) a.given.now a.node a.items.now a.at a.depth (length a.stand.now) a.count l.place (a.count - l.counter) more c.requires.fits row
    (λ deep g. (
      omega (arith, c.decreases, row.onward, row.inside),
      (omega (arith, c.requires.depth_le_bracket_limit), (c.requires.ready, (c.requires.node_in_bounds, subst (λ (k : ℕ). Fits a.items.now l.place k (take_expr (take_within (a.depth - 1)) (drop l.place a.items.now))) (sym l.auto.stand) g))),
    ))

pub predicates-returns-then-not-one : goal.predicates-returns-then-not-one
predicates-returns-then-not-one t c =
    let a = c.args in
    let l = c.loop in
    let v = c.expression-one in
    let row = l.invariant in
    let more : 0 < a.count - l.counter = omega (arith, c.loop-test.true) in
    pred_fits (table_of a.parent.now a.kind.now) a.given.now a.node a.items.now a.at a.depth (length a.stand.now) a.count l.place (a.count - l.counter) more c.requires.fits row
    (λ deep g. (fails (table_of a.parent.now a.kind.now) a.given.now a.node a.items.now a.at a.depth a.count l.place (a.count - l.counter) more row v.result deep v.ensures (not-true _ c.if-not-one.true), λ h. absurd (false≢true h)))

pub predicates-loop-preserved : goal.predicates-loop-preserved
predicates-loop-preserved t c =
    let a = c.args in
    let l = c.loop in
    let v = c.expression-one in
    let row = l.invariant in
    let more : 0 < a.count - l.counter = omega (arith, c.loop-test.true) in
    pred_fits (table_of a.parent.now a.kind.now) a.given.now a.node a.items.now a.at a.depth (length a.stand.now) a.count l.place (a.count - l.counter) more c.requires.fits row
    (λ deep g.
    subst (Owed (table_of a.parent.now a.kind.now) a.given.now a.node a.items.now a.at a.depth a.count v.result.next) (let e : a.count - l.counter - 1 ≡ a.count - (l.counter + 1) = omega arith in e)
    (one_owed_less (table_of a.parent.now a.kind.now) a.given.now a.node a.items.now a.at a.depth a.count l.place (a.count - l.counter) more row v.result deep v.ensures (not-false _ c.if-not-one.false)))

pub seek-returns-in_err-node : goal.seek-returns-in_err-node
seek-returns-in_err-node t c =
    let a = c.args in
    let t' = table_of a.parent.now a.kind.now in
    let step = c.step_at-step in
    let past = c.loop-node.invariant in
    rw c.from_residual.ensures
    (sought_none t' a.given.now a.items.now a.place a.depth a.from a.bound (past_all t' a.given.now a.items.now a.place a.depth a.from a.bound step.result step.ensures c.in_err-node.ensures past) a.more c.if-not-more.false)

pub seek-predicates-held-requires : goal.seek-predicates-held-requires
seek-predicates-held-requires t c =
    let a = c.args in
    let t' = table_of a.parent.now a.kind.now in
    let step = c.step_at-step in
    let past = c.loop-node.invariant in
    let v = c.in_ok-node.ensures in
    let within = led_within t' a.given.now a.items.now a.place a.depth a.from a.bound step.result step.ensures v in
    let counts = step_count t' a.given.now a.items.now a.place a.depth a.from a.bound step.result step.ensures in
    let g = c.requires.step_fits c.if-not-more.false in
    let counted = subst (λ (k : ℕ). Fits a.items.now (a.place + 1) (length a.stand.now) (take_preds (take_within a.depth) k (drop (a.place + 1) a.items.now))) (sym (counts g.head g.there)) g.preds in
    let fits = subst (λ (k : ℕ). Fits a.items.now (a.place + 1) k (take_preds (take_within a.depth) step.result.count (drop (a.place + 1) a.items.now))) (sym c.loop-node.auto.stand) counted in
    (omega (arith, c.decreases, g.on), (c.requires.depth_le_bracket_limit, (c.requires.ready, (omega (arith, within, past.within, c.requires.from_in_bounds.1), fits))))

pub seek-returns-then-held : goal.seek-returns-then-held
seek-returns-then-held t c =
    let a = c.args in
    let t' = table_of a.parent.now a.kind.now in
    let step = c.step_at-step in
    let past = c.loop-node.invariant in
    let v = c.in_ok-node.ensures in
    let within = led_within t' a.given.now a.items.now a.place a.depth a.from a.bound step.result step.ensures v in
    let counts = step_count t' a.given.now a.items.now a.place a.depth a.from a.bound step.result step.ensures in
    let node = c.in_ok-node.node in
    let passed = past_led t' a.given.now a.items.now a.place a.depth a.from a.bound step.result step.ensures v past in
    let held = c.predicates-held in
    let lead = λ (k : ℕ). take_preds (take_within a.depth) k (drop (a.place + 1) a.items.now) in
    sought_here t' a.given.now a.items.now a.place a.depth a.from a.bound node held.result.next passed (led_here t' a.given.now a.items.now a.place a.depth a.from a.bound step.result step.ensures v)
    (λ h ps rest p u. sym (held.ensures.0 ps rest (ap lead (counts h p) ∙ u)) ∙ c.if-held.true)
    (λ h p. subst (λ (k : ℕ). Ends a.items.now (a.place + 1) (take_preds (take_within a.depth) k (drop (a.place + 1) a.items.now)) held.result.next) (counts h p) (held.ensures.1 c.if-held.true))
    a.more c.if-not-more.false

pub seek-loop-node-smaller : goal.seek-loop-node-smaller
seek-loop-node-smaller t c =
    let a = c.args in
    let t' = table_of a.parent.now a.kind.now in
    let step = c.step_at-step in
    let past = c.loop-node.invariant in
    let v = c.in_ok-node.ensures in
    let within = led_within t' a.given.now a.items.now a.place a.depth a.from a.bound step.result step.ensures v in
    within

pub seek-loop-node-preserved : goal.seek-loop-node-preserved
seek-loop-node-preserved t c =
    let a = c.args in
    let t' = table_of a.parent.now a.kind.now in
    let step = c.step_at-step in
    let past = c.loop-node.invariant in
    let v = c.in_ok-node.ensures in
    let within = led_within t' a.given.now a.items.now a.place a.depth a.from a.bound step.result step.ensures v in
    let counts = step_count t' a.given.now a.items.now a.place a.depth a.from a.bound step.result step.ensures in
    let node = c.in_ok-node.node in
    let passed = past_led t' a.given.now a.items.now a.place a.depth a.from a.bound step.result step.ensures v past in
    let held = c.predicates-held in
    let lead = λ (k : ℕ). take_preds (take_within a.depth) k (drop (a.place + 1) a.items.now) in
    past_failed t' a.given.now a.items.now a.place a.depth a.from a.bound node passed (λ h ps rest p u. sym (held.ensures.0 ps rest (ap lead (counts h p) ∙ u)) ∙ c.if-held.false)
