-- The functions that walk over items and call each other meet their contracts. Assumes nothing.
use Rattle.std.proofs.Common.{◌≡◌, sym, ◌∙◌, ap, subst, arith, ◌+◌, ◌-◌, get_or, ℕ, cond, max, Some, None}
use Rattle.std.proofs.Math.Option.{some}
use Rattle.paper.specs.Items.{path_at, take_within}
use Rattle.paper.specs.Query.{stop, step, bare, pred}
use Rattle.paper.specs.Composition.{guarded, guard_depth_expr}
use Rattle.item.proofs.Saying.{said}
use Rattle.item.proofs.GuardedAxes.{guarded-number}
use Rattle.heights.specs.Heights.{opened}
use Rattle.shape.proofs.Walking.{turn_start, term_low, turn_and, turn_or, turn_done}
use Rattle.shape.proofs.Walking.{row_start, row_more, row_stuck, row_done, step_rows, step_row, no_step_row, bad_step_row, past_step_row}
use Rattle.shape.proofs.Walking.{pred_rows, pred_next, bad_pred_row}
use Rattle.shape.proofs.Operands.{operand_past, operand_shut, operand_rest, operator_item, operators_there, walk_path, less_opened, opens_joined, opens_not, walk_none, operand_bare, no_step_said}
use Rattle.shape.proofs.+expression_operand_predicates_steps.Goals as goal

pub expression-loop-one-init : goal.expression-loop-one-init
expression-loop-one-init t c =
    let a = c.args in
    turn_start a.depth a.items.now a.at c.run_of-ors.result c.run_of-ands.result c.run_of-ors.ensures.0 c.run_of-ands.ensures.0 c.run_of-ors.ensures.1 c.run_of-ands.ensures.1

pub expression-loop-one-preserved-then-ands-gt0 : goal.expression-loop-one-preserved-then-ands-gt0
expression-loop-one-preserved-then-ands-gt0 t c =
    let w = c.in_ok-one.ensures in
    turn_and c.loop-one.invariant w c.max-deep.ensures c.max-guarded.ensures c.joined-term.ensures c.if-ands-gt0.true

pub expression-joined-high-requires : goal.expression-joined-high-requires
expression-joined-high-requires t c =
    let w = c.in_ok-one.ensures in
    (omega (arith, c.loop-one.invariant.outer.low, c.loop-one.invariant.outer.inside), omega (arith, term_low c.loop-one.invariant w c.max-deep.ensures c.max-guarded.ensures c.joined-term.ensures, w.inside))

pub expression-returns-then-ors-eq0 : goal.expression-returns-then-ors-eq0
expression-returns-then-ors-eq0 t c =
    let w = c.in_ok-one.ensures in
    turn_done c.loop-one.invariant w c.max-deep.ensures c.max-guarded.ensures c.joined-term.ensures c.if-ands-gt0.false c.joined-high.ensures (omega (arith, c.if-ors-eq0.true))

pub expression-loop-one-preserved : goal.expression-loop-one-preserved
expression-loop-one-preserved t c =
    let w = c.in_ok-one.ensures in
    turn_or c.loop-one.invariant w c.max-deep.ensures c.max-guarded.ensures c.joined-term.ensures c.if-ands-gt0.false c.joined-high.ensures (omega (arith, c.if-ors-eq0.false)) c.run_of-ands-else-ands-gt0.ensures.0 c.run_of-ands-else-ands-gt0.ensures.1

pub operand-returns-then-items-at : goal.operand-returns-then-items-at
operand-returns-then-items-at t c =
    let a = c.args in
    operand_past (take_within a.depth) a.items.now a.at c.if-items-at.true

pub operand-returns-then-count-eq0 : goal.operand-returns-then-count-eq0
operand-returns-then-count-eq0 t c =
    let a = c.args in
    let w = get_or a.items.now a.at 0 in
    let s = said w _ (sym c.in-Path.is ∙ c.unpack-item.ensures) in
    walk_none a.items.now a.at a.depth c.if-items-at.false a.depth (operand_bare (take_within a.depth) w _ (subst (λ (n : ℕ). path_at w ≡ some n) c.if-count-eq0.true s))

pub operand-returns-in_err-steps : goal.operand-returns-in_err-steps
operand-returns-in_err-steps t c =
    let a = c.args in
    let w = get_or a.items.now a.at 0 in
    let s = said w _ (sym c.in-Path.is ∙ c.unpack-item.ensures) in
    rw c.from_residual.ensures (walk_path a.items.now a.at a.depth c.if-items-at.false _ s (omega (arith, c.if-count-eq0.false)) None c.in_err-steps.ensures)

pub operand-returns-in-Path : goal.operand-returns-in-Path
operand-returns-in-Path t c =
    let a = c.args in
    let w = get_or a.items.now a.at 0 in
    let s = said w _ (sym c.in-Path.is ∙ c.unpack-item.ensures) in
    rw c.raised.ensures (walk_path a.items.now a.at a.depth c.if-items-at.false _ s (omega (arith, c.if-count-eq0.false)) (Some c.in_ok-steps.field-0) c.in_ok-steps.ensures)

pub operand-returns-then-depth-eq0 : goal.operand-returns-then-depth-eq0
operand-returns-then-depth-eq0 t c =
    let a = c.args in
    let u = c.unpack-item in
    let w = get_or a.items.now a.at 0 in
    walk_none a.items.now a.at a.depth c.if-items-at.false a.depth (rw c.if-depth-eq0.true (operand_shut w u.result _ (said w u.result u.ensures) c.in_default.not-Path))

pub operand-expression-requires : goal.operand-expression-requires
operand-expression-requires t c =
    let a = c.args in
    let u = c.unpack-item in
    let o = operator_item (get_or a.items.now a.at 0) u.result (said _ u.result u.ensures) c.in-And.is in
    (omega (arith, c.if-items-at.false, operators_there a.items.now a.at a.depth c.if-items-at.false o), (c.requires.0, omega (arith, c.requires.1)))

pub operand-returns-in_err-expression-in-And : goal.operand-returns-in_err-expression-in-And
operand-returns-in_err-expression-in-And t c =
    let a = c.args in
    let u = c.unpack-item in
    let o = operator_item (get_or a.items.now a.at 0) u.result (said _ u.result u.ensures) c.in-And.is in
    rw c.from_residual-in_err-expression-in-And.ensures (opens_joined a.items.now a.at a.depth c.if-items-at.false c.if-depth-eq0.false c.requires.1 None o c.in_err-expression-in-And.ensures)

pub operand-returns-in_err-expression-in-Not : goal.operand-returns-in_err-expression-in-Not
operand-returns-in_err-expression-in-Not t c =
    let a = c.args in
    let s = said (get_or a.items.now a.at 0) _ (sym c.in-Not.is ∙ c.unpack-item.ensures) in
    rw c.from_residual-in_err-expression-in-Not.ensures (opens_not a.items.now a.at a.depth c.if-items-at.false c.if-depth-eq0.false c.requires.1 None s c.in_err-expression-in-Not.ensures)

pub operand-returns-in_ok-expression-in-And : goal.operand-returns-in_ok-expression-in-And
operand-returns-in_ok-expression-in-And t c =
    let a = c.args in
    let u = c.unpack-item in
    let o = operator_item (get_or a.items.now a.at 0) u.result (said _ u.result u.ensures) c.in-And.is in
    rw c.raised-in-And.ensures (opens_joined a.items.now a.at a.depth c.if-items-at.false c.if-depth-eq0.false c.requires.1 (Some c.in_ok-expression-in-And.field-0) o c.in_ok-expression-in-And.ensures)

pub operand-returns-in_ok-expression-in-Not : goal.operand-returns-in_ok-expression-in-Not
operand-returns-in_ok-expression-in-Not t c =
    let a = c.args in
    let s = said (get_or a.items.now a.at 0) _ (sym c.in-Not.is ∙ c.unpack-item.ensures) in
    rw c.raised-in-Not.ensures (opens_not a.items.now a.at a.depth c.if-items-at.false c.if-depth-eq0.false c.requires.1 (Some c.in_ok-expression-in-Not.field-0) s c.in_ok-expression-in-Not.ensures)

pub operand-returns-in_default-item : goal.operand-returns-in_default-item
operand-returns-in_default-item t c =
    let a = c.args in
    let u = c.unpack-item in
    let w = get_or a.items.now a.at 0 in
    let d = c.in_default-item in
    walk_none a.items.now a.at a.depth c.if-items-at.false a.depth
    (operand_rest (take_within a.depth) w u.result _ (said w u.result u.ensures) c.in_default.not-Path d.not-And d.not-Or d.not-Not)

pub predicates-loop-init : goal.predicates-loop-init
predicates-loop-init t c =
    let a = c.args in
    row_start (pred_rows a.depth) a.items.now a.at a.depth a.count (a.count - 0) (omega arith) c.requires.0

pub predicates-returns-in_err-more : goal.predicates-returns-in_err-more
predicates-returns-in_err-more t c =
    let a = c.args in
    let l = c.loop in
    rw c.from_residual.ensures
    (row_stuck (pred_rows a.depth) _ _ _ _ l.place l.deep l.high l.guarded (a.count - l.counter) (omega (arith, c.loop-test.true)) l.invariant
    (bad_pred_row a.depth a.items.now l.place c.if-depth-eq0.false c.in_err-more.ensures))

pub predicates-loop-preserved : goal.predicates-loop-preserved
predicates-loop-preserved t c =
    let a = c.args in
    let l = c.loop in
    let m = c.in_ok-more.more in
    let w = c.in_ok-more.ensures in
    row_more (pred_rows a.depth) a.items.now a.at a.depth _ l.place l.deep l.high l.guarded (a.count - l.counter) (a.count - (l.counter + 1)) m.next (m.nesting + 1) m.height m.guards _ _ _
    (pred w.what bare) (omega (arith, c.loop-test.true)) l.invariant (pred_next a.depth a.items.now l.place w.what m.next c.if-depth-eq0.false w.reads) w.onward w.inside
    (omega (arith, w.nests)) (omega (arith, w.heights))
    (omega (arith, w.guards ∙ ap (guard_depth_expr w.what) (less_opened a.depth c.if-depth-eq0.false c.requires.1)))
    (omega (arith, w.shallow, c.if-depth-eq0.false)) (omega (arith, w.low)) c.max-deep.ensures c.max-high.ensures c.max-guarded.ensures

pub predicates-returns : goal.predicates-returns
predicates-returns t c =
    let a = c.args in
    let l = c.loop in
    row_done (pred_rows a.depth) _ _ _ _ l.place l.deep l.high l.guarded (a.count - l.counter) (omega (arith, c.loop-test.false)) l.invariant

pub steps-loop-init : goal.steps-loop-init
steps-loop-init t c =
    let a = c.args in
    row_start (step_rows a.depth) a.items.now a.at a.depth a.count (a.count - 0) (omega arith) c.requires.0

pub steps-returns-then-items-place : goal.steps-returns-then-items-place
steps-returns-then-items-place t c =
    let a = c.args in
    let l = c.loop in
    row_stuck (step_rows a.depth) _ _ _ _ l.place l.deep l.high l.guarded (a.count - l.counter) (omega (arith, c.loop-test.true)) l.invariant (past_step_row a.depth a.items.now l.place c.if-items-place.true)

pub steps-returns-in_default : goal.steps-returns-in_default
steps-returns-in_default t c =
    let a = c.args in
    let l = c.loop in
    let u = c.unpack-item in
    let w = get_or a.items.now l.place 0 in
    row_stuck (step_rows a.depth) _ _ _ _ l.place l.deep l.high l.guarded (a.count - l.counter) (omega (arith, c.loop-test.true)) l.invariant
    (no_step_row a.depth a.items.now l.place c.if-items-place.false (no_step_said w u.result (said w u.result u.ensures) c.in_default.not-Step))

pub steps-returns-in_err-more : goal.steps-returns-in_err-more
steps-returns-in_err-more t c =
    let a = c.args in
    let l = c.loop in
    let w = get_or a.items.now l.place 0 in
    let s = said w _ (sym c.in-Step.is ∙ c.unpack-item.ensures) in
    rw c.from_residual.ensures
    (row_stuck (step_rows a.depth) _ _ _ _ l.place l.deep l.high l.guarded (a.count - l.counter) (omega (arith, c.loop-test.true)) l.invariant
    (bad_step_row a.depth a.items.now l.place s.0 _ c.if-items-place.false s.1 (ap (λ x. x.count) s.2) c.in_err-more.ensures))

pub steps-loop-preserved : goal.steps-loop-preserved
steps-loop-preserved t c =
    let a = c.args in
    let l = c.loop in
    let w = get_or a.items.now l.place 0 in
    let s = said w _ (sym c.in-Step.is ∙ c.unpack-item.ensures) in
    let m = c.in_ok-more.more in
    let p = c.in_ok-more.ensures in
    let own = c.own_depth.result in
    let own_is : own ≡ cond (guarded s.0.axis) (opened a.depth) 0 =
    c.own_depth.ensures ∙
    ap (λ g. cond g (opened a.depth) 0) (sym (guarded-number s.0.axis _ (ap (λ x. x.axis) s.2))) in
    row_more (step_rows a.depth) a.items.now a.at a.depth _ l.place l.deep l.high l.guarded (a.count - l.counter) (a.count - (l.counter + 1)) m.next m.nesting m.height (max own m.guards) _ _ _
    (step s.0.axis s.0.test p.what stop) (omega (arith, c.loop-test.true)) l.invariant
    (step_row a.depth a.items.now l.place s.0 _ p.what m.next c.if-items-place.false s.1 (ap (λ x. x.count) s.2) p.reads) (omega (arith, p.onward)) p.inside
    (omega (arith, p.nests)) (omega (arith, p.heights)) (omega (arith, own_is, p.guards)) p.shallow (omega (arith, p.low)) c.max-deep.ensures c.max-high.ensures
    (omega arith)

pub steps-returns : goal.steps-returns
steps-returns t c =
    let a = c.args in
    let l = c.loop in
    row_done (step_rows a.depth) _ _ _ _ l.place l.deep l.high l.guarded (a.count - l.counter) (omega (arith, c.loop-test.false)) l.invariant
