-- The functions that print items and call each other meet their contracts: path, step and expression, with falling remaining items. Assumes nothing.
use Rattle.std.proofs.Common.{◌≡◌, ◌+◌, ◌-◌, refl, sym, ◌∙◌, ap, arith, length, drop, get_or, false}
use Rattle.paper.specs.Names.{names_of}
use Rattle.paper.specs.Answers.{unknown_test}
use Rattle.paper.proofs.Tests.{none-some, some_inj}
use Rattle.paper.proofs.Fields.{step_found}
use Rattle.item.proofs.Saying.{said}
use Rattle.shape.proofs.Operands.{operators_there, no_step_said}
use Rattle.put_query.proofs.Chains.{turn_start, turn_and, turn_or, turn_done}
use Rattle.put_query.proofs.Skipping.{step_there}
use Rattle.put_query.proofs.Rows.{known_test, preds_counted, head_counted, rest_start, pred_opens, pred_turn, step-head, step-turn, skip_few}
use Rattle.put_query.proofs.Operands.{operand_there, path_opens, path_prints, operator_there, not_deep, joined_deep, not_opens, joined_opens, not_prints, joined_prints}
use Rattle.put_query.proofs.+expression_operand_predicates_steps.Goals as goal

pub expression-loop-ands-init : goal.expression-loop-ands-init
expression-loop-ands-init t c =
    let a = c.args in
    let source = a.source.now in
    turn_start source.brief (names_of source.names.now) a.depth source.items.now a.at a.pen a.out.now c.requires.some
    c.run_of-ors.result c.run_of-ands.result c.run_of-ors.ensures.0 c.run_of-ands.ensures.0 c.run_of-ors.ensures.1 c.run_of-ands.ensures.1

pub expression-loop-ands-preserved-then-ands-gt0 : goal.expression-loop-ands-preserved-then-ands-gt0
expression-loop-ands-preserved-then-ands-gt0 t c = turn_and c.loop-ands.invariant c.operand-one.ensures c.if-ands-gt0.true c.put_and-byte.ensures

pub expression-returns-then-ors-eq0 : goal.expression-returns-then-ors-eq0
expression-returns-then-ors-eq0 t c = turn_done c.loop-ands.invariant c.operand-one.ensures c.if-ands-gt0.false (omega (arith, c.if-ors-eq0.true))

pub expression-loop-ands-preserved : goal.expression-loop-ands-preserved
expression-loop-ands-preserved t c =
    turn_or c.loop-ands.invariant c.operand-one.ensures c.if-ands-gt0.false c.requires.some (omega (arith, c.if-ors-eq0.false))
    c.put_or-byte.ensures c.run_of-ands-else-ands-gt0.ensures.0 c.run_of-ands-else-ands-gt0.ensures.1

pub operand-bounds-source-at : goal.operand-bounds-source-at
operand-bounds-source-at t c = operand_there c.args.depth c.args.source.now.items.now c.args.at c.requires.some

pub operand-steps-requires : goal.operand-steps-requires
operand-steps-requires t c =
    let a = c.args in
    let items = a.source.now.items.now in
    let p = c.requires in
    let there = operand_there a.depth items a.at p.some in
    let s = said (get_or items a.at 0) _ (sym c.in-Path.is ∙ c.unpack-item.ensures) in
    (omega (arith, c.decreases, there), (p.names, ((omega (arith, there), omega (arith, p.at_in_bounds.1)), path_opens a.depth items a.at there _ s p.some)))

pub operand-returns-in-Path : goal.operand-returns-in-Path
operand-returns-in-Path t c =
    let a = c.args in
    let items = a.source.now.items.now in
    let there = operand_there a.depth items a.at c.requires.some in
    let s = said (get_or items a.at 0) _ (sym c.in-Path.is ∙ c.unpack-item.ensures) in
    path_prints a.depth items a.at there _ _ _ _ _ _ _ s c.requires.some c.steps.ensures

pub operand-overflow_sub-depth : goal.operand-overflow_sub-depth
operand-overflow_sub-depth t c =
    let a = c.args in
    let items = a.source.now.items.now in
    not_deep items a.at a.depth c.requires.some (said (get_or items a.at 0) _ (sym c.in-Not.is ∙ c.unpack-item.ensures))

pub operand-expression-denied-requires : goal.operand-expression-denied-requires
operand-expression-denied-requires t c =
    let a = c.args in
    let items = a.source.now.items.now in
    let p = c.requires in
    let denied = said (get_or items a.at 0) _ (sym c.in-Not.is ∙ c.unpack-item.ensures) in
    let there = operand_there a.depth items a.at p.some in (
      omega (arith, c.decreases, there),
      (p.names, ((omega (arith, there), omega (arith, p.at_in_bounds.1, c.put_not-opened.ensures.moved)), not_opens items a.at a.depth p.some denied)),
    )

pub operand-returns-in-Not : goal.operand-returns-in-Not
operand-returns-in-Not t c =
    let a = c.args in
    let items = a.source.now.items.now in
    let denied = said (get_or items a.at 0) _ (sym c.in-Not.is ∙ c.unpack-item.ensures) in
    not_prints items a.at a.depth c.requires.some _ _ _ _ _ _ _ _ _ _ denied c.put_not-opened.ensures c.expression-denied.ensures c.closed.ensures.puts c.closed.ensures.item_value

pub operand-overflow_sub-depth-2 : goal.operand-overflow_sub-depth-2
operand-overflow_sub-depth-2 t c =
    let a = c.args in
    let items = a.source.now.items.now in
    let u = c.unpack-item in
    let o = operator_there items a.at a.depth c.requires.some u.result (said _ u.result u.ensures) c.in_default.not-Path c.in_default-item.not-Not in
    joined_deep items a.at a.depth c.requires.some o

pub operand-expression-inner-requires : goal.operand-expression-inner-requires
operand-expression-inner-requires t c =
    let a = c.args in
    let items = a.source.now.items.now in
    let p = c.requires in
    let u = c.unpack-item in
    let o = operator_there items a.at a.depth p.some u.result (said _ u.result u.ensures) c.in_default.not-Path c.in_default-item.not-Not in
    let there = operand_there a.depth items a.at p.some in
    let more = operators_there items a.at a.depth there o in (
      omega (arith, c.decreases, there, more),
      (p.names, ((p.at_in_bounds.0, omega (arith, p.at_in_bounds.1, c.put_open-opened.ensures.moved, more)), joined_opens items a.at a.depth p.some o)),
    )

pub operand-returns : goal.operand-returns
operand-returns t c =
    let a = c.args in
    let items = a.source.now.items.now in
    let u = c.unpack-item in
    let o = operator_there items a.at a.depth c.requires.some u.result (said _ u.result u.ensures) c.in_default.not-Path c.in_default-item.not-Not in
    joined_prints items a.at a.depth c.requires.some _ _ _ _ _ _ _ _ _ _ o c.put_open-opened.ensures c.expression-inner.ensures c.closed-2.ensures.puts c.closed-2.ensures.item_value

pub predicates-loop-init : goal.predicates-loop-init
predicates-loop-init t c = let all : c.args.number - 0 ≡ c.args.number = omega arith in rw all (rest_start _ _ _ _ _ _ _ _ _ c.requires.at_in_bounds.0 refl c.requires.some)

pub predicates-expression-more-requires : goal.predicates-expression-more-requires
predicates-expression-more-requires t c =
    let a = c.args in
    let l = c.loop in
    let i = l.invariant in
    let owed = a.number - l.counter in
    let opens = pred_opens a.depth a.source.now.items.now l.place owed (i.rest, i.left) (omega arith) i.takes in (
      omega (arith, c.decreases, i.onward),
      (c.requires.names, ((i.inside, omega (arith, i.low, c.put_byte-opened.ensures.moved, c.requires.at_in_bounds.1)), opens.1)),
    )

pub predicates-loop-preserved : goal.predicates-loop-preserved
predicates-loop-preserved t c =
    let owed = c.args.number - c.loop.counter in
    let less : c.args.number - (c.loop.counter + 1) ≡ owed - 1 = omega arith in
    rw less (pred_turn _ _ c.args.depth _ _ _ _ _ _ _ _ _ _ _ _ _ _ _ (omega arith) c.loop.invariant c.put_byte-opened.ensures c.expression-more.ensures c.put_byte-byte.ensures)

pub steps-bounds-source-place : goal.steps-bounds-source-place
steps-bounds-source-place t c =
    let l = c.loop-owed in
    step_there c.args.depth c.args.source.now.items.now l.place l.owed (l.invariant.rest, l.invariant.left) c.loop-owed-test.true l.invariant.takes

pub steps-returns-in_default : goal.steps-returns-in_default
steps-returns-in_default t c =
    let a = c.args in
    let items = a.source.now.items.now in
    let l = c.loop-owed in
    let u = c.unpack-item in
    let w = get_or items l.place 0 in
    let h = step-head a.depth items l.place l.owed (l.invariant.rest, l.invariant.left) c.loop-owed-test.true l.invariant.takes in
    none-some (sym (no_step_said w u.result (said w u.result u.ensures) c.in_default.not-Step) ∙ h.1)

pub steps-put_listed_head-headed-requires : goal.steps-put_listed_head-headed-requires
steps-put_listed_head-headed-requires t c =
    let a = c.args in
    let items = a.source.now.items.now in
    let l = c.loop-owed in
    let w = get_or items l.place 0 in
    let s = said w _ (sym c.in-Step.is ∙ c.unpack-item.ensures) in
    let count = length (names_of a.source.now.names.now) in
    let unknown : unknown_test count s.0.test ≡ false = rw s.1 at (c.requires.names.known l.place) in
    let there = step_there a.depth items l.place l.owed (l.invariant.rest, l.invariant.left) c.loop-owed-test.true l.invariant.takes in
    record { known = (rw (ap (λ x. x.test) s.2) (known_test count s.0.test (step_found w s.0 s.1).1 unknown), c.requires.names.few, omega (arith, l.invariant.low, there, c.requires.at_in_bounds.1)) }

pub steps-predicates-more-requires : goal.steps-predicates-more-requires
steps-predicates-more-requires t c =
    let a = c.args in
    let items = a.source.now.items.now in
    let l = c.loop-owed in
    let w = get_or items l.place 0 in
    let s = said w _ (sym c.in-Step.is ∙ c.unpack-item.ensures) in
    let h = step-head a.depth items l.place l.owed (l.invariant.rest, l.invariant.left) c.loop-owed-test.true l.invariant.takes in
    let same : h.0 ≡ s.0 = some_inj (sym h.1 ∙ s.1) in
    let there = step_there a.depth items l.place l.owed (l.invariant.rest, l.invariant.left) c.loop-owed-test.true l.invariant.takes in (
      omega (arith, c.decreases, l.invariant.onward, there),
      (
        c.requires.names,
        (
          (omega (arith, there), omega (arith, l.invariant.low, c.put_listed_head-headed.ensures.upper_bound, c.requires.at_in_bounds.1)),
          rw (ap (λ x. x.count) s.2, ← same) h.2,
        ),
      ),
    )

pub steps-overflow_sub-owed-in-loop-owed : goal.steps-overflow_sub-owed-in-loop-owed
steps-overflow_sub-owed-in-loop-owed t c =
    let a = c.args in
    let items = a.source.now.items.now in
    let l = c.loop-owed in
    let w = get_or items l.place 0 in
    let s = said w _ (sym c.in-Step.is ∙ c.unpack-item.ensures) in
    let v = preds_counted a.depth (drop (l.place + 1) items) s.0.count (ap (λ x. x.count) s.2) c.predicates-more.ensures in
    (skip_few a.source.now.brief a.depth items l.place l.owed c.predicates-more.result.item c.deep-skipped.result l.invariant.rest l.invariant.left s.0 v.what
    c.loop-owed-test.true l.invariant.takes s.1 v.reads v.inside c.deep-skipped.ensures).0

pub steps-loop-owed-preserved : goal.steps-loop-owed-preserved
steps-loop-owed-preserved t c =
    let a = c.args in
    let names = names_of a.source.now.names.now in
    let items = a.source.now.items.now in
    let l = c.loop-owed in
    let w = get_or items l.place 0 in
    let s = said w _ (sym c.in-Step.is ∙ c.unpack-item.ensures) in
    let h = s.0 in
    let p = c.put_listed_head-headed.ensures in
    step-turn _ _ a.depth _ _ _ _ _ _ _ _ _ _ _ _ _ _ _ _ _ h _ c.loop-owed-test.true l.invariant s.1
    (head_counted names a.source.now.brief h.axis h.test h.count (ap (λ x. x.count) s.2) (p.puts h.axis h.test (ap (λ x. x.axis) s.2) (ap (λ x. x.test) s.2) (step_found w h s.1).1)) p.upper_bound
    (preds_counted a.depth (drop (l.place + 1) items) h.count (ap (λ x. x.count) s.2) c.predicates-more.ensures) c.put_slash-parted.ensures c.deep-skipped.ensures c.put_slash-byte.ensures
