-- The functions of `read_paths` that call each other meet their contracts: what was read of each part, by the laws of `Runs`, `Rows` and `Operands`. Assumes nothing.
use Prim.Native.Nat.{ℕ}
use native.Mathlib.Omega.{arith}
use borrow.Author.Rules.{rules}
use mathlib.Core.Path.{◌≡◌, refl}
use Rattle.std.specs.Prelude.{Ok, Err}
use Rattle.paper.specs.declared.Refusal.TheVariants.{NoQuery}
use Rattle.paper.specs.Reading.{read_within}
use Rattle.marks.specs.Marks.{tokens_at}
use Rattle.heads.specs.Heads.{look_of}
use Rattle.read_paths.proofs.Runs.{turn_start, operands, turn_and, terms, turn_or, turn_done, passed_on}
use Rattle.read_paths.proofs.Rows.{preds_start, preds_more, preds_stuck, preds_done, steps_start, step_more, step_stuck, steps_more, steps_done}
use Rattle.read_paths.proofs.Operands.{opened, closed, unclosed, not_stuck, not_done, round_done, path_done, tested_done}
use Rattle.read_paths.proofs.+bracketed_expression_operand_predicates_step_steps.Goals as goal

pub bracketed-returns-in_err-close : goal.bracketed-returns-in_err-close
bracketed-returns-in_err-close t c =
    let newer = c.args.newer in
    let look = look_of c.args.names in
    let inside = opened newer look c.args.depth c.args.bracket (tokens_at c.args.text.now c.args.cursor.at) c.if-depth-eq0.false in
    let (place, other, made) : (p : ℕ) × (c.mark.result ≡ Err p) × (c.from_residual-in_err-close.result ≡ Err (NoQuery p)) = search rules in
    let m = rw other at c.mark.ensures in
    rw made (unclosed _ _ _ _ _ c.args.closer _ _ inside _ _ _ c.in_ok-inner.ensures m.0 m.1)

pub bracketed-returns : goal.bracketed-returns
bracketed-returns t c =
    let newer = c.args.newer in
    let look = look_of c.args.names in
    let inside = opened newer look c.args.depth c.args.bracket (tokens_at c.args.text.now c.args.cursor.at) c.if-depth-eq0.false in
    let there : c.mark.result ≡ Ok c.in_ok-close.close = search rules in
    let m = rw there at c.mark.ensures in
    closed _ _ _ _ _ c.args.closer _ _ inside _ _ _ c.in_ok-inner.ensures m.0 m.2

pub expression-loop-one-init : goal.expression-loop-one-init
expression-loop-one-init t c =
    let newer = c.args.newer in
    let look = look_of c.args.names in
    let within = read_within newer look c.args.depth in
    (refl, turn_start newer look within c.args.text.now c.args.out.now c.args.cursor.at c.args.slot c.requires.ready.inside)

pub expression-loop-one-preserved-in-Ok : goal.expression-loop-one-preserved-in-Ok
expression-loop-one-preserved-in-Ok t c =
    let newer = c.args.newer in
    let look = look_of c.args.names in
    let within = read_within newer look c.args.depth in
    let turn = c.loop-one.invariant.1 in
    let g = c.in_ok-one.ensures in
    let and = c.in-Ok.ensures in
    (search rules, turn_and newer look within _ _ _ _ _ _ _ _ _ _ turn _ _ _ g _ and.0 and.2)

pub expression-group-requires : goal.expression-group-requires
expression-group-requires t c =
    let newer = c.args.newer in
    let look = look_of c.args.names in
    let within = read_within newer look c.args.depth in
    let turn = c.loop-one.invariant.1 in
    let g = c.in_ok-one.ensures in
    let l = operands newer look within _ _ _ _ _ _ _ _ _ _ turn _ _ _ g in
    (omega (arith, l.ends), omega (arith, l.grows, l.inside, turn.outer.grows, c.requires.ready.short, c.requires.slot_bound), omega (arith, l.grows, l.inside, turn.outer.grows, c.requires.ready.short, c.requires.slot_bound))

pub expression-group-requires-in_default : goal.expression-group-requires-in_default
expression-group-requires-in_default t c =
    let newer = c.args.newer in
    let look = look_of c.args.names in
    let within = read_within newer look c.args.depth in
    let turn = c.loop-one.invariant.1 in
    let g = c.in_ok-one.ensures in
    let whole = terms newer look within _ _ _ _ _ _ _ _ _ _ turn _ _ _ g _ c.in-Err.ensures.0 c.group.ensures.grouped in
    (omega (arith, whole.ends), omega (arith, whole.grows, whole.inside, c.requires.ready.short, c.requires.slot_bound), omega (arith, whole.grows, whole.inside, c.requires.ready.short, c.requires.slot_bound))

pub expression-returns-in_default : goal.expression-returns-in_default
expression-returns-in_default t c =
    let newer = c.args.newer in
    let look = look_of c.args.names in
    let within = read_within newer look c.args.depth in
    let turn = c.loop-one.invariant.1 in
    let g = c.in_ok-one.ensures in
    turn_done newer look within _ _ _ _ _ _ _ _ _ _ turn _ _ _ g _ c.in-Err.ensures.0 c.group.ensures.grouped _ c.in_default.ensures.0 c.group-in_default.ensures.grouped

pub expression-loop-one-preserved : goal.expression-loop-one-preserved
expression-loop-one-preserved t c =
    let newer = c.args.newer in
    let look = look_of c.args.names in
    let within = read_within newer look c.args.depth in
    let turn = c.loop-one.invariant.1 in
    let g = c.in_ok-one.ensures in
    let or = c.in-Ok-word_ahead.ensures in
    (search rules, turn_or newer look within _ _ _ _ _ _ _ _ _ _ turn _ _ _ g _ c.in-Err.ensures.0 c.group.ensures.grouped _ or.0 or.2)

pub operand-returns-in_err-inner-in-Not : goal.operand-returns-in_err-inner-in-Not
operand-returns-in_err-inner-in-Not t c =
    let newer = c.args.newer in
    let look = look_of c.args.names in
    let within = read_within newer look c.args.depth in
    let made : c.from_residual.result ≡ Err c.in_err-inner-in-Not.field-0.0 = search rules in
    rw made (passed_on _ _ _ c.in_err-inner-in-Not.ensures (λ k place h. not_stuck newer look within _ c.args.out.now _ c.args.slot _ _ k place c.in-Not.ensures h))

pub operand-returns-in_ok-inner-in-Not : goal.operand-returns-in_ok-inner-in-Not
operand-returns-in_ok-inner-in-Not t c =
    let newer = c.args.newer in
    let look = look_of c.args.names in
    let within = read_within newer look c.args.depth in
    not_done newer look within _ _ _ _ _ _ _ _ _ _ c.in-Not.ensures c.in_ok-inner-in-Not.ensures c.put.ensures.wrote

pub operand-returns-in-Round : goal.operand-returns-in-Round
operand-returns-in-Round t c =
    let newer = c.args.newer in
    let look = look_of c.args.names in
    let within = read_within newer look c.args.depth in
    round_done newer look within c.args.text.now c.args.out.now c.args.cursor.at c.args.slot _ c.in-Round.round c.bracketed-in-Round.result c.in-Round.ensures c.bracketed-in-Round.ensures

pub operand-returns-in-Path : goal.operand-returns-in-Path
operand-returns-in-Path t c =
    let newer = c.args.newer in
    let look = look_of c.args.names in
    let within = read_within newer look c.args.depth in
    path_done newer look within c.args.text.now c.args.out.now c.args.cursor.at c.args.slot _ c.steps.result c.in-Path.ensures c.steps.ensures

pub predicates-loop-square-init : goal.predicates-loop-square-init
predicates-loop-square-init t c =
    (refl, preds_start _ _ _ _ _ _ _ c.requires.ready.inside)

pub predicates-returns-in_err-one : goal.predicates-returns-in_err-one
predicates-returns-in_err-one t c =
    let newer = c.args.newer in
    let look = look_of c.args.names in
    let within = read_within newer look c.args.depth in
    let l = c.loop-square.invariant.1 in
    let m = c.in-Ok.ensures in
    let made : c.from_residual.result ≡ Err c.in_err-one.field-0.0 = search rules in
    λ a kind ea et. rw made (passed_on _ _ _ c.in_err-one.ensures (preds_stuck newer look within _ _ _ _ _ _ _ _ l _ _ m.0 m.1 m.2 a kind))

pub predicates-loop-square-preserved : goal.predicates-loop-square-preserved
predicates-loop-square-preserved t c =
    let newer = c.args.newer in
    let look = look_of c.args.names in
    let within = read_within newer look c.args.depth in
    let l = c.loop-square.invariant.1 in
    let m = c.in-Ok.ensures in
    (search rules, preds_more newer look within _ _ _ _ _ _ _ _ l _ _ m.0 m.1 m.2 _ _ _ c.in_ok-one.ensures)

pub predicates-returns : goal.predicates-returns
predicates-returns t c =
    let newer = c.args.newer in
    let look = look_of c.args.names in
    let within = read_within newer look c.args.depth in
    let l = c.loop-square.invariant.1 in
    λ a kind ea et. preds_done newer look within _ _ _ _ _ _ _ _ l _ _ _ _ a kind ea et c.in_default.ensures.0 c.item_of_step.ensures.value c.put.ensures.wrote

pub step-returns-in-Tested : goal.step-returns-in-Tested
step-returns-in-Tested t c =
    let newer = c.args.newer in
    let look = look_of c.args.names in
    let within = read_within newer look c.args.depth in
    let h = rw c.in-Tested.is at c.in_ok-head.ensures.heads in
    tested_done newer look within _ _ _ _ _ _ _ _ c.predicates.result h (c.predicates.ensures h.way h.kind h.number h.tested)

pub steps-loop-one-init : goal.steps-loop-one-init
steps-loop-one-init t c =
    (refl, steps_start _ _ _ _ _ _ _ _ c.requires.ready.inside)

pub steps-returns-in_err-one : goal.steps-returns-in_err-one
steps-returns-in_err-one t c =
    let newer = c.args.newer in
    let look = look_of c.args.names in
    let within = read_within newer look c.args.depth in
    let turn = c.loop-one.invariant.1 in
    let made : c.from_residual.result ≡ Err c.in_err-one.field-0.0 = search rules in
    rw made (passed_on _ _ _ c.in_err-one.ensures (step_stuck newer look within _ _ _ _ _ _ _ _ _ _ turn))

pub steps-returns-in_default : goal.steps-returns-in_default
steps-returns-in_default t c =
    let newer = c.args.newer in
    let look = look_of c.args.names in
    let within = read_within newer look c.args.depth in
    let turn = c.loop-one.invariant.1 in
    let deep = c.put_deep-from.ensures.wrote in
    let l = step_more newer look within _ _ _ _ _ _ _ _ _ _ turn _ _ _ _ _ deep.0 deep.1 c.in_ok-one.ensures in
    steps_done newer look within _ _ _ _ _ _ _ _ _ l _ _ _ c.in_default.ensures c.item_of_path.ensures.value c.put.ensures.wrote

pub steps-loop-one-preserved : goal.steps-loop-one-preserved
steps-loop-one-preserved t c =
    let newer = c.args.newer in
    let look = look_of c.args.names in
    let within = read_within newer look c.args.depth in
    let turn = c.loop-one.invariant.1 in
    let deep = c.put_deep-from.ensures.wrote in
    let l = step_more newer look within _ _ _ _ _ _ _ _ _ _ turn _ _ _ _ _ deep.0 deep.1 c.in_ok-one.ensures in
    (search rules, steps_more newer look within _ _ _ _ _ _ _ _ _ l c.in-Ok.joint.next c.in-Ok.joint.deep c.in-Ok.ensures)
