-- The functions of `keep` that call each other meet their contracts. Assumes nothing.
use Rattle.std.proofs.Common.{ℕ, suc, ◌+◌, ◌-◌, ◌*◌, ◌≤◌, ◌<◌, ◌≡◌, refl, sym, ◌∙◌, ap, subst, arith, List, ◌++◌, length, get_or, take, drop, replicate, not, ◌&&◌}
use mathlib.Core.Path.{subst₂}
use mathlib.Core.Logic.{inr}
use lib.Seq.{length-take-le}
use borrow.Rule.Slice.PartMut.{put_mid}
use Rattle.paper.specs.Items.{Head, take_preds, take_operand, take_expr, take_within}
use Rattle.paper.specs.Measures.{height_expr, height_preds}
use Rattle.paper.specs.Selection.{meets, all_hold}
use Rattle.paper.specs.Composition.{turned}
use Rattle.paper.specs.Document.{marked, table_of}
use Rattle.paper.proofs.Tests.{some_inj}
use Rattle.paper.proofs.Fields.{step_found}
use Rattle.item.specs.declared.Step.{Step}
use Rattle.item.proofs.Saying.{said, numbered}
use Rattle.shape.proofs.Operands.{operators_there}
use Rattle.shape.proofs.Walking.{some_height}
use Rattle.sets.specs.Sets.{bits, image}
use Rattle.keep.specs.Evals.{Fits, Narrows}
use Rattle.keep.specs.Recall.{spare}
use Rattle.keep.proofs.Slices.{first_stays, second_comes, length_stays, front_is, front_back, front_length}
use Rattle.keep.proofs.Running.{one_fits, turn_start, turn_fits, turn_room, turn_held, turn_base, turn_onward, turn_and, turn_or, turn_done}
use Rattle.keep.proofs.Operating.{operand_there, operand_room, not_deep, path_fits, path_set, opens_joined, opens_not, closes_joined, closes_not, must_join}
use Rattle.keep.proofs.Rows.{PredSet, preds_begin, pred_fits, preds_more, preds_end, PathSet, path_begin, path_back, first_readable, step-here}
use Rattle.keep.proofs.Recalling.{spare_same, spare_part, kept_same, kept_front, kept_part, kept_back, kept_end, kept_remembered, front_remembered, recalled, worked_out, apart, copied_first, copied_behind}
use Rattle.keep.proofs.+expression_operand_path_predicate_predicates.Goals as goal

pub expression-loop-ands-init : goal.expression-loop-ands-init
expression-loop-ands-init t c =
    let a = c.args in
    let o = c.run_of-ors in
    let r = c.run_of-ands in
    (refl, turn_start (table_of a.parent.now a.kind.now) a.given.now a.depth a.items.now a.at (length a.parent.now) o.result r.result a.sets.now o.ensures.0 r.ensures.0 o.ensures.1 r.ensures.1, refl, c.requires.kept)

pub expression-slice_bounds-operand-count : goal.expression-slice_bounds-operand-count
expression-slice_bounds-operand-count t c =
    let a = c.args in
    let n = length a.parent.now in
    let l = c.loop-ands in
    let i = l.invariant in
    let k = l.base + l.held in
    let rooted = c.requires.ready.tree.rooted in
    let enough : k + n ≤ spare (length l.known) n l.sets = omega (arith, turn_room i.1 _ rooted c.requires.fits, spare_same n l.sets a.sets.now i.2 i.0) in
    omega (arith, enough)

pub expression-slice_bounds-operand-start : goal.expression-slice_bounds-operand-start
expression-slice_bounds-operand-start t c =
    let a = c.args in
    let n = length a.parent.now in
    let l = c.loop-ands in
    let i = l.invariant in
    let k = l.base + l.held in
    let rooted = c.requires.ready.tree.rooted in
    let enough : k + n ≤ spare (length l.known) n l.sets = omega (arith, turn_room i.1 _ rooted c.requires.fits, spare_same n l.sets a.sets.now i.2 i.0) in
    omega (arith, enough)

pub expression-operand-place-requires : goal.expression-operand-place-requires
expression-operand-place-requires t c =
    let a = c.args in
    let n = length a.parent.now in
    let l = c.loop-ands in
    let i = l.invariant in
    let k = l.base + l.held in
    let rooted = c.requires.ready.tree.rooted in
    let enough : k + n ≤ spare (length l.known) n l.sets = omega (arith, turn_room i.1 _ rooted c.requires.fits, spare_same n l.sets a.sets.now i.2 i.0) in (
      omega (arith, i.1.past),
      (
        c.requires.depth_le_bracket_limit,
        (
          c.requires.ready,
          (
            subst (λ (r : ℕ). Fits a.items.now l.place n r (take_operand (take_within a.depth) (drop l.place a.items.now)) height_expr)
                (spare_part n k l.sets a.sets.now i.2 i.0 (omega (arith, enough))) (turn_fits i.1 _ c.requires.fits),
            kept_same l.known l.sets (take (length l.sets - k) (drop k l.sets)) (kept_part (length l.known) n k l.sets (omega (arith, enough))) i.3,
          ),
        ),
      ),
    )

pub expression-narrow-requires : goal.expression-narrow-requires
expression-narrow-requires t c =
    let a = c.args in
    let n = length a.parent.now in
    let l = c.loop-ands in
    let i = l.invariant in
    let k = l.base + l.held in
    let rooted = c.requires.ready.tree.rooted in
    let enough : k + n ≤ spare (length l.known) n l.sets = omega (arith, turn_room i.1 _ rooted c.requires.fits, spare_same n l.sets a.sets.now i.2 i.0) in
    let part = c.operand-place.new.sets in
    let entries = c.operand-place.new.known in
    let mid = put_mid k (length l.sets - k) l.sets part in
    let back : length mid ≡ length l.sets = length_stays k l.sets part (omega (arith, enough)) c.operand-place.auto.sets in
    let all : length entries ≡ length l.known = c.operand-place.auto.known in
    λ z. omega (arith, enough, turn_held i.1 z, back)

pub expression-loop-ands-smaller-then-ands-gt0 : goal.expression-loop-ands-smaller-then-ands-gt0
expression-loop-ands-smaller-then-ands-gt0 t c =
    let a = c.args in
    let n = length a.parent.now in
    let l = c.loop-ands in
    let i = l.invariant in
    let k = l.base + l.held in
    let rooted = c.requires.ready.tree.rooted in
    let enough : k + n ≤ spare (length l.known) n l.sets = omega (arith, turn_room i.1 _ rooted c.requires.fits, spare_same n l.sets a.sets.now i.2 i.0) in
    omega (arith, turn_onward i.1 rooted (omega (arith, enough)) c.operand-place.ensures.evaluates refl c.narrow.ensures, c.operand-place.ensures.evaluates.inside)

pub expression-loop-ands-preserved-then-ands-gt0 : goal.expression-loop-ands-preserved-then-ands-gt0
expression-loop-ands-preserved-then-ands-gt0 t c =
    let a = c.args in
    let n = length a.parent.now in
    let l = c.loop-ands in
    let i = l.invariant in
    let k = l.base + l.held in
    let rooted = c.requires.ready.tree.rooted in
    let enough : k + n ≤ spare (length l.known) n l.sets = omega (arith, turn_room i.1 _ rooted c.requires.fits, spare_same n l.sets a.sets.now i.2 i.0) in
    let part = c.operand-place.new.sets in
    let entries = c.operand-place.new.known in
    let mid = put_mid k (length l.sets - k) l.sets part in
    let back : length mid ≡ length l.sets = length_stays k l.sets part (omega (arith, enough)) c.operand-place.auto.sets in
    let all : length entries ≡ length l.known = c.operand-place.auto.known in
    let room : k + n ≤ spare (length entries) n l.sets = omega (arith, enough, spare_same n l.sets l.sets all refl) in
    let room_mid : k + n ≤ spare (length entries) n mid = omega (arith, enough, spare_same n mid l.sets all back) in
    let kept_mid = kept_same entries part mid (sym (kept_back (length entries) n k l.sets part (omega (arith, room)) c.operand-place.auto.sets)) c.operand-place.ensures.kept_2 in
    let kept_narrow = kept_same entries mid c.narrow.new.sets (kept_end (length entries) n (l.base + n) mid c.narrow.new.sets (omega (arith, room_mid)) c.narrow.auto.sets c.narrow.ensures.behind) kept_mid in (
      c.narrow.auto.sets ∙ back ∙ i.0,
      turn_and i.1 rooted (omega (arith, enough)) c.operand-place.ensures.evaluates refl c.narrow.ensures c.if-ands-gt0.true,
      all ∙ i.2,
      kept_narrow,
    )

pub expression-widen-requires : goal.expression-widen-requires
expression-widen-requires t c =
    let a = c.args in
    let n = length a.parent.now in
    let l = c.loop-ands in
    let i = l.invariant in
    let k = l.base + l.held in
    let rooted = c.requires.ready.tree.rooted in
    let enough : k + n ≤ spare (length l.known) n l.sets = omega (arith, turn_room i.1 _ rooted c.requires.fits, spare_same n l.sets a.sets.now i.2 i.0) in
    let part = c.operand-place.new.sets in
    let entries = c.operand-place.new.known in
    let mid = put_mid k (length l.sets - k) l.sets part in
    let back : length mid ≡ length l.sets = length_stays k l.sets part (omega (arith, enough)) c.operand-place.auto.sets in
    let all : length entries ≡ length l.known = c.operand-place.auto.known in
    λ z. omega (arith, enough, turn_base i.1 z, c.narrow.auto.sets, back)

pub expression-returns-then-ors-eq0-clause-evaluates : goal.expression-returns-then-ors-eq0-clause-evaluates
expression-returns-then-ors-eq0-clause-evaluates t c =
    let a = c.args in
    let n = length a.parent.now in
    let l = c.loop-ands in
    let i = l.invariant in
    let k = l.base + l.held in
    let rooted = c.requires.ready.tree.rooted in
    let enough : k + n ≤ spare (length l.known) n l.sets = omega (arith, turn_room i.1 _ rooted c.requires.fits, spare_same n l.sets a.sets.now i.2 i.0) in
    turn_done i.1 rooted (omega (arith, enough)) c.operand-place.ensures.evaluates refl c.narrow.ensures c.if-ands-gt0.false c.widen.ensures (omega (arith, c.if-ors-eq0.true))

pub expression-returns-then-ors-eq0-clause-kept_2 : goal.expression-returns-then-ors-eq0-clause-kept_2
expression-returns-then-ors-eq0-clause-kept_2 t c =
    let a = c.args in
    let n = length a.parent.now in
    let l = c.loop-ands in
    let i = l.invariant in
    let k = l.base + l.held in
    let rooted = c.requires.ready.tree.rooted in
    let enough : k + n ≤ spare (length l.known) n l.sets = omega (arith, turn_room i.1 _ rooted c.requires.fits, spare_same n l.sets a.sets.now i.2 i.0) in
    let part = c.operand-place.new.sets in
    let entries = c.operand-place.new.known in
    let mid = put_mid k (length l.sets - k) l.sets part in
    let back : length mid ≡ length l.sets = length_stays k l.sets part (omega (arith, enough)) c.operand-place.auto.sets in
    let all : length entries ≡ length l.known = c.operand-place.auto.known in
    let room : k + n ≤ spare (length entries) n l.sets = omega (arith, enough, spare_same n l.sets l.sets all refl) in
    let room_mid : k + n ≤ spare (length entries) n mid = omega (arith, enough, spare_same n mid l.sets all back) in
    let kept_mid = kept_same entries part mid (sym (kept_back (length entries) n k l.sets part (omega (arith, room)) c.operand-place.auto.sets)) c.operand-place.ensures.kept_2 in
    let kept_narrow = kept_same entries mid c.narrow.new.sets (kept_end (length entries) n (l.base + n) mid c.narrow.new.sets (omega (arith, room_mid)) c.narrow.auto.sets c.narrow.ensures.behind) kept_mid in
    let after = c.narrow.new.sets in
    let room_after : k + n ≤ spare (length entries) n after = omega (arith, enough, spare_same n after l.sets all (c.narrow.auto.sets ∙ back)) in
    let kept_widen = kept_same entries after c.widen.new.sets (kept_end (length entries) n (0 + n) after c.widen.new.sets (omega (arith, room_after)) c.widen.auto.sets c.widen.ensures.behind) kept_narrow in
    kept_widen

pub expression-loop-ands-smaller : goal.expression-loop-ands-smaller
expression-loop-ands-smaller t c =
    let a = c.args in
    let n = length a.parent.now in
    let l = c.loop-ands in
    let i = l.invariant in
    let k = l.base + l.held in
    let rooted = c.requires.ready.tree.rooted in
    let enough : k + n ≤ spare (length l.known) n l.sets = omega (arith, turn_room i.1 _ rooted c.requires.fits, spare_same n l.sets a.sets.now i.2 i.0) in
    omega (arith, turn_onward i.1 rooted (omega (arith, enough)) c.operand-place.ensures.evaluates refl c.narrow.ensures, c.run_of-ands-else-ands-gt0.ensures.1)

pub expression-loop-ands-preserved : goal.expression-loop-ands-preserved
expression-loop-ands-preserved t c =
    let a = c.args in
    let n = length a.parent.now in
    let l = c.loop-ands in
    let i = l.invariant in
    let k = l.base + l.held in
    let rooted = c.requires.ready.tree.rooted in
    let enough : k + n ≤ spare (length l.known) n l.sets = omega (arith, turn_room i.1 _ rooted c.requires.fits, spare_same n l.sets a.sets.now i.2 i.0) in
    let part = c.operand-place.new.sets in
    let entries = c.operand-place.new.known in
    let mid = put_mid k (length l.sets - k) l.sets part in
    let back : length mid ≡ length l.sets = length_stays k l.sets part (omega (arith, enough)) c.operand-place.auto.sets in
    let all : length entries ≡ length l.known = c.operand-place.auto.known in
    let room : k + n ≤ spare (length entries) n l.sets = omega (arith, enough, spare_same n l.sets l.sets all refl) in
    let room_mid : k + n ≤ spare (length entries) n mid = omega (arith, enough, spare_same n mid l.sets all back) in
    let kept_mid = kept_same entries part mid (sym (kept_back (length entries) n k l.sets part (omega (arith, room)) c.operand-place.auto.sets)) c.operand-place.ensures.kept_2 in
    let kept_narrow = kept_same entries mid c.narrow.new.sets (kept_end (length entries) n (l.base + n) mid c.narrow.new.sets (omega (arith, room_mid)) c.narrow.auto.sets c.narrow.ensures.behind) kept_mid in
    let after = c.narrow.new.sets in
    let room_after : k + n ≤ spare (length entries) n after = omega (arith, enough, spare_same n after l.sets all (c.narrow.auto.sets ∙ back)) in
    let kept_widen = kept_same entries after c.widen.new.sets (kept_end (length entries) n (0 + n) after c.widen.new.sets (omega (arith, room_after)) c.widen.auto.sets c.widen.ensures.behind) kept_narrow in (
      c.widen.auto.sets ∙ c.narrow.auto.sets ∙ back ∙ i.0,
      turn_or i.1 rooted (omega (arith, enough)) c.operand-place.ensures.evaluates refl c.narrow.ensures c.if-ands-gt0.false c.widen.ensures (omega (arith, c.if-ors-eq0.false)) c.run_of-ands-else-ands-gt0.ensures.0 c.run_of-ands-else-ands-gt0.ensures.1,
      all ∙ i.2,
      kept_widen,
    )

pub operand-bounds-items-at : goal.operand-bounds-items-at
operand-bounds-items-at t c =
    operand_there c.args.items.now c.args.at _ _ c.args.depth c.requires.fits

pub operand-path-requires : goal.operand-path-requires
operand-path-requires t c =
    let a = c.args in
    let n = length a.parent.now in
    let f = c.requires.fits in
    let u = c.unpack-item in
    let s = said (get_or a.items.now a.at 0) u.result u.ensures in
    (omega (arith, operand_there a.items.now a.at _ _ a.depth f), (c.requires.depth_le_bracket_limit, (c.requires.ready, (path_fits (table_of a.parent.now a.kind.now) a.given.now a.items.now a.at n _ a.depth f _ (rw c.in-Path.is at s), c.requires.kept))))

pub operand-returns-in-Path-clause-evaluates : goal.operand-returns-in-Path-clause-evaluates
operand-returns-in-Path-clause-evaluates t c =
    let a = c.args in
    let n = length a.parent.now in
    let f = c.requires.fits in
    let u = c.unpack-item in
    let s = said (get_or a.items.now a.at 0) u.result u.ensures in
    path_set (table_of a.parent.now a.kind.now) a.given.now a.items.now a.at n _ a.depth f _ _ _ (rw c.in-Path.is at s) c.path.ensures.evaluates

pub operand-overflow_sub-depth : goal.operand-overflow_sub-depth
operand-overflow_sub-depth t c =
    let a = c.args in
    let n = length a.parent.now in
    let f = c.requires.fits in
    let u = c.unpack-item in
    let s = said (get_or a.items.now a.at 0) u.result u.ensures in
    let deep = not_deep (table_of a.parent.now a.kind.now) a.given.now a.items.now a.at n _ a.depth f u.result s c.in_default.not-Path in
    omega (arith, deep)

pub operand-expression-next-requires : goal.operand-expression-next-requires
operand-expression-next-requires t c =
    let a = c.args in
    let n = length a.parent.now in
    let f = c.requires.fits in
    let u = c.unpack-item in
    let s = said (get_or a.items.now a.at 0) u.result u.ensures in
    let deep = not_deep (table_of a.parent.now a.kind.now) a.given.now a.items.now a.at n _ a.depth f u.result s c.in_default.not-Path in
    (omega (arith, operand_there a.items.now a.at _ _ a.depth f), (omega (arith, c.requires.depth_le_bracket_limit), (c.requires.ready, (opens_not (table_of a.parent.now a.kind.now) a.given.now a.items.now a.at n _ a.depth deep f (rw c.in-Not.is at s), c.requires.kept))))

pub operand-slice_bounds-flip-end : goal.operand-slice_bounds-flip-end
operand-slice_bounds-flip-end t c =
    let a = c.args in
    let n = length a.parent.now in
    let f = c.requires.fits in
    let u = c.unpack-item in
    let s = said (get_or a.items.now a.at 0) u.result u.ensures in
    let worked = c.expression-next in
    let enough : n ≤ spare (length worked.new.known) n worked.new.sets = omega (arith, operand_room a.items.now a.at _ _ a.depth f, spare_same n worked.new.sets a.sets.now worked.auto.known worked.auto.sets) in
    omega (arith, enough)

pub operand-slice_bounds-flip-end-in-Not : goal.operand-slice_bounds-flip-end-in-Not
operand-slice_bounds-flip-end-in-Not t c =
    let a = c.args in
    let n = length a.parent.now in
    let f = c.requires.fits in
    let u = c.unpack-item in
    let s = said (get_or a.items.now a.at 0) u.result u.ensures in
    let worked = c.expression-next in
    let enough : n ≤ spare (length worked.new.known) n worked.new.sets = omega (arith, operand_room a.items.now a.at _ _ a.depth f, spare_same n worked.new.sets a.sets.now worked.auto.known worked.auto.sets) in
    sym (length-take-le n worked.new.sets (omega (arith, enough)))

pub operand-returns-in-Not : goal.operand-returns-in-Not
operand-returns-in-Not t c =
    let a = c.args in
    let n = length a.parent.now in
    let f = c.requires.fits in
    let u = c.unpack-item in
    let s = said (get_or a.items.now a.at 0) u.result u.ensures in
    let worked = c.expression-next in
    let enough : n ≤ spare (length worked.new.known) n worked.new.sets = omega (arith, operand_room a.items.now a.at _ _ a.depth f, spare_same n worked.new.sets a.sets.now worked.auto.known worked.auto.sets) in
    let deep = not_deep (table_of a.parent.now a.kind.now) a.given.now a.items.now a.at n _ a.depth f u.result s c.in_default.not-Path in
    let sets = worked.new.sets in
    let entries = worked.new.known in
    let flipped = c.flip in
    let len : length (take n sets) ≡ n = length-take-le n sets (omega (arith, enough)) in
    record {
      evaluates = closes_not (table_of a.parent.now a.kind.now) a.given.now a.items.now a.at n _ a.depth deep f _ sets _ (rw c.in-Not.is at s) worked.ensures.evaluates
          (λ g p.
          front_back n (λ i. not (g i)) flipped.new.set _
          (flipped.ensures g (p ∙ ap (λ (k : ℕ). bits k g) (sym len)) ∙ ap (λ (k : ℕ). bits k (λ i. not (g i))) len));
      kept_2 = kept_same entries sets (flipped.new.set ++ drop n sets) (kept_front (length entries) n n sets flipped.new.set enough (flipped.auto.set ∙ len)) worked.ensures.kept_2;
    }

pub operand-overflow_sub-depth-2 : goal.operand-overflow_sub-depth-2
operand-overflow_sub-depth-2 t c =
    let a = c.args in
    let n = length a.parent.now in
    let f = c.requires.fits in
    let u = c.unpack-item in
    let s = said (get_or a.items.now a.at 0) u.result u.ensures in
    let deep = not_deep (table_of a.parent.now a.kind.now) a.given.now a.items.now a.at n _ a.depth f u.result s c.in_default.not-Path in
    omega (arith, deep)

pub operand-expression-requires : goal.operand-expression-requires
operand-expression-requires t c =
    let a = c.args in
    let n = length a.parent.now in
    let f = c.requires.fits in
    let u = c.unpack-item in
    let s = said (get_or a.items.now a.at 0) u.result u.ensures in
    let deep = not_deep (table_of a.parent.now a.kind.now) a.given.now a.items.now a.at n _ a.depth f u.result s c.in_default.not-Path in
    let joins = must_join a.items.now a.at _ _ a.depth f u.result s c.in_default.not-Path c.in_default-item.not-Not in
    let on = operand_there a.items.now a.at _ _ a.depth f in
    (omega (arith, on, operators_there a.items.now a.at a.depth on joins), (omega (arith, c.requires.depth_le_bracket_limit), (c.requires.ready, (opens_joined (table_of a.parent.now a.kind.now) a.given.now a.items.now a.at n _ a.depth deep f joins, c.requires.kept))))

pub operand-returns : goal.operand-returns
operand-returns t c =
    let a = c.args in
    let n = length a.parent.now in
    let f = c.requires.fits in
    let u = c.unpack-item in
    let s = said (get_or a.items.now a.at 0) u.result u.ensures in
    let deep = not_deep (table_of a.parent.now a.kind.now) a.given.now a.items.now a.at n _ a.depth f u.result s c.in_default.not-Path in
    let joins = must_join a.items.now a.at _ _ a.depth f u.result s c.in_default.not-Path c.in_default-item.not-Not in
    record { evaluates = closes_joined (table_of a.parent.now a.kind.now) a.given.now a.items.now a.at n _ a.depth deep f _ _ joins c.expression.ensures.evaluates; kept_2 = c.expression.ensures.kept_2 }

pub path-loop-left-init : goal.path-loop-left-init
path-loop-left-init t c =
    let a = c.args in
    let n = length a.parent.now in
    let f = c.requires.fits in
    let room : n ≤ spare (length a.known.now) n a.sets.now = one_fits n _ _ f.room_for (omega arith) in
    let front : length (take n a.sets.now) ≡ n = length-take-le n a.sets.now (omega (arith, room)) in
    let filled = c.fill in (
      front_length n a.sets.now filled.new.set (omega (arith, room)) filled.auto.set,
      path_begin (table_of a.parent.now a.kind.now) a.given.now a.items.now a.at n _ a.depth a.count f filled.new.set _ (filled.ensures ∙ ap (λ (k : ℕ). replicate k 1) front),
      c.look_first-places.ensures.0,
      refl,
      kept_same a.known.now a.sets.now (filled.new.set ++ drop n a.sets.now) (kept_front (length a.known.now) n n a.sets.now filled.new.set room (filled.auto.set ∙ front)) c.requires.kept,
    )

pub path-look-places-requires-clause-readable : goal.path-look-places-requires-clause-readable
path-look-places-requires-clause-readable t c =
    let a = c.args in
    let l = c.loop-left in
    first_readable a.items.now a.at (length a.parent.now) _ a.depth a.count c.requires.fits (l.left - 1) (omega (arith, l.invariant.1.fewer))

pub path-step_at-step-requires : goal.path-step_at-step-requires
path-step_at-step-requires t c =
    let a = c.args in
    let l = c.loop-left in
    step-here a.items.now a.at (length a.parent.now) _ a.depth a.count c.requires.fits (l.left - 1) c.look-places.result.place (omega (arith, l.invariant.1.fewer, c.loop-left-test.true)) c.look-places.ensures.1 (λ on h p here. (on, (h, p)))

pub path-predicates-requires : goal.path-predicates-requires
path-predicates-requires t c =
    let a = c.args in
    let n = length a.parent.now in
    let f = c.requires.fits in
    let room : n ≤ spare (length a.known.now) n a.sets.now = one_fits n _ _ f.room_for (omega arith) in
    let l = c.loop-left in
    let i = l.invariant in
    let enough : n ≤ spare (length l.known) n l.sets = omega (arith, room, spare_same n l.sets a.sets.now i.3 i.0) in
    let front : length (take n l.sets) ≡ n = length-take-le n l.sets (omega (arith, enough)) in
    let looked = c.look-places in
    let restricted = c.restrict.new.set ++ drop n l.sets in
    let long : length restricted ≡ length l.sets = front_length n l.sets c.restrict.new.set (omega (arith, enough)) c.restrict.auto.set in
    let kept = kept_same l.known l.sets restricted (kept_front (length l.known) n n l.sets c.restrict.new.set enough (c.restrict.auto.set ∙ front)) i.4 in
    let said_step = c.step_at-step.ensures in
    step-here a.items.now a.at n _ a.depth a.count f (l.left - 1) looked.result.place (omega (arith, i.1.fewer, c.loop-left-test.true)) looked.ensures.1
    (λ on h p here.
    let same : said_step.0 ≡ h = some_inj (sym said_step.1 ∙ p) in
    let count : c.step_at-step.result.count ≡ h.count = ap (λ (x : Step). x.count) said_step.2 ∙ ap (λ (x : Head). x.count) same in (
      omega (arith, looked.ensures.1.onward),
      (
        c.requires.depth_le_bracket_limit,
        (
          c.requires.ready,
          (
            subst₂ (λ (k r : ℕ). Fits a.items.now (looked.result.place + 1) n r (take_preds (take_within a.depth) k (drop (looked.result.place + 1) a.items.now)) (λ ps. 1 + height_preds ps)) (sym count)
                (sym (spare_same n restricted a.sets.now i.3 (long ∙ i.0))) here.preds,
            kept,
          ),
        ),
      ),
    ))

pub path-loop-left-preserved : goal.path-loop-left-preserved
path-loop-left-preserved t c =
    let a = c.args in
    let n = length a.parent.now in
    let f = c.requires.fits in
    let room : n ≤ spare (length a.known.now) n a.sets.now = one_fits n _ _ f.room_for (omega arith) in
    let l = c.loop-left in
    let i = l.invariant in
    let enough : n ≤ spare (length l.known) n l.sets = omega (arith, room, spare_same n l.sets a.sets.now i.3 i.0) in
    let front : length (take n l.sets) ≡ n = length-take-le n l.sets (omega (arith, enough)) in
    let looked = c.look-places in
    let restricted = c.restrict.new.set ++ drop n l.sets in
    let long : length restricted ≡ length l.sets = front_length n l.sets c.restrict.new.set (omega (arith, enough)) c.restrict.auto.set in
    let kept = kept_same l.known l.sets restricted (kept_front (length l.known) n n l.sets c.restrict.new.set enough (c.restrict.auto.set ∙ front)) i.4 in
    let said_step = c.step_at-step.ensures in
    let kinds = a.kind.now in
    let narrowed = c.predicates in
    let sets = narrowed.new.sets in
    let entries = narrowed.new.known in
    let moved = c.along in
    let narrowed_long : length sets ≡ length l.sets = narrowed.auto.sets ∙ long in
    let narrowed_enough : n ≤ spare (length entries) n sets = omega (arith, enough, spare_same n sets l.sets narrowed.auto.known narrowed_long) in
    let front2 : length (take n sets) ≡ n = length-take-le n sets (omega (arith, narrowed_enough)) in
    step-here a.items.now a.at n _ a.depth a.count f (l.left - 1) looked.result.place (omega (arith, i.1.fewer, c.loop-left-test.true)) looked.ensures.1
    (λ on h p here.
    let same : said_step.0 ≡ h = some_inj (sym said_step.1 ∙ p) in
    let step_is = said_step.2 ∙ ap numbered same in
    let count : c.step_at-step.result.count ≡ h.count = ap (λ (x : Step). x.count) step_is in (
      front_length n sets moved.new.set (omega (arith, narrowed_enough)) moved.auto.set ∙ narrowed_long ∙ i.0,
      path_back (table_of a.parent.now kinds) a.given.now a.items.now a.at n _ a.depth a.count f (l.left - 1) looked.result.place h l.sets c.restrict.new.set (drop n l.sets) sets moved.new.set _
          (omega (arith, i.1.fewer, c.loop-left-test.true)) here
          (subst (λ (k : ℕ). PathSet (table_of a.parent.now kinds) a.given.now a.items.now a.at n a.depth a.count k l.sets) (let e : l.left ≡ suc (l.left - 1) = omega (arith, c.loop-left-test.true) in e) i.1)
          (λ g q.
          c.restrict.ensures h.test g (step_found _ h p).1 (ap (λ (x : Step). x.test) step_is) (q ∙ ap (λ (k : ℕ). bits k g) (sym front)) ∙
          ap (λ (k : ℕ). bits k (λ i. (g i && marked a.given.now i) && meets h.test (get_or kinds i 0))) front)
          _
          (subst (λ (k : ℕ). Narrows a.items.now (looked.result.place + 1) n (take_preds (take_within a.depth) k (drop (looked.result.place + 1) a.items.now)) (all_hold (table_of a.parent.now kinds) a.given.now) narrowed.result restricted sets)
          count narrowed.ensures.narrows)
          (λ g q.
          moved.ensures kinds (turned h.axis) g (c.turn.ensures h.axis (ap (λ (x : Step). x.axis) step_is)) (q ∙ ap (λ (k : ℕ). bits k g) (sym front2)) ∙
          ap (λ (k : ℕ). bits k (image (table_of a.parent.now kinds) (turned h.axis) g)) front2),
      looked.ensures.0,
      narrowed.auto.known ∙ i.3,
      kept_same entries sets (moved.new.set ++ drop n sets) (kept_front (length entries) n n sets moved.new.set narrowed_enough (moved.auto.set ∙ front2)) narrowed.ensures.kept_2,
    ))

pub predicate-overflow_sub-from : goal.predicate-overflow_sub-from
predicate-overflow_sub-from t c =
    let a = c.args in
    let n = length a.parent.now in
    let f = c.requires.fits in
    let room : n + n * length a.known.now ≤ length a.sets.now = omega (arith, one_fits n _ _ f.room_for (some_height f.what), c.requires.ready.tree.rooted) in
    let slot = c.in-Some.slot in
    let stands = c.find.ensures slot c.in-Some.is in
    let h = apart n (length a.known.now) slot (length a.sets.now) stands.0 room in
    omega (arith, stands.0)

pub predicate-overflow_mul-from : goal.predicate-overflow_mul-from
predicate-overflow_mul-from t c =
    let a = c.args in
    let n = length a.parent.now in
    let f = c.requires.fits in
    let room : n + n * length a.known.now ≤ length a.sets.now = omega (arith, one_fits n _ _ f.room_for (some_height f.what), c.requires.ready.tree.rooted) in
    let slot = c.in-Some.slot in
    let stands = c.find.ensures slot c.in-Some.is in
    let h = apart n (length a.known.now) slot (length a.sets.now) stands.0 room in
    omega (arith, h)

pub predicate-overflow_sub-from-in-Some : goal.predicate-overflow_sub-from-in-Some
predicate-overflow_sub-from-in-Some t c =
    let a = c.args in
    let n = length a.parent.now in
    let f = c.requires.fits in
    let room : n + n * length a.known.now ≤ length a.sets.now = omega (arith, one_fits n _ _ f.room_for (some_height f.what), c.requires.ready.tree.rooted) in
    let slot = c.in-Some.slot in
    let stands = c.find.ensures slot c.in-Some.is in
    let h = apart n (length a.known.now) slot (length a.sets.now) stands.0 room in
    omega (arith, h)

pub predicate-copy_set-requires : goal.predicate-copy_set-requires
predicate-copy_set-requires t c =
    let a = c.args in
    let n = length a.parent.now in
    let f = c.requires.fits in
    let room : n + n * length a.known.now ≤ length a.sets.now = omega (arith, one_fits n _ _ f.room_for (some_height f.what), c.requires.ready.tree.rooted) in
    let slot = c.in-Some.slot in
    let stands = c.find.ensures slot c.in-Some.is in
    let h = apart n (length a.known.now) slot (length a.sets.now) stands.0 room in
    (omega (arith, h), omega (arith, h), inr (omega (arith, h)))

pub predicate-offset_bounds-known-slot : goal.predicate-offset_bounds-known-slot
predicate-offset_bounds-known-slot t c =
    let a = c.args in
    let n = length a.parent.now in
    let f = c.requires.fits in
    let room : n + n * length a.known.now ≤ length a.sets.now = omega (arith, one_fits n _ _ f.room_for (some_height f.what), c.requires.ready.tree.rooted) in
    let slot = c.in-Some.slot in
    let stands = c.find.ensures slot c.in-Some.is in
    let h = apart n (length a.known.now) slot (length a.sets.now) stands.0 room in
    omega (arith, stands.0)

pub predicate-bounds-known-slot : goal.predicate-bounds-known-slot
predicate-bounds-known-slot t c =
    let a = c.args in
    let n = length a.parent.now in
    let f = c.requires.fits in
    let room : n + n * length a.known.now ≤ length a.sets.now = omega (arith, one_fits n _ _ f.room_for (some_height f.what), c.requires.ready.tree.rooted) in
    let slot = c.in-Some.slot in
    let stands = c.find.ensures slot c.in-Some.is in
    let h = apart n (length a.known.now) slot (length a.sets.now) stands.0 room in
    omega (arith, stands.0)

pub predicate-returns-in-Some-clause-evaluates : goal.predicate-returns-in-Some-clause-evaluates
predicate-returns-in-Some-clause-evaluates t c =
    let a = c.args in
    let n = length a.parent.now in
    let f = c.requires.fits in
    let room : n + n * length a.known.now ≤ length a.sets.now = omega (arith, one_fits n _ _ f.room_for (some_height f.what), c.requires.ready.tree.rooted) in
    let slot = c.in-Some.slot in
    let stands = c.find.ensures slot c.in-Some.is in
    let h = apart n (length a.known.now) slot (length a.sets.now) stands.0 room in
    let known = a.known.now in
    let from = length a.sets.now - n * (length known - slot) in
    let inside : from + n ≤ length a.sets.now = omega (arith, h) in
    let place : from ≡ spare (length known) n a.sets.now + n * slot = omega (arith, h) in
    recalled a.depth (c.requires.kept.each slot stands.0 stands.1.used) stands.1 f (copied_first inside c.copy_set.auto.sets c.copy_set.ensures ∙ ap (λ (k : ℕ). take n (drop k a.sets.now)) place)

pub predicate-returns-in-Some-clause-kept_2 : goal.predicate-returns-in-Some-clause-kept_2
predicate-returns-in-Some-clause-kept_2 t c =
    let a = c.args in
    let n = length a.parent.now in
    let f = c.requires.fits in
    let room : n + n * length a.known.now ≤ length a.sets.now = omega (arith, one_fits n _ _ f.room_for (some_height f.what), c.requires.ready.tree.rooted) in
    let slot = c.in-Some.slot in
    let stands = c.find.ensures slot c.in-Some.is in
    let h = apart n (length a.known.now) slot (length a.sets.now) stands.0 room in
    let known = a.known.now in
    let from = length a.sets.now - n * (length known - slot) in
    let inside : from + n ≤ length a.sets.now = omega (arith, h) in
    let copied = c.copy_set in
    kept_same known a.sets.now copied.new.sets (kept_end (length known) n n a.sets.now copied.new.sets (omega (arith, h)) copied.auto.sets (copied_behind inside copied.auto.sets copied.ensures)) c.requires.kept

pub predicate-remember-requires : goal.predicate-remember-requires
predicate-remember-requires t c =
    let a = c.args in
    let n = length a.parent.now in
    let f = c.requires.fits in
    let room : n + n * length a.known.now ≤ length a.sets.now = omega (arith, one_fits n _ _ f.room_for (some_height f.what), c.requires.ready.tree.rooted) in
    let worked = c.expression-next in
    let room_after : n + n * length worked.new.known ≤ length worked.new.sets = omega (arith, room, ap (λ (k : ℕ). n * k) worked.auto.known, worked.auto.sets) in
    (room_after, worked.ensures.evaluates.onward)

pub predicate-returns-clause-evaluates : goal.predicate-returns-clause-evaluates
predicate-returns-clause-evaluates t c =
    let a = c.args in
    let n = length a.parent.now in
    let f = c.requires.fits in
    let room : n + n * length a.known.now ≤ length a.sets.now = omega (arith, one_fits n _ _ f.room_for (some_height f.what), c.requires.ready.tree.rooted) in
    let worked = c.expression-next in
    let room_after : n + n * length worked.new.known ≤ length worked.new.sets = omega (arith, room, ap (λ (k : ℕ). n * k) worked.auto.known, worked.auto.sets) in
    let v = worked.ensures.evaluates in
    record { what = v.what; reads = v.reads; onward = v.onward; inside = v.inside; set = front_remembered a.at worked.result room_after c.remember.auto.sets c.remember.ensures ∙ v.set }

pub predicate-returns-clause-kept_2 : goal.predicate-returns-clause-kept_2
predicate-returns-clause-kept_2 t c =
    let a = c.args in
    let n = length a.parent.now in
    let f = c.requires.fits in
    let room : n + n * length a.known.now ≤ length a.sets.now = omega (arith, one_fits n _ _ f.room_for (some_height f.what), c.requires.ready.tree.rooted) in
    let worked = c.expression-next in
    let room_after : n + n * length worked.new.known ≤ length worked.new.sets = omega (arith, room, ap (λ (k : ℕ). n * k) worked.auto.known, worked.auto.sets) in
    let v = worked.ensures.evaluates in
    kept_remembered a.at worked.result room_after c.remember.auto.sets (λ near. worked_out a.depth near v) worked.ensures.kept_2 c.remember.ensures

pub predicates-loop-init : goal.predicates-loop-init
predicates-loop-init t c =
    let a = c.args in
    let n = length a.parent.now in
    let begun = preds_begin (table_of a.parent.now a.kind.now) a.given.now a.items.now a.at n a.depth a.count a.sets.now c.requires.fits.inside in
    (refl, subst (λ (k : ℕ). PredSet (table_of a.parent.now a.kind.now) a.given.now a.items.now a.at n a.depth (take_preds (take_within a.depth) a.count (drop a.at a.items.now)) a.at k a.sets.now a.sets.now) (let e : a.count ≡ a.count - 0 = omega arith in e) begun, refl, c.requires.kept)

pub predicates-overflow_sub-depth : goal.predicates-overflow_sub-depth
predicates-overflow_sub-depth t c =
    let a = c.args in
    let n = length a.parent.now in
    let l = c.loop in
    let i = l.invariant in
    let owed = a.count - l.counter in
    let some_owed : 0 < owed = omega (arith, c.loop-test.true) in
    let spare_as : spare (length l.known) n l.sets ≡ spare (length a.known.now) n a.sets.now = spare_same n l.sets a.sets.now i.2 i.0 in
    pred_fits (table_of a.parent.now a.kind.now) a.given.now a.items.now a.at n a.depth _ _ l.place owed _ l.sets some_owed c.requires.fits i.1 (λ deep f fit. omega (arith, deep))

pub predicates-predicate-place-requires : goal.predicates-predicate-place-requires
predicates-predicate-place-requires t c =
    let a = c.args in
    let n = length a.parent.now in
    let l = c.loop in
    let i = l.invariant in
    let owed = a.count - l.counter in
    let some_owed : 0 < owed = omega (arith, c.loop-test.true) in
    let spare_as : spare (length l.known) n l.sets ≡ spare (length a.known.now) n a.sets.now = spare_same n l.sets a.sets.now i.2 i.0 in
    let two : n + n ≤ spare (length l.known) n l.sets = pred_fits (table_of a.parent.now a.kind.now) a.given.now a.items.now a.at n a.depth _ _ l.place owed _ l.sets some_owed c.requires.fits i.1 (λ deep f fit. omega (arith, fit, spare_as)) in
    pred_fits (table_of a.parent.now a.kind.now) a.given.now a.items.now a.at n a.depth _ _ l.place owed _ l.sets some_owed c.requires.fits i.1
    (λ deep f fit. (
      omega (arith, i.1.onward, i.1.inside),
      (
        omega (arith, c.requires.depth_le_bracket_limit),
        (
          c.requires.ready,
          (
            subst (λ (k : ℕ). Fits a.items.now l.place n k (take_expr (take_within (a.depth - 1)) (drop l.place a.items.now)) height_expr)
                (spare_part n n l.sets a.sets.now i.2 i.0 (omega (arith, two))) f,
            kept_same l.known l.sets (take (length l.sets - n) (drop n l.sets)) (kept_part (length l.known) n n l.sets (omega (arith, two))) i.3,
          ),
        ),
      ),
    ))

pub predicates-keep_second-requires : goal.predicates-keep_second-requires
predicates-keep_second-requires t c =
    let a = c.args in
    let n = length a.parent.now in
    let l = c.loop in
    let i = l.invariant in
    let owed = a.count - l.counter in
    let some_owed : 0 < owed = omega (arith, c.loop-test.true) in
    let spare_as : spare (length l.known) n l.sets ≡ spare (length a.known.now) n a.sets.now = spare_same n l.sets a.sets.now i.2 i.0 in
    let two : n + n ≤ spare (length l.known) n l.sets = pred_fits (table_of a.parent.now a.kind.now) a.given.now a.items.now a.at n a.depth _ _ l.place owed _ l.sets some_owed c.requires.fits i.1 (λ deep f fit. omega (arith, fit, spare_as)) in
    omega (arith, two, length_stays n l.sets c.predicate-place.new.sets (omega (arith, two)) c.predicate-place.auto.sets)

pub predicates-loop-preserved : goal.predicates-loop-preserved
predicates-loop-preserved t c =
    let a = c.args in
    let n = length a.parent.now in
    let l = c.loop in
    let i = l.invariant in
    let owed = a.count - l.counter in
    let some_owed : 0 < owed = omega (arith, c.loop-test.true) in
    let spare_as : spare (length l.known) n l.sets ≡ spare (length a.known.now) n a.sets.now = spare_same n l.sets a.sets.now i.2 i.0 in
    let two : n + n ≤ spare (length l.known) n l.sets = pred_fits (table_of a.parent.now a.kind.now) a.given.now a.items.now a.at n a.depth _ _ l.place owed _ l.sets some_owed c.requires.fits i.1 (λ deep f fit. omega (arith, fit, spare_as)) in
    let one = c.predicate-place in
    let part = one.new.sets in
    let entries = one.new.known in
    let joined = c.keep_second in
    let v = one.ensures.evaluates in
    let on : n ≤ length l.sets = omega (arith, two) in
    let mid = put_mid n (length l.sets - n) l.sets part in
    let size : length mid ≡ length l.sets = length_stays n l.sets part on one.auto.sets in
    let all : length entries ≡ length l.known = one.auto.known in
    let fewer : owed - 1 ≡ a.count - (l.counter + 1) = omega arith in
    pred_fits (table_of a.parent.now a.kind.now) a.given.now a.items.now a.at n a.depth _ _ l.place owed _ l.sets some_owed c.requires.fits i.1
    (λ deep fit room. (
      joined.auto.sets ∙ size ∙ i.0,
      subst (λ (k : ℕ). PredSet (table_of a.parent.now a.kind.now) a.given.now a.items.now a.at n a.depth (take_preds (take_within a.depth) a.count (drop a.at a.items.now)) one.result k a.sets.now joined.new.sets) fewer
          (preds_more (table_of a.parent.now a.kind.now) a.given.now a.items.now a.at n a.depth _ l.place owed _ v.what _ l.sets part joined.new.sets some_owed deep i.1 v.reads v.onward v.inside v.set
          (λ g h p q. front_is n (λ i. g i && h i) _ _ (joined.ensures.by_index g h (first_stays n l.sets part on ∙ p) (second_comes n l.sets part on ∙ q)))),
      all ∙ i.2,
      kept_same entries mid joined.new.sets
          (kept_end (length entries) n n mid joined.new.sets (omega (arith, two, spare_same n mid l.sets all size)) joined.auto.sets joined.ensures.sets_unchanged)
          (kept_same entries part mid (sym (kept_back (length entries) n n l.sets part (omega (arith, two, spare_same n l.sets l.sets all refl)) one.auto.sets)) one.ensures.kept_2),
    ))

pub predicates-returns-clause-narrows : goal.predicates-returns-clause-narrows
predicates-returns-clause-narrows t c =
    let a = c.args in
    let n = length a.parent.now in
    let l = c.loop in
    preds_end (table_of a.parent.now a.kind.now) a.given.now a.items.now a.at n a.depth _ l.place (a.count - l.counter) _ l.sets (omega (arith, c.loop-test.false)) l.invariant.1
