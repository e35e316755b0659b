-- `keep::forward` meets its contract. Assumes nothing.
use Rattle.std.proofs.Common.{ℕ, ◌+◌, ◌-◌, ◌≤◌, ◌<◌, ◌≡◌, refl, sym, ◌∙◌, ap, subst, arith, List, ◌++◌, length, get_or, take, drop, ◌&&◌}
use mathlib.Core.Path.{subst₂}
use lib.Seq.{length-take-le}
use Rattle.paper.specs.Limits.{bracket_limit}
use Rattle.paper.specs.Items.{Head, take_preds, take_within}
use Rattle.paper.specs.Measures.{height_preds}
use Rattle.paper.specs.Document.{marked, table_of}
use Rattle.paper.specs.Selection.{meets, all_hold}
use Rattle.paper.proofs.Tests.{some_inj}
use Rattle.paper.proofs.Fields.{step_found}
use Rattle.item.specs.declared.Step.{Step}
use Rattle.item.proofs.Saying.{numbered}
use Rattle.sets.specs.Sets.{bits, image}
use Rattle.keep.specs.Evals.{Fits, Narrows}
use Rattle.keep.specs.Recall.{spare}
use Rattle.keep.proofs.Slices.{front_length, front_back}
use Rattle.keep.proofs.Running.{one_fits}
use Rattle.keep.proofs.Selecting.{Going, next-step, going_on, going_done}
use Rattle.keep.proofs.Recalling.{spare_same, kept_same, kept_front}
use Rattle.keep.proofs.forward.Goals as goal

pub step_at-step-requires : goal.step_at-step-requires
step_at-step-requires c =
    let a = c.args in
    let n = length a.parent.now in
    let t = table_of a.parent.now a.kind.now in
    let lent = spare (length a.known.now) n a.sets.now in
    let f = c.requires.fits in
    let l = c.loop in
    let i = l.invariant in
    let left = a.count - l.counter in
    let wanted : 0 < left = omega (arith, c.loop-test.true) in
    next-step t a.given.now a.items.now a.at a.count lent f l.place left _ l.sets wanted i.1 (λ on h p next. (on, (h, p)))

pub predicates-place-requires-clause-fits : goal.predicates-place-requires-clause-fits
predicates-place-requires-clause-fits c =
    let a = c.args in
    let n = length a.parent.now in
    let t = table_of a.parent.now a.kind.now in
    let lent = spare (length a.known.now) n a.sets.now in
    let f = c.requires.fits in
    let l = c.loop in
    let i = l.invariant in
    let left = a.count - l.counter in
    let wanted : 0 < left = omega (arith, c.loop-test.true) in
    let as_spare : spare (length l.known) n l.sets ≡ lent = spare_same n l.sets a.sets.now i.2 i.0 in
    let room : n ≤ spare (length l.known) n l.sets = omega (arith, as_spare, one_fits n _ lent f.room_for (omega arith)) in
    let front : length (take n l.sets) ≡ n = length-take-le n l.sets (omega (arith, room)) in
    let moved = c.along.new.set ++ drop n l.sets in
    let moved_length : length moved ≡ length l.sets = front_length n l.sets c.along.new.set (omega (arith, room)) c.along.auto.set in
    let moved_room : n ≤ spare (length l.known) n moved = omega (arith, room, spare_same {slots = length l.known} n moved l.sets refl moved_length) in
    let moved_front : length (take n moved) ≡ n = length-take-le n moved (omega (arith, moved_room)) in
    let tested = c.restrict.new.set ++ drop n moved in
    let tested_length : length tested ≡ length a.sets.now = front_length n moved c.restrict.new.set (omega (arith, moved_room)) c.restrict.auto.set ∙ moved_length ∙ i.0 in
    let said_step = c.step_at-step.ensures in
    next-step t a.given.now a.items.now a.at a.count lent f l.place left _ l.sets wanted i.1
    (λ on h p next.
    let same : said_step.0 ≡ h = some_inj (sym said_step.1 ∙ p) in
    let count : c.step_at-step.result.count ≡ h.count = ap (λ (x : Step). x.count) said_step.2 ∙ ap (λ (x : Head). x.count) same in
    subst₂ (λ (k r : ℕ). Fits a.items.now (l.place + 1) n r (take_preds (take_within bracket_limit) k (drop (l.place + 1) a.items.now)) (λ ps. 1 + height_preds ps)) (sym count)
    (sym (spare_same n tested a.sets.now i.2 tested_length)) next.preds)

pub predicates-place-requires-clause-kept : goal.predicates-place-requires-clause-kept
predicates-place-requires-clause-kept c =
    let a = c.args in
    let n = length a.parent.now in
    let t = table_of a.parent.now a.kind.now in
    let lent = spare (length a.known.now) n a.sets.now in
    let f = c.requires.fits in
    let l = c.loop in
    let i = l.invariant in
    let left = a.count - l.counter in
    let wanted : 0 < left = omega (arith, c.loop-test.true) in
    let as_spare : spare (length l.known) n l.sets ≡ lent = spare_same n l.sets a.sets.now i.2 i.0 in
    let room : n ≤ spare (length l.known) n l.sets = omega (arith, as_spare, one_fits n _ lent f.room_for (omega arith)) in
    let front : length (take n l.sets) ≡ n = length-take-le n l.sets (omega (arith, room)) in
    let moved = c.along.new.set ++ drop n l.sets in
    let moved_length : length moved ≡ length l.sets = front_length n l.sets c.along.new.set (omega (arith, room)) c.along.auto.set in
    let moved_room : n ≤ spare (length l.known) n moved = omega (arith, room, spare_same {slots = length l.known} n moved l.sets refl moved_length) in
    let moved_front : length (take n moved) ≡ n = length-take-le n moved (omega (arith, moved_room)) in
    let tested = c.restrict.new.set ++ drop n moved in
    let tested_length : length tested ≡ length a.sets.now = front_length n moved c.restrict.new.set (omega (arith, moved_room)) c.restrict.auto.set ∙ moved_length ∙ i.0 in
    let moved_kept = kept_same l.known l.sets moved (kept_front (length l.known) n n l.sets c.along.new.set room (c.along.auto.set ∙ front)) i.3 in
    kept_same l.known moved tested (kept_front (length l.known) n n moved c.restrict.new.set moved_room (c.restrict.auto.set ∙ moved_front)) moved_kept

pub loop-preserved : goal.loop-preserved
loop-preserved c =
    let a = c.args in
    let n = length a.parent.now in
    let t = table_of a.parent.now a.kind.now in
    let lent = spare (length a.known.now) n a.sets.now in
    let f = c.requires.fits in
    let l = c.loop in
    let i = l.invariant in
    let left = a.count - l.counter in
    let wanted : 0 < left = omega (arith, c.loop-test.true) in
    let as_spare : spare (length l.known) n l.sets ≡ lent = spare_same n l.sets a.sets.now i.2 i.0 in
    let room : n ≤ spare (length l.known) n l.sets = omega (arith, as_spare, one_fits n _ lent f.room_for (omega arith)) in
    let front : length (take n l.sets) ≡ n = length-take-le n l.sets (omega (arith, room)) in
    let moved = c.along.new.set ++ drop n l.sets in
    let moved_length : length moved ≡ length l.sets = front_length n l.sets c.along.new.set (omega (arith, room)) c.along.auto.set in
    let moved_room : n ≤ spare (length l.known) n moved = omega (arith, room, spare_same {slots = length l.known} n moved l.sets refl moved_length) in
    let moved_front : length (take n moved) ≡ n = length-take-le n moved (omega (arith, moved_room)) in
    let tested = c.restrict.new.set ++ drop n moved in
    let tested_length : length tested ≡ length a.sets.now = front_length n moved c.restrict.new.set (omega (arith, moved_room)) c.restrict.auto.set ∙ moved_length ∙ i.0 in
    let kinds = a.kind.now in
    let narrowed = c.predicates-place in
    let said_step = c.step_at-step.ensures in
    let fewer : left - 1 ≡ a.count - (l.counter + 1) = omega arith in
    next-step t a.given.now a.items.now a.at a.count lent f l.place left _ l.sets wanted i.1
    (λ on h p next.
    let same : said_step.0 ≡ h = some_inj (sym said_step.1 ∙ p) in
    let step_is = said_step.2 ∙ ap numbered same in
    let count : c.step_at-step.result.count ≡ h.count = ap (λ (x : Step). x.count) step_is in (
      narrowed.auto.sets ∙ tested_length,
      subst (λ (k : ℕ). Going t a.given.now a.items.now a.at a.count narrowed.result k a.sets.now narrowed.new.sets) fewer
          (going_on t a.given.now a.items.now a.at a.count lent f l.place left narrowed.result h _ l.sets c.along.new.set (drop n moved) c.restrict.new.set narrowed.new.sets wanted i.1 next
          (λ x q.
          c.along.ensures kinds h.axis x (ap (λ (y : Step). y.axis) step_is) (q ∙ ap (λ (k : ℕ). bits k x) (sym front)) ∙
          ap (λ (k : ℕ). bits k (image t h.axis x)) front)
          (λ x q.
          c.restrict.ensures h.test x (step_found _ h p).1 (ap (λ (y : Step). y.test) step_is) (front_back n x c.along.new.set (drop n l.sets) q ∙ ap (λ (k : ℕ). bits k x) (sym moved_front)) ∙
          ap (λ (k : ℕ). bits k (λ i. (x i && marked a.given.now i) && meets h.test (get_or kinds i 0))) moved_front)
          (subst (λ (k : ℕ). Narrows a.items.now (l.place + 1) n (take_preds (take_within bracket_limit) k (drop (l.place + 1) a.items.now)) (all_hold t a.given.now) narrowed.result tested narrowed.new.sets)
          count narrowed.ensures.narrows)),
      narrowed.auto.known ∙ i.2,
      narrowed.ensures.kept_2,
    ))

pub returns-clause-moves : goal.returns-clause-moves
returns-clause-moves c =
    let a = c.args in
    let l = c.loop in
    going_done (table_of a.parent.now a.kind.now) a.given.now a.items.now a.at a.count (spare (length a.known.now) (length a.parent.now) a.sets.now) c.requires.fits l.place (a.count - l.counter) _ l.sets (omega (arith, c.loop-test.false)) l.invariant.1
