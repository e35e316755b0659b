-- `visible::copy` meets its contract: an item is read where no copy has come, and when all are copied the part stands there. Assumes nothing.
use Rattle.std.proofs.Common.{ℕ, ◌+◌, ◌≡◌, refl, sym, ◌∙◌, ap, arith, List, length, get_or, set, take, drop}
use native.Mathlib.Numerals.{add-one}
use lib.ListN.{length-set}
use lib.Seq.{paste, paste-zero, paste-suc}
use Rattle.item.proofs.Placing.{copied_all}
use Rattle.visible.proofs.Copying.{ahead, of_part, part_length}
use Rattle.visible.proofs.copy.Goals as goal

pub loop-done-init : goal.loop-done-init
loop-done-init c = (refl, paste-zero c.args.out.now c.args.at (take c.args.count (drop c.args.from c.args.out.now)))

pub loop-done-preserved : goal.loop-done-preserved
loop-done-preserved c =
    let a = c.args in
    let l = c.loop-done in
    let s : List ℕ = take a.count (drop a.from a.out.now) in
    let e = part_length a.out.now a.from a.count (omega arith) in
    let read : get_or l.out (a.from + l.done) 0 ≡ get_or s l.done 0 =
    ap (λ (x : List ℕ). get_or x (a.from + l.done) 0) l.invariant.1 ∙ ahead a.out.now s a.at l.done (a.from + l.done) (omega arith) (omega arith) (omega arith) ∙
    sym (of_part a.out.now a.from a.count l.done c.loop-done-test.true) in (
      length-set l.out (a.at + l.done) (get_or l.out (a.from + l.done) 0) ∙ l.invariant.0,
      ap (λ (w : ℕ). set l.out (a.at + l.done) w) read ∙ ap (λ (x : List ℕ). set x (a.at + l.done) (get_or s l.done 0)) l.invariant.1 ∙
          paste-suc a.out.now a.at s l.done 0 (omega arith) (omega arith) ∙
          ap (paste a.out.now a.at s) (sym (add-one l.done)),
    )

pub returns : goal.returns
returns c =
    let a = c.args in
    let l = c.loop-done in
    let s : List ℕ = take a.count (drop a.from a.out.now) in
    l.invariant.1 ∙ copied_all a.out.now s a.at l.done (omega (arith, part_length a.out.now a.from a.count (omega arith)))
