-- `item::put_items` meets its contract: a turn copies one item more, and in the end all are copied. Assumes nothing.
use Rattle.std.proofs.Common.{ℕ, ◌+◌, refl, sym, ◌∙◌, ap, arith, List, get_or, set}
use native.Mathlib.Numerals.{add-one}
use lib.ListN.{length-set}
use lib.Seq.{paste, paste-zero, paste-suc}
use Rattle.item.proofs.Placing.{copied_all}
use Rattle.item.proofs.put_items.Goals as goal

pub loop-done-init : goal.loop-done-init
loop-done-init c = (refl, paste-zero c.args.out.now c.args.at c.args.items.now)

pub loop-done-preserved : goal.loop-done-preserved
loop-done-preserved c =
    let a = c.args in
    let l = c.loop-done in (
      length-set l.out (a.at + l.done) (get_or a.items.now l.done 0) ∙ l.invariant.0,
      ap (λ (x : List ℕ). set x (a.at + l.done) (get_or a.items.now l.done 0)) l.invariant.1 ∙
          paste-suc a.out.now a.at a.items.now l.done 0 (omega arith) c.loop-done-test.true ∙
          ap (paste a.out.now a.at a.items.now) (sym (add-one l.done)),
    )

pub returns : goal.returns
returns c =
    let a = c.args in
    let l = c.loop-done in
    l.invariant.1 ∙ copied_all a.out.now a.items.now a.at l.done (omega arith)
