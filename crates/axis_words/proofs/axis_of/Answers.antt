-- `axis_of` meets its contract: a word that is not the one of an axis names one behind it, or none.
use Rattle.std.proofs.Common.{◌≡◌, ◌∙◌, ap, sym, suc, false, arith, add-one, drop}
use Rattle.paper.specs.Tools.{same}
use Rattle.paper.proofs.Same.{same_turned, same_pointwise}
use Rattle.axis_words.specs.AxisWords.{in_order, word_at}
use Rattle.axis_words.proofs.Words.{among, among_from}
use Rattle.axis_words.proofs.axis_of.Goals as goal

pub loop-axis-preserved : goal.loop-axis-preserved
loop-axis-preserved c =
    let w = c.args.word.now in
    let n = c.loop-axis.axis in
    let differs : same w (word_at n) ≡ false =
    same_turned w (word_at n) ∙ ap (λ text. same text w) (sym c.word_of.ensures) ∙ sym (same_pointwise c.word_of.result.now w) ∙ sym c.eq.ensures ∙ c.if-eq.false in
    let later : among w (drop n in_order) ≡ among w (drop (suc n) in_order) = rw (among_from w in_order n (omega arith), differs) in
    c.loop-axis.invariant ∙ later ∙ ap (λ m. among w (drop m in_order)) (sym (add-one n))
