-- `xml_runs::past_a` meets its contract: the byte that comes decides between the two words. Assumes nothing.
use native.Mathlib.Omega.{arith}
use borrow.Author.Tests.{ne_eqb}
use lib.ListN.{get_or}
use mathlib.Core.Path.{refl, sym}
use Rattle.paper.specs.Tools.{ascii}
use Rattle.xml_runs.specs.Runs.{past_a}
use Rattle.xml_runs.proofs.Holding.{word_on, pattern_refused}
use Rattle.xml_runs.proofs.past_a.Goals as goal

pub returns-in-109 : goal.returns-in-109
returns-in-109 c = word_on _ _ (omega arith) past_a 109 _ c.in-109.is refl 112 (ascii ";") refl refl c.say.ensures

pub returns-in-112 : goal.returns-in-112
returns-in-112 c = word_on _ _ (omega arith) past_a 112 _ c.in-112.is refl 111 (ascii "s;") refl refl c.say-in-112.ensures

pub returns-in_default : goal.returns-in_default
returns-in_default c =
    let b = get_or c.args.text.now c.args.at 0 in
    let n = c.in_default.in_default-own.rest in
    pattern_refused _ _ (omega arith) past_a _ _ (rw (ne_eqb 109 b (λ e. n.0.1 (sym e)), ne_eqb 112 b (λ e. n.1 (sym e)))) c.refuse.ensures
