-- `xml_runs::named_character` meets its contract: the byte that comes decides between the words. Assumes nothing.
use native.Mathlib.Omega.{arith}
use borrow.Author.Tests.{ne_eqb}
use lib.ListN.{get_or}
use mathlib.Core.Path.{refl, sym}
use Rattle.paper.specs.Tools.{ascii}
use Rattle.paper.specs.Xml.{reference}
use Rattle.xml_runs.specs.Runs.{past_a}
use Rattle.xml_runs.proofs.Holding.{byte_on, word_on, pattern_refused}
use Rattle.xml_runs.proofs.named_character.Goals as goal

pub returns-in-108 : goal.returns-in-108
returns-in-108 c = word_on _ _ (omega arith) reference 108 _ c.in-108.is refl 116 (ascii ";") refl refl c.say.ensures

pub returns-in-103 : goal.returns-in-103
returns-in-103 c = word_on _ _ (omega arith) reference 103 _ c.in-103.is refl 116 (ascii ";") refl refl c.say-in-103.ensures

pub returns-in-97 : goal.returns-in-97
returns-in-97 c = byte_on _ _ (omega arith) reference 97 _ c.in-97.is refl past_a refl refl c.past_a.ensures

pub returns-in-113 : goal.returns-in-113
returns-in-113 c = word_on _ _ (omega arith) reference 113 _ c.in-113.is refl 117 (ascii "ot;") refl refl c.say-in-113.ensures

pub returns-in_default : goal.returns-in_default
returns-in_default c =
    let b = get_or c.args.text.now c.args.at 0 in
    let n = c.in_default.in_default-own.rest in
    pattern_refused _ _ (omega arith) reference _ _
    (rw (ne_eqb 108 b (λ e. n.0.0.0.1 (sym e)), ne_eqb 103 b (λ e. n.0.0.1 (sym e)), ne_eqb 97 b (λ e. n.0.1 (sym e)), ne_eqb 113 b (λ e. n.1 (sym e)))) c.refuse.ensures
