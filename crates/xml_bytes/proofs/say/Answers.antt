-- The byte comes, and what is left of the word from the next one on comes to what the whole does. Assumes nothing.
use native.Mathlib.Omega.{arith}
use native.Mathlib.Numerals.{add-one}
use mathlib.Core.Path.{◌∙◌, ap, subst}
use Rattle.std.specs.Prelude.{Ok, suc, List, ℕ, [], ◌∷◌, eqb, get_or, drop}
use lib.Seq.{drop-cons}
use Rattle.xml_bytes.specs.Promised.{row_of, Reads, spelling}
use Rattle.xml_bytes.proofs.Rows.{passed_on, reads_bounds}
use Rattle.xml_bytes.proofs.say.Goals as goal

pub loop-wanted-preserved : goal.loop-wanted-preserved
loop-wanted-preserved c =
    let text = c.args.text.now in
    let word = c.args.word.now in
    let place = c.loop-wanted.next in
    let done = c.loop-wanted.wanted-index in
    let wanted = get_or word done 0 in
    let one : Reads text place (eqb wanted ∷ []) (Ok c.in_ok-next.next) = subst (Reads text place (eqb wanted ∷ [])) c.in_ok-next.was c.byte.ensures in
    record {
      inside = (reads_bounds text place (eqb wanted ∷ []) _ c.loop-wanted.invariant.inside one).1;
      passed =
          rw (add-one done)
          (passed_on text c.args.at (spelling word) place _ (eqb wanted) (spelling (drop (suc done) word)) (c.loop-wanted.invariant.passed ∙ ap (λ (w : List ℕ). row_of place (spelling w) (drop place text)) (drop-cons word done 0 (omega arith))) one);
    }
