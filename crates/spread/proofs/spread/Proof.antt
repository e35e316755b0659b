-- `spread::spread` meets its contract: what lies below is gathered in the set, what lies above in the marks, and both are kept where marked. Assumes nothing.
use Prim.Native.Nat.{ℕ}
use mathlib.Core.Path.{◌≡◌, refl, sym, ◌∙◌, ap}
use mathlib.Core.Bool.{Bool, ◌&&◌, ◌||◌}
use lib.ListN.{length}
use Rattle.paper.specs.Query.{descendant_or_self, ancestor_or_self}
use Rattle.paper.specs.Document.{marked, table_of}
use Rattle.sets.specs.Sets.{bits, image}
use Rattle.spread.specs.Spreading.{keeps_by}
use Rattle.sets.proofs.Bits.{bits_same}
use Rattle.spread.proofs.Spreading.{spreads}
use borrow.Author.Rules.{rules}
use Rattle.spread.proofs.spread.Statement.{statement}
use Rattle.spread.proofs.spread.Tie as tie

copy-requires : tie.Need-copy-requires
copy-requires c κs = search rules

along-requires : tie.Need-along-requires
along-requires c κs = search rules

along-requires-2 : tie.Need-along-requires-2
along-requires-2 c κs = search rules

add-requires : tie.Need-add-requires
add-requires c κs = search rules

keep-requires : tie.Need-keep-requires
keep-requires c κs = search rules

same_length : tie.Need-shape_of-marks
same_length c = search rules

same-length-2 : tie.Need-shape_of-set
same-length-2 c = search rules

returns : tie.Need-returns
returns c =
    let start = c in
    let a = start.args in
    let n = length a.parent.now in
    let t = table_of a.parent.now a.kind.now in
    let m = a.given.now in
    let kinds = a.kind.now in
    let ready = start.requires.0 in
    let copied = c.copy in
    let down = c.along in
    let up = c.along-2 in
    let added = c.add in
    let kept = c.keep in
    let at_n : (k : ℕ) → k ≡ n → (g : ℕ → Bool) → bits k g ≡ bits n g = λ k e g. ap (λ (j : ℕ). bits j g) e in
    let ls : length copied.new.set ≡ n = copied.auto.set ∙ start.requires.1.1 in
    let lm : length a.marks.now ≡ n = start.requires.1.0 in
    let lu : length up.new.set ≡ n = up.auto.set ∙ lm in
    let la : length added.new.set ≡ n = added.auto.set ∙ lu in
    let beneath : (f : ℕ → Bool) → a.marks.now ≡ bits n f → down.new.set ≡ bits n (image t descendant_or_self f) =
    λ f h.
    let sel : copied.new.set ≡ bits n f = copied.ensures ∙ h in
    let below : down.new.set ≡ bits n (image t descendant_or_self f) =
    down.ensures kinds descendant_or_self f refl (sel ∙ sym (at_n _ ls f)) ∙ at_n _ ls (image t descendant_or_self f) in
    below in (
      λ f h.
          let below = beneath f h in
          let above : up.new.set ≡ bits n (image t ancestor_or_self f) =
          up.ensures kinds ancestor_or_self f refl (h ∙ sym (at_n _ lm f)) ∙ at_n _ lm (image t ancestor_or_self f) in
          let both : added.new.set ≡ bits n (λ i. image t ancestor_or_self f i || image t descendant_or_self f i) =
          added.ensures (image t ancestor_or_self f) (image t descendant_or_self f) (above ∙ sym (at_n _ lu (image t ancestor_or_self f))) (below ∙ sym (at_n _ lu (image t descendant_or_self f))) ∙
          at_n _ lu (λ i. image t ancestor_or_self f i || image t descendant_or_self f i) in
          kept.ensures (λ i. image t ancestor_or_self f i || image t descendant_or_self f i) (marked m) (both ∙ sym (at_n _ la (λ i. image t ancestor_or_self f i || image t descendant_or_self f i)))
          (ready.marks_bits ∙ sym (at_n _ la (marked m))) ∙
          at_n _ la (λ i. (image t ancestor_or_self f i || image t descendant_or_self f i) && marked m i) ∙
          bits_same n (λ i. (image t ancestor_or_self f i || image t descendant_or_self f i) && marked m i) (keeps_by t m f) (λ i l. spreads t m f i),
      beneath,
    )

pub spread_spec : {M : Type 1} → statement M
spread_spec =
    tie.close
    (tie.spec
    copy-requires
    along-requires
    along-requires-2
    add-requires
    keep-requires
    same_length
    same-length-2
    returns)
