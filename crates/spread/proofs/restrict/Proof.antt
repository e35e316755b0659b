-- `spread::restrict` meets its contract: the marks are kept first, then the nodes that meet the test. Assumes nothing.
use Prim.Native.Nat.{ℕ}
use mathlib.Core.Path.{◌≡◌, sym, ◌∙◌, ap}
use mathlib.Core.Bool.{◌&&◌}
use lib.ListN.{length, get_or}
use Rattle.paper.specs.Document.{marked}
use Rattle.paper.specs.Selection.{meets}
use Rattle.sets.specs.Sets.{bits}
use borrow.Author.Rules.{rules}
use Rattle.spread.proofs.restrict.Statement.{statement}
use Rattle.spread.proofs.restrict.Tie as tie

keep-requires : tie.Need-keep-requires
keep-requires c κs = search rules

keep-met-requires : tie.Need-keep_met-requires
keep-met-requires c κs = search rules

same_length : tie.Need-shape_of-set
same_length c = search rules

returns : tie.Need-returns
returns c =
    λ t f g e h.
    let a = c.args in
    let kept = c.keep in
    let marks = marked a.given.now in
    let same : length kept.new.set ≡ length a.set.now = kept.auto.set in
    let once = kept.ensures f marks h c.requires.2 in
    c.keep_met.ensures t (λ i. f i && marks i) g e (once ∙ ap (λ (n : ℕ). bits n (λ i. f i && marks i)) (sym same)) ∙
    ap (λ (n : ℕ). bits n (λ i. (f i && marks i) && meets t (get_or a.kind.now i 0))) same

pub restrict_spec : {M : Type 1} → statement M
restrict_spec = tie.close (tie.spec keep-requires keep-met-requires same_length returns)
