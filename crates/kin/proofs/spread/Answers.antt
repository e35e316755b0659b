-- `kin::spread`: a turn adds what is kept of the node i for the node k, and at the end that is added everywhere.
use Rattle.std.proofs.Common.{◌≡◌, ℕ, ◌&&◌, ◌||◌, cond, List, length, get_or, bit_or, arith, rules, ap, ◌∙◌}
use mathlib.Core.Path.{ap₂}
use mir.Val.{bool_byte}
use Rattle.paper.specs.Document.{marked}
use Rattle.paper.proofs.Searches.{column_at}
use Rattle.kin.proofs.Climbing.{falls_up}
use Rattle.kin.proofs.Passing.{one_passed, all_passed, or_byte}
use Rattle.kin.proofs.spread.Invariants.{keeps_for}
use Rattle.kin.proofs.spread.Goals as goal

pub is_over-requires : goal.is_over-requires
is_over-requires c = falls_up _ _ c.requires.0 (omega arith)

pub is_over-requires-in-loop-i : goal.is_over-requires-in-loop-i
is_over-requires-in-loop-i c = falls_up _ _ c.requires.0 (omega arith)

pub loop-i-preserved : goal.loop-i-preserved
loop-i-preserved c =
    let a = c.args in
    let l = c.loop-i in
    let byte : c.from.result ≡ bool_byte (marked a.given.now l.i && (c.is_over.result || c.is_over-in-loop-i.result)) = search rules in
    λ kinds.
    one_passed (l.invariant kinds) (omega arith)
    (ap (bit_or (get_or l.marks l.i 0)) byte
    ∙ ap₂ (λ x b. bit_or x (bool_byte (marked a.given.now l.i && b))) ((l.invariant kinds).left l.i (omega arith))
    (ap₂ ◌||◌ (c.is_over.ensures kinds) (c.is_over-in-loop-i.ensures kinds)))

pub returns : goal.returns
returns c =
    let a = c.args in
    λ kinds f e.
    all_passed (c.loop-i.invariant kinds) (omega arith) (length a.parent.now) (omega arith) _
    (λ j b.
    ap (λ x. bit_or x (bool_byte (keeps_for a.parent.now kinds a.given.now a.k j)))
    (ap (λ (z : List ℕ). get_or z j 0) e ∙ column_at (length a.parent.now) (λ i. cond (f i) 1 0) 0 j b)
    ∙ or_byte (f j) (keeps_for a.parent.now kinds a.given.now a.k j))
