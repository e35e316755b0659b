-- `search::keep`: a node that is selected adds what it keeps, and another nothing.
use Rattle.std.proofs.Common.{◌≡◌, ℕ, length, replicate, sym, ap, ◌∙◌, rules, arith}
use Rattle.paper.specs.Document.{table_of}
use Rattle.search.proofs.Keeping.{up_to, marks_up_to, cleared, up_to_none, up_to_more, up_to_same, up_to_all}
use Rattle.search.proofs.keep.Goals as goal
use Rattle.search.proofs.keep.Goals.{then-selected, else-selected}

pub loop-k-init : goal.loop-k-init
loop-k-init c =
    let a = c.args in
    let t = table_of a.parent.now a.kind.now in
    let zeros : c.fill.new.self ≡ replicate (length a.marks.now) 0 = search rules in
    λ q e. zeros ∙ ap (λ (n : ℕ). replicate n 0) c.requires.marks_len.0 ∙ cleared (length a.parent.now) 0 ∙ up_to_none t a.given.now q (length a.parent.now)

pub loop-k-preserved : goal.loop-k-preserved
loop-k-preserved c =
    let a = c.args in
    let t = table_of a.parent.now a.kind.now in
    let m = a.given.now in
    let n = length a.parent.now in
    let l = c.loop-k in
    λ q e.
    elim c.if-selected.branch [
      | then-selected w ↦ w.marks-is ∙ w.spread.ensures a.kind.now (up_to t m q l.k) (l.invariant q e) ∙ up_to_more t m q n l.k (sym (c.selected.ensures q e) ∙ w.if-selected.true)
      | else-selected w ↦ w.marks-is ∙ l.invariant q e ∙ up_to_same t m q n l.k (sym (c.selected.ensures q e) ∙ w.if-selected.false)
    ]

pub returns : goal.returns
returns c =
    let a = c.args in
    let t = table_of a.parent.now a.kind.now in
    let end : c.loop-k.k ≡ length a.parent.now = omega arith in
    λ q e. c.loop-k.invariant q e ∙ ap (marks_up_to t a.given.now q (length a.parent.now)) end ∙ up_to_all t a.given.now q
