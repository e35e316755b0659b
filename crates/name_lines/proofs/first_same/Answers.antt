-- A line of another length, or of another byte at one place, is passed over; one whose bytes all agree is the first that says the word.
use Rattle.std.proofs.Common.{ℕ, List, ◌≡◌, ◌<◌, ◌∙◌, sym, ap, true, false, length, get_or, arith, add-one}
use lib.Seq.{ext_get_or}
use Rattle.paper.specs.Tools.{same}
use Rattle.paper.proofs.Same.{same_refl, not_same}
use Rattle.name_lines.specs.Lines.{said}
use Rattle.name_lines.proofs.Firsts.{first_here, first_on}
use Rattle.name_lines.proofs.first_same.Goals as goal

all_agree : (line word : List ℕ) → length line ≡ length word → ((k : ℕ) → k < length line → get_or line k 0 ≡ get_or word k 0) → same line word ≡ true
all_agree line word e h = rw (ext_get_or 0 line word e h) (same_refl word)

pub lines-preserved-then-said-word : goal.lines-preserved-then-said-word
lines-preserved-then-said-word c =
    let a = c.args in
    let l = c.lines in
    let other : same (said a.list.now a.starts.now l.v) a.word.now ≡ false =
    ap (λ line. same line a.word.now) (sym c.line-said.ensures) ∙ not_same c.line-said.result.now a.word.now (λ e. c.if-said-word.true (ap length e)) in
    (l.invariant.0, rw (add-one l.v) (l.invariant.1 ∙ first_on a.count l.v (λ u. same (said a.list.now a.starts.now u) a.word.now) c.lines-test.true other))

pub lines-preserved : goal.lines-preserved
lines-preserved c =
    let a = c.args in
    let l = c.lines in
    let other : same (said a.list.now a.starts.now l.v) a.word.now ≡ false =
    ap (λ line. same line a.word.now) (sym c.line-said.ensures) ∙ not_same c.line-said.result.now a.word.now (λ e. c.if-said-i.true (ap (λ line. get_or line c.loop-i.i 0) e)) in
    (l.invariant.0, rw (add-one l.v) (l.invariant.1 ∙ first_on a.count l.v (λ u. same (said a.list.now a.starts.now u) a.word.now) c.lines-test.true other))

pub returns-after-loop-i : goal.returns-after-loop-i
returns-after-loop-i c =
    let a = c.args in
    let l = c.lines in
    let says : same (said a.list.now a.starts.now l.v) a.word.now ≡ true =
    ap (λ line. same line a.word.now) (sym c.line-said.ensures) ∙
    all_agree c.line-said.result.now a.word.now (omega arith) (λ k b. c.loop-i.invariant k (omega arith)) in
    sym (l.invariant.1 ∙ first_here a.count l.v (λ u. same (said a.list.now a.starts.now u) a.word.now) c.lines-test.true says)
