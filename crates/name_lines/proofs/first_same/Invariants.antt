-- The outer loop: the lines before this one say other words, so the search goes on from here. The inner one: the first bytes of the line are those of the word.
use Rattle.std.proofs.Common.{◌≡◌, ◌-◌, ◌<◌, ℕ, None, get_or}
use Rattle.paper.specs.Tools.{same, first_from, first_below}
use Rattle.name_lines.specs.Lines.{said}
use Rattle.name_lines.proofs.first_same.Given as goal

abbrev pub invariant-lines : goal.invariant-lines
invariant-lines l =
    (l.first ≡ None) ×
    (first_below l.count (λ u. same (said l.list l.starts u) l.word) ≡ first_from (l.count - l.v) l.v (λ u. same (said l.list l.starts u) l.word))

abbrev pub invariant-loop-i : goal.invariant-loop-i
invariant-loop-i l = (k : ℕ) → k < l.i → get_or l.said k 0 ≡ get_or l.word k 0
