-- `candidates::candidate`: the step leads to no node from `j` on below the bound.
use Rattle.std.proofs.Common.{◌≡◌, ℕ, ◌≤◌, ◌<◌, true, false}
use Rattle.paper.specs.Document.{table_of}
use Rattle.paper.specs.Query.{Axis, Test}
use Rattle.paper.specs.Items.{axis_number, test_number, good_test}
use Rattle.paper.specs.Selection.{reaches}
use Rattle.candidates.proofs.candidate.Given as goal

abbrev pub invariant-loop-j : goal.invariant-loop-j
invariant-loop-j l =
    (a : Axis) (x : Test) → good_test x ≡ true → l.axis ≡ axis_number a → l.test ≡ test_number x
    → (k : ℕ) → l.j ≤ k → k < l.bound → reaches (table_of l.parent l.kind) l.given a x l.i k ≡ false
