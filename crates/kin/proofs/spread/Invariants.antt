-- `kin::spread`: the marks before `i` have what the node k keeps of theirs added (`Passed`).
use Rattle.std.proofs.Common.{ℕ, Bool, ◌&&◌, ◌||◌, List, get_or, bit_or}
use mir.Val.{bool_byte}
use Rattle.paper.specs.Document.{table_of, marked, over}
use Rattle.kin.proofs.Passing.{Passed}
use Rattle.kin.proofs.spread.Given as goal

-- Is the node i kept for the node k?
abbrev pub keeps_for : List ℕ → List ℕ → List ℕ → ℕ → ℕ → Bool
keeps_for parents kinds given k i = marked given i && (over (table_of parents kinds) i k || over (table_of parents kinds) k i)

abbrev pub invariant-loop-i : goal.invariant-loop-i
invariant-loop-i l = (kinds : List ℕ) → Passed (λ j. bit_or (get_or l.fn.marks j 0) (bool_byte (keeps_for l.parent kinds l.given l.k j))) l.fn.marks l.marks l.i
