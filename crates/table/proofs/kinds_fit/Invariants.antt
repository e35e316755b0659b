-- Where `fit` holds, the kinds so far fit.
use Rattle.std.proofs.Common.{◌≡◌, true, ℕ, ◌<◌, get_or}
use Rattle.table.specs.Passing.{fits_kind}
use Rattle.table.proofs.kinds_fit.Given as goal

abbrev pub invariant-loop-i : goal.invariant-loop-i
invariant-loop-i l = l.fit ≡ true → (k : ℕ) → k < l.i → 0 < k → fits_kind (get_or l.kind k 0) ≡ true
