-- `sets::each`: the bytes before `i` are what f made of them, and those from `i` on are as they were.
use Rattle.std.proofs.Common.{◌≡◌, ℕ, ◌≤◌, ◌<◌, length, get_or}
use Rattle.sets.proofs.each.Given as goal

abbrev pub invariant-loop-i : goal.invariant-loop-i
invariant-loop-i g l =
    (length l.set ≡ length l.fn.set)
    × ((k : ℕ) → k < l.i → goal.F-post g l.f (get_or l.fn.set k 0) k (get_or l.set k 0))
    × ((k : ℕ) → l.i ≤ k → get_or l.set k 0 ≡ get_or l.fn.set k 0)
