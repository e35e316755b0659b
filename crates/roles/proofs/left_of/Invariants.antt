-- The loop of `roles::left_of`: the views that are left take the rest off the mask. Assumes nothing.
use Prim.Native.Nat.{ℕ, ◌+◌}
use mathlib.Core.Path.{◌≡◌}
use Rattle.paper.specs.Roles.{beyond}
use Rattle.roles.proofs.left_of.Given as goal

abbrev pub invariant-loop-taken : goal.invariant-loop-taken
invariant-loop-taken l = (rest : ℕ) → l.taken + rest ≡ l.views → beyond l.fn.mask l.views ≡ beyond l.left rest
