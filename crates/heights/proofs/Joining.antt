-- The height of a part joined to another. Assumes nothing.
use Prim.Native.Nat.{ℕ, zero, suc, ◌+◌, ◌≤◌, max}
use native.Mathlib.Omega.{arith}
use mathlib.Core.Path.{◌≡◌, refl}
use Rattle.heights.specs.Heights.{joined_height}

-- What is joined to something is one higher than the higher of the two.
pub joined_more : (high height : ℕ) → 1 ≤ high → joined_height high height ≡ 1 + max high height
joined_more zero height z = absurd (omega arith)
joined_more (suc high) height z = refl
