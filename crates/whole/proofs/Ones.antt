-- The first of a row of ones. By induction over their number. Assumes nothing.
use Prim.Native.Nat.{ℕ, zero, suc, ◌≤◌}
use native.Mathlib.Omega.{arith}
use mathlib.Core.Path.{◌≡◌, refl, ap}
use mathlib.Core.List.{List, ◌∷◌}
use lib.ListN.{take, replicate}

pub take_ones : (n most : ℕ) → n ≤ most → take {A = ℕ} n (replicate most 1) ≡ replicate n 1
take_ones zero most l = refl
take_ones (suc n) zero l = absurd (omega arith)
take_ones (suc n) (suc most) l = ap (λ (ones : List ℕ). 1 ∷ ones) (take_ones n most (omega arith))
