-- A place up to the number of items is told by what is found: one below it by itself, and there is one place more. Assumes nothing.
use Prim.Native.Nat.{ℕ, ◌≤◌}
use native.Mathlib.Omega.{arith}
use mathlib.Core.Path.{◌≡◌, refl, sym}
use mathlib.Core.Bool.{Bool, true, false}
use lib.Dec.{ltb}
use borrow.Author.Tests.{ltb-false}
use Rattle.paper.specs.Tools.{when}
use Rattle.paper.proofs.Tests.{none-some, some_inj}

pub first_unique : (n u v : ℕ) → u ≤ n → v ≤ n → when (ltb u n) u ≡ when (ltb v n) v → u ≡ v
first_unique n u v l m h = go (ltb u n) refl (ltb v n) refl h
  where
    go : (a : Bool) → ltb u n ≡ a → (b : Bool) → ltb v n ≡ b → when a u ≡ when b v → u ≡ v
    go true e true f k = some_inj k
    go true e false f k = none-some (sym k)
    go false e true f k = none-some k
    go false e false f k = omega (arith, ltb-false u n e, ltb-false v n f)
