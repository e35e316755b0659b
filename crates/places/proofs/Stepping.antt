-- The laws of `shape` on the steps of a path, found one by one from its start, passed on; and what is known of the step after k + 1 others tells of that after k. Assumes nothing.
use Prim.Native.Nat.{ℕ, suc, ◌-◌, ◌%◌}
use native.Mathlib.Omega.{arith}
use mathlib.Core.Path.{◌≡◌, subst}
use mathlib.Core.List.{List}
use lib.ListN.{drop}
use Rattle.paper.specs.Items.{take_steps, take_within}
use Rattle.places.specs.Standing.{Ends, Known}
use Rattle.places.specs.declared.Places.{Places}
pub use Rattle.shape.proofs.Stepping.{later, later_all, later_next, split, fewer_readable, further_readable, further}

module _ (items : List ℕ) (at depth k : ℕ) (places : Places) (known : Known items at depth (suc k) places) where
  pub known_far : (k % 256 ≡ 255 → ⊥) → Ends items at (take_steps (take_within depth) (k - k % 256) (drop at items)) places.far
  known_far within =
      subst (λ n. Ends items at (take_steps (take_within depth) n (drop at items)) places.far) (let same : suc k - suc k % 256 ≡ k - k % 256 = omega arith in same) known.0

  pub known_near : (k % 16 ≡ 15 → ⊥) → Ends items at (take_steps (take_within depth) (k - k % 16) (drop at items)) places.near
  known_near within =
      subst (λ n. Ends items at (take_steps (take_within depth) n (drop at items)) places.near) (let same : suc k - suc k % 16 ≡ k - k % 16 = omega arith in same) known.1
