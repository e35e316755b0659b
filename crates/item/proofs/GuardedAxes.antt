-- Which numbers of axes are guarded: those of the guarded axes, and no number that is no axis. Assumes nothing.
use Prim.Native.Nat.{ℕ}
use mathlib.Core.Path.{◌≡◌, sym, ◌∙◌, ap}
use mathlib.Core.Bool.{false}
use Rattle.paper.specs.Query.{Axis}
use Rattle.paper.specs.Items.{axis_number}
use Rattle.paper.specs.Composition.{guarded}
use Rattle.paper.proofs.Axes.{axis-number, NoAxis, no_axis_found}
use Rattle.item.specs.Unpacked.{guarded_axis, guarded_number}

pub guarded-number : (a : Axis) (n : ℕ) → n ≡ axis_number a → guarded a ≡ guarded_number n
unfolding guarded_number
guarded-number a n e = sym (ap guarded_number e ∙ ap guarded_axis (axis-number a))

pub guarded_none : (n : ℕ) → NoAxis n → false ≡ guarded_number n
unfolding guarded_number
guarded_none n h = sym (ap guarded_axis (no_axis_found n h))
