-- The text of an axis in either form. Assumes nothing.
use Prim.Native.Nat.{ℕ, ◌-◌}
use mathlib.Core.Path.{◌≡◌}
use mathlib.Core.Bool.{Bool, true, false, ◌&&◌}
use mathlib.Core.List.{[], ◌∷◌, ◌++◌, append_assoc}
use lib.Dec.{eqb}
use Rattle.paper.specs.Query.{Axis, child}
use Rattle.paper.specs.Items.{axis_number}
use Rattle.paper.specs.Printing.{axis_text}
use Rattle.put_axes.specs.Along.{along}

-- An axis and `::`, by the number of the axis: left out, or put byte by byte.
module _ (brief : Bool) (a : Axis) (n : ℕ) (e : n ≡ axis_number a) where
  pub along_none : brief && eqb n (axis_number child) ≡ true → [] ≡ along brief a
  along_none h = let g : brief && eqb (axis_number a) (axis_number child) ≡ true = rw e at h in rw g

  pub along_told : brief && eqb n (axis_number child) ≡ false → axis_text a ++ (58 ∷ []) ++ (58 ∷ []) ≡ along brief a
  along_told h = let g : brief && eqb (axis_number a) (axis_number child) ≡ false = rw e at h in rw g (append_assoc (axis_text a) (58 ∷ []) (58 ∷ []))
