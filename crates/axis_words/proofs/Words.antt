-- The words of the axes compared in turn, in the order of the numbers. Assumes nothing.
use Prim.Native.Nat.{ℕ, zero, suc, ◌<◌}
use native.Mathlib.Omega.{arith}
use mathlib.Core.Path.{◌≡◌, refl, sym, ◌∙◌, ap}
use mathlib.Core.Bool.{true, false, cond}
use mathlib.Core.List.{List, [], ◌∷◌, map}
use mathlib.Core.Option.{Option, none, some}
use lib.ListN.{length, get_or, drop}
use Rattle.paper.specs.Tools.{same}
use Rattle.paper.specs.Query.{Axis, self}
use Rattle.paper.specs.Items.{axis_number}
use Rattle.paper.specs.Printing.{axis_text}
use Rattle.paper.specs.Reading.{axis_named}
use Rattle.paper.proofs.Same.{same_turned}
use Rattle.axis_words.specs.AxisWords.{axis_code, in_order}

-- The axis of a word among these.
abbrev pub among : List ℕ → List Axis → Option Axis
among w [] = none
among w (a ∷ later) = cond (same w (axis_text a)) (some a) (among w later)

-- It is the first of them, or among those behind it.
pub among_from : (w : List ℕ) (xs : List Axis) (n : ℕ) → n < length xs
    → among w (drop n xs) ≡ cond (same w (get_or (map axis_text xs) n [])) (some (get_or xs n self)) (among w (drop (suc n) xs))
among_from w [] n l = absurd (omega arith)
among_from w (a ∷ xs) zero l = refl
among_from w (a ∷ xs) (suc n) l = among_from w xs n (omega arith)

module _ (w : List ℕ) where
  -- The word names one of those that are left, if any.
  abbrev pub Left : List Axis → Type 0
  Left later = axis_named w ≡ among w later

  pub all_left : Left in_order
  all_left = refl

  pub passed : (a : Axis) (later : List Axis) → Left (a ∷ later) → same (axis_text a) w ≡ false → Left later
  passed a later l h = l ∙ ap (λ b. cond b (some a) (among w later)) (same_turned w (axis_text a) ∙ h)

  pub named_so : (a : Axis) (later : List Axis) → Left (a ∷ later) → same (axis_text a) w ≡ true → some (axis_number a) ≡ axis_code (axis_named w)
  named_so a later l h = sym (ap axis_code (l ∙ ap (λ b. cond b (some a) (among w later)) (same_turned w (axis_text a) ∙ h)))

  pub none_left : Left [] → none ≡ axis_code (axis_named w)
  none_left l = sym (ap axis_code l)
