-- What an unpacked item tells of its number, case by case; and that packing and unpacking undo each other.
-- Exactly the numbers whose item is not `Bad` are good items. Assumes nothing.
use Prim.Native.Nat.{ℕ, ◌<◌}
use native.Mathlib.Omega.{arith}
use mathlib.Core.Path.{◌≡◌, refl, sym, subst}
use mathlib.Core.Bool.{Bool, true, false}
use mathlib.Core.List.{[], ◌∷◌}
use mathlib.Core.Option.{Option, none, some}
use lib.Dec.{eqb}
use borrow.Author.Tests.{eqb-true, eqb-false}
use Rattle.paper.specs.Query.{Axis, Test}
use Rattle.paper.specs.Items.{axis_number, test_number, path_at, Head, step_at, pack_path, pack_step, good_test, and_item, or_item, not_item, count_bound}
use Rattle.paper.proofs.Fields.{path-at, step-at, path_found, step_found}
use Rattle.item.specs.declared.Step.{Step}
use Rattle.item.specs.declared.Item.{Item}
use Rattle.item.specs.declared.Item.TheVariants.{Path, Step as StepItem, And, Or, Not, Bad}
use Rattle.item.specs.Unpacked.{path_of, unpacked, packed}
use Rattle.item.proofs.Unpacking.{no_path, no_step}
use Rattle.item.specs.contracts.Item.{the_type}
use denote.Enum.Declared.{tag_of}
use types.Run.{OneOf, miss}

-- A step in numbers says the same as a head.
abbrev pub numbered : Head → Step
numbered h = record { axis = axis_number h.axis; test = test_number h.test; count = h.count }

-- What each case tells of the number.
abbrev pub Said : ℕ → Item → Type 0
Said w (Path count) = path_at w ≡ some count
Said w (StepItem s) = (h : Head) × (step_at w ≡ some h) × (s ≡ numbered h)
Said w And = w ≡ and_item
Said w Or = w ≡ or_item
Said w Not = w ≡ not_item
Said w Bad = (path_at w ≡ none) × (step_at w ≡ none) × (w ≡ and_item → ⊥) × (w ≡ or_item → ⊥) × (w ≡ not_item → ⊥)

-- WHAT AN ITEM TELLS.
pub said : (w : ℕ) (i : Item) → i ≡ unpacked w → Said w i
unfolding unpacked
said w i e = subst (Said w) (sym e) (go (path_at w) refl (step_at w) refl (eqb w and_item) refl (eqb w or_item) refl (eqb w not_item) refl)
  where
    go : (p : Option ℕ) → path_at w ≡ p → (s : Option Head) → step_at w ≡ s → (a : Bool) → eqb w and_item ≡ a → (o : Bool) → eqb w or_item ≡ o → (n : Bool) → eqb w not_item ≡ n
        → Said w (path_of w (path_at w))
    go (some c) p s q a x o y n z = rw p p
    go none p (some h) q a x o y n z = rw (p, q) (h, q, refl)
    go none p none q true x o y n z = rw (p, q, x) (eqb-true w and_item x)
    go none p none q false x true y n z = rw (p, q, x, y) (eqb-true w or_item y)
    go none p none q false x false y true z = rw (p, q, x, y, z) (eqb-true w not_item z)
    go none p none q false x false y false z = rw (p, q, x, y, z) (p, q, eqb-false w and_item x, eqb-false w or_item y, eqb-false w not_item z)

-- Where an item is no step, no step stands there.
pub not_step : (w : ℕ) (i : Item) → Said w i → OneOf (0 ∷ 2 ∷ 3 ∷ 4 ∷ 5 ∷ []) (tag_of the_type i) → step_at w ≡ none
not_step w (Path count) s k = no_step w (λ e. omega (arith, (path_found w count s).0))
not_step w (StepItem st) s k = absurd (miss (0 ∷ 2 ∷ 3 ∷ 4 ∷ 5 ∷ []) 1 tt k)
not_step w And s k = no_step w (λ e. omega arith)
not_step w Or s k = no_step w (λ e. omega arith)
not_step w Not s k = no_step w (λ e. omega arith)
not_step w Bad s k = s.1

-- Where an item is no path, no path stands there.
pub not_path : (w : ℕ) (i : Item) → Said w i → OneOf (1 ∷ 2 ∷ 3 ∷ 4 ∷ 5 ∷ []) (tag_of the_type i) → path_at w ≡ none
not_path w (Path count) s k = absurd (miss (1 ∷ 2 ∷ 3 ∷ 4 ∷ 5 ∷ []) 0 tt k)
not_path w (StepItem st) s k = no_path w (λ e. omega (arith, (step_found w s.0 s.1).0))
not_path w And s k = no_path w (λ e. omega arith)
not_path w Or s k = no_path w (λ e. omega arith)
not_path w Not s k = no_path w (λ e. omega arith)
not_path w Bad s k = s.0

-- UNPACK AFTER PACK.
pub unpack_path : (count : ℕ) → count < count_bound → unpacked (pack_path count) ≡ Path count
unfolding unpacked
unpack_path count l = rw (path-at count l)

pub unpack_step : (a : Axis) (t : Test) (count : ℕ) → good_test t ≡ true → count < count_bound
    → unpacked (pack_step a t count) ≡ StepItem (numbered (record { axis = a; test = t; count = count }))
unfolding unpacked
unpack_step a t count g l = rw (no_path (pack_step a t count) (λ e. omega arith), step-at a t count g l)

-- PACK AFTER UNPACK.
pub pack-path : (w count : ℕ) → Said w (Path count) → (w ≡ pack_path count) × (count < count_bound)
pack-path w count h = path_found w count h

pub pack-step : (w : ℕ) (s : Step) → Said w (StepItem s) → (w ≡ packed s) × (s.count < count_bound)
pack-step w s h =
    let f = step_found w h.0 h.1 in
    subst (λ (x : Step). (w ≡ packed x) × (x.count < count_bound)) (sym h.2) (f.0, f.2)
