-- What counting and guarding one item more come to: laws that the loops and the matches over unpacked items cite. Assumes nothing.
use Prim.Native.Nat.{ℕ, zero, suc, ◌+◌, ◌≤◌, ◌<◌}
use native.Mathlib.Omega.{arith}
use mathlib.Core.Path.{◌≡◌, refl, sym, ◌∙◌, ap}
use mathlib.Core.Bool.{Bool, true, false, cond}
use mathlib.Core.List.{List, [], ◌∷◌}
use lib.ListN.{length, get_or, drop, drop_of_length-le, length-append}
use Rattle.paper.specs.Query.{descendant_or_self, ancestor_or_self}
use Rattle.paper.specs.Items.{axis_bound, test_bound, axis_number}
use Rattle.paper.proofs.Axes.{axis_small}
use Rattle.paper.proofs.Fields.{test_small}
use Rattle.item.specs.Unpacked.{unpacked, guarded_number}
use Rattle.item.specs.declared.Step.{Step}
use Rattle.item.specs.declared.Item.{Item}
use Rattle.item.specs.declared.Item.TheVariants.{Path, Step as StepItem, And, Or, Not, Bad}
use Rattle.item.specs.contracts.Item.{the_type}
use denote.Enum.Declared.{tag_of}
use types.Run.{OneOf, miss}
use Rattle.owed.specs.Owing.{owing}
use Rattle.owed.proofs.Passing.{owes_as, at_place}
use Rattle.reverse.proofs.Reading.{said_step}
use Rattle.guards.specs.Guarded.{is_guard, guard_item, guard_items, guarded_as, guarded_step, guarded_item}
use Rattle.visible.specs.Visible.{some_node_items}

-- A guarded step counts as one, another item as none.
pub step_counted : (w : ℕ) (i : Item) (s : Step) (g : Bool) → i ≡ unpacked w → i ≡ StepItem s → g ≡ guarded_number s.axis → cond g 1 0 ≡ guard_item w
unfolding guard_item
step_counted w i s g e f h = ap (λ b. cond b 1 0) h ∙ ap is_guard (sym f ∙ e)

pub no_step_counted : (w : ℕ) (i : Item) → i ≡ unpacked w → OneOf (0 ∷ 2 ∷ 3 ∷ 4 ∷ 5 ∷ []) (tag_of the_type i) → 0 ≡ guard_item w
unfolding guard_item
no_step_counted w i e k = go i k ∙ ap is_guard e
  where
    go : (i : Item) → OneOf (0 ∷ 2 ∷ 3 ∷ 4 ∷ 5 ∷ []) (tag_of the_type i) → 0 ≡ is_guard i
    go (Path count) k = refl
    go (StepItem s) k = absurd (miss (0 ∷ 2 ∷ 3 ∷ 4 ∷ 5 ∷ []) 1 tt k)
    go And k = refl
    go Or k = refl
    go Not k = refl
    go Bad k = refl

once : (g : Bool) → cond g 1 0 ≤ 1
once true = omega arith
once false = omega arith

step_most : (i : Item) → is_guard i ≤ 1
step_most (Path count) = omega arith
step_most (StepItem s) = once (guarded_number s.axis)
step_most And = omega arith
step_most Or = omega arith
step_most Not = omega arith
step_most Bad = omega arith

pub step_item_most : (w : ℕ) → guard_item w ≤ 1
unfolding guard_item
step_item_most w = step_most (unpacked w)

-- An item that is not named stays as it is.
pub unnamed_stays : (chosen : List ℕ) (flag w : ℕ) → flag ≡ 0 → guarded_item chosen flag w ≡ w ∷ []
unfolding guarded_item
unnamed_stays chosen flag w e = ap (λ (n : ℕ). guarded_as chosen w n (unpacked w)) e

-- So does one that is no step.
pub no_step_guarded : (chosen : List ℕ) (flag w : ℕ) (i : Item) → i ≡ unpacked w → OneOf (0 ∷ 2 ∷ 3 ∷ 4 ∷ 5 ∷ []) (tag_of the_type i) → guarded_item chosen flag w ≡ w ∷ []
unfolding guarded_item
no_step_guarded chosen flag w i e k = ap (guarded_as chosen w flag) (sym e) ∙ go flag i k
  where
    go : (n : ℕ) (i : Item) → OneOf (0 ∷ 2 ∷ 3 ∷ 4 ∷ 5 ∷ []) (tag_of the_type i) → guarded_as chosen w n i ≡ w ∷ []
    go zero i k = refl
    go (suc n) (Path count) k = refl
    go (suc n) (StepItem s) k = absurd (miss (0 ∷ 2 ∷ 3 ∷ 4 ∷ 5 ∷ []) 1 tt k)
    go (suc n) And k = refl
    go (suc n) Or k = refl
    go (suc n) Not k = refl
    go (suc n) Bad k = refl

-- A step that is named gets V.
pub step_guarded : (chosen : List ℕ) (flag w : ℕ) (i : Item) (s : Step) → (flag ≡ 0 → ⊥) → i ≡ unpacked w → i ≡ StepItem s → guarded_item chosen flag w ≡ guarded_step chosen s
unfolding guarded_item
step_guarded chosen flag w i s named e f = ap (guarded_as chosen w flag) (sym e ∙ f) ∙ go flag named
  where
    go : (n : ℕ) → (n ≡ 0 → ⊥) → guarded_as chosen w n (StepItem s) ≡ guarded_step chosen s
    go zero h = absurd (h refl)
    go (suc n) h = refl

-- One item more is counted.
pub counted_more : (items : List ℕ) (place : ℕ) → place < length items → guard_items (drop place items) ≡ guard_item (get_or items place 0) + guard_items (drop (place + 1) items)
counted_more items place l = ap guard_items (at_place items place l)

pub counted_end : (items : List ℕ) (place : ℕ) → length items ≤ place → guard_items (drop place items) ≡ 0
counted_end items place l = ap guard_items (drop_of_length-le items l)

-- What is needed of a step before it is guarded, and how long it is then.
pub step_fields : (w : ℕ) (i : Item) (s : Step) → i ≡ unpacked w → i ≡ StepItem s → (s.axis < axis_bound) × (s.test < test_bound) × (s.count ≡ owing w)
step_fields w i s e f =
    let h = said_step w i s e f in
    (omega (arith, h.axis_is, axis_small h.axis), omega (arith, h.test_is, test_small h.test h.fine), (owes_as w i (StepItem s) e f).0)

pub guarded_room : (chosen : List ℕ) (flag w : ℕ) (s : Step) → guarded_item chosen flag w ≡ guarded_step chosen s → length (guarded_item chosen flag w) ≡ 6 + length chosen + length chosen
guarded_room chosen flag w s same =
    ap length same ∙ omega (arith, length-append (some_node_items (axis_number descendant_or_self) chosen) (some_node_items (axis_number ancestor_or_self) chosen))
