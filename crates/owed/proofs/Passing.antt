-- What passing one item more comes to: what it owes, and what is left of what is owed. Assumes nothing.
use Prim.Native.Nat.{ℕ, zero, suc, ◌+◌, ◌-◌, ◌≤◌, ◌<◌}
use native.Mathlib.Omega.{arith}
use native.Mathlib.Numerals.{add-one}
use mathlib.Core.Path.{◌≡◌, refl, sym, ◌∙◌, ap}
use mathlib.Core.List.{List, ◌∷◌}
use mathlib.Core.Option.{some}
use lib.ListN.{length, get_or, drop, drop_of_length-le}
use lib.Seq.{drop-cons}
use Rattle.paper.specs.Items.{path_at, count_limit}
use Rattle.paper.proofs.Fields.{path_found}
use Rattle.item.specs.Unpacked.{unpacked}
use Rattle.item.specs.declared.Item.{Item}
use Rattle.item.specs.declared.Item.TheVariants.{Path, Step as StepItem, And, Or, Not, Bad}
use Rattle.item.proofs.Saying.{Said, said, pack-path, pack-step}
use Rattle.owed.specs.Owing.{owed_by, owing, eaten}
use Rattle.owed.proofs.Owing.{owing_path, none_eaten}

-- What an unpacked item owes is little.
few : (w : ℕ) (i : Item) → Said w i → owed_by i ≤ count_limit
few w (Path count) s = omega (arith, (pack-path w count s).1)
few w (StepItem st) s = omega (arith, (pack-step w st s).1)
few w And s = omega arith
few w Or s = omega arith
few w Not s = omega arith
few w Bad s = omega arith

pub owes_as : (w : ℕ) (i j : Item) → i ≡ unpacked w → i ≡ j → (owed_by j ≡ owing w) × (owed_by j ≤ count_limit)
unfolding owing
owes_as w i j e f = (ap owed_by (sym f ∙ e), few w j (said w j (sym f ∙ e)))

-- An item that is a path owes its steps.
pub owes_steps : (w count : ℕ) → path_at w ≡ some count → owing w ≡ count
owes_steps w count p = let found = path_found w count p in ap owing found.0 ∙ owing_path count found.1

-- What stands at a place of the items.
pub at_place : (items : List ℕ) (at : ℕ) → at < length items → drop at items ≡ get_or items at 0 ∷ drop (at + 1) items
at_place items at l = drop-cons items at 0 l ∙ ap (λ (k : ℕ). get_or items at 0 ∷ drop k items) (sym (add-one at))

-- One item more is read of what is owed; nothing is left; nothing is owed.
pub eaten_more : (items : List ℕ) (place owed owed' : ℕ) → place < length items → (owed ≡ 0 → ⊥) → owed' ≡ owed - 1 + owing (get_or items place 0)
    → eaten (drop place items) owed ≡ suc (eaten (drop (place + 1) items) owed')
eaten_more items place zero owed' l z e = absurd (z refl)
eaten_more items place (suc owed) owed' l z e =
    ap (λ (x : List ℕ). eaten x (suc owed)) (at_place items place l) ∙
    ap (λ (k : ℕ). suc (eaten (drop (place + 1) items) k)) (let f : owed + owing (get_or items place 0) ≡ owed' = omega arith in f)

pub eaten_end : (items : List ℕ) (place owed : ℕ) → length items ≤ place → eaten (drop place items) owed ≡ 0
eaten_end items place owed l = ap (λ (x : List ℕ). eaten x owed) (drop_of_length-le items l)

pub eaten_none : (items : List ℕ) (place owed : ℕ) → owed ≡ 0 → eaten (drop place items) owed ≡ 0
eaten_none items place owed e = ap (eaten (drop place items)) e ∙ none_eaten (drop place items)
