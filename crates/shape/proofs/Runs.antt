-- How long a run of one item is: up to the first other item, or to the end. Assumes nothing.
use Rattle.std.proofs.Common.{ℕ, suc, ◌+◌, ◌≤◌, ◌≡◌, refl, List, [], ◌∷◌, length, Bool, true, false, not, cond, arith, Option, Some, None}
use Rattle.std.specs.List.{position_or_len}
use Rattle.std.specs.Option.{unwrap_or}
use Rattle.std.proofs.lemmas.List.Recursion.{is_position_or_len}
use Rattle.std.proofs.Common.{get_or, drop, ◌<◌}
use lib.ListN.{drop_of_length-le}
use lib.Seq.{drop-cons}
use lib.Dec.{eqb, ltb}
use borrow.Author.Tests.{ltb-false, eq-eqb, ne_eqb}
use Rattle.paper.specs.Items.{leading}

-- Is an item another one?
abbrev pub is_other : ℕ → ℕ → Bool
is_other w x = not (eqb x w)

run_is_first : (w : ℕ) (ws : List ℕ) → leading w ws ≡ position_or_len (is_other w) ws
run_is_first w = is_position_or_len (leading w) (is_other w) refl (λ x xs. turned (eqb x w) (leading w xs))
  where
    turned : (b : Bool) (n : ℕ) → cond b (suc n) 0 ≡ cond (not b) 0 (1 + n)
    turned true n = omega arith
    turned false n = refl

pub run_within : (w : ℕ) (ws : List ℕ) → leading w ws ≤ length ws
run_within w [] = omega arith
run_within w (x ∷ xs) = go (eqb x w) (run_within w xs)
  where
    go : (b : Bool) → leading w xs ≤ length xs → cond b (suc (leading w xs)) 0 ≤ suc (length xs)
    go true l = omega arith
    go false l = omega arith

-- The place of the first other item, or the number of all.
pub run_found : (w : ℕ) (ws : List ℕ) (r : Option ℕ) → r ≡ cond (ltb (position_or_len (is_other w) ws) (length ws)) (Some (position_or_len (is_other w) ws)) None → unwrap_or r (length ws) ≡ leading w ws
run_found w ws r e = rw (e, ← run_is_first w ws) (go (ltb (leading w ws) (length ws)) refl)
  where
    go : (b : Bool) → ltb (leading w ws) (length ws) ≡ b → unwrap_or (cond b (Some (leading w ws)) None) (length ws) ≡ leading w ws
    go true h = refl
    go false h = omega (arith, ltb-false _ _ h, run_within w ws)

-- From a place on: this item,
pub run_more : (items : List ℕ) (i w : ℕ) → i < length items → get_or items i 0 ≡ w → leading w (drop i items) ≡ suc (leading w (drop (suc i) items))
run_more items i w l e = rw (drop-cons items i 0 l, eq-eqb (get_or items i 0) w e)

-- another item,
pub run_other : (items : List ℕ) (i w : ℕ) → i < length items → (get_or items i 0 ≡ w → ⊥) → leading w (drop i items) ≡ 0
run_other items i w l e = rw (drop-cons items i 0 l, ne_eqb (get_or items i 0) w e)

-- or the end of the items.
pub run_end : (items : List ℕ) (i w : ℕ) → length items ≤ i → leading w (drop i items) ≡ 0
run_end items i w l = rw (drop_of_length-le items l)
