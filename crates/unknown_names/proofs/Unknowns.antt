-- Tests that the list has no name for, and the first item whose name it does not have: how the search goes on from item to item, and what it says where it finds none. Assumes nothing.
use Prim.Native.Nat.{ℕ, zero, suc, ◌+◌, ◌≤◌, ◌<◌}
use native.Mathlib.Omega.{arith}
use mathlib.Core.Path.{◌≡◌, refl, sym}
use mathlib.Core.Bool.{Bool, true, false, ◌&&◌, cond}
use mathlib.Core.List.{List, [], ◌∷◌}
use mathlib.Core.Option.{none, some}
use lib.Dec.{leb, ltb}
use lib.ListN.{length, get_or, drop, drop_of_length-le}
use lib.Seq.{drop-cons}
use borrow.Author.Tests.{lt-ltb, le-leb, lt-leb, leb-true, ltb-true}
use Rattle.paper.specs.Limits.{names_limit}
use Rattle.paper.specs.Query.{Test, any_node, text_node, named, any_element}
use Rattle.paper.specs.Items.{test_number, step_at, good_test, named_from}
use Rattle.paper.specs.Answers.{unknown_test, unknown_item, unknown_from}
use Rattle.paper.proofs.Tests.{agree, none-some}

-- A test by its number.
pub unknown-test : (count : ℕ) (t : Test) → good_test t ≡ true → (ltb (test_number t) (test_number any_element) && leb (count + named_from) (test_number t)) ≡ unknown_test count t
unknown-test count any_node g = rw (lt-leb (count + named_from) 0 (omega arith))
unknown-test count text_node g = rw (lt-leb (count + named_from) 1 (omega arith))
unknown-test count (named v) g =
    let few : v < names_limit = ltb-true v names_limit g in
    rw (lt-ltb (named_from + v) (test_number any_element) (omega arith))
    (agree (leb (count + named_from) (named_from + v)) (leb count v)
    (λ h. let l : count + named_from ≤ named_from + v = leb-true (count + named_from) (named_from + v) h in le-leb count v (omega arith))
    (λ h. let l : count ≤ v = leb-true count v h in le-leb (count + named_from) (named_from + v) (omega arith)))
unknown-test count any_element g = refl

module _ (count : ℕ) (items : List ℕ) (at : ℕ) where
  -- It is this item, or one of those after it, or there is none.
  pub unknown_here : at < length items → unknown_item count (step_at (get_or items at 0)) ≡ true → unknown_from count at (drop at items) ≡ some at
  unknown_here l h = rw (drop-cons items at 0 l, h)

  pub unknown_later : at < length items → unknown_item count (step_at (get_or items at 0)) ≡ false
      → unknown_from count at (drop at items) ≡ unknown_from count (suc at) (drop (suc at) items)
  unknown_later l h = rw (drop-cons items at 0 l, h)

  pub unknown_past : length items ≤ at → unknown_from count at (drop at items) ≡ none
  unknown_past l = rw (drop_of_length-le items l)

-- Where it finds none, every item is known.
known_from : (count at : ℕ) (items : List ℕ) → unknown_from count at items ≡ none → (i : ℕ) → unknown_item count (step_at (get_or items i 0)) ≡ false
unfolding step_at
known_from count at [] h i = refl
known_from count at (w ∷ ws) h i = go (unknown_item count (step_at w)) refl h i (λ n k. known_from count (suc at) ws n k)
  where
    go : (b : Bool) → unknown_item count (step_at w) ≡ b → cond b (some at) (unknown_from count (suc at) ws) ≡ none → (k : ℕ)
        → (unknown_from count (suc at) ws ≡ none → (j : ℕ) → unknown_item count (step_at (get_or ws j 0)) ≡ false) → unknown_item count (step_at (get_or (w ∷ ws) k 0)) ≡ false
    go true e n k later = none-some (sym n)
    go false e n zero later = e
    go false e n (suc k) later = later n k

pub all_known : (count : ℕ) (items : List ℕ) → unknown_from count 0 items ≡ none → (i : ℕ) → unknown_item count (step_at (get_or items i 0)) ≡ false
all_known count items h i = known_from count 0 items h i
