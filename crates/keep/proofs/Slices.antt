-- A slice whose part was lent and has come back: what stands in its first set and in the one behind it. Assumes nothing.
use Prim.Native.Nat.{ℕ, zero, suc, ◌+◌, ◌-◌, ◌≤◌, ◌<◌}
use native.Mathlib.Omega.{arith}
use native.Mathlib.Nat.{zero-add, suc-add}
use mathlib.Core.Path.{◌≡◌, sym, ◌∙◌, ap}
use mathlib.Core.List.{List, [], ◌∷◌, ◌++◌, append-nil}
use lib.ListN.{length, take, drop, length-take, length-drop, drop_of_length-le}
use lib.Seq.{take_at, take_all, take-nil, drop_at, drop-drop, length-take-le, length_front}
use mathlib.Core.Bool.{Bool, cond}
use Rattle.paper.proofs.Searches.{length_column}
use Rattle.sets.specs.Sets.{bits}
use Rattle.keep.specs.Evals.{Joined}
use borrow.Rule.Slice.PartMut.{put_mid, take_put, same_len_mid}

module _ (n : ℕ) (sets part : List ℕ) (l : n ≤ length sets) where
  -- The part from n on is as long as what is left.
  pub part_length : length (take (length sets - n) (drop n sets)) ≡ length sets - n
  part_length = simp (length-take, length-drop) (omega arith)

  pub first_stays : take n (put_mid n (length sets - n) sets part) ≡ take n sets
  first_stays = take_put n (length sets - n) sets part l

  pub part_comes : drop n (put_mid n (length sets - n) sets part) ≡ part
  part_comes =
      let short : length (drop n sets) ≤ length sets - n = simp length-drop (omega arith) in
      drop_at (take n sets) (part ++ drop (length sets - n) (drop n sets)) n (length-take-le n sets l) ∙
      ap (λ (z : List ℕ). part ++ z) (drop_of_length-le (drop n sets) short) ∙
      append-nil part

  pub second_comes : take n (drop n (put_mid n (length sets - n) sets part)) ≡ take n part
  second_comes = ap (take n) part_comes

  pub length_stays : length part ≡ length (take (length sets - n) (drop n sets)) → length (put_mid n (length sets - n) sets part) ≡ length sets
  length_stays e = same_len_mid n (length sets - n) sets part e

-- The n after the first a are among the first a + n.
front_drop : (a n : ℕ) (xs : List ℕ) → drop a (take (a + n) xs) ≡ take n (drop a xs)
front_drop zero n xs = ap (λ (k : ℕ). take k xs) (zero-add n)
front_drop (suc a) n [] = ap (drop (suc a)) (take-nil (suc a + n)) ∙ sym (take-nil n)
front_drop (suc a) n (x ∷ xs) = ap (λ (k : ℕ). drop (suc a) (take k (x ∷ xs))) (suc-add a n) ∙ front_drop a n xs

pub middle_same : (a n : ℕ) (xs ys : List ℕ) → take (a + n) xs ≡ take (a + n) ys → take n (drop a xs) ≡ take n (drop a ys)
middle_same a n xs ys e = sym (front_drop a n xs) ∙ ap (drop a) e ∙ front_drop a n ys

-- A set in front of others is the first n of them.
pub front_is : (n : ℕ) (f : ℕ → Bool) (all rest : List ℕ) → all ≡ bits n f ++ rest → take n all ≡ bits n f
front_is n f all rest e = ap (take n) e ∙ take_at (bits n f) rest n (length_column n 0 (λ i. cond (f i) 1 0))

-- A set in front that was lent by itself is what came back.
pub front_back : (n : ℕ) (f : ℕ → Bool) (part rest : List ℕ) → part ≡ bits n f → take n (part ++ rest) ≡ bits n f
front_back n f part rest e = front_is n f (part ++ rest) rest (ap (λ (z : List ℕ). z ++ rest) e)

-- A slice whose front was lent and has come back is as long as it was.
pub front_length : (n : ℕ) (sets part : List ℕ) → n ≤ length sets → length part ≡ length (take n sets) → length (part ++ drop n sets) ≡ length sets
front_length n sets part l e = length_front sets part n e

-- Two sets that were lent from `base` on and came back joined.
pub part_joined : (n base held : ℕ) (op : Bool → Bool → Bool) (sets part : List ℕ) → 0 < held → base + (n + n) ≤ length sets
    → ((f g : ℕ → Bool) → take n (take (length sets - base) (drop base sets)) ≡ bits n f → take n (drop n (take (length sets - base) (drop base sets))) ≡ bits n g
    → part ≡ bits n (λ i. op (f i) (g i)) ++ drop n (take (length sets - base) (drop base sets)))
    → drop n part ≡ drop n (take (length sets - base) (drop base sets))
    → Joined n base held op sets (put_mid base (length sets - base) sets part)
part_joined n base held op sets part z l joins stays =
    let whole : take (length sets - base) (drop base sets) ≡ drop base sets = take_all (length sets - base) (drop base sets) (simp length-drop (omega arith)) in
    record {
      front = first_stays base sets part (omega arith);
      behind =
          sym (drop-drop n base (put_mid base (length sets - base) sets part)) ∙ ap (drop n) (part_comes base sets part (omega arith)) ∙ stays ∙ ap (drop n) whole ∙ drop-drop n base sets;
      first = λ y. absurd (omega arith);
      later = λ y f g p q.
          ap (take n) (part_comes base sets part (omega arith)) ∙
          front_is n (λ i. op (f i) (g i)) part _
          (joins f g (ap (take n) whole ∙ p) (ap (λ (xs : List ℕ). take n (drop n xs)) whole ∙ ap (take n) (drop-drop n base sets) ∙ q));
    }
