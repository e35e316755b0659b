-- The nodes where the first k steps stand, as the front of a list: one more, one less, and the last of them. Assumes nothing.
use Prim.Native.Nat.{ℕ, zero, suc, ◌+◌, ◌-◌, ◌≤◌, ◌<◌}
use native.Mathlib.Omega.{arith}
use native.Mathlib.Numerals.{add-one}
use mathlib.Core.Path.{◌≡◌, refl, sym, ◌∙◌, ap}
use mathlib.Core.List.{List, [], ◌∷◌, ◌++◌}
use lib.ListN.{length, get_or, set, take, drop, length-take, length-drop}
use borrow.Rule.Slice.PartMut.{put_mid, take_put, same_len_mid}
use Rattle.search.specs.Searches.{last_of}

-- The last of more.
pub last_more : (i j : ℕ) (js : List ℕ) → last_of i (js ++ (j ∷ [])) ≡ j
last_more i j [] = refl
last_more i j (k ∷ ks) = last_more k j ks

-- The first k + 1 are the first k and the one behind them.
pub front_more : (xs : List ℕ) (k : ℕ) → k < length xs → take (suc k) xs ≡ take k xs ++ (get_or xs k 0 ∷ [])
front_more [] k l = absurd (omega arith)
front_more (x ∷ xs) zero l = refl
front_more (x ∷ xs) (suc k) l = ap (λ (ys : List ℕ). x ∷ ys) (front_more xs k (omega arith))

pub last_stood : (i : ℕ) (xs : List ℕ) (k : ℕ) → 0 < k → k ≤ length xs → last_of i (take k xs) ≡ get_or xs (k - 1) 0
last_stood i xs k z l =
    ap (λ (n : ℕ). last_of i (take n xs)) (let e : k ≡ suc (k - 1) = omega arith in e) ∙ ap (last_of i) (front_more xs (k - 1) (omega arith)) ∙ last_more i (get_or xs (k - 1) 0) (take (k - 1) xs)

-- A list whose part from n on was lent and has come back: its front stays, and it is as long.
module _ (n : ℕ) (xs part : List ℕ) (l : n ≤ length xs) where
  pub part_length : length (take (length xs - n) (drop n xs)) ≡ length xs - n
  part_length = simp (length-take, length-drop) (omega arith)

  pub front_stays : take n (put_mid n (length xs - n) xs part) ≡ take n xs
  front_stays = take_put n (length xs - n) xs part l

  pub length_stays : length part ≡ length (take (length xs - n) (drop n xs)) → length (put_mid n (length xs - n) xs part) ≡ length xs
  length_stays e = same_len_mid n (length xs - n) xs part e

-- A node more stands behind the first k.
pub front_set : (xs : List ℕ) (k v : ℕ) → k < length xs → take (suc k) (set xs k v) ≡ take k xs ++ (v ∷ [])
front_set [] k v l = absurd (omega arith)
front_set (x ∷ xs) zero v l = refl
front_set (x ∷ xs) (suc k) v l = ap (λ (ys : List ℕ). x ∷ ys) (front_set xs k v (omega arith))

-- What the front is where the part behind the first k has come back: with one node more, and without the last.
module _ (xs part : List ℕ) (k : ℕ) (l : k ≤ length xs) (e : length part ≡ length (take (length xs - k) (drop k xs))) where
  pub pushed_front : (v : ℕ) → k < length xs → take (k + 1) (set (put_mid k (length xs - k) xs part) k v) ≡ take k xs ++ (v ∷ [])
  pushed_front v on =
      let all = put_mid k (length xs - k) xs part in
      ap (λ (n : ℕ). take n (set all k v)) (add-one k) ∙ front_set all k v (omega (arith, on, length_stays k xs part l e)) ∙ ap (λ (ys : List ℕ). ys ++ (v ∷ [])) (front_stays k xs part l)

  pub popped_front : (k ≡ 0 → ⊥) → take k xs ≡ take (k - 1) (put_mid k (length xs - k) xs part) ++ (get_or (put_mid k (length xs - k) xs part) (k - 1) 0 ∷ [])
  popped_front z =
      let all = put_mid k (length xs - k) xs part in
      sym (front_stays k xs part l) ∙ ap (λ (n : ℕ). take n all) (let q : k ≡ suc (k - 1) = omega arith in q) ∙ front_more all (k - 1) (omega (arith, length_stays k xs part l e, z))
