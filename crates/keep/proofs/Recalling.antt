-- Sets kept behind the others: what leaves them as they are, what is kept when one more is, and that equal items are one expression.
-- A set kept is told by the bytes from the first one kept on, so whatever leaves these leaves all that is kept. Assumes nothing.
use Prim.Native.Nat.{ℕ, zero, suc, ◌+◌, ◌-◌, ◌*◌, ◌≤◌, ◌<◌}
use native.Mathlib.Omega.{arith}
use native.Mathlib.Nat.{mul-le-mul_left, mul-add}
use native.Mathlib.Decide.{ℕ_discrete, dec_lt}
use mathlib.Core.Path.{◌≡◌, refl, sym, ◌∙◌, ap, ap₂, subst, subst₂}
use mathlib.Core.Bool.{Bool}
use mathlib.Core.List.{List, ◌++◌}
use mathlib.Core.Logic.{⊎_elim, by_cases}
use mathlib.Core.Option.{some}
use lib.ListN.{length, get_or, set, take, drop, replicate, length-set, length-append, length-take, length-drop, take-append-drop}
use lib.Seq.{take_at, take_all, drop_at, drop-drop, length-take-le, ext_get_or, get_or-take, get_or-drop, get_or-set_same, get_or-set_other}
use borrow.Rule.Slice.PartMut.{put_mid}
use Rattle.paper.specs.Limits.{item_limit}
use Rattle.paper.specs.Query.{Expr}
use Rattle.paper.specs.Items.{encode_expr, take_expr, take_within}
use Rattle.paper.specs.Measures.{height_expr}
use Rattle.paper.specs.Document.{Table}
use Rattle.paper.specs.Selection.{holds}
use Rattle.paper.proofs.Tests.{some_inj}
use Rattle.paper.proofs.Encoding.{from_expr, from_within}
use Rattle.paper.proofs.Decoding.{expr_encode}
use Rattle.sets.specs.Sets.{bits}
use Rattle.keep.specs.Evals.{Fits, Evaluates, Joined}
use Rattle.keep.specs.Recall.{spare, kept_set, place_of, count_of, WorkedOut, Kept, Stands, Copied, KeptAs, Remembered}
use Rattle.keep.proofs.Slices.{part_comes, part_length, length_stays, front_length}

-- Of so many sets kept, those before one and those from it on.
pub apart : (n slots slot bytes : ℕ) → slot < slots → n + n * slots ≤ bytes → (n * (slots - slot) + n * slot ≡ n * slots) × (n ≤ n * (slots - slot)) × (n + n * slots ≤ bytes)
apart n slots slot bytes l r =
    (sym (mul-add n (slots - slot) slot) ∙ ap (λ (k : ℕ). n * k) (let q : slots - slot + slot ≡ slots = omega arith in q), omega (arith, mul-le-mul_left n (let q : 1 ≤ slots - slot = omega arith in q)), r)

-- As many elements from one place on are those from another where each is.
window_same : (n a b : ℕ) (xs ys : List ℕ) → a + n ≤ length xs → b + n ≤ length ys → ((k : ℕ) → k < n → get_or xs (a + k) 0 ≡ get_or ys (b + k) 0)
    → take n (drop a xs) ≡ take n (drop b ys)
window_same n a b xs ys la lb h =
    ext_get_or 0 (take n (drop a xs)) (take n (drop b ys)) (left ∙ sym right)
    (λ k l.
    get_or-take n (drop a xs) k 0 (omega (arith, left)) ∙ get_or-drop a xs k 0 ∙ h k (omega (arith, left)) ∙
    sym (get_or-take n (drop b ys) k 0 (omega (arith, left)) ∙ get_or-drop b ys k 0))
  where
    left : length (take n (drop a xs)) ≡ n
    left = length-take-le n (drop a xs) (simp length-drop (omega arith))

    right : length (take n (drop b ys)) ≡ n
    right = length-take-le n (drop b ys) (simp length-drop (omega arith))

module _ (slots n : ℕ) where
  -- The same bytes stand from the first set kept on.
  abbrev pub SameKept : List ℕ → List ℕ → Type 0
  SameKept xs ys = drop (spare slots n xs) xs ≡ drop (spare slots n ys) ys

  -- A list whose end from k on is a list's is told there.
  same_after : (k : ℕ) (xs ys : List ℕ) → k ≤ spare slots n xs → length ys + k ≡ length xs → drop k xs ≡ ys → SameKept xs ys
  same_after k xs ys l e h =
      ap (λ (j : ℕ). drop j xs) (let q : spare slots n xs ≡ k + spare slots n ys = omega (arith, e) in q) ∙
      sym (drop-drop (spare slots n ys) k xs) ∙
      ap (drop (spare slots n ys)) h

  -- The front was written anew.
  pub kept_front : (k : ℕ) (xs part : List ℕ) → k ≤ spare slots n xs → length part ≡ k → SameKept xs (part ++ drop k xs)
  kept_front k xs part l e =
      same_after k xs (drop k xs) l (simp length-drop (omega arith)) refl ∙
      sym (same_after k (part ++ drop k xs) (drop k xs) (omega (arith, size)) (simp length-drop (omega (arith, size))) (drop_at part (drop k xs) k e))
    where
      size : length (part ++ drop k xs) ≡ length xs
      size = simp (length-append, length-drop) (omega arith)

  -- The part from k on is lent.
  pub kept_part : (k : ℕ) (xs : List ℕ) → k ≤ spare slots n xs → SameKept xs (take (length xs - k) (drop k xs))
  kept_part k xs l =
      let all : take (length xs - k) (drop k xs) ≡ drop k xs = take_all (length xs - k) (drop k xs) (simp length-drop (omega arith)) in
      same_after k xs (take (length xs - k) (drop k xs)) l (omega (arith, part_length k xs xs (omega arith))) (sym all)

  -- It comes back.
  pub kept_back : (k : ℕ) (xs part : List ℕ) → k ≤ spare slots n xs → length part ≡ length (take (length xs - k) (drop k xs)) → SameKept (put_mid k (length xs - k) xs part) part
  kept_back k xs part l e =
      let size : length (put_mid k (length xs - k) xs part) ≡ length xs = length_stays k xs part (omega arith) e in
      same_after k (put_mid k (length xs - k) xs part) part (omega (arith, size)) (omega (arith, size, e, part_length k xs xs (omega arith))) (part_comes k xs part (omega arith))

  -- What stands from k on is as it was.
  pub kept_end : (k : ℕ) (xs ys : List ℕ) → k ≤ spare slots n xs → length ys ≡ length xs → drop k ys ≡ drop k xs → SameKept xs ys
  kept_end k xs ys l e h =
      same_after k xs (drop k xs) l (simp length-drop (omega arith)) refl ∙
      sym (same_after k ys (drop k xs) (omega arith) (simp length-drop (omega arith)) h)

-- As many bytes are spare where as many sets are kept in as many bytes.
pub spare_same : {slots slots' : ℕ} (n : ℕ) (xs ys : List ℕ) → slots ≡ slots' → length xs ≡ length ys → spare slots n xs ≡ spare slots' n ys
spare_same n xs ys e l = ap₂ (λ (k b : ℕ). b - n * k) e l

-- In the part from k on there are k fewer.
pub spare_part : {slots slots' : ℕ} (n k : ℕ) (xs ys : List ℕ) → slots ≡ slots' → length xs ≡ length ys → k ≤ length xs
    → spare slots' n ys - k ≡ spare slots n (take (length xs - k) (drop k xs))
spare_part {slots} {slots'} n k xs ys e l b =
    ap (λ (j : ℕ). j - k) (sym (spare_same n xs ys e l)) ∙
    (let q : length xs - n * slots - k ≡ length xs - k - n * slots = omega arith in q) ∙
    ap (λ (j : ℕ). j - n * slots) (sym (part_length k xs xs b))

-- What is kept is kept where the same bytes stand.
pub kept_same : {t : Table} {m items : List ℕ} {n : ℕ} (known xs ys : List ℕ) → SameKept (length known) n xs ys → Kept t m items n known xs → Kept t m items n known ys
kept_same {t} {m} {items} {n} known xs ys same kept =
    record {
      each = λ i l z.
          subst (WorkedOut t m items n (get_or known i 0))
          (ap (take n) (sym (drop-drop (n * i) (spare (length known) n xs) xs) ∙ ap (drop (n * i)) same ∙ drop-drop (n * i) (spare (length known) n ys) ys))
          (kept.each i l z);
    }

-- At first every entry is free, and no set is kept.
all_free : (entries slots i : ℕ) → get_or (take slots (replicate {A = ℕ} entries 0)) i 0 ≡ 0
all_free zero zero i = refl
all_free zero (suc slots) i = refl
all_free (suc entries) zero i = refl
all_free (suc entries) (suc slots) zero = refl
all_free (suc entries) (suc slots) (suc i) = all_free entries slots i

pub none_kept : {t : Table} {m items : List ℕ} {n : ℕ} (entries slots : ℕ) {sets : List ℕ} → Kept t m items n (take slots (replicate {A = ℕ} entries 0)) sets
none_kept entries slots = record { each = λ i l z. absurd (omega (arith, z, all_free entries slots i)) }

-- A set copied to the front is there, and nothing changes behind it.
module _ {n from : ℕ} {xs ys : List ℕ} (room : from + n ≤ length xs) (size : length ys ≡ length xs) (c : Copied from 0 n xs ys) where
  pub copied_first : take n ys ≡ take n (drop from xs)
  copied_first = window_same n 0 from ys xs (omega arith) room c.copied

  pub copied_behind : drop n ys ≡ drop n xs
  copied_behind =
      ext_get_or 0 (drop n ys) (drop n xs) (length-drop n ys ∙ ap (λ (k : ℕ). k - n) size ∙ sym (length-drop n xs))
      (λ k l. get_or-drop n ys k 0 ∙ c.back (n + k) (omega arith) ∙ sym (get_or-drop n xs k 0))

-- One set more is kept.
module _ (at next : ℕ) {n : ℕ} {known sets known' sets' : List ℕ} (room : n + n * length known ≤ length sets) (size : length sets' ≡ length sets) where
  pub front_remembered : Remembered n at next known sets known' sets' → take n sets' ≡ take n sets
  front_remembered =
      ⊎_elim (λ (w : (known' ≡ known) × (sets' ≡ sets)). ap (take n) w.1)
      (λ (w : (next < 65536) × KeptAs n (at * 65536 + (next - at)) known sets known' sets').
      window_same n 0 0 sets' sets (omega arith) (omega arith)
      (λ i l. w.1.copy.front (0 + i) (omega (arith, mul-le-mul_left n (let q : 0 ≤ w.1.slot = omega arith in q)))))

  module _ (k : KeptAs n (at * 65536 + (next - at)) known sets known' sets') where
    abbrev first : ℕ
    first = spare (length known) n sets

    as_many : length known' ≡ length known
    as_many = ap length k.entries ∙ length-set known k.slot (at * 65536 + (next - at))

    -- The i-th set kept begins in both lists alike.
    begins : (i : ℕ) → kept_set (length known') n sets' i ≡ take n (drop (first + n * i) sets')
    begins i = ap (λ (j : ℕ). take n (drop (j + n * i) sets')) (ap (λ (j : ℕ). length sets' - n * j) as_many ∙ ap (λ (j : ℕ). j - n * length known) size)

    ends : (i : ℕ) → i < length known → first + n * i + n ≤ length sets
    ends i l = omega (arith, mul-le-mul_left n (let q : i + 1 ≤ length known = omega arith in q))

    -- The new one.
    new_entry : (i : ℕ) → i ≡ k.slot → get_or known' i 0 ≡ (at * 65536 + (next - at))
    new_entry i e = ap (λ (ks : List ℕ). get_or ks i 0) k.entries ∙ ap (λ (j : ℕ). get_or (set known k.slot (at * 65536 + (next - at))) j 0) e ∙ get_or-set_same known k.slot (at * 65536 + (next - at)) 0 k.there

    new_set : (i : ℕ) → i ≡ k.slot → kept_set (length known') n sets' i ≡ take n sets
    new_set i e =
        begins i ∙ ap (λ (j : ℕ). take n (drop (first + n * j) sets')) e ∙
        window_same n (first + n * k.slot) 0 sets' sets (omega (arith, ends k.slot k.there, size)) (omega arith) (λ j b. k.copy.copied j b)

    -- The others.
    old_entry : (i : ℕ) → (i ≡ k.slot → ⊥) → get_or known' i 0 ≡ get_or known i 0
    old_entry i d = ap (λ (ks : List ℕ). get_or ks i 0) k.entries ∙ get_or-set_other known k.slot i (at * 65536 + (next - at)) 0 d

    old_byte : (i : ℕ) → i < length known → (i ≡ k.slot → ⊥) → (j : ℕ) → j < n → get_or sets' (first + n * i + j) 0 ≡ get_or sets (first + n * i + j) 0
    old_byte i l d j b =
        by_cases (dec_lt i k.slot)
        (λ less. k.copy.front (first + n * i + j) (omega (arith, mul-le-mul_left n (let q : i + 1 ≤ k.slot = omega arith in q))))
        (λ more. k.copy.back (first + n * i + j) (omega (arith, mul-le-mul_left n (let q : k.slot + 1 ≤ i = omega (arith, d) in q))))

    old_set : (i : ℕ) → i < length known → (i ≡ k.slot → ⊥) → kept_set (length known') n sets' i ≡ kept_set (length known) n sets i
    old_set i l d = begins i ∙ window_same n (first + n * i) (first + n * i) sets' sets (omega (arith, ends i l, size)) (ends i l) (old_byte i l d)

  pub kept_remembered : {t : Table} {m items : List ℕ} → (next < 65536 → WorkedOut t m items n (at * 65536 + (next - at)) (take n sets)) → Kept t m items n known sets → Remembered n at next known sets known' sets' → Kept t m items n known' sets'
  kept_remembered {t} {m} {items} new kept =
      ⊎_elim (λ (w : (known' ≡ known) × (sets' ≡ sets)). subst₂ (λ (ks xs : List ℕ). Kept t m items n ks xs) (sym w.0) (sym w.1) kept)
      (λ (w : (next < 65536) × KeptAs n (at * 65536 + (next - at)) known sets known' sets').
      record {
        each = λ i l z.
            let k : KeptAs n (at * 65536 + (next - at)) known sets known' sets' = w.1 in
            let within : i < length known = omega (arith, as_many k) in
            by_cases (ℕ_discrete i k.slot)
            (λ e. subst₂ (WorkedOut t m items n) (sym (new_entry k i e)) (sym (new_set k i e)) (new w.0))
            (λ d. subst₂ (WorkedOut t m items n) (sym (old_entry k i d)) (sym (old_set k i within d)) (kept.each i within (omega (arith, old_entry k i d))));
      })

-- What stands at a place where the items of an entry stand too is the entry's expression, and ends with them.
module _ {t : Table} {m items : List ℕ} {n entry at room : ℕ} (depth : ℕ) {set : List ℕ} (w : WorkedOut t m items n entry set) (s : Stands items at entry)
    (f : Fits items at n room (take_expr (take_within depth) (drop at items)) height_expr) where
  same_items : take_expr (take_within (w.depth + depth)) (drop at items) ≡ some (w.what, drop (at + count_of entry) items)
  same_items =
      let one = from_expr w.depth (take_within w.depth) (from_within w.depth) (drop (place_of entry) items) (w.what, drop (place_of entry + count_of entry) items) w.reads in
      let size : length (encode_expr w.what) ≡ count_of entry =
      omega (arith, w.inside, sym (length-drop (place_of entry) items) ∙ ap length one.items ∙ length-append (encode_expr w.what) (drop (place_of entry + count_of entry) items), length-drop (place_of entry + count_of entry) items) in
      let here : take (count_of entry) (drop at items) ≡ encode_expr w.what =
      sym s.equal ∙ ap (take (count_of entry)) one.items ∙ take_at (encode_expr w.what) (drop (place_of entry + count_of entry) items) (count_of entry) size in
      let all : drop at items ≡ encode_expr w.what ++ drop (at + count_of entry) items =
      sym (take-append-drop (count_of entry) (drop at items)) ∙ ap (λ (l : List ℕ). l ++ drop (count_of entry) (drop at items)) here ∙ ap (λ (l : List ℕ). encode_expr w.what ++ l) (drop-drop (count_of entry) at items) in
      ap (take_expr (take_within (w.depth + depth))) all ∙ expr_encode w.what one.fine (w.depth + depth) (drop (at + count_of entry) items) (omega (arith, one.nested))

  one_expression : ◌≡◌ {A = Expr × List ℕ} (w.what, drop (at + count_of entry) items) (f.what, f.rest)
  one_expression =
      let two = from_expr depth (take_within depth) (from_within depth) (drop at items) (f.what, f.rest) f.reads in
      some_inj (sym same_items ∙ ap (take_expr (take_within (w.depth + depth))) two.items ∙ expr_encode f.what two.fine (w.depth + depth) f.rest (omega (arith, two.nested)))

  -- So a copy of the entry's set is the set at the place.
  pub recalled : {sets : List ℕ} → take n sets ≡ set → Evaluates items at n (take_expr (take_within depth) (drop at items)) (holds t m) (at + count_of entry) sets
  recalled e =
      record {
        what = f.what;
        reads = f.reads ∙ ap (λ (r : List ℕ). some (f.what, r)) (sym (ap (λ (x : Expr × List ℕ). x.1) one_expression));
        onward = omega arith;
        inside = s.inside;
        set = e ∙ w.holding ∙ ap (λ (x : Expr). bits n (holds t m x)) (ap (λ (x : Expr × List ℕ). x.0) one_expression);
      }

-- What was worked out between two places is what an entry of them says.
pub worked_out : {t : Table} {m items : List ℕ} {n at next : ℕ} (depth : ℕ) {sets : List ℕ} → next < 65536
    → Evaluates items at n (take_expr (take_within depth) (drop at items)) (holds t m) next sets → WorkedOut t m items n (at * 65536 + (next - at)) (take n sets)
worked_out {t} {m} {items} {n} {at} {next} depth {sets} few v =
    record {
      depth = depth;
      what = v.what;
      reads =
          ap (λ (k : ℕ). take_expr (take_within depth) (drop k items)) place ∙ v.reads ∙
          ap (λ (k : ℕ). some (v.what, drop k items)) (let q : next ≡ place_of (at * 65536 + (next - at)) + count_of (at * 65536 + (next - at)) = omega (arith, v.onward) in q);
      inside = omega (arith, v.onward, v.inside);
      holding = v.set;
    }
  where
    place : place_of (at * 65536 + (next - at)) ≡ at
    place = omega (arith, v.onward)
