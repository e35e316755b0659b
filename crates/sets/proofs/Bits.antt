-- Bytes of 0 and 1 as tests: what stands in the bytes of a set, and what `&`, `|` and `^` make of them. Assumes nothing.
use Prim.Native.Nat.{ℕ, ◌+◌, ◌≤◌, ◌<◌}
use native.Mathlib.Omega.{arith}
use native.Mathlib.Decide.{ℕ_discrete}
use mathlib.Core.Path.{◌≡◌, refl, sym, ◌∙◌, ap}
use mathlib.Core.Bool.{Bool, true, false, not, ◌&&◌, ◌||◌, cond}
use mathlib.Core.List.{List}
use mathlib.Core.Logic.{◌⊎◌, inl, inr, ⊎_elim, by_cases}
use mir.Val.{bool_byte}
use lib.Dec.{ltb}
use lib.Bits.{bit_and, bit_or, bit_xor}
use lib.ListN.{length, get_or, set, take, drop, length-set}
use lib.Seq.{ext_get_or, get_or-set_same, get_or-set_other, get_or-take, get_or-drop}
use borrow.Author.Tests.{ltb-true, ltb-false}
use Rattle.paper.proofs.Tests.{decide}
use Rattle.paper.proofs.Searches.{column_at, length_column, column_same}
use Rattle.sets.specs.Sets.{bits}

-- A number is below another or not.
pub side : (k i : ℕ) → (k < i) ⊎ (i ≤ k)
side k i = ⊎_elim (λ s. inl (ltb-true k i s)) (λ s. inr (ltb-false k i s)) (decide (ltb k i))

-- Tests joined with one that holds or fails.
pub or_none : (a : Bool) {b : Bool} → b ≡ false → (a || b) ≡ a
or_none true e = refl
or_none false e = e

pub and_none : (a : Bool) {b : Bool} → b ≡ false → (a && b) ≡ false
and_none true e = e
and_none false e = refl

pub and_all : (a : Bool) {b : Bool} → b ≡ true → (a && b) ≡ a
and_all true e = e
and_all false e = refl

pub once : (a b c : Bool) → ((not a && b) && (not a && c)) ≡ (b && (not a && c))
once true true c = refl
once true false c = refl
once false b c = refl

pub swapped : (a b : Bool) → (a || b) ≡ (b || a)
swapped true true = refl
swapped true false = refl
swapped false true = refl
swapped false false = refl

-- The byte of a test.
abbrev pub bit : Bool → ℕ
bit b = cond b 1 0

pub and_bits : (a b : Bool) → bit_and (bit a) (bit b) ≡ bit (a && b)
and_bits true true = refl
and_bits true false = refl
and_bits false b = refl

pub or_bits : (a b : Bool) → bit_or (bit a) (bit b) ≡ bit (a || b)
or_bits true true = refl
or_bits true false = refl
or_bits false b = refl

pub flip_bit : (a : Bool) → bit_xor (bit a) 1 ≡ bit (not a)
flip_bit true = refl
flip_bit false = refl

pub bit_false : (b : Bool) → 0 ≡ bit b → b ≡ false
bit_false true e = absurd (omega arith)
bit_false false e = refl

-- The byte that the code makes of a test is this.
pub byte_bit : (b : Bool) → bool_byte b ≡ bit b
byte_bit true = refl
byte_bit false = refl

-- The byte of a node in a set's bytes.
pub bits_at : {list : List ℕ} (n : ℕ) (f : ℕ → Bool) → list ≡ bits n f → (k : ℕ) → k < n → get_or list k 0 ≡ bit (f k)
bits_at n f e k l = ap (λ x. get_or x k 0) e ∙ column_at n (λ i. bit (f i)) 0 k l

-- The same where two sets of n nodes stand in a row.
pub first_at : (list : List ℕ) (n : ℕ) (f : ℕ → Bool) → take n list ≡ bits n f → (k : ℕ) → k < n → get_or list k 0 ≡ bit (f k)
first_at list n f e k l = sym (get_or-take n list k 0 l) ∙ bits_at n f e k l

pub second_at : (list : List ℕ) (n : ℕ) (f : ℕ → Bool) → take n (drop n list) ≡ bits n f → (k : ℕ) → k < n → get_or list (n + k) 0 ≡ bit (f k)
second_at list n f e k l = sym (get_or-drop n list k 0) ∙ first_at (drop n list) n f e k l

-- A list of n bytes that are those of the tests is the set's bytes.
pub bits_of : {new : List ℕ} (n : ℕ) (h : ℕ → Bool) → length new ≡ n → ((k : ℕ) → k < n → get_or new k 0 ≡ bit (h k)) → new ≡ bits n h
bits_of {new} n h s e =
    ext_get_or 0 new (bits n h) (s ∙ sym (length_column n 0 (λ k. bit (h k))))
    (λ k b. let l : k < n = omega (arith, s) in e k l ∙ sym (bits_at n h refl k l))

-- Tests that agree below n make the same bytes.
pub bits_same : (n : ℕ) (f g : ℕ → Bool) → ((k : ℕ) → k < n → f k ≡ g k) → bits n f ≡ bits n g
bits_same n f g h = column_same n 0 (λ i. bit (f i)) (λ i. bit (g i)) (λ i _ l. ap bit (h i (omega arith)))

-- A store into a set's bytes: the other nodes stay as they are.
pub bits_set : (n : ℕ) (f g : ℕ → Bool) (i v : ℕ) → i < n → v ≡ bit (g i) → ((k : ℕ) → k < n → (k ≡ i → ⊥) → f k ≡ g k) → set (bits n f) i v ≡ bits n g
bits_set n f g i v l e h =
    ext_get_or 0 (set (bits n f) i v) (bits n g) (length-set (bits n f) i v ∙ sizes ∙ sym (length_column n 0 (λ k. bit (g k))))
    (λ k b. at k (omega (arith, length-set (bits n f) i v, sizes)))
  where
    sizes : length (bits n f) ≡ n
    sizes = length_column n 0 (λ k. bit (f k))

    at : (k : ℕ) → k < n → get_or (set (bits n f) i v) k 0 ≡ get_or (bits n g) k 0
    at k b =
        by_cases (ℕ_discrete k i)
        (λ s. ap (λ x. get_or (set (bits n f) i v) x 0) s ∙ get_or-set_same (bits n f) i v 0 (omega (arith, sizes)) ∙ e ∙ sym (bits_at n g refl i l) ∙ ap (λ x. get_or (bits n g) x 0) (sym s))
        (λ d. get_or-set_other (bits n f) i k v 0 d ∙ bits_at n f refl k b ∙ ap bit (h k b d) ∙ sym (bits_at n g refl k b))

-- A claim on the bytes of n nodes, where the number is known by another name.
pub resized : {n m : ℕ} {old new : List ℕ} → n ≡ m → (f g : ℕ → Bool) → (old ≡ bits n f → new ≡ bits n g) → old ≡ bits m f → new ≡ bits m g
resized e f g h o = h (o ∙ ap (λ x. bits x f) (sym e)) ∙ ap (λ x. bits x g) e

-- Two passes after each other, the second over as many bytes as the first left.
pub joined : {n m : ℕ} {mid new : List ℕ} → n ≡ m → (f g h : ℕ → Bool) → mid ≡ bits m f → (mid ≡ bits (length mid) f → new ≡ bits (length mid) g) → bits n g ≡ bits n h → new ≡ bits m h
joined {n} {m} {mid} e f g h first second law =
    let size : length mid ≡ m = ap length first ∙ length_column m 0 (λ k. bit (f k)) in
    second (first ∙ ap (λ x. bits x f) (sym size)) ∙ ap (λ x. bits x g) (size ∙ sym e) ∙ law ∙ ap (λ x. bits x h) e
