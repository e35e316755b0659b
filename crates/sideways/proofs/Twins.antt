-- Bytes that hold two tests, one a bit, and stores into the bytes of a set that holds them; the invariant of a pass over such bytes. Assumes nothing.
use Prim.Native.Nat.{ℕ, ◌*◌, ◌/◌, ◌%◌, ◌≤◌, ◌<◌}
use native.Mathlib.Omega.{arith}
use native.Mathlib.Decide.{ℕ_discrete}
use mathlib.Core.Path.{◌≡◌, refl, sym, ◌∙◌, ap}
use mathlib.Core.Bool.{Bool, true, false, ◌||◌, cond}
use mathlib.Core.List.{List}
use mathlib.Core.Logic.{by_cases}
use lib.Bits.{bit_or}
use lib.Dec.{eqb}
use lib.ListN.{length, get_or, set, length-set}
use lib.Seq.{ext_get_or, get_or-set_same, get_or-set_other}
use borrow.Author.Tests.{eq-eqb, ne_eqb}
use Rattle.paper.specs.Tools.{column}
use Rattle.paper.specs.Document.{Table, table_of}
use Rattle.paper.proofs.Searches.{column_at, length_column}
use Rattle.sets.specs.Sets.{bits}
use Rattle.sets.proofs.Bits.{bit}

-- The byte of two tests: the first bit says the first, the second bit the second.
abbrev pub twin : Bool → Bool → ℕ
twin a b = cond b (cond a 3 2) (cond a 1 0)

pub first_bit : (a b : Bool) → twin a b % 2 ≡ bit a
first_bit true true = refl
first_bit true false = refl
first_bit false true = refl
first_bit false false = refl

pub second_bit : (a b : Bool) → twin a b / 2 ≡ bit b
second_bit true true = refl
second_bit true false = refl
second_bit false true = refl
second_bit false false = refl

-- A test added to the second bit.
pub tells : (a b c : Bool) → bit_or (twin a b) (bit c * 2) ≡ twin a (b || c)
tells true true true = refl
tells true true false = refl
tells true false true = refl
tells true false false = refl
tells false true true = refl
tells false true false = refl
tells false false true = refl
tells false false false = refl

-- A store into bytes: the others stay as they are.
pub set_one : (n : ℕ) (f g : ℕ → ℕ) (i v : ℕ) → i < n → v ≡ g i → ((k : ℕ) → k < n → (k ≡ i → ⊥) → f k ≡ g k) → set (column n f) i v ≡ column n g
set_one n f g i v l e h =
    ext_get_or 0 (set (column n f) i v) (column n g) (length-set (column n f) i v ∙ sizes ∙ sym (length_column n 0 g))
    (λ k b. at k (omega (arith, length-set (column n f) i v, sizes)))
  where
    sizes : length (column n f) ≡ n
    sizes = length_column n 0 f

    at : (k : ℕ) → k < n → get_or (set (column n f) i v) k 0 ≡ get_or (column n g) k 0
    at k b =
        by_cases (ℕ_discrete k i)
        (λ s. ap (λ x. get_or (set (column n f) i v) x 0) s ∙ get_or-set_same (column n f) i v 0 (omega (arith, sizes)) ∙ e ∙ sym (column_at n g 0 i l) ∙ ap (λ x. get_or (column n g) x 0) (sym s))
        (λ d. get_or-set_other (column n f) i k v 0 d ∙ column_at n f 0 k b ∙ h k b d ∙ sym (column_at n g 0 k b))

-- Two stores.
pub set_two : (n : ℕ) (f g : ℕ → ℕ) (i p v u : ℕ) → i < n → p < n → v ≡ g i → u ≡ g p
    → ((k : ℕ) → k < n → (k ≡ i → ⊥) → (k ≡ p → ⊥) → f k ≡ g k) → set (set (column n f) i v) p u ≡ column n g
set_two n f g i p v u l b e o h =
    ap (λ x. set x p u) (set_one n f between i v l (sym (here i refl)) (λ k _ d. sym (there k d)))
    ∙ set_one n between g p u b o
    (λ k m d. by_cases (ℕ_discrete k i) (λ s. here k s ∙ e ∙ ap g (sym s)) (λ s. there k s ∙ h k m s d))
  where
    between : ℕ → ℕ
    between k = cond (eqb k i) v (f k)

    here : (k : ℕ) → k ≡ i → between k ≡ v
    here k s = rw (eq-eqb k i s)

    there : (k : ℕ) → (k ≡ i → ⊥) → between k ≡ f k
    there k s = rw (ne_eqb k i s)

-- The invariant of a pass over such bytes at i: they are in the state that the pass has at i, whatever set they were where it began.
pub record Telling (state : Table → (ℕ → Bool) → ℕ → ℕ → ℕ) (parents old list : List ℕ) (i : ℕ) : Type 0 where
  pub least : 1 ≤ i
  pub most : i ≤ length parents
  pub sizes : length list ≡ length parents
  pub stands : (kinds : List ℕ) (f : ℕ → Bool) → old ≡ bits (length parents) f → list ≡ column (length parents) (state (table_of parents kinds) f i)
