-- What a search below a number, through a list or from a number on finds, and what stands in a column. Each by induction over the number. Assumes nothing.
use Prim.Native.Nat.{ℕ, zero, suc, ◌+◌, ◌≤◌, ◌<◌}
use native.Mathlib.Omega.{arith}
use native.Mathlib.Nat.{add-zero, zero-add}
use native.Mathlib.Decide.{ℕ_discrete}
use mathlib.Core.Path.{◌≡◌, refl, sym, ◌∙◌, ap, ap₂, subst}
use mathlib.Core.Bool.{Bool, true, false, ◌||◌, false≢true}
use mathlib.Core.List.{◌∷◌}
use mathlib.Core.Logic.{⊎_elim, by_cases}
use mathlib.Core.Option.{none}
use lib.ListN.{length, get_or}
use Rattle.paper.specs.Tools.{some_below, first_from, column_from, column}
use Rattle.paper.proofs.Tests.{or_true, or_left, or_right, agree, decide, none-some}

-- What passes the test below n is found.
pub some_intro : (n : ℕ) (test : ℕ → Bool) (j : ℕ) → j < n → test j ≡ true → some_below n test ≡ true
some_intro zero test j l h = absurd (omega arith)
some_intro (suc n) test j l h =
    by_cases (ℕ_discrete j n) (λ e. or_left (some_below n test) (subst (λ k. test k ≡ true) e h))
    (λ e. or_right (test n) (some_intro n test j (omega arith) h))

-- What is found below n passes the test.
pub some-elim {ℓ} : {C : Type ℓ} (n : ℕ) (test : ℕ → Bool) → some_below n test ≡ true → ((j : ℕ) → j < n → test j ≡ true → C) → C
some-elim zero test h k = absurd (false≢true h)
some-elim (suc n) test h k =
    ⊎_elim (λ p. k n (omega arith) p) (λ p. some-elim n test p (λ j l q. k j (omega arith) q)) (or_true (test n) (some_below n test) h)

-- Two searches agree if each finds what the other does.
pub some_agree : (n m : ℕ) (f g : ℕ → Bool) → ((j : ℕ) → j < n → f j ≡ true → some_below m g ≡ true) → ((j : ℕ) → j < m → g j ≡ true → some_below n f ≡ true)
    → some_below n f ≡ some_below m g
some_agree n m f g to from = agree (some_below n f) (some_below m g) (λ h. some-elim n f h to) (λ h. some-elim m g h from)

-- Tests that agree below n find the same.
pub some_same : (n : ℕ) (f g : ℕ → Bool) → ((j : ℕ) → j < n → f j ≡ g j) → some_below n f ≡ some_below n g
some_same zero f g h = refl
some_same (suc n) f g h = ap₂ ◌||◌ (h n (omega arith)) (some_same n f g (λ j l. h j (omega arith)))

-- Where no number below n passes the test, none is found.
pub first_none : (n at : ℕ) (test : ℕ → Bool) → first_from n at test ≡ none → (j : ℕ) → at ≤ j → j < at + n → test j ≡ false
first_none zero at test h j a l = absurd (omega arith)
first_none (suc n) at test h j a l =
    ⊎_elim (λ p. none-some (sym (rw p at h)))
    (λ p. by_cases (ℕ_discrete j at) (λ e. subst (λ k. test k ≡ false) (sym e) p) (λ e. first_none n (suc at) test (rw p at h) j (omega arith) (omega arith)))
    (decide (test at))

pub none_first : (n at : ℕ) (test : ℕ → Bool) → ((j : ℕ) → at ≤ j → j < at + n → test j ≡ false) → first_from n at test ≡ none
none_first zero at test h = refl
none_first (suc n) at test h = rw (h at (omega arith) (omega arith)) (none_first n (suc at) test (λ j a l. h j (omega arith) (omega arith)))

-- A column's length, and what stands in it.
pub length_column : {A : Type 0} (n at : ℕ) (f : ℕ → A) → length (column_from n at f) ≡ n
length_column zero at f = refl
length_column (suc n) at f = ap suc (length_column n (suc at) f)

pub column-from : {A : Type 0} (n at : ℕ) (f : ℕ → A) (d : A) (i : ℕ) → i < n → get_or (column_from n at f) i d ≡ f (at + i)
column-from zero at f d i l = absurd (omega arith)
column-from (suc n) at f d zero l = ap f (sym (add-zero at))
column-from (suc n) at f d (suc i) l =
    let e : suc at + i ≡ at + suc i = omega arith in
    column-from n (suc at) f d i (omega arith) ∙ ap f e

pub column_at : {A : Type 0} (n : ℕ) (f : ℕ → A) (d : A) (i : ℕ) → i < n → get_or (column n f) i d ≡ f i
column_at n f d i l = column-from n 0 f d i l ∙ ap f (zero-add i)

-- Two functions that agree make the same column.
pub column_same : {A : Type 0} (n at : ℕ) (f g : ℕ → A) → ((i : ℕ) → at ≤ i → i < at + n → f i ≡ g i) → column_from n at f ≡ column_from n at g
column_same zero at f g h = refl
column_same (suc n) at f g h = ap₂ ◌∷◌ (h at (omega arith) (omega arith)) (column_same n (suc at) f g (λ i a l. h i (omega arith) (omega arith)))
