-- A pass over a list that replaces one element after the other: the invariant of every loop that works on each element by itself, how a turn keeps it, and what the list is at the end. Assumes nothing.
use Prim.Native.Nat.{ℕ, ◌+◌, ◌-◌, ◌≤◌, ◌<◌}
use native.Mathlib.Omega.{arith}
use native.Mathlib.Decide.{ℕ_discrete}
use mathlib.Core.Path.{◌≡◌, refl, sym, ◌∙◌, ap}
use mathlib.Core.List.{List, ◌++◌}
use mathlib.Core.Logic.{⊎_elim, by_cases}
use lib.ListN.{length, get_or, set, drop, length-set, length-append, length-drop, get_or-append}
use lib.Seq.{ext_get_or, get_or-set_same, get_or-set_other, get_or-append-add, get_or-drop}
use Rattle.paper.specs.Tools.{column}
use Rattle.paper.proofs.Searches.{column_at, length_column}
use Rattle.sets.proofs.Bits.{side}

-- The first i elements are the new ones, and the others are still the old list's.
pub record Passed (new : ℕ → ℕ) (old list : List ℕ) (i : ℕ) : Type 0 where
  pub within : i ≤ length old
  pub sizes : length list ≡ length old
  pub done : (k : ℕ) → k < i → get_or list k 0 ≡ new k
  pub left : (k : ℕ) → i ≤ k → get_or list k 0 ≡ get_or old k 0

module _ {new : ℕ → ℕ} {old : List ℕ} where
  -- Before the first turn.
  pub none_passed : Passed new old old 0
  none_passed = record { within = omega arith; sizes = refl; done = λ k l. absurd (omega arith); left = λ k l. refl }

  -- A turn stores the new element at i.
  pub one_passed : {list : List ℕ} {i v : ℕ} → Passed new old list i → i < length old → v ≡ new i → Passed new old (set list i v) (i + 1)
  one_passed {list} {i} {v} p l e =
      record {
        within = omega arith;
        sizes = length-set list i v ∙ p.sizes;
        done = λ k b.
            by_cases (ℕ_discrete k i)
            (λ s. ap (λ x. get_or (set list i v) x 0) s ∙ get_or-set_same list i v 0 (omega (arith, p.sizes)) ∙ e ∙ ap new (sym s))
            (λ d. get_or-set_other list i k v 0 d ∙ p.done k (omega arith));
        left = λ k b. get_or-set_other list i k v 0 (λ s. omega arith) ∙ p.left k (omega arith);
      }

  -- At the end, after n turns.
  pub first_passed : {list : List ℕ} {i : ℕ} → Passed new old list i → (n : ℕ) → i ≡ n → (g : ℕ → ℕ) → ((k : ℕ) → k < n → new k ≡ g k) → list ≡ column n g ++ drop n old
  first_passed {list} {i} p n e g h =
      ext_get_or 0 list (column n g ++ drop n old) (omega (arith, p.sizes, size, p.within)) (λ k b. ⊎_elim (before k) (after k) (side k n))
    where
      front : length (column n g) ≡ n
      front = length_column n 0 g

      size : length (column n g ++ drop n old) ≡ n + (length old - n)
      size = simp (length-append, length-drop) (ap (λ x. x + (length old - n)) front)

      before : (k : ℕ) → k < n → get_or list k 0 ≡ get_or (column n g ++ drop n old) k 0
      before k l = p.done k (omega arith) ∙ h k l ∙ sym (get_or-append (column n g) (drop n old) 0 k (omega (arith, front)) ∙ column_at n g 0 k l)

      after : (k : ℕ) → n ≤ k → get_or list k 0 ≡ get_or (column n g ++ drop n old) k 0
      after k l =
          let there : length (column n g) + (k - n) ≡ k = omega (arith, front) in
          let here : n + (k - n) ≡ k = omega arith in
          p.left k (omega arith)
          ∙ sym
          (ap (λ x. get_or (column n g ++ drop n old) x 0) (sym there)
          ∙ get_or-append-add (column n g) (drop n old) (k - n) 0
          ∙ get_or-drop n old (k - n) 0
          ∙ ap (λ x. get_or old x 0) here)

  -- What was not passed stays.
  pub rest_stays : {list : List ℕ} {i : ℕ} → Passed new old list i → (n : ℕ) → i ≤ n → drop n list ≡ drop n old
  rest_stays {list} {i} p n l =
      ext_get_or 0 (drop n list) (drop n old) (length-drop n list ∙ ap (λ x. x - n) p.sizes ∙ sym (length-drop n old))
      (λ k b. get_or-drop n list k 0 ∙ p.left (n + k) (omega arith) ∙ sym (get_or-drop n old k 0))

  -- At the end, where all of the list was passed.
  pub all_passed : {list : List ℕ} {i : ℕ} → Passed new old list i → length list ≤ i → (g : ℕ → ℕ) → ((k : ℕ) → k < length old → new k ≡ g k) → list ≡ column (length old) g
  all_passed {list} {i} p l g h =
      let n = length old in
      ext_get_or 0 list (column n g) (p.sizes ∙ sym (length_column n 0 g))
      (λ k b. p.done k (omega arith) ∙ h k (omega (arith, p.sizes)) ∙ sym (column_at n g 0 k (omega (arith, p.sizes))))

  -- The same, where the new list is known.
  pub same_elements : {list : List ℕ} {i : ℕ} → Passed new old list i → length list ≤ i → (other : List ℕ) → length other ≡ length old
      → ((k : ℕ) → k < length old → new k ≡ get_or other k 0) → list ≡ other
  same_elements {list} {i} p l other s h =
      ext_get_or 0 list other (p.sizes ∙ sym s) (λ k b. p.done k (omega arith) ∙ h k (omega (arith, p.sizes)))
