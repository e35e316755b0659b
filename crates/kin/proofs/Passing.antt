-- A pass over marks that replaces each byte. Assumes nothing.
use Prim.Native.Nat.{ℕ, ◌+◌, ◌≤◌, ◌<◌}
use native.Mathlib.Omega.{arith}
use native.Mathlib.Decide.{ℕ_discrete}
use mathlib.Core.Path.{◌≡◌, refl, sym, ◌∙◌, ap}
use mathlib.Core.Bool.{Bool, true, false, ◌||◌, cond}
use mathlib.Core.List.{List}
use mathlib.Core.Logic.{by_cases}
use mir.Val.{bool_byte}
use lib.Bits.{bit_or}
use lib.ListN.{length, get_or, set, length-set}
use lib.Seq.{ext_get_or, get_or-set_same, get_or-set_other}
use Rattle.paper.specs.Tools.{column}
use Rattle.paper.proofs.Searches.{column_at, length_column}

-- The first i elements are the new ones, and the others are still the old list's.
pub record Passed (new : ℕ → ℕ) (old list : List ℕ) (i : ℕ) : Type 0 where
  pub within : i ≤ length old
  pub sizes : length list ≡ length old
  pub done : (k : ℕ) → k < i → get_or list k 0 ≡ new k
  pub left : (k : ℕ) → i ≤ k → get_or list k 0 ≡ get_or old k 0

module _ {new : ℕ → ℕ} {old : List ℕ} where
  pub none_passed : Passed new old old 0
  none_passed = record { within = omega arith; sizes = refl; done = λ k l. absurd (omega arith); left = λ k l. refl }

  -- A turn stores the new element at i.
  pub one_passed : {list : List ℕ} {i v : ℕ} → Passed new old list i → i < length old → v ≡ new i → Passed new old (set list i v) (i + 1)
  one_passed {list} {i} {v} p l e =
      record {
        within = omega arith;
        sizes = length-set list i v ∙ p.sizes;
        done = λ k b.
            by_cases (ℕ_discrete k i)
            (λ s. ap (λ x. get_or (set list i v) x 0) s ∙ get_or-set_same list i v 0 (omega (arith, p.sizes)) ∙ e ∙ ap new (sym s))
            (λ d. get_or-set_other list i k v 0 d ∙ p.done k (omega arith));
        left = λ k b. get_or-set_other list i k v 0 (λ s. omega arith) ∙ p.left k (omega arith);
      }

  -- At the end all are new.
  pub all_passed : {list : List ℕ} {i : ℕ} → Passed new old list i → length list ≤ i → (n : ℕ) → n ≡ length old → (g : ℕ → ℕ) → ((k : ℕ) → k < n → new k ≡ g k) → list ≡ column n g
  all_passed {list} {i} p l n e g h =
      ext_get_or 0 list (column n g) (p.sizes ∙ sym e ∙ sym (length_column n 0 g))
      (λ k b. p.done k (omega arith) ∙ h k (omega (arith, p.sizes, e)) ∙ sym (column_at n g 0 k (omega (arith, p.sizes, e))))

-- A byte of 0 or 1 with a test added.
pub or_byte : (f b : Bool) → bit_or (cond f 1 0) (bool_byte b) ≡ cond (b || f) 1 0
or_byte true true = refl
or_byte true false = refl
or_byte false true = refl
or_byte false false = refl
