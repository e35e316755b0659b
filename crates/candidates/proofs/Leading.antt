-- Where a step may lead at all: along self and parent to one node; and the best candidate below a bound from what was looked at. Assumes nothing.
use Rattle.std.specs.Prelude.{Option, Some, None}
use Prim.Native.Nat.{ℕ, ◌<◌}
use native.Mathlib.Omega.{arith}
use native.Mathlib.Decide.{ℕ_discrete, dec_lt}
use mathlib.Core.Path.{◌≡◌, refl, sym, ◌∙◌, ap}
use mathlib.Core.Bool.{Bool, true, false, false≢true, not, ◌&&◌}
use mathlib.Core.List.{List}
use mathlib.Core.Logic.{by_cases}
use lib.Dec.{eqb}
use borrow.Author.Tests.{ne_eqb}
use Rattle.paper.specs.Query.{Axis, self, Test}
use Rattle.paper.specs.Items.{axis_number}
use Rattle.paper.specs.Document.{Table, parent_of, kind_of, marked}
use Rattle.paper.specs.Selection.{leads, meets, reaches}
use Rattle.paper.proofs.Axes.{of_number}
use Rattle.candidates.specs.Best.{Best}

pub and_none : (a : Bool) {b : Bool} → b ≡ false → (a && b) ≡ false
and_none true e = e
and_none false e = refl

none_and : {a : Bool} (b : Bool) → a ≡ false → (a && b) ≡ false
none_and {a} b e = rw e

module _ (t : Table) (marks : List ℕ) where
  -- A step leads nowhere where its axis does not,
  pub not_led : (a : Axis) (x : Test) (i j : ℕ) → leads t a i j ≡ false → reaches t marks a x i j ≡ false
  unfolding reaches
  not_led a x i j h = none_and (meets x (kind_of t j)) (and_none (marked marks j) h)

  -- nor where a node is not marked or does not meet the test.
  pub not_marked : (a : Axis) (x : Test) (i j : ℕ) → marked marks j ≡ false → reaches t marks a x i j ≡ false
  unfolding reaches
  not_marked a x i j h = none_and (meets x (kind_of t j)) (none_and (leads t a i j) h)

  pub not_met : (a : Axis) (x : Test) (i j : ℕ) → meets x (kind_of t j) ≡ false → reaches t marks a x i j ≡ false
  unfolding reaches
  not_met a x i j h = and_none (marked marks j && leads t a i j) h

  pub led : (a : Axis) (x : Test) (i j : ℕ) → marked marks j ≡ true → meets x (kind_of t j) ≡ true → leads t a i j ≡ reaches t marks a x i j
  unfolding reaches
  led a x i j m k = rw (m, k) (all (leads t a i j))
    where
      all : (b : Bool) → b ≡ (b && true)
      all true = refl
      all false = refl

  -- Self leads to the node itself, and parent to its parent.
  pub self_alone : {n : ℕ} → n ≡ 0 → (i : ℕ) (a : Axis) (x : Test) → n ≡ axis_number a → (k : ℕ) → (k ≡ i → ⊥) → reaches t marks a x i k ≡ false
  self_alone z i a x e k d = of_number (λ b. reaches t marks b x i k ≡ false) self a z e (not_led self x i k (ne_eqb i k (λ q. d (sym q))))

  pub parent_alone : {n : ℕ} → n ≡ 2 → (i j : ℕ) → j ≡ parent_of t i → (a : Axis) (x : Test) → n ≡ axis_number a → (k : ℕ) → (k ≡ j → ⊥) → reaches t marks a x i k ≡ false
  parent_alone z i j p a x e k d =
      of_number (λ b. reaches t marks b x i k ≡ false) Axis.parent a z e
      (not_led Axis.parent x i k (and_none (not (eqb i 0)) (ne_eqb (parent_of t i) k (λ q. d (sym q ∙ sym p)))))

module _ (test : ℕ → Bool) where
  pub best_none : (bound : ℕ) → ((k : ℕ) → k < bound → test k ≡ false) → Best test bound None
  best_none bound h = h

  pub best_here : (bound j : ℕ) → j < bound → ((k : ℕ) → j < k → k < bound → test k ≡ false) → test j ≡ true → Best test bound (Some j)
  best_here bound j l h p = record { within = l; here = p; later = h }

  -- The only candidate, where the test fails for all others.
  pub only : (bound j : ℕ) → ((k : ℕ) → (k ≡ j → ⊥) → test k ≡ false) → test j ≡ false → Best test bound None
  only bound j h p = best_none bound (λ k b. by_cases (ℕ_discrete k j) (λ e. ap test e ∙ p) (λ e. h k e))

  -- There is one best candidate.
  pub best_unique : (bound : ℕ) (r s : Option ℕ) → Best test bound r → Best test bound s → r ≡ s
  best_unique bound None None p q = refl
  best_unique bound None (Some n) p q = absurd (false≢true (sym (p n q.within) ∙ q.here))
  best_unique bound (Some m) None p q = absurd (false≢true (sym (q m p.within) ∙ p.here))
  best_unique bound (Some m) (Some n) p q =
      by_cases (dec_lt m n) (λ l. absurd (false≢true (sym (p.later n l q.within) ∙ q.here)))
      (λ a. by_cases (dec_lt n m) (λ l. absurd (false≢true (sym (q.later m l p.within) ∙ p.here))) (λ b. ap Some (let e : m ≡ n = omega arith in e)))
