-- What a test that holds says, and how to show that a test holds.
-- Assumes nothing.
use Prim.Native.Nat.{ℕ}
use native.Mathlib.Omega.{arith}
use mathlib.Core.Path.{◌≡◌, refl}
use mathlib.Core.Bool.{Bool, true, false, ◌&&◌, ◌||◌, false≢true}
use mathlib.Core.Logic.{◌⊎◌, inl, inr}
use mathlib.Core.Option.{Option, none, some}
use Rattle.paper.specs.Tools.{found}

-- Two tests joined hold exactly if both do.
pub and_true : (a b : Bool) → (a && b) ≡ true → (a ≡ true) × (b ≡ true)
and_true true b h = (refl, h)
and_true false b h = absurd (false≢true h)

pub true_and : {a b : Bool} → a ≡ true → b ≡ true → (a && b) ≡ true
true_and {a} {b} p q = rw (p, q)

-- One of two tests holds.
pub or_true : (a b : Bool) → (a || b) ≡ true → (a ≡ true) ⊎ (b ≡ true)
or_true true b h = inl refl
or_true false b h = inr h

pub or_left : {a : Bool} (b : Bool) → a ≡ true → (a || b) ≡ true
or_left b p = rw p

pub or_right : (a : Bool) {b : Bool} → b ≡ true → (a || b) ≡ true
or_right true p = refl
or_right false p = p

pub or_false : (a : Bool) → (a || false) ≡ true → a ≡ true
or_false true h = refl
or_false false h = h

-- A test holds or fails.
pub decide : (a : Bool) → (a ≡ true) ⊎ (a ≡ false)
decide true = inl refl
decide false = inr refl

-- Two tests agree if each holds where the other does.
pub agree : (a b : Bool) → (a ≡ true → b ≡ true) → (b ≡ true → a ≡ true) → a ≡ b
agree true true f g = refl
agree true false f g = absurd (false≢true (f refl))
agree false true f g = absurd (false≢true (g refl))
agree false false f g = refl

-- Nothing is not something.
pub none-some {ℓ} : {A : Type 0} {a : A} {B : Type ℓ} → none ≡ some a → B
none-some h = absurd (let z : ◌≡◌ {A = ℕ} 0 1 = cc in omega arith)

-- Something found is one thing.
pub some_inj : {A : Type 0} {a b : A} → some a ≡ some b → a ≡ b
some_inj h = cc

-- What comes after a find was found.
pub found_some {ℓ} : {A B : Type 0} {C : Type ℓ} (o : Option A) (next : A → Option B) (b : B) → found o next ≡ some b
    → ((a : A) → o ≡ some a → next a ≡ some b → C) → C
found_some none next b h k = none-some h
found_some (some a) next b h k = k a refl h
