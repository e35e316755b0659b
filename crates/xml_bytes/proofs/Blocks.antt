-- How far the places of a block fit. Assumes nothing.
use Prim.Native.Nat.{ℕ, ◌+◌, ◌*◌, ◌≤◌, ◌<◌}
use native.Mathlib.Omega.{arith}
use native.Mathlib.Decide.{ℕ_discrete}
use mathlib.Core.Logic.{by_cases}
use borrow.Author.Tests.{lt-ltb, le-ltb}
use mathlib.Core.Path.{◌≡◌, refl, subst}
use mathlib.Core.Bool.{Bool, true, false}
use mir.Val.{bool_byte}
use Rattle.xml_bytes.specs.Blocks.{block, AllFit, soonest, Sooner}

-- A truth as a byte is 0 or 1.
pub byte_few : (t : Bool) → bool_byte t ≤ 1
byte_few true = omega arith
byte_few false = omega arith

-- A place fits if it is given a number past itself.
pub marks : (fit : Bool) (i r : ℕ) → i < r → r ≤ bool_byte fit * block + i → fit ≡ true
marks true i r l m = refl
marks false i r l m = absurd (omega arith)

-- The first place that does not fit is the one looked at, or the one known.
pub sooner_here : (stop i : ℕ) (fit : Bool) → bool_byte fit * block + i < stop → soonest stop i fit ≡ bool_byte fit * block + i
sooner_here stop i fit l = rw (lt-ltb (bool_byte fit * block + i) stop l)

pub sooner_stop : (stop i : ℕ) (fit : Bool) → stop ≤ bool_byte fit * block + i → soonest stop i fit ≡ stop
sooner_stop stop i fit l = rw (le-ltb (bool_byte fit * block + i) stop l)

-- Of the places before i, which were looked at, those before `stop` fit.
pub record Fit (set : ℕ → Bool) (i stop : ℕ) : Type 0 where
  pub most : stop ≤ block
  pub all : (j : ℕ) → j < i → j < stop → set j ≡ true

pub fit_none : (set : ℕ → Bool) → Fit set 0 block
fit_none set = record { most = omega arith; all = λ j l m. absurd (omega arith) }

pub fit_more : (set : ℕ → Bool) (i stop r : ℕ) → Fit set i stop → Sooner stop i (set i) r → Fit set (i + 1) r
fit_more set i stop r h s =
    record {
      most = omega (arith, h.most, s.most);
      all = λ j l m. by_cases (ℕ_discrete i j) (λ e. subst (λ n. set n ≡ true) e (s.fits (omega arith))) (λ e. h.all j (omega arith) (omega (arith, s.most)));
    }

pub fit_all : (set : ℕ → Bool) (i stop : ℕ) → block ≤ i → Fit set i stop → AllFit set stop
fit_all set i stop l h = λ j m. h.all j (omega (arith, h.most)) m
