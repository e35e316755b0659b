-- Tests that tell of facts: two of them at once, and that a fact leaves one test. Assumes nothing.
use mathlib.Core.Path.{◌≡◌, refl}
use mathlib.Core.Bool.{Bool, true, false, ◌&&◌, false≢true}
use Rattle.line_tests.specs.Telling.{Tells}

-- Two tests tell of two facts.
pub tells_both : {P Q : Type 0} (a b : Bool) → Tells a P → Tells b Q → Tells (a && b) (P × Q)
tells_both true true s t = (λ e. (s.0 refl, t.0 refl), λ e h. t.1 e h.1)
tells_both true false s t = (λ e. absurd (false≢true e), λ e h. t.1 refl h.1)
tells_both false b s t = (λ e. absurd (false≢true e), λ e h. s.1 refl h.0)

-- A fact leaves one test.
pub tells_unique : (P : Type 0) (b c : Bool) → Tells b P → Tells c P → b ≡ c
tells_unique P true true s t = refl
tells_unique P true false s t = absurd (t.1 refl (s.0 refl))
tells_unique P false true s t = absurd (s.1 refl (t.0 refl))
tells_unique P false false s t = refl
