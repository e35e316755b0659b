-- What stands in a slice once a text is put from its start on, with room enough and with no room. By what putting promises. Assumes nothing.
use Prim.Native.Nat.{ℕ, suc, ◌+◌, ◌≤◌}
use native.Mathlib.Omega.{arith}
use mathlib.Core.Path.{◌≡◌, refl, ◌∙◌}
use mathlib.Core.List.{List, [], ◌∷◌, ◌++◌}
use lib.ListN.{length, take, drop}
use lib.Seq.{sets, sets-eq}
use Rattle.paper.specs.Tools.{written}
use Rattle.pen.specs.Putting.{Puts}

-- With room enough the text stands at the start, and the rest is untouched.
pub puts_written : (text old new : List ℕ) (next : ℕ) → Puts text 0 old new next → length text ≤ length old → new ≡ written text old
puts_written text old new next p l = p.wrote ∙ sets-eq text old 0 (omega arith) ∙ start
  where
    start : take 0 old ++ text ++ drop (0 + length text) old ≡ written text old
    start = let e : 0 + length text ≡ length text = omega arith in rw e

-- With no room nothing is written.
pub puts_nothing : (text new : List ℕ) (pen next : ℕ) → Puts text pen [] new next → new ≡ []
puts_nothing text new pen next p = p.wrote ∙ none_there text pen
  where
    none_there : (xs : List ℕ) (i : ℕ) → ◌≡◌ {A = List ℕ} (sets [] i xs) []
    none_there [] i = refl
    none_there (x ∷ xs) i = none_there xs (suc i)
