-- A path that may end at any node finds one, and a path that must end at one node arrives there. Assumes nothing.
use Prim.Native.Nat.{ℕ, ◌<◌}
use native.Mathlib.Omega.{arith}
use mathlib.Core.Path.{◌≡◌, refl, sym, ap}
use mathlib.Core.Bool.{◌&&◌, ◌||◌}
use mathlib.Core.List.{List}
use lib.Dec.{eqb}
use borrow.Author.Tests.{eq-eqb, ne_eqb}
use Rattle.paper.specs.Query.{Steps, stop, step}
use Rattle.paper.specs.Document.{Table, nodes}
use Rattle.paper.specs.Selection.{reaches, all_hold, finds, arrives}
use Rattle.paper.proofs.Tests.{or_left}
use Rattle.paper.proofs.Searches.{some_same}
use Rattle.search.specs.Searches.{goes, ending}

pub finds_goes : (t : Table) (m : List ℕ) (s : Steps) (i : ℕ) → finds t m s i ≡ goes t m (ending (nodes t) (nodes t)) s i
finds_goes t m stop i = sym (or_left (eqb i (nodes t)) (eq-eqb (nodes t) (nodes t) refl))
finds_goes t m (step a x ps rest) i = some_same (nodes t) _ _ (λ j l. ap (λ b. reaches t m a x i j && all_hold t m ps j && b) (finds_goes t m rest j))

pub arrives_goes : (t : Table) (m : List ℕ) (s : Steps) (i k : ℕ) → k < nodes t → arrives t m s i k ≡ goes t m (ending (nodes t) k) s i
arrives_goes t m stop i k l = sym (ap (λ b. b || eqb i k) (ne_eqb k (nodes t) (λ e. omega arith)))
arrives_goes t m (step a x ps rest) i k l = some_same (nodes t) _ _ (λ j b. ap (λ y. reaches t m a x i j && all_hold t m ps j && y) (arrives_goes t m rest j k l))
