-- The automaton over several bytes: it goes one way, and what it goes over may be cut anywhere.
-- By induction over the bytes. Assumes nothing.
use Prim.Native.Nat.{ℕ, suc, ◌+◌}
use native.Mathlib.Omega.{arith}
use mathlib.Core.Path.{◌≡◌, refl, sym, ◌∙◌, subst}
use mathlib.Core.List.{List, [], ◌∷◌, ◌++◌}
use mathlib.Core.Option.{some}
use lib.ListN.{length}
use Rattle.paper.specs.Xml.{Mode, Frame, State, step}
use Rattle.paper.proofs.Tests.{some_inj}

abbrev pub state : Mode → List Frame → State
state mode frames = record { mode = mode; frames = frames }

-- Over all of the bytes, the first of which stands at the place.
pub data Runs : ℕ → State → List ℕ → State → Type 0 where
  still : {at : ℕ} {s : State} → Runs at s [] s
  onto : {at b : ℕ} {bs : List ℕ} {s t u : State} → step at s b ≡ some t → Runs (suc at) t bs u → Runs at s (b ∷ bs) u

-- Over the first of the bytes, up to a rest that stands from another place on.
pub data Goes : ℕ → State → List ℕ → ℕ → State → List ℕ → Type 0 where
  stays : {at : ℕ} {s : State} {bs : List ℕ} → Goes at s bs at s bs
  goes : {at b to : ℕ} {bs rest : List ℕ} {s t u : State} → step at s b ≡ some t → Goes (suc at) t bs to u rest → Goes at s (b ∷ bs) to u rest

pub goes_then : {at mid to : ℕ} {bs cs rest : List ℕ} {s t u : State} → Goes at s bs mid t cs → Goes mid t cs to u rest → Goes at s bs to u rest
goes_then stays r = r
goes_then (goes h g) r = goes h (goes_then g r)

pub goes_runs : {at to : ℕ} {bs : List ℕ} {s u : State} → Goes at s bs to u [] → Runs at s bs u
goes_runs g = all g refl
  where
    all : {at to : ℕ} {bs rest : List ℕ} {s u : State} → Goes at s bs to u rest → rest ≡ [] → Runs at s bs u
    all {at = at} {s = s} stays e = subst (λ l. Runs at s l s) (sym e) still
    all (goes h g) e = onto h (all g e)

-- The same from a place that is equal.
pub runs_from : {at to : ℕ} {bs : List ℕ} {s u : State} → at ≡ to → Runs at s bs u → Runs to s bs u
runs_from {bs = bs} {s = s} {u = u} e r = subst (λ n. Runs n s bs u) e r

-- One way only.
pub runs_one : {at : ℕ} {bs : List ℕ} {s t u : State} → Runs at s bs t → Runs at s bs u → t ≡ u
runs_one still still = refl
runs_one {u = u} (onto {at = at} {bs = bs} h r) (onto k q) = runs_one r (subst (λ z. Runs (suc at) z bs u) (some_inj (sym k ∙ h)) q)

pub runs_then : {at : ℕ} {bs cs : List ℕ} {s t u : State} → Runs at s bs t → Runs (at + length bs) t cs u → Runs at s (bs ++ cs) u
runs_then still q = runs_from (omega arith) q
runs_then (onto h r) q = onto h (runs_then r (runs_from (omega arith) q))

-- Cut into two parts.
pub runs_cut : (bs : List ℕ) {at : ℕ} {cs : List ℕ} {s u : State} → Runs at s (bs ++ cs) u → (t : State) × Runs at s bs t × Runs (at + length bs) t cs u
runs_cut [] {s = s} r = (s, still, runs_from (omega arith) r)
runs_cut (b ∷ bs) (onto h r) =
    let c = runs_cut bs r in
    (c.0, onto h c.1, runs_from (omega arith) c.2)
