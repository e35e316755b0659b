-- Where a thing ends that can be read from a place on.
use Rattle.std.specs.Prelude.{ℕ, ◌≤◌, ◌≡◌, List, length, drop}
use Rattle.std.proofs.Math.Option.{Option, some}
use Rattle.paper.specs.Items.{Taken}

-- There is something.
abbrev pub Readable : {A : Type 0} → Option A → Type 0
Readable {A} o = (r : A) × (o ≡ some r)

-- What was read ends at `next`.
pub record Ends {A : Type 0} (items : List ℕ) (at : ℕ) (taken : Taken A) (next : ℕ) : Type 0 where
  pub what : A
  pub reads : taken ≡ some (what, drop next items)
  pub onward : at ≤ next
  pub inside : next ≤ length items
