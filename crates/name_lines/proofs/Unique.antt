-- An option of the code is fixed by the option that it stands for. Assumes nothing.
use mathlib.Core.Path.{◌≡◌, refl, sym, ap}
use Rattle.paper.specs.Told.{found}
use Rattle.paper.proofs.Tests.{none-some, some_inj}
use Rattle.std.proofs.Common.{Option, Some, None}

pub found_unique : {A : Type 0} (r s : Option A) → found r ≡ found s → r ≡ s
found_unique (Some u) (Some v) h = ap Some (some_inj h)
found_unique (Some u) None h = none-some (sym h)
found_unique None (Some v) h = none-some h
found_unique None None h = refl
