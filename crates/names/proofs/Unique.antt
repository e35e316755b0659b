-- The promises of `index` and of `new` leave one answer, and one memory. Assumes nothing.
use Prim.Native.Nat.{ℕ}
use mathlib.Core.Path.{◌≡◌, sym, ◌∙◌, ap}
use mathlib.Core.List.{List}
use Rattle.std.specs.Prelude.{Result, Ok, Err}
use Rattle.paper.proofs.Tests.{none-some, some_inj}
use Rattle.paper.specs.declared.Refusal.{Refusal}
use Rattle.paper.specs.declared.Refusal.TheVariants.{BadName}
use Rattle.names.specs.Listing.{BadAt, Checked}
use Rattle.names.proofs.Parts.{counted}

-- A list is refused in one way.
pub refused_unique : {list : List ℕ} {r s : Refusal} → BadAt list r → BadAt list s → r ≡ s
refused_unique a b = a.refused ∙ ap BadName (some_inj (sym a.fault ∙ b.fault)) ∙ sym b.refused

pub index_unique : (list old new other : List ℕ) (r s : Result ℕ Refusal) → Checked list old new r → Checked list old other s → (r ≡ s) × (new ≡ other)
index_unique list old new other r s a b = (answer r s a b, a.kept ∙ sym b.kept)
  where
    answer : (r s : Result ℕ Refusal) → Checked list old new r → Checked list old other s → r ≡ s
    answer (Ok m) (Ok n) a b = ap Ok (sym (counted (a.good.0)) ∙ counted (b.good.0))
    answer (Ok m) (Err p) a b = none-some (sym a.good.1 ∙ b.bad.fault)
    answer (Err p) (Ok n) a b = none-some (sym b.good.1 ∙ a.bad.fault)
    answer (Err p) (Err q) a b = ap Err (refused_unique a.bad b.bad)
