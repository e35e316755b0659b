-- By how much the numbers of a column grow tells the column. Number by number. Assumes nothing.
use Rattle.std.proofs.Common.{◌≡◌, ℕ, List, sym, ◌∙◌, arith, ext_get_or}
use Rattle.tally.specs.Tallies.{Grows}

pub grows_unique : {bound : ℕ} {old new other : List ℕ} {f : ℕ → ℕ} → Grows bound old new f → Grows bound old other f → new ≡ other
grows_unique {bound} {old} {new} {other} {f} a b =
    ext_get_or 0 new other (a.long ∙ sym b.long) (λ v l. a.each v (omega (arith, a.long)) ∙ sym (b.each v (omega (arith, a.long))))
