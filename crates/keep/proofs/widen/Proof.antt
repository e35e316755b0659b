-- `keep::widen` meets its contract: the second set is added to the first, or nothing is done. Assumes nothing.
use Prim.Native.Nat.{ℕ, ◌+◌}
use native.Mathlib.Omega.{arith}
use mathlib.Core.Path.{◌≡◌, refl, sym, ◌∙◌, ap}
use mathlib.Core.Bool.{◌||◌}
use lib.ListN.{take, drop}
use borrow.Author.Rules.{rules}
use Rattle.keep.proofs.Slices.{front_is}
use Rattle.keep.proofs.widen.Statement.{statement}
use Rattle.keep.proofs.widen.Tie as tie

add-second-requires : tie.Need-add_second-requires
add-second-requires c κs = omega (arith, c.requires c.if-held-gt0.true)

same_length : tie.Need-shape_of-sets
same_length c = search rules

returns : tie.Need-returns-then-held-gt0
returns c =
    let a = c.args in
    record {
      front = refl;
      behind =
          let e : 0 + a.n ≡ a.n = omega arith in
          ap (λ (k : ℕ). drop k c.add_second.new.sets) e ∙ c.add_second.ensures.1 ∙ ap (λ (k : ℕ). drop k a.sets.now) (sym e);
      first = λ z. absurd (omega (arith, z, c.if-held-gt0.true));
      later = λ z f g p q.
          front_is a.n (λ i. f i || g i) _ _
          (c.add_second.ensures.0 f g p (ap (λ (k : ℕ). take a.n (drop k a.sets.now)) (let e : a.n ≡ 0 + a.n = omega arith in e) ∙ q));
    }

returns-2 : tie.Need-returns-else-held-gt0
returns-2 c = record { front = refl; behind = refl; first = λ z. refl; later = λ z. absurd (omega (arith, z, c.if-held-gt0.false)) }

pub widen_spec : {M : Type 1} → statement M
widen_spec = tie.close (tie.spec add-second-requires same_length returns returns-2)
