-- `keep::remember` meets its contract: the set is copied to the place of the free entry. Assumes nothing.
use Prim.Native.Nat.{ℕ, ◌+◌, ◌-◌, ◌*◌}
use native.Mathlib.Omega.{arith}
use mathlib.Core.Path.{◌≡◌, refl, sym, subst}
use mathlib.Core.Logic.{inr}
use lib.ListN.{length}
use Rattle.keep.specs.Recall.{spare, Copied}
use Rattle.keep.proofs.Recalling.{apart}
use Rattle.keep.proofs.remember.Goals as goal

pub returns : goal.returns
returns c =
    let a = c.args in
    let slot = c.in-Some.slot in
    let there = c.free.ensures slot c.in-Some.is in
    let behind = apart a.n (length a.known.now) slot (length a.sets.now) there c.requires.0 in
    let place : spare (length a.known.now) a.n a.sets.now + a.n * slot ≡ length a.sets.now - a.n * (length a.known.now - slot) = omega (arith, behind) in
    inr (
      omega (arith, c.if-next-ge-SPAN.false),
      record {
        slot = slot;
        there = there;
        entries = refl;
        copy = subst (λ (to : ℕ). Copied 0 to a.n a.sets.now c.copy_set.new.sets) (sym place) c.copy_set.ensures;
      },
    )
