-- The promises leave one answer: what was read tells where it ends, and an item says one thing. Assumes nothing.
use Prim.Native.Nat.{ℕ}
use native.Mathlib.Omega.{arith}
use mathlib.Core.Path.{◌≡◌, sym, ◌∙◌, ap, ap₂}
use mathlib.Core.List.{List}
use lib.ListN.{length, drop, length-drop}
use Rattle.paper.specs.Items.{Taken}
use Rattle.paper.proofs.Tests.{some_inj}
use Rattle.item.specs.declared.Step.{Step}
use Rattle.item.proofs.Saying.{numbered}
use Rattle.places.specs.Standing.{Ends, Known, StepSaid}
use Rattle.places.specs.declared.Places.{Places}

pub ends_unique : {A : Type 0} {items : List ℕ} {at : ℕ} {taken : Taken A} (m n : ℕ) → Ends items at taken m → Ends items at taken n → m ≡ n
ends_unique {A} {items} m n p q =
    let left : drop m items ≡ drop n items = ap (λ (r : A × List ℕ). r.1) (some_inj (sym p.reads ∙ q.reads)) in
    omega (arith, length-drop m items, length-drop n items, ap length left, p.inside, q.inside)

pub places_unique : {A : Type 0} {items : List ℕ} {at : ℕ} {taken : Taken A} (depth k : ℕ) (r s : Places) → Known items at depth k r → Known items at depth k s → Ends items at taken r.place
    → Ends items at taken s.place → r ≡ s
places_unique depth k r s p q e f =
    let near : ◌≡◌ {A = ℕ × ℕ} (r.near, r.place) (s.near, s.place) =
    ap₂ (λ a b. (a, b)) (ends_unique r.near s.near p.1 q.1) (ends_unique r.place s.place e f) in
    ap₂ (λ (far : ℕ) (w : ℕ × ℕ). record { far = far; near = w.0; place = w.1 }) (ends_unique r.far s.far p.0 q.0) near

pub step_unique : (w : ℕ) (r s : Step) → StepSaid w r → StepSaid w s → r ≡ s
step_unique w r s p q = p.2 ∙ ap numbered (some_inj (sym p.1 ∙ q.1)) ∙ sym q.2
