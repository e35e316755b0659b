-- What is above or below a set, and marked, is what the subtree rule keeps. Assumes nothing.
use Prim.Native.Nat.{ℕ}
use mathlib.Core.Path.{◌≡◌, refl, ◌∙◌, ap}
use mathlib.Core.Bool.{Bool, true, false, ◌&&◌, ◌||◌}
use mathlib.Core.List.{List}
use mathlib.Core.Logic.{⊎_elim}
use Rattle.paper.specs.Tools.{some_below}
use Rattle.paper.specs.Query.{descendant_or_self, ancestor_or_self}
use Rattle.paper.specs.Document.{Table, nodes, marked, over}
use Rattle.paper.proofs.Tests.{and_true, true_and, or_true, or_left, or_right, agree}
use Rattle.paper.proofs.Searches.{some_intro, some-elim}
use Rattle.sets.specs.Sets.{image}
use Rattle.spread.specs.Spreading.{keeps_by}

split_or : (n : ℕ) (f g h : ℕ → Bool) → (some_below n (λ k. f k && h k) || some_below n (λ k. f k && g k)) ≡ some_below n (λ k. f k && (g k || h k))
split_or n f g h =
    agree (some_below n (λ k. f k && h k) || some_below n (λ k. f k && g k)) (some_below n (λ k. f k && (g k || h k)))
    (λ e.
    ⊎_elim
    (λ p. some-elim n (λ k. f k && h k) p (λ k l q. let r = and_true (f k) (h k) q in some_intro n (λ k. f k && (g k || h k)) k l (true_and r.0 (or_right (g k) r.1))))
    (λ p. some-elim n (λ k. f k && g k) p (λ k l q. let r = and_true (f k) (g k) q in some_intro n (λ k. f k && (g k || h k)) k l (true_and r.0 (or_left (h k) r.1))))
    (or_true (some_below n (λ k. f k && h k)) (some_below n (λ k. f k && g k)) e))
    (λ e.
    some-elim n (λ k. f k && (g k || h k)) e
    (λ k l q.
    let r = and_true (f k) (g k || h k) q in
    ⊎_elim (λ p. or_right (some_below n (λ k. f k && h k)) (some_intro n (λ k. f k && g k) k l (true_and r.0 p)))
    (λ p. or_left (some_below n (λ k. f k && g k)) (some_intro n (λ k. f k && h k) k l (true_and r.0 p))) (or_true (g k) (h k) r.1)))

and_comm : (a b : Bool) → (a && b) ≡ (b && a)
and_comm true true = refl
and_comm true false = refl
and_comm false true = refl
and_comm false false = refl

-- What is above or below the set, and marked, is what the subtree rule keeps.
pub spreads : (t : Table) (m : List ℕ) (f : ℕ → Bool) (i : ℕ) → ((image t ancestor_or_self f i || image t descendant_or_self f i) && marked m i) ≡ keeps_by t m f i
unfolding image keeps_by
spreads t m f i = and_comm (some_below (nodes t) (λ k. f k && over t k i) || some_below (nodes t) (λ k. f k && over t i k)) (marked m i) ∙ ap (λ b. marked m i && b) (split_or (nodes t) f (over t i) (λ k. over t k i))
