-- `keep::same` meets its contract: where the first `i` items from both places on are equal and the next two are, one item more is. Assumes nothing.
use Rattle.std.proofs.Common.{ℕ, ◌+◌, ◌<◌, ◌≡◌, sym, ◌∙◌, ap, arith, List, [], ◌∷◌, ◌++◌, length, get_or, take, drop, length-drop}
use native.Mathlib.Numerals.{add-one}
use mathlib.Core.Path.{ap₂}
use lib.Seq.{take-suc, get_or-drop}
use Rattle.keep.proofs.same.Goals as goal

one_more : (items : List ℕ) (a b i : ℕ) → a + i < length items → b + i < length items → take i (drop a items) ≡ take i (drop b items) → get_or items (a + i) 0 ≡ get_or items (b + i) 0
    → take (i + 1) (drop a items) ≡ take (i + 1) (drop b items)
one_more items a b i la lb e h =
    ap (λ (k : ℕ). take k (drop a items)) (add-one i) ∙ take-suc (drop a items) i 0 (simp length-drop (omega arith)) ∙
    ap₂ (λ (xs : List ℕ) (x : ℕ). xs ++ (x ∷ [])) e (get_or-drop a items i 0 ∙ h ∙ sym (get_or-drop b items i 0)) ∙
    sym (ap (λ (k : ℕ). take k (drop b items)) (add-one i) ∙ take-suc (drop b items) i 0 (simp length-drop (omega arith)))

pub loop-i-preserved : goal.loop-i-preserved
loop-i-preserved c =
    let a = c.args in
    one_more a.items.now a.a a.b c.loop-i.i (omega arith) (omega arith) c.loop-i.invariant (omega (arith, c.if-x-y.false))
