-- Laws of copying a part that stands further on in the output: what a copy has not reached, and what is made of the part. Assumes nothing.
use Prim.Native.Nat.{ℕ, ◌+◌, ◌-◌, ◌≤◌, ◌<◌}
use native.Mathlib.Omega.{arith}
use mathlib.Core.Path.{◌≡◌, ◌∙◌, ap}
use mathlib.Core.List.{List, ◌++◌}
use lib.ListN.{length, get_or, take, drop, length-drop}
use lib.Seq.{length-take-le, get_or-append-add, get_or-drop, get_or-take, paste, length_paste_head}
use Rattle.item.specs.Placed.{placed}
use Rattle.item.proofs.Placing.{drop_placed, placed_after}

-- The items that a copy has not reached are those of before.
pub ahead : (old items : List ℕ) (at n from : ℕ) → at + n ≤ length old → n ≤ length items → at + n ≤ from → get_or (paste old at items n) from 0 ≡ get_or old from 0
ahead old items at n from l h f =
    let d = from - (at + n) in
    let e : from ≡ length (take at old ++ take n items) + d = omega (arith, length_paste_head old at items n (omega arith) h) in
    ap (λ (k : ℕ). get_or (paste old at items n) k 0) e ∙ get_or-append-add (take at old ++ take n items) (drop (at + n) old) d 0 ∙
    get_or-drop (at + n) old d 0 ∙ ap (λ (k : ℕ). get_or old k 0) (let g : at + n + d ≡ from = omega arith in g)

-- An item of the part that is copied.
pub of_part : (old : List ℕ) (from count i : ℕ) → i < count → get_or (take count (drop from old)) i 0 ≡ get_or old (from + i) 0
of_part old from count i l = get_or-take count (drop from old) i 0 l ∙ get_or-drop from old i 0

pub part_length : (old : List ℕ) (from count : ℕ) → from + count ≤ length old → length (take count (drop from old)) ≡ count
part_length old from count l = length-take-le count (drop from old) (omega (arith, length-drop from old))

-- A piece is written after what was, and something made of the part from `from` on after that.
pub then_chosen : (f : List ℕ → List ℕ) (a old o o' : List ℕ) (at next from count : ℕ) → o ≡ placed a at old → o' ≡ placed (f (take count (drop from o))) next o
    → next ≡ at + length a → at ≤ length old → next ≤ from → o' ≡ placed (a ++ f (take count (drop from old))) at old
then_chosen f a old o o' at next from count e e' n l h =
    e' ∙ ap (λ (x : List ℕ). placed (f (take count (drop from x))) next x) e ∙
    ap (λ (x : List ℕ). placed (f (take count x)) next (placed a at old)) (drop_placed a old at from l (omega arith)) ∙
    placed_after a (f (take count (drop from old))) old at next l n
