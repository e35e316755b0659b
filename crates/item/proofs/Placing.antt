-- Laws of writing in place: one piece after the other, one before the other, and what is untouched. Assumes nothing.
use Prim.Native.Nat.{ℕ, ◌+◌, ◌-◌, ◌≤◌, ◌<◌}
use native.Mathlib.Omega.{arith}
use native.Mathlib.Nat.{zero-add, add-zero}
use native.Mathlib.Numerals.{add-one}
use mathlib.Core.Path.{◌≡◌, refl, sym, ◌∙◌, ap, ap₂}
use mathlib.Core.List.{List, [], ◌∷◌, ◌++◌, append_assoc}
use lib.ListN.{length, take, drop, set, length-append, length-drop, take-append-drop}
use lib.Seq.{length-take-le, take-length, set_split, take-append-le, drop-append-add, take_at, drop_at, take-take, drop-drop, paste}
use Rattle.paper.specs.Tools.{written}
use Rattle.item.specs.Placed.{placed}

pub placed_nil : (old : List ℕ) (at : ℕ) → placed [] at old ≡ old
placed_nil old at = ap (λ (k : ℕ). take at old ++ drop k old) (add-zero at) ∙ take-append-drop at old

-- What is placed at the start is written there.
pub placed_first : (new old : List ℕ) → placed new 0 old ≡ written new old
placed_first new old = ap (λ (k : ℕ). new ++ drop k old) (zero-add (length new))

-- A store is one item placed.
pub placed_one : (old : List ℕ) (at w : ℕ) → at < length old → set old at w ≡ placed (w ∷ []) at old
placed_one old at w l = set_split old at w l ∙ ap (λ (k : ℕ). take at old ++ w ∷ drop k old) (sym (add-one at))

-- What is placed takes the place of as many items.
pub placed_cut : (front gone back new old : List ℕ) (at : ℕ) → old ≡ front ++ (gone ++ back) → length front ≡ at → length gone ≡ length new → placed new at old ≡ front ++ (new ++ back)
placed_cut front gone back new old at h f g =
    ap₂ (λ (x y : List ℕ). x ++ (new ++ y)) (ap (take at) h ∙ take_at front (gone ++ back) at f)
    (ap (drop (at + length new)) (h ∙ sym (append_assoc front gone back)) ∙
    drop_at (front ++ gone) back (at + length new) (omega (arith, length-append front gone)))

-- The front, with what is placed, has the length it should.
front_length : (new old : List ℕ) (at : ℕ) → at ≤ length old → length (take at old ++ new) ≡ at + length new
front_length new old at l = length-append (take at old) new ∙ ap (λ (k : ℕ). k + length new) (length-take-le at old l)

in_two : (new old : List ℕ) (at : ℕ) → placed new at old ≡ take at old ++ new ++ drop (at + length new) old
in_two new old at = sym (append_assoc (take at old) new (drop (at + length new) old))

pub length_placed : (new old : List ℕ) (at : ℕ) → at + length new ≤ length old → length (placed new at old) ≡ length old
length_placed new old at l =
    ap length (in_two new old at) ∙ length-append (take at old ++ new) (drop (at + length new) old) ∙
    omega (arith, front_length new old at (omega arith), length-drop (at + length new) old)

pub take_placed : (new old : List ℕ) (at : ℕ) → at ≤ length old → take (at + length new) (placed new at old) ≡ take at old ++ new
take_placed new old at l =
    ap (take (at + length new)) (in_two new old at) ∙ take_at (take at old ++ new) (drop (at + length new) old) (at + length new) (front_length new old at l)

-- What stands further on is untouched.
pub drop_placed : (new old : List ℕ) (at from : ℕ) → at ≤ length old → at + length new ≤ from → drop from (placed new at old) ≡ drop from old
drop_placed new old at from l h =
    let d = from - (at + length new) in
    let e : from ≡ length (take at old ++ new) + d = omega (arith, front_length new old at l) in
    ap (drop from) (in_two new old at) ∙ ap (λ (k : ℕ). drop k (take at old ++ new ++ drop (at + length new) old)) e ∙
    drop-append-add (take at old ++ new) (drop (at + length new) old) d ∙ drop-drop d (at + length new) old ∙
    ap (λ (k : ℕ). drop k old) (let f : at + length new + d ≡ from = omega arith in f)

-- One piece after the other.
pub placed_after : (a b old : List ℕ) (at next : ℕ) → at ≤ length old → next ≡ at + length a → placed b next (placed a at old) ≡ placed (a ++ b) at old
placed_after a b old at next l e =
    let f : next + length b ≡ at + length (a ++ b) = omega (arith, length-append a b) in
    ap₂ (λ (x y : List ℕ). x ++ (b ++ y))
    (ap (λ (k : ℕ). take k (placed a at old)) e ∙ take_placed a old at l)
    (drop_placed a old at (next + length b) l (omega arith) ∙ ap (λ (k : ℕ). drop k old) f) ∙
    append_assoc (take at old) a (b ++ drop (at + length (a ++ b)) old) ∙
    ap (λ (x : List ℕ). take at old ++ x) (sym (append_assoc a b (drop (at + length (a ++ b)) old)))

-- One item more.
pub then_one : (a old : List ℕ) (at next w : ℕ) → next ≡ at + length a → next < length old → set (placed a at old) next w ≡ placed (a ++ (w ∷ [])) at old
then_one a old at next w e l =
    placed_one (placed a at old) next w (omega (arith, length_placed a old at (omega arith))) ∙ placed_after a (w ∷ []) old at next (omega arith) e

-- One piece before what stands there.
pub placed_before : (a rest old : List ℕ) (at next : ℕ) → next ≡ at + length a → next ≤ length old
    → placed a at (take next old ++ rest) ≡ take at old ++ (a ++ rest)
placed_before a rest old at next e l =
    ap₂ (λ (x y : List ℕ). x ++ (a ++ y))
    (take-append-le at (take next old) rest (omega (arith, length-take-le next old l)) ∙ take-take at next old (omega arith))
    (drop_at (take next old) rest (at + length a) (length-take-le next old l ∙ e))

-- A copy that is whole.
pub copied_all : (old items : List ℕ) (at n : ℕ) → n ≡ length items → paste old at items n ≡ placed items at old
copied_all old items at n e =
    ap (paste old at items) e ∙ ap (λ (x : List ℕ). take at old ++ x ++ drop (at + length items) old) (take-length items) ∙ sym (in_two items old at)

-- Two items.
pub two_put : (old : List ℕ) (at x y v w : ℕ) → x ≡ v → y ≡ w → at + 1 < length old → set (set old at x) (at + 1) y ≡ placed (v ∷ w ∷ []) at old
two_put old at x y v w ex ey l =
    ap₂ (λ (a b : ℕ). set (set old at a) (at + 1) b) ex ey ∙ ap (λ (o : List ℕ). set o (at + 1) w) (placed_one old at v (omega arith)) ∙
    then_one (v ∷ []) old at (at + 1) w refl l

-- The length stays.
pub same_size : (new old o : List ℕ) (at : ℕ) → o ≡ placed new at old → at + length new ≤ length old → length o ≡ length old
same_size new old o at e l = ap length e ∙ length_placed new old at l
