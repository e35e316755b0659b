-- Texts put one after the other are one text put. By induction over the first text. Assumes nothing.
use Prim.Native.Nat.{ℕ, suc, ◌+◌, ◌≤◌}
use native.Mathlib.Omega.{arith}
use native.Mathlib.Nat.{add-zero}
use mathlib.Core.Path.{◌≡◌, refl, sym, ◌∙◌, ap}
use mathlib.Core.List.{List, [], ◌∷◌, ◌++◌}
use lib.ListN.{length, set, length-append}
use lib.Seq.{sets, length-sets, set_out}
use Rattle.pen.specs.Putting.{Puts}

sets_append : (xs ys l : List ℕ) (i : ℕ) → sets l i (xs ++ ys) ≡ sets (sets l i xs) (i + length xs) ys
sets_append [] ys l i = rw (add-zero i)
sets_append (x ∷ xs) ys l i =
    let e : suc i + length xs ≡ i + suc (length xs) = omega arith in
    sets_append xs ys (set l i x) (suc i) ∙ ap (λ k. sets (sets (set l i x) (suc i) xs) k ys) e

-- Nothing put.
pub puts_none : (pen : ℕ) (old : List ℕ) → Puts [] pen old old pen
puts_none pen old = record { moved = omega arith; wrote = refl }

-- One byte put, where there is room and where there is none.
pub puts_byte : (b pen : ℕ) (old new : List ℕ) → new ≡ set old pen b → Puts (b ∷ []) pen old new (pen + 1)
puts_byte b pen old new e = record { moved = refl; wrote = e }

pub puts_past : (b pen : ℕ) (old new : List ℕ) → length old ≤ pen → new ≡ old → Puts (b ∷ []) pen old new (pen + 1)
puts_past b pen old new l e = record { moved = refl; wrote = e ∙ sym (set_out old pen b l) }

-- One text after another.
pub puts_both : {xs ys old mid new : List ℕ} {pen next last : ℕ} → Puts xs pen old mid next → Puts ys next mid new last → Puts (xs ++ ys) pen old new last
puts_both {xs} {ys} {old} {mid} {new} {pen} {next} {last} p q =
    record {
      moved = omega (arith, p.moved, q.moved, length-append xs ys);
      wrote = q.wrote ∙ rw (p.wrote, p.moved) (sym (sets_append xs ys old pen));
    }

-- The same text by another name.
pub puts_as : {xs ys old new : List ℕ} {pen last : ℕ} → xs ≡ ys → Puts xs pen old new last → Puts ys pen old new last
puts_as e p = rw e at p

-- The slice keeps its length.
pub puts_long : {xs old new : List ℕ} {pen next : ℕ} → Puts xs pen old new next → length new ≡ length old
puts_long {xs} {old} {new} {pen} {next} p = ap length p.wrote ∙ length-sets old pen xs
