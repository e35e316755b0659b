-- Items put from a slot on, or nothing where there is no room for them, leave one content; so do operators put before a run. Assumes nothing.
use Prim.Native.Nat.{ℕ, ◌+◌, ◌-◌, ◌≤◌, ◌<◌}
use native.Mathlib.Omega.{arith}
use mathlib.Core.Path.{◌≡◌, sym, ◌∙◌, ap}
use mathlib.Core.Bool.{Bool, true, false}
use mathlib.Core.Logic.{⊎_elim}
use mathlib.Core.List.{List, ◌++◌}
use lib.Dec.{ltb}
use lib.ListN.{length, take, drop, length-drop, take-append-drop}
use lib.Seq.{length-take-le, drop-drop}
use borrow.Author.Tests.{ltb-true, ltb-false}
use Rattle.paper.specs.Limits.{item_limit}
use Rattle.paper.proofs.Tests.{decide}
use Rattle.slots.specs.Slots.{Wrote, Grouped, deep_items}

pub deep_small : (deep : Bool) → length (deep_items deep) ≤ item_limit
deep_small true = omega arith
deep_small false = omega arith

-- A number that is said for what is below a bound, and for what is not.
pub said_unique : (n bound u v inside outside : ℕ) → (n < bound → u ≡ inside) → (bound ≤ n → u ≡ outside) → (n < bound → v ≡ inside) → (bound ≤ n → v ≡ outside) → u ≡ v
said_unique n bound u v inside outside a b c d =
    ⊎_elim (λ e. let l = ltb-true n bound e in a l ∙ sym (c l)) (λ e. let l = ltb-false n bound e in b l ∙ sym (d l)) (decide (ltb n bound))

-- A list cut at two places.
parts : (l : List ℕ) (m n : ℕ) → l ≡ take m l ++ (take n (drop m l) ++ drop (m + n) l)
parts l m n =
    sym (take-append-drop m l) ∙ ap (λ (x : List ℕ). take m l ++ x) (sym (take-append-drop n (drop m l)) ∙ ap (λ (x : List ℕ). take n (drop m l) ++ x) (drop-drop n m l))

part_long : (l : List ℕ) (m n : ℕ) → m + n ≤ length l → length (take n (drop m l)) ≡ n
part_long l m n h = length-take-le n (drop m l) (omega (arith, length-drop m l))

pub wrote_unique : (old new new' : List ℕ) (slot : ℕ) (items : List ℕ) → length items ≤ item_limit → Wrote old new slot items → Wrote old new' slot items
    → (length old < slot + length items → new ≡ old) → (length old < slot + length items → new' ≡ old) → new ≡ new'
wrote_unique old new new' slot items small p q past past' =
    ⊎_elim (λ e. let l = ltb-true (length old) (slot + length items) e in past l ∙ sym (past' l)) (λ e. fits (ltb-false (length old) (slot + length items) e))
    (decide (ltb (length old) (slot + length items)))
  where
    fits : slot + length items ≤ length old → new ≡ new'
    fits l =
        let cut = parts old slot (length items) in
        let front = length-take-le slot old (omega arith) in
        let gone = part_long old slot (length items) l in
        p.puts (take slot old) (take (length items) (drop slot old)) (drop (slot + length items) old) cut front gone small ∙
        sym (q.puts (take slot old) (take (length items) (drop slot old)) (drop (slot + length items) old) cut front gone small)

pub grouped_unique : (old new new' : List ℕ) (slot end count item : ℕ) → slot ≤ end → Grouped old new slot end count item → Grouped old new' slot end count item
    → (length old < end + count → new ≡ old) → (length old < end + count → new' ≡ old) → new ≡ new'
grouped_unique old new new' slot end count item inside p q past past' =
    ⊎_elim (λ e. let l = ltb-true (length old) (end + count) e in past l ∙ sym (past' l)) (λ e. fits (ltb-false (length old) (end + count) e)) (decide (ltb (length old) (end + count)))
  where
    raw : List ℕ
    raw = take (end - slot) (drop slot old)

    gone : List ℕ
    gone = take count (drop (slot + (end - slot)) old)

    back : List ℕ
    back = drop (slot + (end - slot) + count) old

    fits : end + count ≤ length old → new ≡ new'
    fits l =
        let cut : old ≡ take slot old ++ (raw ++ (gone ++ back)) =
        parts old slot (end - slot) ∙
        ap (λ (x : List ℕ). take slot old ++ (raw ++ x)) (sym (take-append-drop count (drop (slot + (end - slot)) old)) ∙ ap (λ (x : List ℕ). gone ++ x) (drop-drop count (slot + (end - slot)) old)) in
        let front = length-take-le slot old (omega arith) in
        let moved = part_long old slot (end - slot) (omega arith) in
        let wide = part_long old (slot + (end - slot)) count (omega arith) in
        p.puts (take slot old) raw gone back cut front (omega (arith, moved)) wide ∙ sym (q.puts (take slot old) raw gone back cut front (omega (arith, moved)) wide)
