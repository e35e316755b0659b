-- Guarding the items of a path one by one: what was written, and what is still to be. Assumes nothing.
use Rattle.paper.specs.Items.{count_limit}
use Prim.Native.Nat.{ℕ, ◌+◌, ◌≤◌, ◌<◌}
use native.Mathlib.Omega.{arith}
use mathlib.Core.Path.{◌≡◌, refl, sym, ◌∙◌, ap, ap₂, subst}
use mathlib.Core.List.{List, [], ◌∷◌, ◌++◌, map, append_assoc, append-nil}
use lib.ListN.{length, get_or, take, drop, length-append, drop_of_length-le}
use Rattle.item.specs.Placed.{placed}
use Rattle.owed.specs.Owing.{owing}
use Rattle.item.proofs.Placing.{placed_nil, placed_after, drop_placed, same_size}
use Rattle.owed.proofs.Passing.{at_place}
use Rattle.guards.specs.Guarded.{guard_item, guarded_item, guarded_items, Raisable}

-- So many items are guarded, and what was written for them stands from `start` to `at`.
pub record Guarded (chosen steps says old out : List ℕ) (start place at : ℕ) : Type 0 where
  pub done : List ℕ
  pub wrote : out ≡ placed done start old
  pub size : length out ≡ length old
  pub reached : at ≡ start + length done
  pub goes_on : done ++ guarded_items chosen (map guard_item (drop place says)) (drop place steps) ≡ guarded_items chosen (map guard_item says) steps
  pub raisable : Raisable (drop place steps)
  pub inside : place ≤ length steps
  pub beside : length says ≡ length steps

pub guarded_start : (steps says old : List ℕ) (start : ℕ) (chosen : List ℕ) → Raisable steps → length says ≡ length steps → Guarded chosen steps says old old start 0 start
guarded_start steps says old start chosen r long =
    record { done = []; wrote = sym (placed_nil old start); size = refl; reached = omega arith; goes_on = refl; raisable = r; inside = omega arith; beside = long }

-- What is still to be written begins with the next item.
next_item : (chosen steps says : List ℕ) (place : ℕ) → place < length steps → length says ≡ length steps
    → guarded_items chosen (map guard_item (drop place says)) (drop place steps)
    ≡ guarded_item chosen (guard_item (get_or says place 0)) (get_or steps place 0) ++ guarded_items chosen (map guard_item (drop (place + 1) says)) (drop (place + 1) steps)
next_item chosen steps says place l long =
    ap₂ (λ (x y : List ℕ). guarded_items chosen (map guard_item x) y) (at_place says place (omega arith)) (at_place steps place l)

-- S stands where it stood.
still : (steps says old out : List ℕ) (start place at from count : ℕ) → place < length steps → Guarded (take count (drop from old)) steps says old out start place at
    → start + length (guarded_items (take count (drop from old)) (map guard_item says) steps) ≤ from → from + count ≤ length old → take count (drop from out) ≡ take count (drop from old)
still steps says old out start place at from count l g room fits =
    ap (λ (x : List ℕ). take count (drop from x)) g.wrote ∙
    ap (take count) (drop_placed g.done old start from (omega arith) (omega (arith, ap length g.goes_on, length-append g.done (guarded_items (take count (drop from old)) (map guard_item (drop place says)) (drop place steps)))))

pub guarded_asks : (steps says old out : List ℕ) (start place at from count : ℕ) → place < length steps → Guarded (take count (drop from old)) steps says old out start place at
    → start + length (guarded_items (take count (drop from old)) (map guard_item says) steps) ≤ from → from + count ≤ length old
    → (owing (get_or steps place 0) < count_limit) × (at + length (guarded_item (take count (drop from out)) (guard_item (get_or says place 0)) (get_or steps place 0)) ≤ from) × (from + count ≤ length out)
guarded_asks steps says old out start place at from count l g room fits =
    let chosen = take count (drop from old) in
    let w = get_or steps place 0 in
    let flag = guard_item (get_or says place 0) in
    let r : Raisable (w ∷ drop (place + 1) steps) = subst Raisable (at_place steps place l) g.raisable in (
      r.0,
      omega (
        arith,
        ap (λ (x : List ℕ). length (guarded_item x flag w)) (still steps says old out start place at from count l g room fits),
        g.reached,
        ap length g.goes_on,
        length-append g.done (guarded_items chosen (map guard_item (drop place says)) (drop place steps)),
        ap length (next_item chosen steps says place l g.beside),
        length-append (guarded_item chosen flag w) (guarded_items chosen (map guard_item (drop (place + 1) says)) (drop (place + 1) steps)),
      ),
      omega (arith, g.size),
    )

pub guarded_more : (steps says old out out' : List ℕ) (start place at at' from count : ℕ) → place < length steps → Guarded (take count (drop from old)) steps says old out start place at
    → start + length (guarded_items (take count (drop from old)) (map guard_item says) steps) ≤ from → from + count ≤ length old
    → out' ≡ placed (guarded_item (take count (drop from out)) (guard_item (get_or says place 0)) (get_or steps place 0)) at out → at' ≡ at + length (guarded_item (take count (drop from out)) (guard_item (get_or says place 0)) (get_or steps place 0))
    → Guarded (take count (drop from old)) steps says old out' start (place + 1) at'
guarded_more steps says old out out' start place at at' from count l g room fits e n =
    let chosen = take count (drop from old) in
    let w = get_or steps place 0 in
    let flag = guard_item (get_or says place 0) in
    let there = still steps says old out start place at from count l g room fits in
    let asks = guarded_asks steps says old out start place at from count l g room fits in
    let r : Raisable (w ∷ drop (place + 1) steps) = subst Raisable (at_place steps place l) g.raisable in
    let wrote' : out' ≡ placed (g.done ++ guarded_item chosen flag w) start old =
    e ∙ ap (λ (x : List ℕ). placed (guarded_item x flag w) at out) there ∙ ap (placed (guarded_item chosen flag w) at) g.wrote ∙
    placed_after g.done (guarded_item chosen flag w) old start at (omega arith) g.reached in
    let len = length-append g.done (guarded_item chosen flag w) in
    let same = ap (λ (x : List ℕ). length (guarded_item x flag w)) there in
    record {
      done = g.done ++ guarded_item chosen flag w;
      wrote = wrote';
      size = same_size (g.done ++ guarded_item chosen flag w) old out' start wrote' (omega (arith, g.reached, asks.1));
      reached = omega (arith, g.reached);
      goes_on =
          append_assoc g.done (guarded_item chosen flag w) (guarded_items chosen (map guard_item (drop (place + 1) says)) (drop (place + 1) steps)) ∙
          ap (λ (x : List ℕ). g.done ++ x) (sym (next_item chosen steps says place l g.beside)) ∙ g.goes_on;
      raisable = r.1;
      inside = omega arith;
      beside = g.beside;
    }

pub guarded_done : (steps says old out : List ℕ) (start place at : ℕ) (chosen : List ℕ) → length steps ≤ place → Guarded chosen steps says old out start place at
    → (out ≡ placed (guarded_items chosen (map guard_item says) steps) start old) × (at ≡ start + length (guarded_items chosen (map guard_item says) steps))
guarded_done steps says old out start place at chosen l g =
    let all : g.done ≡ guarded_items chosen (map guard_item says) steps =
    sym (append-nil g.done) ∙ ap (λ (x : List ℕ). g.done ++ guarded_items chosen (map guard_item (drop place says)) x) (sym (drop_of_length-le steps l)) ∙ g.goes_on in
    (g.wrote ∙ ap (λ (x : List ℕ). placed x start old) all, g.reached ∙ ap (λ (x : List ℕ). start + length x) all)
