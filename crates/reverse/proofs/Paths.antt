-- Walking over the top-level paths of a query: where each ends, and what is written for each.
-- What was written and what is made of the paths left are what is made of all. Assumes nothing.
use Prim.Native.Nat.{ℕ, ◌+◌, ◌-◌, ◌≤◌, ◌<◌}
use native.Mathlib.Omega.{arith}
use mathlib.Core.Path.{◌≡◌, refl, sym, ◌∙◌, ap, ap₂}
use mathlib.Core.Bool.{true, ◌&&◌}
use mathlib.Core.List.{List, [], ◌∷◌, ◌++◌, append_assoc, append-nil}
use mathlib.Core.Option.{Option, some}
use lib.Dec.{ltb}
use lib.ListN.{length, get_or, take, drop, length-append, length-drop}
use lib.Seq.{take-append_seam, drop-append_seam, drop-drop}
use borrow.Author.Tests.{ltb-true}
use Rattle.paper.specs.Query.{Steps, Query, paths}
use Rattle.paper.specs.Items.{pack_path, step_count, encode_steps, encode_paths, encode, decode, good_steps, good_paths, good, count_bound}
use Rattle.paper.proofs.Tests.{and_true}
use Rattle.paper.proofs.Encoding.{encode_decode}
use Rattle.item.specs.Placed.{placed}
use Rattle.owed.specs.Owing.{owing, eaten}
use Rattle.reverse.specs.Reverses.{IsQuery, paths_got, each_path, each_got}
use Rattle.item.proofs.Placing.{placed_nil, placed_after, same_size}
use Rattle.owed.proofs.Owing.{owing_path, steps_eaten, none_eaten, count_length}
use Rattle.owed.proofs.Passing.{at_place}

-- These paths are left from a place on.
pub record Rest (items : List ℕ) (place : ℕ) (ps : List Steps) : Type 0 where
  pub left : drop place items ≡ encode_paths ps
  pub fine : good_paths ps ≡ true
  pub inside : place ≤ length items

pub rest_start : (items : List ℕ) (q : Query) → decode items ≡ some q → Rest items 0 (paths q)
unfolding encode good
rest_start items q h = let d = encode_decode items q h in record { left = d.items; fine = d.fine; inside = omega arith }

-- The first of them: its steps stand before `next`, and the others from there on.
pub record Top (items : List ℕ) (place next count : ℕ) (p : Steps) (ps : List Steps) : Type 0 where
  pub counts : count ≡ step_count p
  pub few : step_count p ≤ length (encode_steps p)
  pub fine : good_steps p ≡ true
  pub ends : next ≡ place + 1 + length (encode_steps p)
  pub part : take (next - (place + 1)) (drop (place + 1) items) ≡ encode_steps p
  pub later : Rest items next ps

top_of : (items : List ℕ) (place next count : ℕ) (p : Steps) (ps : List Steps) → place < length items → Rest items place (p ∷ ps) → count ≡ owing (get_or items place 0)
    → next ≡ place + 1 + eaten (drop (place + 1) items) count → Top items place next count p ps
top_of items place next count p ps l r ec en =
    let g = and_true (ltb (step_count p) count_bound && good_steps p) (good_paths ps) r.fine in
    let h = and_true (ltb (step_count p) count_bound) (good_steps p) g.0 in
    let here : get_or items place 0 ∷ drop (place + 1) items ≡ pack_path (step_count p) ∷ (encode_steps p ++ encode_paths ps) = sym (at_place items place l) ∙ r.left in
    let head : get_or items place 0 ≡ pack_path (step_count p) = cc in
    let tail : drop (place + 1) items ≡ encode_steps p ++ encode_paths ps = cc in
    let counts : count ≡ step_count p = ec ∙ ap owing head ∙ owing_path (step_count p) (ltb-true _ _ h.0) in
    let size : eaten (drop (place + 1) items) count ≡ length (encode_steps p) =
    ap₂ eaten tail counts ∙ steps_eaten p h.1 (encode_paths ps) (step_count p) 0 (omega arith) ∙ omega (arith, none_eaten (encode_paths ps)) in
    let ends : next ≡ place + 1 + length (encode_steps p) = omega arith in
    let all = ap length tail ∙ length-append (encode_steps p) (encode_paths ps) in
    record {
      counts = counts;
      few = count_length p;
      fine = h.1;
      ends = ends;
      part =
          ap₂ take (let f : next - (place + 1) ≡ length (encode_steps p) = omega arith in f) tail ∙ take-append_seam (encode_steps p) (encode_paths ps);
      later =
          record {
            left = ap (λ (k : ℕ). drop k items) ends ∙ sym (drop-drop (length (encode_steps p)) (place + 1) items) ∙ ap (drop (length (encode_steps p))) tail ∙ drop-append_seam (encode_steps p) (encode_paths ps);
            fine = g.1;
            inside = omega (arith, length-drop (place + 1) items);
          };
    }

-- While items are left, so is a path.
pub top {ℓ} : {C : Type ℓ} (items : List ℕ) (place next count : ℕ) (qs : List Steps) → place < length items → Rest items place qs → count ≡ owing (get_or items place 0)
    → next ≡ place + 1 + eaten (drop (place + 1) items) count → ((p : Steps) (ps : List Steps) → qs ≡ p ∷ ps → Top items place next count p ps → C) → C
top items place next count [] l r ec en k = absurd (omega (arith, ap length r.left, length-drop place items))
top items place next count (p ∷ ps) l r ec en k = k p ps refl (top_of items place next count p ps l r ec en)

-- At the end none is left.
pub none_left : (items : List ℕ) (place : ℕ) (ps : List Steps) → length items ≤ place → Rest items place ps → ps ≡ []
none_left items place [] l r = refl
none_left items place (p ∷ ps) l r = absurd (omega (arith, ap length r.left, length-drop place items))

-- COUNTING them.
pub record Counted (items : List ℕ) (place count : ℕ) : Type 0 where
  pub query : Query
  pub decodes : decode items ≡ some query
  pub rest : List Steps
  pub walks : Rest items place rest
  pub sum : count + length rest ≡ length (paths query)
  pub low : count ≤ place

pub counted_start : (items : List ℕ) → IsQuery items → Counted items 0 0
counted_start items q =
    record { query = q.query; decodes = q.decodes; rest = paths q.query; walks = rest_start items q.query q.decodes; sum = omega arith; low = omega arith }

pub counted_more : (items : List ℕ) (place next owed count : ℕ) → place < length items → Counted items place count → owed ≡ owing (get_or items place 0)
    → next ≡ place + 1 + eaten (drop (place + 1) items) owed → Counted items next (count + 1)
counted_more items place next owed count l k eo en =
    top items place next owed k.rest l k.walks eo en
    (λ p ps e t.
    record { query = k.query; decodes = k.decodes; rest = ps; walks = t.later; sum = omega (arith, k.sum, ap length e); low = omega (arith, k.low, t.ends) })

pub counted_done : (items : List ℕ) (place count : ℕ) → length items ≤ place → Counted items place count → count ≡ paths_got (decode items)
counted_done items place count l k =
    let n : length k.rest ≡ 0 = ap length (none_left items place k.rest l k.walks) in
    let e : count ≡ length (paths k.query) = omega (arith, k.sum) in
    e ∙ ap paths_got (sym k.decodes)

-- WRITING something for each.
module _ (made : Steps → List ℕ) where
  pub record Writing (items old out : List ℕ) (start place at : ℕ) : Type 0 where
    pub query : Query
    pub decodes : decode items ≡ some query
    pub rest : List Steps
    pub walks : Rest items place rest
    pub done : List ℕ
    pub wrote : out ≡ placed done start old
    pub size : length out ≡ length old
    pub reached : at ≡ start + length done
    pub goes_on : done ++ each_path made rest ≡ each_path made (paths query)

  unfoldable pub writing_start : (items old : List ℕ) (start : ℕ) → IsQuery items → Writing items old old start 0 start
  writing_start items old start q =
      record {
        query = q.query;
        decodes = q.decodes;
        rest = paths q.query;
        walks = rest_start items q.query q.decodes;
        done = [];
        wrote = sym (placed_nil old start);
        size = refl;
        reached = omega arith;
        goes_on = refl;
      }

  -- The room that is left is enough for what is left.
  pub room_left : (items old out : List ℕ) (start place at : ℕ) (w : Writing items old out start place at) → at + length (each_path made w.rest) ≡ start + length (each_got made (decode items))
  room_left items old out start place at w =
      omega (
        arith,
        w.reached,
        ap (λ (o : Option Query). length (each_got made o)) w.decodes,
        ap length w.goes_on,
        length-append w.done (each_path made w.rest),
      )

  unfoldable pub writing_more : (items old out out' : List ℕ) (start place at next at' count : ℕ) (p : Steps) (ps : List Steps) (w : Writing items old out start place at) → w.rest ≡ p ∷ ps
      → Top items place next count p ps → start + length (each_got made (decode items)) ≤ length old → out' ≡ placed (made p) at out → at' ≡ at + length (made p)
      → Writing items old out' start next at'
  writing_more items old out out' start place at next at' count p ps w e t room ew ea =
      let left = room_left items old out start place at w in
      let split = ap (λ (x : List Steps). length (each_path made x)) e ∙ length-append (made p) (each_path made ps) in
      let wrote' : out' ≡ placed (w.done ++ made p) start old =
      ew ∙ ap (placed (made p) at) w.wrote ∙ placed_after w.done (made p) old start at (omega arith) w.reached in
      let len = length-append w.done (made p) in
      record {
        query = w.query;
        decodes = w.decodes;
        rest = ps;
        walks = t.later;
        done = w.done ++ made p;
        wrote = wrote';
        size = same_size (w.done ++ made p) old out' start wrote' (omega (arith, w.reached));
        reached = omega (arith, w.reached);
        goes_on = append_assoc w.done (made p) (each_path made ps) ∙ ap (λ (x : List Steps). w.done ++ each_path made x) (sym e) ∙ w.goes_on;
      }

  pub writing_done : (items old out : List ℕ) (start place at : ℕ) → length items ≤ place → Writing items old out start place at → out ≡ placed (each_got made (decode items)) start old
  writing_done items old out start place at l w =
      let all : w.done ≡ each_got made (decode items) =
      sym (append-nil w.done) ∙ ap (λ (x : List Steps). w.done ++ each_path made x) (sym (none_left items place w.rest l w.walks)) ∙ w.goes_on ∙
      ap (each_got made) (sym w.decodes) in
      w.wrote ∙ ap (λ (x : List ℕ). placed x start old) all
