-- Items written one after the other, an item put before those written, and operators put before a run. By lists cut where the items go. Assumes nothing.
use Prim.Native.Nat.{ℕ, suc, ◌+◌, ◌-◌, ◌≤◌, ◌<◌}
use native.Mathlib.Omega.{arith}
use mathlib.Core.Path.{◌≡◌, refl, sym, ◌∙◌, ap, ap₂, subst}
use mathlib.Core.Bool.{Bool, true, false}
use mathlib.Core.List.{List, [], ◌∷◌, ◌++◌, append_assoc, append-nil}
use lib.ListN.{length, get_or, set, take, drop, replicate, length-append, length-drop, take-append-drop, length-replicate}
use lib.Seq.{length-take-le, take-suc, take_all, set_at, get_or_at}
use Rattle.paper.specs.Items.{count_bound}
use Rattle.paper.specs.Limits.{item_limit}
use Rattle.item.specs.Placed.{placed}
use Rattle.item.proofs.Placing.{placed_cut}
use Rattle.slots.specs.Slots.{Wrote, Grouped, Moved, deep_item, deep_items}

-- A list of so many elements, cut in two.
record Cut (l : List ℕ) (m n : ℕ) : Type 0 where
  pub left : List ℕ
  pub right : List ℕ
  pub is : l ≡ left ++ right
  pub first : length left ≡ m
  pub second : length right ≡ n

cut : (l : List ℕ) (m n : ℕ) → length l ≡ m + n → Cut l m n
cut l m n e =
    record {
      left = take m l;
      right = drop m l;
      is = sym (take-append-drop m l);
      first = length-take-le m l (omega arith);
      second = simp length-drop (omega arith);
    }

nil : (l : List ℕ) → length l ≡ 0 → l ≡ []
nil [] e = refl
nil (x ∷ xs) e = absurd (omega arith)

-- Its last element.
record Last (l : List ℕ) (n : ℕ) : Type 0 where
  pub init : List ℕ
  pub last : ℕ
  pub is : l ≡ init ++ (last ∷ [])
  pub long : length init ≡ n

last_of : (l : List ℕ) (n : ℕ) → length l ≡ suc n → Last l n
last_of l n e =
    record {
      init = take n l;
      last = get_or l n 0;
      is = sym (take_all (suc n) l (omega arith)) ∙ take-suc l n 0 (omega arith);
      long = length-take-le n l (omega arith);
    }

-- WRITING.
pub wrote_nothing : (old : List ℕ) (slot : ℕ) → Wrote old old slot []
wrote_nothing old slot = record { puts = λ front gone back e lf lg small. e ∙ ap (λ g. front ++ (g ++ back)) (nil gone lg) }

-- Items right behind those written.
pub wrote_more : (old mid new : List ℕ) (slot end : ℕ) (xs ys : List ℕ) → Wrote old mid slot xs → end ≡ slot + length xs → Wrote mid new end ys → Wrote old new slot (xs ++ ys)
wrote_more old mid new slot end xs ys w e v =
    record {
      puts =
          λ front gone back h lf lg small.
          let long : length (xs ++ ys) ≡ length xs + length ys = length-append xs ys in
          let c = cut gone (length xs) (length ys) (lg ∙ long) in
          let one : mid ≡ front ++ (xs ++ (c.right ++ back)) =
          w.puts front c.left (c.right ++ back) (h ∙ ap (λ g. front ++ (g ++ back)) c.is ∙ ap (λ g. front ++ g) (append_assoc c.left c.right back)) lf c.first (omega arith) in
          let two : new ≡ (front ++ xs) ++ (ys ++ back) =
          v.puts (front ++ xs) c.right back (one ∙ sym (append_assoc front xs (c.right ++ back))) (length-append front xs ∙ (omega arith)) c.second (omega arith) in
          two ∙ append_assoc front xs (ys ++ back) ∙ ap (λ g. front ++ g) (sym (append_assoc xs ys back));
    }

-- An item right before those written.
pub wrote_head : (old mid new : List ℕ) (slot made item : ℕ) (xs : List ℕ) → Wrote old mid (slot + 1) xs → Wrote mid new slot (made ∷ []) → (length xs < item_limit → made ≡ item)
    → Wrote old new slot (item ∷ xs)
wrote_head old mid new slot made item xs w v right =
    record { puts = λ front gone back h lf lg small. go front gone back h lf lg small }
  where
    go : (front gone back : List ℕ) → old ≡ front ++ (gone ++ back) → length front ≡ slot → length gone ≡ suc (length xs) → suc (length xs) ≤ item_limit → new ≡ front ++ ((item ∷ xs) ++ back)
    go front [] back h lf lg small = absurd (omega arith)
    go front (g ∷ gs) back h lf lg small =
        let one : mid ≡ (front ++ (g ∷ [])) ++ (xs ++ back) =
        w.puts (front ++ (g ∷ [])) gs back (h ∙ sym (append_assoc front (g ∷ []) (gs ++ back))) (length-append front (g ∷ []) ∙ (omega arith)) (omega arith) (omega arith) in
        let two : new ≡ front ++ ((made ∷ []) ++ (xs ++ back)) = v.puts front (g ∷ []) (xs ++ back) (one ∙ append_assoc front (g ∷ []) (xs ++ back)) lf refl (omega arith) in
        two ∙ ap (λ (i : ℕ). front ++ ((i ∷ xs) ++ back)) (right (omega arith))

-- Operators before a run.
pub wrote_grouped : (old mid new : List ℕ) (slot end count item : ℕ) (raw : List ℕ) → Wrote old mid slot raw → end ≡ slot + length raw → Grouped mid new slot end count item
    → Wrote old new slot (replicate count item ++ raw)
wrote_grouped old mid new slot end count item raw w e v =
    record {
      puts =
          λ front gone back h lf lg small.
          let long : length (replicate count item ++ raw) ≡ count + length raw = length-append (replicate count item) raw ∙ ap (λ (n : ℕ). n + length raw) (length-replicate count item) in
          let c = cut gone (length raw) count (lg ∙ long ∙ (omega arith)) in
          let one : mid ≡ front ++ (raw ++ (c.right ++ back)) =
          w.puts front c.left (c.right ++ back) (h ∙ ap (λ g. front ++ (g ++ back)) c.is ∙ ap (λ g. front ++ g) (append_assoc c.left c.right back)) lf c.first (omega arith) in
          v.puts front raw c.right back one lf (sym e) c.second ∙ ap (λ g. front ++ g) (sym (append_assoc (replicate count item) raw back));
    }

-- One item put at its slot, where there is one.
pub put_there : (old new : List ℕ) (slot item : ℕ) → new ≡ set old slot item → Wrote old new slot (item ∷ [])
put_there old new slot item is = record { puts = λ front gone back h lf lg small. go front gone back h lf lg }
  where
    go : (front gone back : List ℕ) → old ≡ front ++ (gone ++ back) → length front ≡ slot → length gone ≡ 1 → new ≡ front ++ ((item ∷ []) ++ back)
    go front [] back h lf lg = absurd (omega arith)
    go front (g ∷ gs) back h lf lg =
        is ∙ ap (λ l. set l slot item) (h ∙ ap (λ t. front ++ ((g ∷ t) ++ back)) (nil gs (omega arith))) ∙ set_at front g back item slot lf

long_enough : (old front gone back : List ℕ) → old ≡ front ++ (gone ++ back) → length front + length gone ≤ length old
long_enough old front gone back h = omega (arith, ap length h, length-append front (gone ++ back), length-append gone back)

pub put_past : (old : List ℕ) (slot item : ℕ) → length old ≤ slot → Wrote old old slot (item ∷ [])
put_past old slot item l = record { puts = λ front gone back h lf lg small. absurd (omega (arith, long_enough old front gone back h)) }

-- MOVING, from the end back: what is left to move, and what has moved past the gap.
pub record Half (out front raw back : List ℕ) (slot count i : ℕ) : Type 0 where
  pub still : List ℕ
  pub gap : List ℕ
  pub moved : List ℕ
  pub both : raw ≡ still ++ moved
  pub is : out ≡ front ++ (still ++ (gap ++ (moved ++ back)))
  pub from : slot + length still ≡ i
  pub wide : length gap ≡ count

pub record Moving (old out : List ℕ) (slot end count i : ℕ) : Type 0 where
  pub puts : (front raw gone back : List ℕ) → old ≡ front ++ (raw ++ (gone ++ back)) → length front ≡ slot → slot + length raw ≡ end → length gone ≡ count
      → Half out front raw back slot count i

pub moving_starts : (old : List ℕ) (slot end count : ℕ) → Moving old old slot end count end
moving_starts old slot end count =
    record {
      puts =
          λ front raw gone back h lf lr lg. record { still = raw; gap = gone; moved = []; both = sym (append-nil raw); is = h; from = lr; wide = lg };
    }

pub moving_more : (old out new : List ℕ) (slot end count i : ℕ) → slot < i → 0 < count → Moving old out slot end count i → new ≡ set out (i - 1 + count) (get_or out (i - 1) 0)
    → Moving old new slot end count (i - 1)
moving_more old out new slot end count i l z m is =
    record {
      puts =
          λ front raw gone back h lf lr lg.
          let p = m.puts front raw gone back h lf lr lg in
          let s = last_of p.still (i - 1 - slot) (omega (arith, p.from)) in
          let g = last_of p.gap (count - 1) (omega (arith, p.wide)) in
          let tail = p.moved ++ back in
          let cell : List ℕ = s.last ∷ [] in
          let before = front ++ s.init in
          let out-is : out ≡ before ++ s.last ∷ (p.gap ++ tail) =
          p.is ∙ ap (λ t. front ++ (t ++ (p.gap ++ tail))) s.is ∙ ap (λ t. front ++ t) (append_assoc s.init cell (p.gap ++ tail)) ∙ sym (append_assoc front s.init (cell ++ (p.gap ++ tail))) in
          let there : length before ≡ i - 1 = length-append front s.init ∙ (omega (arith, s.long)) in
          let read : get_or out (i - 1) 0 ≡ s.last = ap (λ o. get_or o (i - 1) 0) out-is ∙ get_or_at before s.last (p.gap ++ tail) 0 (i - 1) there in
          let upto = before ++ s.last ∷ g.init in
          let out-as : out ≡ upto ++ g.last ∷ tail =
          out-is ∙ ap (λ t. before ++ s.last ∷ (t ++ tail)) g.is ∙ ap (λ t. before ++ s.last ∷ t) (append_assoc g.init (g.last ∷ []) tail) ∙ sym (append_assoc before (s.last ∷ g.init) (g.last ∷ tail)) in
          let far : length upto ≡ i - 1 + count = length-append before (s.last ∷ g.init) ∙ (omega (arith, there, g.long)) in
          let new_is : new ≡ upto ++ s.last ∷ tail =
          is ∙ ap₂ (λ o x. set o (i - 1 + count) x) out-as read ∙ set_at upto g.last tail s.last (i - 1 + count) far in
          record {
            still = s.init;
            gap = s.last ∷ g.init;
            moved = s.last ∷ p.moved;
            both = p.both ∙ ap (λ t. t ++ p.moved) s.is ∙ append_assoc s.init cell p.moved;
            is = new_is ∙ append_assoc before (s.last ∷ g.init) (s.last ∷ tail) ∙ append_assoc front s.init ((s.last ∷ g.init) ++ s.last ∷ tail);
            from = omega (arith, s.long);
            wide = omega (arith, g.long);
          };
    }

pub moving_ends : (old out : List ℕ) (slot end count i : ℕ) → i ≤ slot → Moving old out slot end count i → Moved old out slot end count
moving_ends old out slot end count i l m =
    record {
      puts =
          λ front raw gone back h lf lr lg.
          let p = m.puts front raw gone back h lf lr lg in
          let none : p.still ≡ [] = nil p.still (omega (arith, p.from)) in
          record {
            gap = p.gap;
            is = p.is ∙ ap (λ t. front ++ (t ++ (p.gap ++ (p.moved ++ back)))) none ∙ ap (λ t. front ++ (p.gap ++ (t ++ back))) (sym (p.both ∙ ap (λ t. t ++ p.moved) none));
            wide = p.wide;
          };
    }

-- GROUPING.
pub grouped_none : (old : List ℕ) (slot end count item : ℕ) → count ≡ 0 → Grouped old old slot end count item
grouped_none old slot end count item z =
    record {
      puts =
          λ front raw gone back h lf lr lg.
          h ∙ ap (λ t. front ++ (raw ++ (t ++ back))) (nil gone (lg ∙ z)) ∙ ap (λ n. front ++ (replicate n item ++ (raw ++ back))) (sym z);
    }

pub grouped_short : (old : List ℕ) (slot end count item : ℕ) → length old < end + count → Grouped old old slot end count item
grouped_short old slot end count item l =
    record {
      puts =
          λ front raw gone back h lf lr lg.
          absurd (omega (arith, ap length h, length-append front (raw ++ (gone ++ back)), length-append raw (gone ++ back), length-append gone back));
    }

pub grouped_done : (old mid new : List ℕ) (slot end count item : ℕ) → Moved old mid slot end count → new ≡ placed (replicate count item) slot mid → Grouped old new slot end count item
grouped_done old mid new slot end count item m f =
    record {
      puts =
          λ front raw gone back h lf lr lg.
          let p = m.puts front raw gone back h lf lr lg in
          f ∙ placed_cut front p.gap (raw ++ back) (replicate count item) mid slot p.is lf (p.wide ∙ sym (length-replicate count item));
    }

-- THE STEP THAT `//` STANDS FOR, written or not.
pub deep_there : (old new : List ℕ) (slot made : ℕ) (deep : Bool) → deep ≡ true → (0 < count_bound → made ≡ deep_item) → Wrote old new slot (made ∷ [])
    → (Wrote old new slot (deep_items deep)) × (slot + 1 ≡ slot + length (deep_items deep))
deep_there old new slot made deep d right w = rw d (subst (λ (i : ℕ). Wrote old new slot (i ∷ [])) (right (omega arith)) w, refl)

pub deep_past : (old new : List ℕ) (slot : ℕ) (deep : Bool) → deep ≡ true → (length old < slot + 1 → new ≡ old) → length old < slot + length (deep_items deep) → new ≡ old
deep_past old new slot deep d stays = rw d stays

pub deep_not : (old : List ℕ) (slot : ℕ) (deep : Bool) → deep ≡ false → (Wrote old old slot (deep_items deep)) × (slot ≡ slot + length (deep_items deep))
deep_not old slot deep d = rw d (wrote_nothing old slot, omega arith)
