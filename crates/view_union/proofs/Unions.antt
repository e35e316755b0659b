-- The union of a role's views as it is gathered: what is done, with the views that are left, is the whole. By what is left of the views. Assumes nothing.
use Prim.Native.Nat.{ℕ, suc, ◌+◌, ◌*◌, ◌/◌, ◌%◌, ◌≤◌, ◌<◌}
use native.Mathlib.Omega.{arith}
use native.Mathlib.Numerals.{add-one}
use mathlib.Core.Path.{◌≡◌, refl, sym, ◌∙◌, ap, ap₂}
use mathlib.Core.Bool.{Bool, true, false, cond}
use mathlib.Core.List.{List, [], ◌∷◌, ◌++◌, append_assoc, append-nil}
use mathlib.Core.Option.{Option, none, some}
use lib.Dec.{eqb}
use lib.ListN.{length, take, drop, get_or, length-append, length-drop, drop_of_length-le}
use lib.Seq.{drop-cons, drop-drop, take_at}
use borrow.Author.Tests.{ne_eqb, eq-eqb}
use Rattle.paper.specs.Tools.{written}
use Rattle.paper.specs.Limits.{text_limit, item_limit}
use Rattle.paper.specs.Program.{first_line, after_line}
use Rattle.paper.specs.Answers.{Answer, value, refusal, at_exit, read_answer, read_items, read_out}
use Rattle.paper.specs.Roles.{views_of, bit, chosen, is_refused, unread, first_unread, union_items, role_union}
use Rattle.paper.proofs.Giving.{Gives, read_gives}
use Rattle.item.specs.Placed.{placed}
use Rattle.item.proofs.Placing.{take_placed, length_placed}
use Rattle.lines.specs.Lines.{Ends}
use Rattle.view_union.specs.Gathering.{Holds, named_items, Joins}
use Rattle.view_union.proofs.Viewing.{said, said_first, views_are}

-- JOINING. A view that is not named changes nothing;
pub join_none : (items old : List ℕ) (mask size : ℕ) → mask % 2 ≡ 0 → Joins items mask old size old size
join_none items old mask size e =
    let other : eqb (mask % 2) 1 ≡ false = ne_eqb (mask % 2) 1 (omega (arith, e)) in
    let none_named : named_items mask items ≡ [] = rw other in
    record {
      holds = λ done h. rw (none_named, append-nil done) h;
      room = refl;
    }

module _ (items old : List ℕ) (mask size : ℕ) (named : (mask % 2 ≡ 0 → ⊥)) where
  all_named : named_items mask items ≡ items
  all_named =
      let one : mask % 2 ≡ 1 = omega (arith, named) in
      let this : eqb (mask % 2) 1 ≡ true = eq-eqb (mask % 2) 1 one in
      rw this

  -- one for which there is no room is counted;
  pub join_over : length old < size + length items → Joins items mask old size old (size + length items)
  join_over l =
      record {
        holds = λ done h. rw all_named (record { counts = omega (arith, h.counts, length-append done items); stands = λ f. absurd (omega arith) });
        room = refl;
      }

  -- another is put behind what is there.
  pub join_some : (new : List ℕ) → size + length items ≤ length old → new ≡ placed items size old → Joins items mask old size new (size + length items)
  join_some new l w =
      let same : length new ≡ length old = ap length w ∙ length_placed items old size l in
      record {
        holds = λ done h. rw all_named
            (record {
              counts = omega (arith, h.counts, length-append done items);
              stands = λ f. ap (take (size + length items)) w ∙ take_placed items old size (omega arith) ∙ ap (λ front. front ++ items) (h.stands (omega arith));
            });
        room = same;
      }

-- READING A VIEW leaves the room as long as it was.
pub read_length : (text list old out : List ℕ) → out ≡ read_out text 1 list old → length out ≡ length old
unfolding read_out
read_length text list old out w = go (read_answer text 1 list (length old)) refl
  where
    go : (a : Answer) → read_answer text 1 list (length old) ≡ a → length out ≡ length old
    go (refusal number place) e = ap length (rw e at w)
    go (value n) e =
        let g = read_gives n old out text list (sym e) w in
        let w' : out ≡ written (read_items text 1 list) old = rw e at w in
        let long : n ≡ length (read_items text 1 list) = g.counts ∙ ap length g.starts in
        omega (arith, long, g.fits, ap length w', length-append (read_items text 1 list) (drop (length (read_items text 1 list)) old), length-drop (length (read_items text 1 list)) old)

-- Where a view is answered with a value it can be read, and where it is refused it can't.
pub can_read : (list view : List ℕ) (n : ℕ) → value n ≡ read_answer view 1 list item_limit → unread list view ≡ false
can_read list view n e = ap is_refused (sym e)

pub can_not : (list view : List ℕ) (number place : ℕ) → refusal number place ≡ read_answer view 1 list item_limit → unread list view ≡ true
can_not list view number place e = ap is_refused (sym e)

-- GATHERING. So many views are read, the union of those that the mask names is `done`, and the views left give the rest.
pub record Gathering (views list : List ℕ) (mask : ℕ) (spare room : List ℕ) (at view left size : ℕ) : Type 0 where
  pub inside : at ≤ suc (length views)
  pub few : view ≤ at
  pub small : size ≤ item_limit * view
  pub spare_long : length spare ≡ item_limit
  pub room_long : length room ≡ item_limit
  pub read_on : first_unread list 0 (views_of views) ≡ first_unread list view (said (drop at views))
  pub done : List ℕ
  pub holds : Holds done room size
  pub goes_on : role_union views list mask ≡ done ++ union_items list (chosen (bit left) (said (drop at views)))

pub begin : (views list : List ℕ) (mask : ℕ) (spare room : List ℕ) → length spare ≡ item_limit → length room ≡ item_limit → Gathering views list mask spare room 0 0 mask 0
unfolding role_union
begin views list mask spare room s l =
    record {
      inside = omega arith;
      few = omega arith;
      small = omega arith;
      spare_long = s;
      room_long = l;
      read_on = ap (first_unread list 0) (views_are views);
      done = [];
      holds = record { counts = refl; stands = λ f. refl };
      goes_on = ap (λ vs. union_items list (chosen (bit mask) vs)) (views_are views);
    }

-- One view that is named or not, before the others.
chosen_union : (list view : List ℕ) (left : ℕ) (views : List (List ℕ))
    → union_items list (chosen (bit left) (view ∷ views)) ≡ named_items left (read_items view 1 list) ++ union_items list (chosen (bit (left / 2)) views)
chosen_union list view left views = go (bit left 0) refl
  where
    go : (t : Bool) → bit left 0 ≡ t
        → union_items list (cond (bit left 0) (view ∷ chosen (bit (left / 2)) views) (chosen (bit (left / 2)) views))
        ≡ cond (bit left 0) (read_items view 1 list) [] ++ union_items list (chosen (bit (left / 2)) views)
    go true p = rw p
    go false p = rw p

module _ (views list : List ℕ) (mask : ℕ) (spare room : List ℕ) (at view left size : ℕ) (g : Gathering views list mask spare room at view left size)
    (more : at < length views) (end : ℕ) (ends : Ends (drop at views) end) where
  -- The first view that is left, and those after it.
  left_views : said (drop at views) ≡ take end (drop at views) ∷ said (drop (at + (end + 1)) views)
  left_views =
      let e = drop-cons views at 0 more in
      let first : said (drop at views) ≡ first_line (drop at views) ∷ said (after_line (drop at views)) = rw e (said_first (get_or views at 0) (drop (suc at) views)) in
      let further : at + suc end ≡ at + (end + 1) = omega arith in
      let far : drop (suc end) (drop at views) ≡ drop (at + (end + 1)) views = drop-drop (suc end) at views ∙ ap (λ k. drop k views) further in
      first ∙ ap₂ (λ l r. l ∷ said r) (sym ends.says) (sym ends.rest ∙ far)

  -- It can't be read.
  pub stops : unread list (take end (drop at views)) ≡ true → first_unread list 0 (views_of views) ≡ some view
  stops u = g.read_on ∙ ap (first_unread list view) left_views ∙ rw u

  -- It is read, and its items join the union.
  pub turn : (spare' room' items : List ℕ) (size' : ℕ) → unread list (take end (drop at views)) ≡ false → length spare' ≡ item_limit
      → items ≡ read_items (take end (drop at views)) 1 list → length items ≤ item_limit → Joins items left room size room' size'
      → Gathering views list mask spare' room' (at + (end + 1)) (view + 1) (left / 2) size'
  turn spare' room' items size' u s i few j =
      let h = j.holds g.done g.holds in
      let line = take end (drop at views) in
      let rest = said (drop (at + (end + 1)) views) in
      record {
        inside = omega (arith, ends.within, length-drop at views);
        few = omega (arith, g.few);
        small = grown_few;
        spare_long = s;
        room_long = j.room ∙ g.room_long;
        read_on = g.read_on ∙ ap (first_unread list view) left_views ∙ rw (u, add-one view);
        done = g.done ++ named_items left items;
        holds = h;
        goes_on =
            g.goes_on ∙
            ap (λ vs. g.done ++ union_items list (chosen (bit left) vs)) left_views ∙
            ap (λ l. g.done ++ l) (chosen_union list line left rest ∙ ap (λ x. named_items left x ++ union_items list (chosen (bit (left / 2)) rest)) (sym i)) ∙
            sym (append_assoc g.done (named_items left items) (union_items list (chosen (bit (left / 2)) rest)));
      }
    where
      named_few : length (named_items left items) ≤ item_limit
      named_few = go (bit left 0) refl
        where
          go : (t : Bool) → bit left 0 ≡ t → length (cond (bit left 0) items []) ≤ item_limit
          go true p = rw p few
          go false p = rw p (omega arith)

      grown_few : size' ≤ item_limit * (view + 1)
      grown_few =
          omega (arith, (j.holds g.done g.holds).counts, length-append g.done (named_items left items), g.holds.counts, g.small, named_few)

-- Where no view is left, all is gathered.
pub gathered : (views list : List ℕ) (mask : ℕ) (spare room : List ℕ) (at view left size : ℕ) → Gathering views list mask spare room at view left size → length views ≤ at
    → (first_unread list 0 (views_of views) ≡ none) × Holds (role_union views list mask) room size × (length room ≡ item_limit) × (length spare ≡ item_limit)
gathered views list mask spare room at view left size g l =
    let end : drop at views ≡ [] = drop_of_length-le views l in
    let whole : role_union views list mask ≡ g.done = g.goes_on ∙ ap (λ bs. g.done ++ union_items list (chosen (bit left) (said bs))) end ∙ append-nil g.done in
    (g.read_on ∙ ap (λ bs. first_unread list view (said bs)) end, rw whole g.holds, g.room_long, g.spare_long)
