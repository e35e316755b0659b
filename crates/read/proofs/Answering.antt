-- What is measured and kept of a text, and the answers of the whole reader. Assumes nothing.
use Prim.Native.Nat.{ℕ, ◌≤◌, ◌<◌}
use native.Mathlib.Omega.{arith}
use mathlib.Core.Path.{◌≡◌, refl, sym, ◌∙◌, ap}
use mathlib.Core.Bool.{Bool, true, false}
use mathlib.Core.List.{List, [], ◌++◌}
use mathlib.Core.Option.{Option, none, some}
use lib.ListN.{length, take, drop, take-append-drop}
use lib.Seq.{length-take-le, take_at}
use borrow.Author.Tests.{lt-ltb, le-ltb}
use Rattle.paper.specs.Tools.{written}
use Rattle.paper.specs.Tokens.{Placed}
use Rattle.paper.specs.Limits.{text_limit, list_limit, item_limit}
use Rattle.paper.specs.Names.{names_fault, names_of, number_of}
use Rattle.paper.specs.Query.{Query}
use Rattle.paper.specs.Items.{encode}
use Rattle.paper.specs.Measures.{size}
use Rattle.paper.specs.Reading.{Got, got, refused, read_text}
use Rattle.paper.specs.Answers.{value, refusal, line, line_got, is_newer, no_version, any_name, short_of_items, read_last, read_answer, items_got, read_items, read_out, at_exit}
use Rattle.paper.specs.Answers.{Answer as Told}
use Rattle.std.specs.Prelude.{Result, Ok, Err}
use Rattle.paper.specs.Told.{told, told_refusal}
use Rattle.paper.specs.declared.Refusal.{Refusal}
use Rattle.paper.specs.declared.Refusal.TheVariants.{TooLong, BadName, Short}
use Rattle.paper.proofs.Sizes.{size_items}
use Rattle.paper.proofs.Refusing.{refused_keeps}
use Rattle.query_refusals.proofs.Exactly.{read_any_names}
use Rattle.item.specs.Placed.{placed}
use Rattle.item.proofs.Placing.{placed_first}
use Rattle.read_paths.specs.declared.Part.{Part}
use Rattle.heads.specs.Heads.{Refused}
use Rattle.read_paths.specs.Parts.{ReadsAll, Whole}
use Rattle.read.specs.Parts.{Sized, Measures, Kept}

-- MEASURING: size is the number of items.
pub whole_sized : (old new : List ℕ) (o : Got Query) (end : ℕ) → Whole old new o end → Sized o end
whole_sized old new o end w = record { what = w.what; left = w.left; reads = w.reads; ends = w.ends ∙ size_items w.what }

pub measured : (old new : List ℕ) (o : Got Query) (part : Part) → ReadsAll old new o (Ok part) → Measures o (Ok part.end)
measured old new o part w = whole_sized old new o part.end w

pub measured_refusal : (old new : List ℕ) (o : Got Query) (why : Refusal) → ReadsAll old new o (Err why) → Measures o (Err why)
measured_refusal old new o why w = w

-- THE ANSWER.
pub refused_told : (o : Got Query) (why : Refusal) (later : Query → Told) → Refused o why → told_refusal why ≡ line_got o later
refused_told o why later r = r.told ∙ rw r.is

abbrev last_line : ℕ → Query → Told
last_line room q = line 10 (short_of_items room (size q)) (value (size q))

pub goes_later : (o : Got Query) (end : ℕ) (later : Told) → Sized o end → later ≡ line_got o (λ q. later)
goes_later o end later m = rw m.reads

-- What is read with the names of a list is read with any names.
pub any_later : (newer : Bool) (look : List ℕ → Option ℕ) (text : List ℕ) (end : ℕ) (later : Told) → Sized (read_text newer look text) end → later ≡ line_got (read_text newer any_name text) (λ q. later)
any_later newer look text end later m = sym (ap (λ o. line_got o (λ q. later)) (read_any_names newer look text m.what m.left m.reads).1)

module _ (o : Got Query) (room end : ℕ) (m : Sized o end) where
  pub short_room : room < end → told (Err (Short end)) ≡ line_got o (last_line room)
  short_room l = rw (m.reads, ← m.ends, lt-ltb room end l)

  pub over_items : end ≤ room → item_limit < end → told (Err (Short end)) ≡ line_got o (last_line room)
  over_items f l = rw (m.reads, ← m.ends, le-ltb room end f, lt-ltb item_limit end l)

  pub enough_room : end ≤ room → end ≤ item_limit → told (Ok end) ≡ line_got o (last_line room)
  enough_room f l = rw (m.reads, ← m.ends, le-ltb room end f, le-ltb item_limit end l)

-- READ: the lines in their order.
module _ (text : List ℕ) (version : ℕ) (list : List ℕ) (room : ℕ) where
  pub text_long : text_limit < length text → told (Err TooLong) ≡ read_answer text version list room
  unfolding read_answer
  text_long l = rw (lt-ltb text_limit (length text) l)

  pub list_long : length text ≤ text_limit → list_limit < length list → told (Err TooLong) ≡ read_answer text version list room
  unfolding read_answer
  list_long t l = rw (le-ltb text_limit (length text) t, lt-ltb list_limit (length list) l)

  module _ (t : length text ≤ text_limit) (l : length list ≤ list_limit) where
    pub no-version : no_version version ≡ true → told (Err TooLong) ≡ read_answer text version list room
    unfolding read_answer
    no-version v = rw (le-ltb text_limit (length text) t, le-ltb list_limit (length list) l, v)

    module _ (v : no_version version ≡ false) where
      pub bad_list : (start : ℕ) → names_fault list ≡ some start → told (Err (BadName start)) ≡ read_answer text version list room
      unfolding read_answer
      bad_list start h = rw (le-ltb text_limit (length text) t, le-ltb list_limit (length list) l, v, h)

      pub good_list : names_fault list ≡ none
          → line_got (read_text (is_newer version) any_name text) (λ q. read_last (is_newer version) text list room) ≡ read_answer text version list room
      unfolding read_answer
      good_list h = rw (le-ltb text_limit (length text) t, le-ltb list_limit (length list) l, v, h)

-- A refused call leaves what is lent as it was.
pub kept : (text : List ℕ) (version : ℕ) (list old : List ℕ) (why : Refusal) → told (Err why) ≡ read_answer text version list (length old) → old ≡ read_out text version list old
unfolding read_out
kept text version list old why h = sym (ap (λ x. at_exit x (read_items text version list) old) (sym h) ∙ refused_keeps why (read_items text version list) old)

pub kept_refusal : (text : List ℕ) (version : ℕ) (list old : List ℕ) (number place : ℕ) → refusal number place ≡ read_answer text version list (length old) → old ≡ read_out text version list old
unfolding read_out
kept_refusal text version list old number place h = ap (λ x. at_exit x (read_items text version list) old) h

-- A query was read that fits.
record Fits (o : Got Query) (room : ℕ) : Type 0 where
  pub what : Query
  pub left : List Placed
  pub reads : o ≡ got what left
  pub room_enough : size what ≤ room
  pub few : size what ≤ item_limit

never_refused : (o : Got Query) (room : ℕ) (number place : ℕ) → Fits o room → o ≡ refused number place → ⊥
never_refused o room number place f h = let e : got f.what f.left ≡ refused number place = sym f.reads ∙ h in let z : ◌≡◌ {A = ℕ} 0 1 = cc in omega arith

wrote_all : (o : Got Query) (old new : List ℕ) (r : Result Part Refusal) → Fits o (length old) → ReadsAll old new o r → (items_of : Got Query → List ℕ) → ((q : Query) (left : List Placed) → items_of (got q left) ≡ encode q)
    → new ≡ written (items_of o) old
wrote_all o old new (Ok part) f w items_of is =
    let code = encode w.what in
    let same : got w.what w.left ≡ got f.what f.left = sym w.reads ∙ f.reads in
    let e : w.what ≡ f.what = cc in
    let long : length code ≡ size f.what = size_items w.what ∙ ap size e in
    let room : length code ≤ length old = omega (arith, f.room_enough) in
    w.wrote.puts [] (take (length code) old) (drop (length code) old) (sym (take-append-drop (length code) old)) refl (length-take-le (length code) old room) (omega (arith, f.few)) ∙
    ap (λ x. written x old) (sym (ap items_of w.reads ∙ is w.what w.left))
wrote_all o old new (Err why) f w items_of is = absurd (never_refused o (length old) w.number w.place f w.is)

-- What was kept fits where there is room for so many items.
kept_fits : (few : List ℕ) (o : Got Query) (end room : ℕ) → Kept few o end → end ≤ room → Fits o room
kept_fits few o end room k l =
    let sized = size_items k.what in
    record { what = k.what; left = k.left; reads = k.reads; room_enough = omega (arith, k.ends); few = omega (arith, k.ends, k.limited) }

-- The items that were kept are those of the text,
pub copied : (few old new : List ℕ) (o : Got Query) (end : ℕ) → Kept few o end → end ≤ length few → new ≡ placed (take end few) 0 old → new ≡ written (items_got o) old
copied few old new o end k l w = w ∙ placed_first (take end few) old ∙ ap (λ x. written x old) (k.stands l ∙ sym (ap items_got k.reads))

-- and so are those that are read again.
pub reread : (few old new : List ℕ) (o : Got Query) (end : ℕ) (r : Result Part Refusal) → Kept few o end → end ≤ length old → ReadsAll old new o r → new ≡ written (items_got o) old
reread few old new o end r k l w = wrote_all o old new r (kept_fits few o end (length old) k l) w items_got (λ q left. refl)

-- What was read into the room is kept there.
pub kept_few : (old few : List ℕ) (o : Got Query) (end : ℕ) → length few ≡ length old → Whole old few o end → end ≤ item_limit → Kept few o end
kept_few old few o end e w l =
    let code = encode w.what in
    record {
      what = w.what;
      left = w.left;
      reads = w.reads;
      ends = w.ends;
      limited = l;
      stands =
          λ room.
          let puts : few ≡ code ++ drop end old =
          w.wrote.puts [] (take end old) (drop end old) (sym (take-append-drop end old)) refl (length-take-le end old (omega arith) ∙ w.ends) (omega (arith, w.ends)) in
          ap (take end) puts ∙ take_at code (drop end old) end (sym w.ends);
    }

pub accepted : (text : List ℕ) (version : ℕ) (list old new : List ℕ) (n : ℕ) → read_answer text version list (length old) ≡ value n
    → new ≡ written (items_got (read_text (is_newer version) (number_of (names_of list)) text)) old → new ≡ read_out text version list old
unfolding read_out read_items
accepted text version list old new n a w = w ∙ sym (ap (λ x. at_exit x (items_got (read_text (is_newer version) (number_of (names_of list)) text)) old) a)
