-- What an accepted call of an entry point answers and writes: the number of what it writes, which stands at the start. By 01's lines. Assumes nothing.
use Prim.Native.Nat.{ℕ, ◌≤◌}
use native.Mathlib.Omega.{arith}
use mathlib.Core.Path.{◌≡◌, sym, ◌∙◌, ap}
use mathlib.Core.Bool.{Bool, false, ◌||◌}
use mathlib.Core.List.{List}
use mathlib.Core.Option.{Option, none, some}
use lib.Dec.{ltb}
use lib.ListN.{length, take, drop, length-append}
use lib.Seq.{take_at}
use borrow.Author.Tests.{ltb-false}
use Rattle.paper.specs.Tools.{when, written}
use Rattle.paper.specs.Limits.{item_limit, text_limit, list_limit, bracket_limit}
use Rattle.paper.specs.Query.{Query}
use Rattle.paper.specs.Reading.{Got, got, refused, read_text}
use Rattle.paper.specs.Names.{names_fault, names_of, number_of}
use Rattle.paper.specs.Items.{decode}
use Rattle.paper.specs.Measures.{size, nesting}
use Rattle.paper.specs.Printing.{printed}
use Rattle.paper.specs.Answers.{Answer, value, refusal, line, line_query, line_got, too_long, short, short_of_items, any_name, unknown_from, items_got, read_answer, read_items, read_out, at_exit, made_got, composing_answer, composing_out, print_answer, text_got, print_out}
use Rattle.paper.proofs.Refusing.{line_value, when_none, or_none}
use Rattle.paper.proofs.Sizes.{size_items}

-- What is answered where a number is needed and there is room for it.
needed_value : (room needed n : ℕ) (b : Bool) → (b ≡ false → needed ≤ room) → line 10 (when b needed) (value needed) ≡ value n → (n ≡ needed) × (needed ≤ room)
needed_value room needed n b fits h =
    let both = line_value 10 n (when b needed) (value needed) h in
    let same : needed ≡ n = ap number_of_value both.1 in
    (sym same, fits (when_none b needed both.0))
  where
    number_of_value : Answer → ℕ
    number_of_value (value n) = n
    number_of_value (refusal number place) = 0

bytes_value : (room needed n : ℕ) → line 10 (short room needed) (value needed) ≡ value n → (n ≡ needed) × (needed ≤ room)
bytes_value room needed n h = needed_value room needed n (ltb room needed) (ltb-false room needed) h

items_value : (room needed n : ℕ) → line 10 (short_of_items room needed) (value needed) ≡ value n → (n ≡ needed) × (needed ≤ room)
items_value room needed n h =
    needed_value room needed n (ltb room needed || ltb item_limit needed) (λ e. ltb-false room needed (or_none (ltb room needed) (ltb item_limit needed) e).0) h

-- What is answered after a text was read.
got_value : (n : ℕ) (g : Got Query) (later : Answer) → line_got g (λ q. later) ≡ value n → later ≡ value n
got_value n (refused number place) later h = absurd (let z : ◌≡◌ {A = ℕ} 0 1 = cc in omega arith)
got_value n (got q left) later h = h

-- So many items or bytes are written, and there is room for them.
abbrev Fits : List ℕ → ℕ → ℕ → Type 0
Fits new n room = (n ≡ length new) × (n ≤ room)

-- The last lines of reading, then of composing, then of printing.
read_lines : (n room : ℕ) (g : Got Query) → line_got g (λ q. line 10 (short_of_items room (size q)) (value (size q))) ≡ value n → Fits (items_got g) n room
read_lines n room (refused number place) h = absurd (let z : ◌≡◌ {A = ℕ} 0 1 = cc in omega arith)
read_lines n room (got q left) h = let e = items_value room (size q) n h in (omega (arith, size_items q), omega arith)

-- The lines of composing after both queries were there, in any way of composing.
module _ (makes : Query → Query → Query) where
  abbrev composed_lines : ℕ → Query → Query → Answer
  composed_lines room a b =
      line 9 (when (ltb bracket_limit (nesting (makes a b))) (nesting (makes a b)))
      (line 10 (short_of_items room (size (makes a b))) (value (size (makes a b))))

  compose_lines : (n room : ℕ) (o i : Option Query) → line_query 6 0 o (λ a. line_query 6 1 i (composed_lines room a)) ≡ value n → Fits (made_got makes o i) n room
  compose_lines n room none i h = absurd (let z : ◌≡◌ {A = ℕ} 0 1 = cc in omega arith)
  compose_lines n room (some a) none h = absurd (let z : ◌≡◌ {A = ℕ} 0 1 = cc in omega arith)
  compose_lines n room (some a) (some b) h =
      let q = makes a b in
      let e = items_value room (size q) n (line_value 9 n (when (ltb bracket_limit (nesting q)) (nesting q)) (line 10 (short_of_items room (size q)) (value (size q))) h).1 in
      (omega (arith, size_items q), omega arith)

print_lines : (n room : ℕ) (brief : Bool) (names : List (List ℕ)) (unknown : Option ℕ) (o : Option Query)
    → line_query 6 0 o (λ q. line 5 unknown (line 10 (short room (length (printed brief names q))) (value (length (printed brief names q))))) ≡ value n → Fits (text_got brief names o) n room
print_lines n room brief names unknown none h = absurd (let z : ◌≡◌ {A = ℕ} 0 1 = cc in omega arith)
print_lines n room brief names unknown (some q) h =
    let text = length (printed brief names q) in
    let e = bytes_value room text n (line_value 5 n unknown (line 10 (short room text) (value text)) h).1 in
    (omega arith, omega arith)

-- An accepted call that answered n: there was room for so much, and that stands at the start of what was lent.
pub record Gives (new : List ℕ) (n room : ℕ) (out : List ℕ) : Type 0 where
  pub fits : n ≤ room
  pub inside : n ≤ length out
  pub counts : n ≡ length (take n out)
  pub starts : take n out ≡ new

module _ (n : ℕ) (old out : List ℕ) where
  gives : (new : List ℕ) → Fits new n (length old) → out ≡ written new old → Gives new n (length old) out
  gives new f w =
      let starts : take n out ≡ new = rw w (take_at new (drop (length new) old) n (sym f.0)) in
      record {
        fits = f.1;
        inside = omega (arith, f.0, ap length w, length-append new (drop (length new) old));
        counts = f.0 ∙ sym (ap length starts);
        starts = starts;
      }

  pub read_gives : (text list : List ℕ) → value n ≡ read_answer text 1 list (length old) → out ≡ read_out text 1 list old → Gives (read_items text 1 list) n (length old) out
  unfolding read_answer read_items read_out
  read_gives text list e w =
      let second = (line_value 1 n (when (too_long text text_limit || too_long list list_limit || false) 0) _ (sym e)).1 in
      let third = (line_value 2 n (names_fault list) _ second).1 in
      gives (read_items text 1 list) (read_lines n (length old) (read_text false (number_of (names_of list)) text) (got_value n (read_text false any_name text) _ third)) (rw (sym e) at w)

  pub composing_gives : (makes : Query → Query → Query) (outer inner : List ℕ) → value n ≡ composing_answer makes outer inner (length old) → out ≡ composing_out makes outer inner old
      → Gives (made_got makes (decode outer) (decode inner)) n (length old) out
  composing_gives makes outer inner e w =
      let later = (line_value 1 n (when (too_long outer item_limit || too_long inner item_limit) 0) _ (sym e)).1 in
      gives (made_got makes (decode outer) (decode inner)) (compose_lines makes n (length old) (decode outer) (decode inner) later)
      (w ∙ ap (λ (a : Answer). at_exit a (made_got makes (decode outer) (decode inner)) old) (sym e))

  pub print_gives : (brief : Bool) (query list : List ℕ) → value n ≡ print_answer brief query list (length old) → out ≡ print_out brief query list old
      → Gives (text_got brief (names_of list) (decode query)) n (length old) out
  unfolding print_answer print_out
  print_gives brief query list e w =
      let second = (line_value 1 n (when (too_long query item_limit || too_long list list_limit) 0) _ (sym e)).1 in
      let third = (line_value 2 n (names_fault list) _ second).1 in
      gives (text_got brief (names_of list) (decode query)) (print_lines n (length old) brief (names_of list) (unknown_from (length (names_of list)) 0 query) (decode query) third) (rw (sym e) at w)
