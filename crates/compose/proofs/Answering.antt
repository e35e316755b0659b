-- The brackets of a composition, and the answer line by line. Assumes nothing.
use Prim.Native.Nat.{ℕ, ◌+◌, ◌-◌, ◌*◌, ◌≤◌, ◌<◌, max}
use native.Mathlib.Omega.{arith}
use mathlib.Core.Path.{◌≡◌, refl, sym, ◌∙◌, ap, ap₂}
use mathlib.Core.List.{List, map}
use mathlib.Core.Option.{none, some}
use mathlib.Core.Option as maybe
use lib.Dec.{ltb}
use lib.ListN.{length}
use borrow.Author.Tests.{lt-ltb, le-ltb}
use Rattle.paper.specs.Limits.{bracket_limit, item_limit}
use Rattle.paper.specs.Tools.{written, when}
use Rattle.paper.specs.Query.{Query, paths}
use Rattle.paper.specs.Items.{encode, decode, good}
use Rattle.paper.specs.Measures.{size, nesting}
use Rattle.paper.specs.Answers.{Answer, value, refusal, line, at_exit, short_of_items, made_got, composing_answer, composing_out}
use Rattle.paper.specs.Composition.{guard_depth, selected_size}
use Rattle.paper.specs.Lean.{by_axis, composed_by, composed_size_by, composed_nesting_by}
use Rattle.paper.proofs.Encoding.{encode_decode}
use Rattle.paper.proofs.Sizes.{size_items}
use Rattle.composed_measures.proofs.Nesting.{guards_within}
use Rattle.lean_theorems.proofs.Decided.{depth_by_axis}
use Rattle.lean_theorems.proofs.Smaller.{size_by}
use Rattle.lean_theorems.proofs.Shallower.{nesting_by}
use Rattle.shape.specs.Walks.{shape_of}
use Rattle.shape.specs.declared.Shape.{Shape}
use Rattle.shape.proofs.Shaping.{shape_accepted}
use Rattle.std.specs.Prelude.{Option, Ok}
use Rattle.std.specs.Option.{ok_or}
use Rattle.paper.specs.declared.Refusal.{Refusal}
use Rattle.reverse.specs.Reverses.{IsQuery, selected_got}
use Rattle.reverse.proofs.Selected.{selected_length}
use Rattle.guards.specs.Guarded.{guard_item}
use Rattle.composed.specs.Pieces.{size_got, Says}
use Rattle.compose.specs.Pieces.{Nests, Nested}
use Rattle.composed.proofs.Items.{paths_say}

pub inner_query : (inner : List ℕ) (n : ℕ) → Nested inner n → IsQuery inner
inner_query inner n i = record { query = i.query; decodes = i.decodes }

-- What is nested is nested within the limit.
pub outer_shallow : (outer says : List ℕ) (m d : ℕ) (g : Says outer says) → Nests outer says m d g → m ≤ bracket_limit
outer_shallow outer says m d g o = omega (arith, o.nested, (encode_decode outer g.query g.decodes).nested)

pub inner_shallow : (inner : List ℕ) (n : ℕ) → Nested inner n → n ≤ bracket_limit
inner_shallow inner n i = omega (arith, i.nested, (encode_decode inner i.query i.decodes).nested)

-- What the shape of items says of them.
pub record Shaped (items : List ℕ) (n g : ℕ) : Type 0 where
  pub query : Query
  pub decodes : decode items ≡ some query
  pub nests : n ≡ nesting query
  pub shallow : n ≤ bracket_limit
  pub guards : g ≡ guard_depth query
  pub within : g ≤ n

pub shape_some : (items : List ℕ) (s : Option Shape) (given : Refusal) (found : Shape) → s ≡ shape_of (decode items) → Ok found ≡ ok_or s given → Shaped items found.nesting found.guards
shape_some items s given found e f =
    let q = shape_accepted (decode items) s given found e f in
    record {
      query = q.query;
      decodes = q.decodes;
      nests = q.nests;
      shallow = omega (arith, q.nests, (encode_decode items q.query q.decodes).nested);
      guards = q.guards;
      within = omega (arith, q.nests, q.guards, guards_within q.query);
    }

pub is_query : (items : List ℕ) (n g : ℕ) → Shaped items n g → IsQuery items
is_query items n g s = record { query = s.query; decodes = s.decodes }

pub inner_nests : (items : List ℕ) (n g : ℕ) → Shaped items n g → Nested items n
inner_nests items n g s = record { query = s.query; decodes = s.decodes; nested = s.nests }

-- By their own axes the items of a query say what `by_axis` says.
module _ (items : List ℕ) (n g : ℕ) (s : Shaped items n g) where
  unfoldable pub own_axes : Says items items
  unfolding encode good
  own_axes =
      let d = encode_decode items s.query s.decodes in
      record { decides = by_axis; query = s.query; decodes = s.decodes; flags = ap (map guard_item) d.items ∙ paths_say (paths s.query) d.fine }

  pub own_nests : Nests items items n g own_axes
  unfolding own_axes
  own_nests = record { nested = s.nests; within = s.within; deep = s.guards ∙ sym (depth_by_axis s.query) }

-- Any way to make one query of two.
module _ (makes : Query → Query → Query) where
  -- A refused call leaves the output as it was; an accepted one writes the items.
  pub refused : (outer inner out : List ℕ) (number place : ℕ) → composing_answer makes outer inner (length out) ≡ refusal number place
      → (refusal number place ≡ composing_answer makes outer inner (length out)) × (out ≡ composing_out makes outer inner out)
  refused outer inner out number place e = (sym e, ap (λ (a : Answer). at_exit a (made_got makes (decode outer) (decode inner)) out) (sym e))

  pub accepted : (outer inner old out : List ℕ) (n : ℕ) → composing_answer makes outer inner (length old) ≡ value n → out ≡ written (made_got makes (decode outer) (decode inner)) old
      → (value n ≡ composing_answer makes outer inner (length old)) × (out ≡ composing_out makes outer inner old)
  accepted outer inner old out n e w = (sym e, w ∙ ap (λ (a : Answer). at_exit a (made_got makes (decode outer) (decode inner)) old) (sym e))

  -- THE ANSWER, line by line.
  module _ (outer inner : List ℕ) (room : ℕ) where
    pub line_1_outer : item_limit < length outer → composing_answer makes outer inner room ≡ refusal 1 0
    line_1_outer h = rw (lt-ltb item_limit (length outer) h)

    pub line_1_inner : length outer ≤ item_limit → item_limit < length inner → composing_answer makes outer inner room ≡ refusal 1 0
    line_1_inner a h = rw (le-ltb item_limit (length outer) a, lt-ltb item_limit (length inner) h)

    module _ (a : length outer ≤ item_limit) (b : length inner ≤ item_limit) where
      pub line_6_outer : decode outer ≡ none → composing_answer makes outer inner room ≡ refusal 6 0
      line_6_outer d = rw (le-ltb item_limit (length outer) a, le-ltb item_limit (length inner) b, d)

      pub line_6_inner : (m g : ℕ) → Shaped outer m g → decode inner ≡ none → composing_answer makes outer inner room ≡ refusal 6 1
      line_6_inner m g o d = rw (le-ltb item_limit (length outer) a, le-ltb item_limit (length inner) b, o.decodes, d)

      pub later : (o i : Query) → decode outer ≡ some o → decode inner ≡ some i
          → composing_answer makes outer inner room
          ≡ line 9 (when (ltb bracket_limit (nesting (makes o i))) (nesting (makes o i))) (line 10 (short_of_items room (size (makes o i))) (value (size (makes o i))))
      later o i d e = rw (le-ltb item_limit (length outer) a, le-ltb item_limit (length inner) b, d, e)

-- What is left past line 9: line 10 by the size, or the value.
pub record Ending (makes : Query → Query → Query) (outer inner : List ℕ) (room number : ℕ) : Type 0 where
  pub lacks_room : room < number → composing_answer makes outer inner room ≡ refusal 10 number
  pub over_long : number ≤ room → item_limit < number → composing_answer makes outer inner room ≡ refusal 10 number
  pub fits : number ≤ room → number ≤ item_limit → composing_answer makes outer inner room ≡ value number

-- The size that was counted is that of the composition.
module _ (outer inner says : List ℕ) (n : ℕ) (g : Says outer says) (i : Nested inner n) (count number : ℕ)
    (ec : count ≡ length (selected_got (decode inner))) (en : number ≡ size_got g.decides (decode outer) count) where
  size_is : number ≡ size (composed_by g.decides g.query i.query)
  unfolding composed_size_by selected_size
  size_is =
      let s : count ≡ selected_size i.query =
      ec ∙ ap (λ (x : maybe.Option Query). length (selected_got x)) i.decodes ∙ selected_length i.query ∙
      ap (λ (k : ℕ). k + 5 * length (paths i.query) - 1) (size_items i.query) in
      en ∙ ap₂ (λ (x : maybe.Option Query) (k : ℕ). size_got g.decides x k) g.decodes s ∙ sym (size_by g.decides g.query i.query)

  pub number_is : number ≡ length (made_got (composed_by g.decides) (decode outer) (decode inner))
  number_is = size_is ∙ sym (size_items (composed_by g.decides g.query i.query)) ∙ ap length (sym (ap₂ (made_got (composed_by g.decides)) g.decodes i.decodes))

-- Past line 6, by a decision.
module _ (outer inner says : List ℕ) (room m n d : ℕ) (a : length outer ≤ item_limit) (b : length inner ≤ item_limit) (g : Says outer says) (o : Nests outer says m d g) (i : Nested inner n) where
  abbrev makes : Query → Query → Query
  makes = composed_by g.decides

  abbrev whole : Query
  whole = makes g.query i.query

  module _ (r deep : ℕ) (er : r ≡ max 2 n) (ed : deep ≡ max m (d + 2 + r)) where
    deep_is : deep ≡ nesting whole
    unfolding composed_nesting_by
    deep_is =
        omega (
          arith,
          nesting_by g.decides g.query i.query,
          o.nested,
          o.deep,
          i.nested,
        )

    pub line_9 : bracket_limit < deep → composing_answer makes outer inner room ≡ refusal 9 deep
    line_9 h = later makes outer inner room a b g.query i.query g.decodes i.decodes ∙ rw (← deep_is, lt-ltb bracket_limit deep h)

    module _ (shallow : deep ≤ bracket_limit) (count number : ℕ) (ec : count ≡ length (selected_got (decode inner))) (en : number ≡ size_got g.decides (decode outer) count) where
      last_lines : composing_answer makes outer inner room ≡ line 10 (short_of_items room number) (value number)
      last_lines = later makes outer inner room a b g.query i.query g.decodes i.decodes ∙ rw (← deep_is, le-ltb bracket_limit deep shallow, ← size_is outer inner says n g i count number ec en)

      line_10_room : room < number → composing_answer makes outer inner room ≡ refusal 10 number
      line_10_room h = last_lines ∙ rw (lt-ltb room number h)

      line_10_size : number ≤ room → item_limit < number → composing_answer makes outer inner room ≡ refusal 10 number
      line_10_size h l = last_lines ∙ rw (le-ltb room number h, lt-ltb item_limit number l)

      line_value : number ≤ room → number ≤ item_limit → composing_answer makes outer inner room ≡ value number
      line_value h l = last_lines ∙ rw (le-ltb room number h, le-ltb item_limit number l)

      pub ending : Ending makes outer inner room number
      ending = record { lacks_room = line_10_room; over_long = line_10_size; fits = line_value }

-- TWO WAYS THAT MAKE THE SAME QUERY of these two answer and leave the same.
pub same_way : (f makes : Query → Query → Query) (outer inner old out : List ℕ) (room : ℕ) (said : Answer) (o i : Query) → decode outer ≡ some o → decode inner ≡ some i → f o i ≡ makes o i
    → (said ≡ composing_answer f outer inner room) × (out ≡ composing_out f outer inner old)
    → (said ≡ composing_answer makes outer inner room) × (out ≡ composing_out makes outer inner old)
same_way f makes outer inner old out room said o i d e same h =
    let answers : (n : ℕ) → composing_answer f outer inner n ≡ composing_answer makes outer inner n = λ n. rw (d, e, same) in
    let items : made_got f (decode outer) (decode inner) ≡ made_got makes (decode outer) (decode inner) = rw (d, e, same) in
    (h.0 ∙ answers room, h.1 ∙ ap₂ (λ (x : Answer) (y : List ℕ). at_exit x y old) (answers (length old)) items)
