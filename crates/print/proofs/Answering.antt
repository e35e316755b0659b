-- The answer of a print and what it writes, line by line of 01's table. Assumes nothing.
use Prim.Native.Nat.{ℕ, ◌+◌, ◌≤◌, ◌<◌}
use native.Mathlib.Omega.{arith}
use mathlib.Core.Path.{◌≡◌, refl, sym, ap}
use mathlib.Core.Bool.{Bool}
use mathlib.Core.List.{List}
use mathlib.Core.Option.{Option, none, some}
use lib.ListN.{length}
use borrow.Author.Tests.{lt-ltb, le-ltb}
use Rattle.paper.specs.Tools.{written}
use Rattle.paper.specs.Limits.{item_limit, list_limit}
use Rattle.paper.specs.Query.{Query}
use Rattle.paper.specs.Names.{names_fault, names_of}
use Rattle.paper.specs.Items.{decode}
use Rattle.paper.specs.Printing.{printed}
use Rattle.paper.specs.Answers.{value, refusal, unknown_from, print_answer, text_got, print_out}
use Rattle.shape.specs.Walks.{shape_of}
use Rattle.shape.specs.declared.Shape.{Shape}
use Rattle.std.proofs.Common.{Some, None}
use Rattle.put_query.specs.Writing.{NamedBy}
use Rattle.put_query.specs.Writing.{Query as IsPrintable}
use Rattle.unknown_names.proofs.Unknowns.{all_known}

-- What the shape of items says of the query that they are.
pub shape_none : (o : Option Query) → None ≡ shape_of o → o ≡ none
shape_none none h = refl
shape_none (some q) h = cc

pub shape_some : (o : Option Query) (shape : Shape) → Some shape ≡ shape_of o → (q : Query) × (o ≡ some q)
shape_some none shape h = cc
shape_some (some q) shape h = (q, refl)

-- What has been found of a query and a list before the names are looked at.
pub record Ready (query list : List ℕ) : Type 0 where
  pub few_items : length query ≤ item_limit
  pub few_bytes : length list ≤ list_limit
  pub no_fault : names_fault list ≡ none
  pub is : Query
  pub decoded : decode query ≡ some is

module _ (brief : Bool) (query list old : List ℕ) where
  -- A refused call leaves everything as it was, an accepted one writes the text.
  pub refuses : (number place : ℕ) → print_answer brief query list (length old) ≡ refusal number place → (refusal number place ≡ print_answer brief query list (length old)) × (old ≡ print_out brief query list old)
  unfolding print_out
  refuses number place e = (sym e, rw e)

  pub accepts : (n : ℕ) (new : List ℕ) → print_answer brief query list (length old) ≡ value n → new ≡ written (text_got brief (names_of list) (decode query)) old
      → (value n ≡ print_answer brief query list (length old)) × (new ≡ print_out brief query list old)
  unfolding print_out
  accepts n new e w = (sym e, rw e w)

  -- Line 1.
  pub long_query : item_limit < length query → print_answer brief query list (length old) ≡ refusal 1 0
  unfolding print_answer
  long_query l = rw (lt-ltb item_limit (length query) l)

  pub long_list : length query ≤ item_limit → list_limit < length list → print_answer brief query list (length old) ≡ refusal 1 0
  unfolding print_answer
  long_list k l = rw (le-ltb item_limit (length query) k, lt-ltb list_limit (length list) l)

  -- Line 2.
  pub bad_list : length query ≤ item_limit → length list ≤ list_limit → (place : ℕ) → names_fault list ≡ some place → print_answer brief query list (length old) ≡ refusal 2 place
  unfolding print_answer
  bad_list k l place e = rw (le-ltb item_limit (length query) k, le-ltb list_limit (length list) l, e)

  -- Line 6.
  pub bad_query : length query ≤ item_limit → length list ≤ list_limit → names_fault list ≡ none → decode query ≡ none → print_answer brief query list (length old) ≡ refusal 6 0
  unfolding print_answer
  bad_query k l n d = rw (le-ltb item_limit (length query) k, le-ltb list_limit (length list) l, n, d)

  module _ (r : Ready query list) where
    -- Line 5.
    pub unknown_name : (place : ℕ) → unknown_from (length (names_of list)) 0 query ≡ some place → print_answer brief query list (length old) ≡ refusal 5 place
    unfolding print_answer
    unknown_name place u = rw (le-ltb item_limit (length query) r.few_items, le-ltb list_limit (length list) r.few_bytes, r.no_fault, r.decoded, u)

    -- What printing asks.
    pub can_print : unknown_from (length (names_of list)) 0 query ≡ none → NamedBy list query × IsPrintable query
    can_print u = (
      record { few = r.few_bytes; known = all_known (length (names_of list)) query u },
      record { query = r.is; decoded = r.decoded; few_items = r.few_items },
    )

    module _ (u : unknown_from (length (names_of list)) 0 query ≡ none) (needed : ℕ) (e : needed ≡ 0 + length (text_got brief (names_of list) (decode query))) where
      counted : length (printed brief (names_of list) r.is) ≡ needed
      counted =
          let same : length (text_got brief (names_of list) (decode query)) ≡ length (printed brief (names_of list) r.is) = ap (λ (o : Option Query). length (text_got brief (names_of list) o)) r.decoded in
          omega arith

      -- Line 10.
      pub short_room : length old < needed → print_answer brief query list (length old) ≡ refusal 10 needed
      unfolding print_answer
      short_room s =
          rw (le-ltb item_limit (length query) r.few_items, le-ltb list_limit (length list) r.few_bytes, r.no_fault, r.decoded, u, counted, lt-ltb (length old) needed s)

      pub value_told : needed ≤ length old → print_answer brief query list (length old) ≡ value needed
      unfolding print_answer
      value_told s =
          rw (le-ltb item_limit (length query) r.few_items, le-ltb list_limit (length list) r.few_bytes, r.no_fault, r.decoded, u, counted, le-ltb (length old) needed s)
