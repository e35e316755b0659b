-- What printing asks and promises: the items are those of a query whose names the list has, and the text of what is taken from them is put.
use Rattle.std.specs.Prelude.{ℕ, ◌+◌, ◌*◌, ◌≤◌, ◌≡◌, Bool, false, ◌||◌, List, length, get_or, drop}
use Rattle.std.proofs.Math.Option.{some}
use Rattle.paper.specs.Limits.{list_limit, item_limit}
use Rattle.paper.specs.Names.{names_of}
use Rattle.paper.specs.Query.{Expr}
use Rattle.paper.specs.Query.{Query as Queried}
use Rattle.paper.specs.Items.{step_at, Taken, decode}
use Rattle.paper.specs.Measures.{is_or, is_and}
use Rattle.paper.specs.Printing.{Piece, grouped, expr_pieces, text_of}
use Rattle.paper.specs.Answers.{unknown_item}
use Rattle.pen.specs.Putting.{Puts}
use Rattle.put_query.specs.declared.Reached.{Reached}

-- An expression as a term of `or` and as an operand of `and`: with the bracket that it gets there.
abbrev pub term_pieces : Bool → Expr → List Piece
term_pieces brief e = grouped (is_or e) (expr_pieces brief e)

abbrev pub operand_pieces : Bool → Expr → List Piece
operand_pieces brief e = grouped (is_or e || is_and e) (expr_pieces brief e)

-- There is a name for each that the items have.
pub record Named (names : List (List ℕ)) (items : List ℕ) : Type 0 where
  pub known : (i : ℕ) → unknown_item (length names) (step_at (get_or items i 0)) ≡ false

-- The list is no longer than it may be, and has a name for each that the items have.
pub record NamedBy (list items : List ℕ) : Type 0 where
  pub few : length list ≤ list_limit
  pub known : (i : ℕ) → unknown_item (length (names_of list)) (step_at (get_or items i 0)) ≡ false

-- Something is taken: the items are what they are printed as.
pub record Some {A : Type 0} (taken : Taken A) : Type 0 where
  pub tree : A × List ℕ
  pub taken_whole : taken ≡ some tree

-- The items are a query.
pub record Query (items : List ℕ) : Type 0 where
  pub query : Queried
  pub decoded : decode items ≡ some query
  pub few_items : length items ≤ item_limit

-- No item has more bytes in the text.
abbrev pub item_room : ℕ
item_room = 16384

-- An operand leaves so many of its bytes over, for the signs around it.
abbrev pub sign_room : ℕ
sign_room = 64

-- What is taken from the items at `at` is put, and both places move past it. Of the bytes that the items may have, `spare` are left over.
pub record Prints {A : Type 0} (names : List (List ℕ)) (items : List ℕ) (at pen spare : ℕ) (taken : Taken A) (pieces_of : A → List Piece) (old new : List ℕ) (r : Reached) : Type 0 where
  pub what : A
  pub reads : taken ≡ some (what, drop r.item items)
  pub puts : Puts (text_of names (pieces_of what)) pen old new r.byte
  pub onward : at ≤ r.item
  pub inside : r.item ≤ length items
  pub low : r.byte + item_room * at + spare ≤ pen + item_room * r.item
