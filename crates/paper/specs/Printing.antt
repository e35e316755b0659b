-- docs/SCOPE.md, "Printing": the text of a query, in the long form, with the axes written out, or in the short one (02, 2026-12).
use Rattle.std.specs.Prelude.{ℕ, ◌+◌, ◌-◌, max, Bool, true, false, ◌&&◌, cond, List, [], ◌∷◌, ◌++◌, eqb, ltb, get_or}
use Rattle.paper.specs.Tools.{ascii}
use Rattle.paper.specs.Query.{Axis, self, child, parent, descendant_or_self, ancestor_or_self, descendant, ancestor, following_sibling, preceding_sibling, following, preceding}
use Rattle.paper.specs.Query.{Test, any_node, text_node, named, any_element}
use Rattle.paper.specs.Query.{Expr, path, both, either, negated, Steps, stop, step, Preds, bare, pred, Query}
use Rattle.paper.specs.Items.{axis_number, test_number, step_count, pred_count}
use Rattle.paper.specs.Measures.{round_left_of_and, round_right_of_and, round_right_of_or}

-- The two forms of a text: is it brief?
abbrev pub long_form : Bool
long_form = false

abbrev pub short_form : Bool
short_form = true

-- The pieces of a printed text: signs, the three brackets with the two that close them, the operators, an axis, a test.
pub data Piece : Type 0 where
  slash_sign slashes_sign dot_sign dots_sign colons_sign bar_sign open_pred close_pred open_group open_not close_round and_word or_word : Piece
  axis_word : Axis → Piece
  test_word : Test → Piece

-- The text of an axis.
abbrev pub axis_text : Axis → List ℕ
axis_text self = ascii "self"
axis_text child = ascii "child"
axis_text parent = ascii "parent"
axis_text descendant_or_self = ascii "descendant-or-self"
axis_text ancestor_or_self = ascii "ancestor-or-self"
axis_text descendant = ascii "descendant"
axis_text ancestor = ascii "ancestor"
axis_text following_sibling = ascii "following-sibling"
axis_text preceding_sibling = ascii "preceding-sibling"
axis_text following = ascii "following"
axis_text preceding = ascii "preceding"

-- No word of an axis has more bytes.
abbrev pub axis_text_limit : ℕ
axis_text_limit = 18

-- The text of a test; a name is spelled as its line of the list.
abbrev pub test_text : List (List ℕ) → Test → List ℕ
test_text names any_node = ascii "node()"
test_text names text_node = ascii "text()"
test_text names (named v) = get_or names v []
test_text names any_element = ascii "*"

-- The text of a piece: `|` without spaces, one space each side of `and` and `or`.
abbrev pub piece_text : List (List ℕ) → Piece → List ℕ
piece_text names slash_sign = ascii "/"
piece_text names slashes_sign = ascii "//"
piece_text names dot_sign = ascii "."
piece_text names dots_sign = ascii ".."
piece_text names colons_sign = ascii "::"
piece_text names bar_sign = ascii "|"
piece_text names open_pred = ascii "["
piece_text names close_pred = ascii "]"
piece_text names open_group = ascii "("
piece_text names open_not = ascii "not("
piece_text names close_round = ascii ")"
piece_text names and_word = ascii " and "
piece_text names or_word = ascii " or "
piece_text names (axis_word a) = axis_text a
piece_text names (test_word t) = test_text names t

-- Pieces in round brackets, where these are printed.
abbrev pub grouped : Bool → List Piece → List Piece
grouped true ps = open_group ∷ ps ++ (close_round ∷ [])
grouped false ps = ps

-- Does a step go along this axis, with `node()` and so many predicates, none?
abbrev pub plain : Axis → Axis → Test → ℕ → Bool
plain along a t count = eqb (axis_number a) (axis_number along) && eqb (test_number t) (test_number any_node) && eqb count 0

-- A step with so many predicates, without them: axis, `::` and test. The short form leaves out child, and has `.` and `..` for self and parent with `node()` and no predicate.
unfoldable pub head_pieces : Bool → Axis → Test → ℕ → List Piece
head_pieces brief a t count =
    cond (brief && plain self a t count) (dot_sign ∷ [])
    (cond (brief && plain parent a t count) (dots_sign ∷ [])
    (cond (brief && eqb (axis_number a) (axis_number child)) (test_word t ∷ [])
    (axis_word a ∷ colons_sign ∷ test_word t ∷ [])))

-- A step and what follows it.
abbrev pub step_pieces : List Piece → List Piece → List Piece → List Piece
step_pieces head preds later = head ++ (preds ++ later)

-- Does `//` stand for a step that so many steps follow? In the short form it does for descendant-or-self with `node()` and no predicate, if a step follows.
unfoldable pub deepened : Bool → Axis → Test → ℕ → ℕ → Bool
deepened brief a t count later = brief && plain descendant_or_self a t count && ltb 0 later

abbrev mutual
  pub expr_pieces : Bool → Expr → List Piece
  expr_pieces brief (path steps) = relative_pieces brief steps
  expr_pieces brief (both a b) =
      grouped (round_left_of_and a) (expr_pieces brief a) ++ and_word ∷ grouped (round_right_of_and b) (expr_pieces brief b)
  expr_pieces brief (either a b) = expr_pieces brief a ++ or_word ∷ grouped (round_right_of_or b) (expr_pieces brief b)
  expr_pieces brief (negated a) = open_not ∷ expr_pieces brief a ++ (close_round ∷ [])

  -- A path in a predicate starts with a step, and so does what follows `//`.
  pub relative_pieces : Bool → Steps → List Piece
  relative_pieces brief stop = []
  relative_pieces brief (step a t ps rest) = step_pieces (head_pieces brief a t (pred_count ps)) (preds_pieces brief ps) (later_pieces brief rest)

  -- Each later step has its `/`, or is the one that `//` stands for. Behind `//` a step is written, so in a row of such steps the first, third and so on are `//`.
  pub later_pieces : Bool → Steps → List Piece
  later_pieces brief stop = []
  later_pieces brief (step a t ps rest) =
      let deep = slashes_sign ∷ relative_pieces brief rest in
      let told = slash_sign ∷ step_pieces (head_pieces brief a t (pred_count ps)) (preds_pieces brief ps) (later_pieces brief rest) in
      cond (deepened brief a t (pred_count ps) (step_count rest)) deep told

  pub preds_pieces : Bool → Preds → List Piece
  preds_pieces brief bare = []
  preds_pieces brief (pred e ps) = open_pred ∷ expr_pieces brief e ++ close_pred ∷ preds_pieces brief ps

-- An absolute path is `/` alone, or each of its steps has what a later step has.
abbrev pub path_pieces : Bool → Steps → List Piece
path_pieces brief stop = slash_sign ∷ []
path_pieces brief (step a t ps rest) = later_pieces brief (step a t ps rest)

abbrev pub paths_pieces : Bool → List Steps → List Piece
paths_pieces brief [] = []
paths_pieces brief (p ∷ ps) = bar_sign ∷ path_pieces brief p ++ paths_pieces brief ps

-- The pieces of a query.
unfoldable pub pieces : Bool → Query → List Piece
pieces brief q = path_pieces brief q.first ++ paths_pieces brief q.others

-- The text of pieces, one after the other.
abbrev pub text_of : List (List ℕ) → List Piece → List ℕ
text_of names [] = []
text_of names (p ∷ ps) = piece_text names p ++ text_of names ps

-- The printed text of a query.
unfoldable pub printed : Bool → List (List ℕ) → Query → List ℕ
printed brief names q = text_of names (pieces brief q)

-- How many brackets are open after a piece; those of `node()` and `text()` are no pieces.
abbrev pub open_after : Piece → ℕ → ℕ
open_after slash_sign n = n
open_after slashes_sign n = n
open_after dot_sign n = n
open_after dots_sign n = n
open_after colons_sign n = n
open_after bar_sign n = n
open_after open_pred n = 1 + n
open_after close_pred n = n - 1
open_after open_group n = 1 + n
open_after open_not n = 1 + n
open_after close_round n = n - 1
open_after and_word n = n
open_after or_word n = n
open_after (axis_word a) n = n
open_after (test_word t) n = n

-- The most brackets open at once, where n are open already.
abbrev pub most_open : ℕ → List Piece → ℕ
most_open n [] = n
most_open n (p ∷ ps) = max n (most_open (open_after p n) ps)
