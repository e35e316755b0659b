-- A printed text has at most five pieces an item, and each piece is a sign, a word of the grammar or a name of the list. By induction over the query. Assumes nothing.
use Prim.Native.Nat.{ℕ, suc, ◌+◌, ◌*◌, ◌≤◌, ◌<◌}
use native.Mathlib.Omega.{arith}
use mathlib.Core.Path.{◌≡◌, subst}
use mathlib.Core.Bool.{Bool, true, false}
use mathlib.Core.List.{List, [], ◌∷◌, ◌++◌}
use mathlib.Core.Option.{some}
use lib.ListN.{length, get_or, length-append}
use Rattle.paper.specs.Limits.{list_limit}
use Rattle.paper.specs.Query.{Axis, Test, any_node, text_node, named, any_element}
use Rattle.paper.specs.Query.{Expr, path, both, either, negated, Steps, stop, step, Preds, bare, pred, Query}
use Rattle.paper.specs.Items.{step_at, pred_count}
use Rattle.paper.specs.Measures.{size_expr, size_steps, size_preds, size_paths, size}
use Rattle.paper.specs.Measures.{round_left_of_and, round_right_of_and, round_right_of_or}
use Rattle.paper.specs.Printing.{Piece, slash_sign, slashes_sign, dot_sign, dots_sign, colons_sign, bar_sign, open_pred, close_pred, open_group, open_not, close_round, and_word, or_word, axis_word, test_word}
use Rattle.paper.specs.Printing.{axis_text, test_text, piece_text, grouped, head_pieces, expr_pieces, relative_pieces, later_pieces, preds_pieces, path_pieces, paths_pieces, pieces, text_of, printed}
use Rattle.paper.specs.Answers.{unknown_item, unknown_from}
use Rattle.paper.proofs.Tests.{none-some, some_inj}
use Rattle.paper.proofs.Axes.{axis_short}
use Rattle.paper.proofs.Abbreviating.{by_head, by_later}
use Rattle.query_grammar.proofs.Seeing.{chosen}

-- Brackets are two pieces.
group_few : (b : Bool) (ps : List Piece) → length (grouped b ps) ≤ 2 + length ps
group_few true ps = omega (arith, length-append ps (close_round ∷ []))
group_few false ps = omega arith

module _ (brief : Bool) where
  -- A head has at most three pieces, so a step leaves two of its five over.
  head_few : (a : Axis) (t : Test) (count : ℕ) → length (head_pieces brief a t count) ≤ 3
  head_few a t count = by_head (λ ps. length ps ≤ 3) brief a t count (λ p. omega arith) (λ p. omega arith) (λ p. omega arith) (omega arith)

  slack : (a : Axis) (t : Test) (ps : Preds) (rest : Steps) → length (preds_pieces brief ps) ≤ 5 * size_preds ps → length (later_pieces brief rest) ≤ 5 * size_steps rest
      → 2 + length (relative_pieces brief (step a t ps rest)) ≤ 5 * size_steps (step a t ps rest)
  slack a t ps rest p l =
      omega (
        arith,
        head_few a t (pred_count ps),
        length-append (head_pieces brief a t (pred_count ps)) (preds_pieces brief ps ++ later_pieces brief rest),
        length-append (preds_pieces brief ps) (later_pieces brief rest),
      )

  mutual
    -- The two brackets around a predicate are counted with it.
    expr_few : (e : Expr) → 2 + length (expr_pieces brief e) ≤ 5 * size_expr e
    expr_few (path s) = omega (arith, relative_few s)
    expr_few (both a b) =
        let left = grouped (round_left_of_and a) (expr_pieces brief a) in
        let right = grouped (round_right_of_and b) (expr_pieces brief b) in
        omega (
          arith,
          expr_few a,
          expr_few b,
          group_few (round_left_of_and a) (expr_pieces brief a),
          group_few (round_right_of_and b) (expr_pieces brief b),
          length-append left (and_word ∷ right),
        )
    expr_few (either a b) =
        let right = grouped (round_right_of_or b) (expr_pieces brief b) in
        omega (arith, expr_few a, expr_few b, group_few (round_right_of_or b) (expr_pieces brief b), length-append (expr_pieces brief a) (or_word ∷ right))
    expr_few (negated a) = omega (arith, expr_few a, length-append (expr_pieces brief a) (close_round ∷ []))

    relative_few : (s : Steps) → length (relative_pieces brief s) ≤ 5 * size_steps s
    relative_few stop = omega arith
    relative_few (step a t ps rest) = omega (arith, slack a t ps rest (preds_few ps) (later_few rest))

    -- The `/` before a step is one of its five.
    later_few : (s : Steps) → length (later_pieces brief s) ≤ 5 * size_steps s
    later_few stop = omega arith
    later_few (step a t ps rest) =
        by_later (λ qs. length qs ≤ 5 * size_steps (step a t ps rest)) brief a t ps rest (λ d. omega (arith, relative_few rest))
        (omega (arith, slack a t ps rest (preds_few ps) (later_few rest)))

    preds_few : (ps : Preds) → length (preds_pieces brief ps) ≤ 5 * size_preds ps
    preds_few bare = omega arith
    preds_few (pred e ps) = omega (arith, expr_few e, preds_few ps, length-append (expr_pieces brief e) (close_pred ∷ preds_pieces brief ps))

  path_few : (s : Steps) → 1 + length (path_pieces brief s) ≤ 5 * (1 + size_steps s)
  path_few stop = omega arith
  path_few (step a t ps rest) = omega (arith, later_few (step a t ps rest))

  paths_few : (ps : List Steps) → length (paths_pieces brief ps) ≤ 5 * size_paths ps
  paths_few [] = omega arith
  paths_few (p ∷ ps) = omega (arith, path_few p, paths_few ps, length-append (path_pieces brief p) (paths_pieces brief ps))

  pieces_few : (q : Query) → length (pieces brief q) ≤ 5 * size q
  unfolding pieces size
  pieces_few q =
      omega (arith, path_few q.first, paths_few q.others, length-append (path_pieces brief q.first) (paths_pieces brief q.others))

-- The names have at most 8,192 bytes, which is what a list has.
module _ (names : List (List ℕ)) (short : (v : ℕ) → length (get_or names v []) ≤ list_limit) where
  test_short : (t : Test) → length (test_text names t) ≤ list_limit
  test_short any_node = omega arith
  test_short text_node = omega arith
  test_short (named v) = short v
  test_short any_element = omega arith

  piece_short : (p : Piece) → length (piece_text names p) ≤ list_limit
  piece_short slash_sign = omega arith
  piece_short slashes_sign = omega arith
  piece_short dot_sign = omega arith
  piece_short dots_sign = omega arith
  piece_short colons_sign = omega arith
  piece_short bar_sign = omega arith
  piece_short open_pred = omega arith
  piece_short close_pred = omega arith
  piece_short open_group = omega arith
  piece_short open_not = omega arith
  piece_short close_round = omega arith
  piece_short and_word = omega arith
  piece_short or_word = omega arith
  piece_short (axis_word a) = omega (arith, axis_short a)
  piece_short (test_word t) = test_short t

  text_short : (ps : List Piece) → length (text_of names ps) ≤ list_limit * length ps
  text_short [] = omega arith
  text_short (p ∷ ps) = omega (arith, piece_short p, text_short ps, length-append (piece_text names p) (text_of names ps))

  -- A PRINTED TEXT HAS AT MOST 40,960 BYTES AN ITEM.
  pub printed_short : (brief : Bool) (q : Query) → length (printed brief names q) ≤ 40960 * size q
  unfolding printed
  printed_short brief q = omega (arith, text_short (pieces brief q), pieces_few brief q)

-- AN ITEM WHOSE NAME IS UNKNOWN IS AMONG THE ITEMS.
pub unknown_within : (count at : ℕ) (ws : List ℕ) (place : ℕ) → unknown_from count at ws ≡ some place → place < at + length ws
unknown_within count at [] place e = none-some e
unknown_within count at (w ∷ ws) place e =
    chosen (unknown_item count (step_at w)) e (λ c f. subst (λ p. p < at + suc (length ws)) (some_inj f) (omega arith))
    (λ c f. omega (arith, unknown_within count (suc at) ws place f))
