-- Size, height and nesting, which are defined on the query, are what its items and its printed text say.
-- Size is the number of items, height is no more than that, and nesting is the most brackets open at once. Each by induction over the query. Assumes nothing.
use Prim.Native.Nat.{ℕ, ◌+◌, ◌-◌, ◌≤◌, max}
use native.Mathlib.Omega.{arith}
use mathlib.Core.Path.{◌≡◌, refl, sym, ◌∙◌, ap}
use mathlib.Core.Bool.{Bool, true, false}
use mathlib.Core.List.{List, [], ◌∷◌, ◌++◌, append_assoc, append-nil}
use mathlib.Core.Option.{some}
use lib.ListN.{length, length-append}
use Rattle.paper.specs.Query.{Axis, Test, Expr, path, both, either, negated, Steps, stop, step, Preds, bare, pred, Query, paths}
use Rattle.paper.specs.Items.{pred_count, encode_expr, encode_steps, encode_preds, encode_paths, encode, decode}
use Rattle.paper.specs.Measures.{size_expr, size_steps, size_preds, size_paths, size}
use Rattle.paper.specs.Measures.{height_expr, height_steps, height_preds, height_paths, height}
use Rattle.paper.specs.Measures.{round_left_of_and, round_right_of_and, round_right_of_or, in_brackets, nest_expr, nest_steps, nest_preds, nest_paths, nesting}
use Rattle.paper.specs.Printing.{Piece, slash_sign, slashes_sign, dot_sign, dots_sign, colons_sign, bar_sign, open_pred, close_pred, open_group, open_not, close_round, and_word, or_word, axis_word, test_word}
use Rattle.paper.specs.Printing.{grouped, head_pieces, step_pieces, expr_pieces, relative_pieces, later_pieces, preds_pieces, path_pieces, paths_pieces, pieces, most_open}
use Rattle.paper.proofs.Abbreviating.{by_head, by_later}
use Rattle.paper.proofs.Encoding.{encode_decode}

mutual
  expr_items : (e : Expr) → length (encode_expr e) ≡ size_expr e
  expr_items (path s) = omega (arith, steps_items s)
  expr_items (both a b) = omega (arith, expr_items a, expr_items b, length-append (encode_expr a) (encode_expr b))
  expr_items (either a b) = omega (arith, expr_items a, expr_items b, length-append (encode_expr a) (encode_expr b))
  expr_items (negated a) = omega (arith, expr_items a)

  steps_items : (s : Steps) → length (encode_steps s) ≡ size_steps s
  steps_items stop = refl
  steps_items (step a t ps rest) = omega (arith, preds_items ps, steps_items rest, length-append (encode_preds ps) (encode_steps rest))

  preds_items : (ps : Preds) → length (encode_preds ps) ≡ size_preds ps
  preds_items bare = refl
  preds_items (pred e ps) = omega (arith, expr_items e, preds_items ps, length-append (encode_expr e) (encode_preds ps))

pub paths_items : (ps : List Steps) → length (encode_paths ps) ≡ size_paths ps
paths_items [] = refl
paths_items (p ∷ ps) = omega (arith, steps_items p, paths_items ps, length-append (encode_expr (path p)) (encode_paths ps))

-- SIZE IS THE NUMBER OF ITEMS.
pub size_items : (q : Query) → length (encode q) ≡ size q
unfolding encode size
size_items q = paths_items (paths q)

pub size_decoded : (ws : List ℕ) (q : Query) → decode ws ≡ some q → size q ≡ length ws
size_decoded ws q h = sym (size_items q) ∙ ap length (sym (encode_decode ws q h).items)

mutual
  expr_height : (e : Expr) → height_expr e ≤ size_expr e
  expr_height (path s) = omega (arith, steps_height s)
  expr_height (both a b) = omega (arith, expr_height a, expr_height b)
  expr_height (either a b) = omega (arith, expr_height a, expr_height b)
  expr_height (negated a) = omega (arith, expr_height a)

  steps_height : (s : Steps) → height_steps s ≤ size_steps s
  steps_height stop = omega arith
  steps_height (step a t ps rest) = omega (arith, preds_height ps, steps_height rest)

  preds_height : (ps : Preds) → height_preds ps ≤ size_preds ps
  preds_height bare = omega arith
  preds_height (pred e ps) = omega (arith, expr_height e, preds_height ps)

paths_height : (ps : List Steps) → height_paths ps ≤ size_paths ps
paths_height [] = omega arith
paths_height (p ∷ ps) = omega (arith, steps_height p, paths_height ps)

-- HEIGHT IS AT MOST THE NUMBER OF ITEMS.
pub height_size : (q : Query) → height q ≤ size q
unfolding height size
height_size q = paths_height (paths q)

-- While an expression is printed, so many brackets more are open as it is nested.
abbrev Opens : List Piece → ℕ → Type 0
Opens ps nest = (n : ℕ) (rest : List Piece) → most_open n (ps ++ rest) ≡ max (n + nest) (most_open n rest)

-- As many as are open now are open at once.
least : (n : ℕ) (rest : List Piece) → n ≤ most_open n rest
least n [] = omega arith
least n (p ∷ ps) = omega arith

-- What a bracket that was opened and closed adds.
closed_again : (n nest m : ℕ) → max n (max (1 + n + nest) (max (1 + n) m)) ≡ max (n + (1 + nest)) m
closed_again n nest m = omega arith

one_less : (n : ℕ) → 1 + n - 1 ≡ n
one_less n = omega arith

opens_round : (p : Piece) → ((n : ℕ) (rest : List Piece) → most_open n (p ∷ rest) ≡ max n (most_open (1 + n) rest)) → (ps : List Piece) (nest : ℕ) → Opens ps nest → Opens (p ∷ ps ++ (close_round ∷ [])) (1 + nest)
opens_round p op ps nest o n rest =
    op n (ps ++ (close_round ∷ []) ++ rest) ∙
    rw (append_assoc ps (close_round ∷ []) rest, o (1 + n) (close_round ∷ rest), one_less n) (closed_again n nest (most_open n rest))

opens_group : (b : Bool) (ps : List Piece) (nest : ℕ) → Opens ps nest → Opens (grouped b ps) (in_brackets b nest)
opens_group true ps nest o n rest = opens_round open_group (λ n rest. refl) ps nest o n rest
opens_group false ps nest o n rest = o n rest

-- Two parts with a word between, or one after the other.
opens_two : (p : Piece) → ((n : ℕ) (rest : List Piece) → most_open n (p ∷ rest) ≡ max n (most_open n rest)) → (ps qs : List Piece) (x y : ℕ) → Opens ps x → Opens qs y
    → Opens (ps ++ p ∷ qs) (max x y)
opens_two p op ps qs x y ox oy n rest =
    rw (append_assoc ps (p ∷ qs) rest, ox n (p ∷ qs ++ rest), op n (qs ++ rest), oy n rest) (omega (arith, least n rest))

opens_join : (ps qs : List Piece) (x y : ℕ) → Opens ps x → Opens qs y → Opens (ps ++ qs) (max x y)
opens_join ps qs x y ox oy n rest = rw (append_assoc ps qs rest, ox n (qs ++ rest), oy n rest) (omega arith)

-- A piece that is no bracket changes nothing.
opens_word : (p : Piece) → ((n : ℕ) (rest : List Piece) → most_open n (p ∷ rest) ≡ max n (most_open n rest)) → (ps : List Piece) (x : ℕ) → Opens ps x → Opens (p ∷ ps) x
opens_word p op ps x o n rest = op n (ps ++ rest) ∙ rw (o n rest) (omega arith)

opens_none : Opens [] 0
opens_none n rest = omega (arith, least n rest)

-- The same before no brackets.
opens_more : (p : Piece) → ((n : ℕ) (rest : List Piece) → most_open n (p ∷ rest) ≡ max n (most_open n rest)) → (ps : List Piece) (x : ℕ) → Opens ps x → Opens (p ∷ ps) (max 0 x)
opens_more p op ps x o n rest = opens_word p op ps x o n rest ∙ omega arith

-- The head of a step has no bracket, in either form.
opens_head : (brief : Bool) (a : Axis) (t : Test) (count : ℕ) → Opens (head_pieces brief a t count) 0
opens_head brief a t count =
    let test = opens_word (test_word t) (λ n rest. refl) [] 0 opens_none in
    by_head (λ ps. Opens ps 0) brief a t count (λ p. opens_word dot_sign (λ n rest. refl) [] 0 opens_none) (λ p. opens_word dots_sign (λ n rest. refl) [] 0 opens_none) (λ p. test)
    (opens_word (axis_word a) (λ n rest. refl) (colons_sign ∷ test_word t ∷ []) 0 (opens_word colons_sign (λ n rest. refl) (test_word t ∷ []) 0 test))

opens_step : (hs ps qs : List Piece) (x y : ℕ) → Opens hs 0 → Opens ps x → Opens qs y → Opens (step_pieces hs ps qs) (max x y)
opens_step hs ps qs x y oh ox oy n rest = opens_join hs (ps ++ qs) 0 (max x y) oh (opens_join ps qs x y ox oy) n rest ∙ omega arith

opens_pred : (ps qs : List Piece) (x y : ℕ) → Opens ps x → Opens qs y → Opens (open_pred ∷ ps ++ close_pred ∷ qs) (max (1 + x) y)
opens_pred ps qs x y ox oy n rest =
    rw (append_assoc ps (close_pred ∷ qs) rest, ox (1 + n) (close_pred ∷ qs ++ rest), one_less n, oy n rest) (omega arith)

module _ (brief : Bool) where
  mutual
    opens_expr : (e : Expr) → Opens (expr_pieces brief e) (nest_expr e)
    opens_expr (path s) = opens_relative s
    opens_expr (both a b) =
        opens_two and_word (λ n rest. refl) (grouped (round_left_of_and a) (expr_pieces brief a)) (grouped (round_right_of_and b) (expr_pieces brief b))
        (in_brackets (round_left_of_and a) (nest_expr a)) (in_brackets (round_right_of_and b) (nest_expr b))
        (opens_group (round_left_of_and a) (expr_pieces brief a) (nest_expr a) (opens_expr a)) (opens_group (round_right_of_and b) (expr_pieces brief b) (nest_expr b) (opens_expr b))
    opens_expr (either a b) =
        opens_two or_word (λ n rest. refl) (expr_pieces brief a) (grouped (round_right_of_or b) (expr_pieces brief b)) (nest_expr a) (in_brackets (round_right_of_or b) (nest_expr b))
        (opens_expr a) (opens_group (round_right_of_or b) (expr_pieces brief b) (nest_expr b) (opens_expr b))
    opens_expr (negated a) = opens_round open_not (λ n rest. refl) (expr_pieces brief a) (nest_expr a) (opens_expr a)

    opens_relative : (s : Steps) → Opens (relative_pieces brief s) (nest_steps s)
    opens_relative stop = opens_none
    opens_relative (step a t ps rest) =
        opens_step (head_pieces brief a t (pred_count ps)) (preds_pieces brief ps) (later_pieces brief rest) (nest_preds ps) (nest_steps rest)
        (opens_head brief a t (pred_count ps)) (opens_preds ps) (opens_later rest)

    opens_later : (s : Steps) → Opens (later_pieces brief s) (nest_steps s)
    opens_later stop = opens_none
    opens_later (step a t ps rest) =
        by_later (λ qs. Opens qs (max (nest_preds ps) (nest_steps rest))) brief a t ps rest
        (λ d. rw d.preds (opens_more slashes_sign (λ n rest. refl) (relative_pieces brief rest) (nest_steps rest) (opens_relative rest)))
        (opens_word slash_sign (λ n rest. refl) (relative_pieces brief (step a t ps rest)) (max (nest_preds ps) (nest_steps rest))
        (opens_step (head_pieces brief a t (pred_count ps)) (preds_pieces brief ps) (later_pieces brief rest) (nest_preds ps) (nest_steps rest)
        (opens_head brief a t (pred_count ps)) (opens_preds ps) (opens_later rest)))

    opens_preds : (ps : Preds) → Opens (preds_pieces brief ps) (nest_preds ps)
    opens_preds bare = opens_none
    opens_preds (pred e ps) = opens_pred (expr_pieces brief e) (preds_pieces brief ps) (nest_expr e) (nest_preds ps) (opens_expr e) (opens_preds ps)

  opens_path : (s : Steps) → Opens (path_pieces brief s) (nest_steps s)
  opens_path stop = opens_word slash_sign (λ n rest. refl) [] 0 opens_none
  opens_path (step a t ps rest) = opens_later (step a t ps rest)

  opens_paths : (ps : List Steps) → Opens (paths_pieces brief ps) (nest_paths ps)
  opens_paths [] = opens_none
  opens_paths (p ∷ ps) =
      opens_word bar_sign (λ n rest. refl) (path_pieces brief p ++ paths_pieces brief ps) (max (nest_steps p) (nest_paths ps))
      (opens_join (path_pieces brief p) (paths_pieces brief ps) (nest_steps p) (nest_paths ps) (opens_path p) (opens_paths ps))

-- NESTING IS THE MOST BRACKETS OPEN AT ONCE IN THE PRINTED TEXT, in either form.
pub nesting_open : (brief : Bool) (q : Query) → most_open 0 (pieces brief q) ≡ nesting q
unfolding pieces nesting
nesting_open brief q =
    let ps = path_pieces brief q.first ++ paths_pieces brief q.others in
    let n = max (nest_steps q.first) (nest_paths q.others) in
    ap (most_open 0) (sym (append-nil ps)) ∙
    opens_join (path_pieces brief q.first) (paths_pieces brief q.others) (nest_steps q.first) (nest_paths q.others) (opens_path brief q.first) (opens_paths brief q.others) 0 [] ∙
    omega arith
