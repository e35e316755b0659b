-- The short text of a query is never longer than the long one: each step's head is as long or shorter, and `//` is shorter than the step that it stands for.
-- By induction over the query. Assumes nothing.
use Prim.Native.Nat.{ℕ, ◌+◌, ◌≤◌}
use native.Mathlib.Omega.{arith}
use mathlib.Core.Path.{◌≡◌, ◌∙◌}
use mathlib.Core.Bool.{Bool, true, false}
use mathlib.Core.List.{List, [], ◌∷◌, ◌++◌}
use lib.ListN.{length, length-append}
use borrow.Author.Tests.{le-ltb}
use Rattle.paper.specs.Limits.{list_limit, item_limit}
use Rattle.paper.specs.Query.{Axis, Test, Expr, path, both, either, negated, Steps, stop, step, Preds, bare, pred, Query}
use Rattle.paper.specs.Names.{names_of}
use Rattle.paper.specs.Items.{pred_count}
use Rattle.paper.specs.Measures.{round_left_of_and, round_right_of_and, round_right_of_or}
use Rattle.paper.specs.Printing.{long_form, short_form, Piece, slashes_sign, close_pred, close_round, and_word, or_word, test_word}
use Rattle.paper.specs.Printing.{axis_text, grouped, head_pieces, deepened, expr_pieces, relative_pieces, later_pieces, preds_pieces, path_pieces, paths_pieces, pieces, text_of, piece_text, printed}
use Rattle.paper.specs.Answers.{print_answer}
use Rattle.paper.proofs.Abbreviating.{by_head, by_later}
use Rattle.paper.proofs.Sizes.{nesting_open}
use Rattle.round_trip.specs.Shortening.{NeverLonger, ShorterAnswer, SameNesting}
use Rattle.round_trip.proofs.RoundTrip.{Accepted, accepted}

module _ (names : List (List ℕ)) where
  -- The bytes of pieces.
  abbrev long : List Piece → ℕ
  long ps = length (text_of names ps)

  joined : (ps qs : List Piece) → long (ps ++ qs) ≡ long ps + long qs
  joined [] qs = omega arith
  joined (p ∷ ps) qs =
      omega (arith, joined ps qs, length-append (piece_text names p) (text_of names (ps ++ qs)), length-append (piece_text names p) (text_of names ps))

  -- Brackets are as long in either form.
  group_less : (b : Bool) (ps qs : List Piece) → long ps ≤ long qs → long (grouped b ps) ≤ long (grouped b qs)
  group_less true ps qs l = omega (arith, joined ps (close_round ∷ []), joined qs (close_round ∷ []))
  group_less false ps qs l = l

  -- A head: with its axis written out it has two bytes more than its test, at least, and the short form has no more than that.
  head_told : (a : Axis) (t : Test) (count : ℕ) → long (head_pieces long_form a t count) ≡ length (axis_text a) + (2 + long (test_word t ∷ []))
  unfolding head_pieces
  head_told a t count = length-append (axis_text a) (58 ∷ 58 ∷ text_of names (test_word t ∷ [])) ∙ omega arith

  head_less : (a : Axis) (t : Test) (count : ℕ) → long (head_pieces short_form a t count) ≤ long (head_pieces long_form a t count)
  head_less a t count =
      by_head (λ hs. long hs ≤ long (head_pieces long_form a t count)) short_form a t count (λ p. omega (arith, head_told a t count)) (λ p. omega (arith, head_told a t count))
      (λ p. omega (arith, head_told a t count)) (omega (arith, head_told a t count, length-append (axis_text a) (58 ∷ 58 ∷ text_of names (test_word t ∷ []))))

  -- A step, in either form.
  step_long : (brief : Bool) (a : Axis) (t : Test) (ps : Preds) (rest : Steps)
      → long (relative_pieces brief (step a t ps rest)) ≡ long (head_pieces brief a t (pred_count ps)) + (long (preds_pieces brief ps) + long (later_pieces brief rest))
  step_long brief a t ps rest =
      omega (arith, joined (head_pieces brief a t (pred_count ps)) (preds_pieces brief ps ++ later_pieces brief rest), joined (preds_pieces brief ps) (later_pieces brief rest))

  step_less : (a : Axis) (t : Test) (ps : Preds) (rest : Steps) → long (preds_pieces short_form ps) ≤ long (preds_pieces long_form ps) → long (later_pieces short_form rest) ≤ long (later_pieces long_form rest)
      → long (relative_pieces short_form (step a t ps rest)) ≤ long (relative_pieces long_form (step a t ps rest))
  step_less a t ps rest p l = omega (arith, head_less a t (pred_count ps), step_long short_form a t ps rest, step_long long_form a t ps rest)

  -- In the long form each later step has its `/`.
  later_told : (a : Axis) (t : Test) (ps : Preds) (rest : Steps) → long (later_pieces long_form (step a t ps rest)) ≡ 1 + long (relative_pieces long_form (step a t ps rest))
  unfolding deepened
  later_told a t ps rest = omega arith

  later_more : (s : Steps) → long (relative_pieces long_form s) ≤ long (later_pieces long_form s)
  later_more stop = omega arith
  later_more (step a t ps rest) = omega (arith, later_told a t ps rest)

  deep_less : (a : Axis) (t : Test) (ps : Preds) (rest : Steps) → long (relative_pieces short_form rest) ≤ long (relative_pieces long_form rest)
      → long (slashes_sign ∷ relative_pieces short_form rest) ≤ long (later_pieces long_form (step a t ps rest))
  deep_less a t ps rest l = omega (arith, later_told a t ps rest, step_long long_form a t ps rest, head_told a t (pred_count ps), later_more rest)

  mutual
    expr_less : (e : Expr) → long (expr_pieces short_form e) ≤ long (expr_pieces long_form e)
    expr_less (path s) = relative_less s
    expr_less (both a b) =
        let l = grouped (round_left_of_and a) in
        let r = grouped (round_right_of_and b) in
        omega (
          arith,
          group_less (round_left_of_and a) (expr_pieces short_form a) (expr_pieces long_form a) (expr_less a),
          group_less (round_right_of_and b) (expr_pieces short_form b) (expr_pieces long_form b) (expr_less b),
          joined (l (expr_pieces short_form a)) (and_word ∷ r (expr_pieces short_form b)),
          joined (l (expr_pieces long_form a)) (and_word ∷ r (expr_pieces long_form b)),
        )
    expr_less (either a b) =
        let r = grouped (round_right_of_or b) in
        omega (
          arith,
          expr_less a,
          group_less (round_right_of_or b) (expr_pieces short_form b) (expr_pieces long_form b) (expr_less b),
          joined (expr_pieces short_form a) (or_word ∷ r (expr_pieces short_form b)),
          joined (expr_pieces long_form a) (or_word ∷ r (expr_pieces long_form b)),
        )
    expr_less (negated a) = omega (arith, expr_less a, joined (expr_pieces short_form a) (close_round ∷ []), joined (expr_pieces long_form a) (close_round ∷ []))

    relative_less : (s : Steps) → long (relative_pieces short_form s) ≤ long (relative_pieces long_form s)
    relative_less stop = omega arith
    relative_less (step a t ps rest) = step_less a t ps rest (preds_less ps) (later_less rest)

    later_less : (s : Steps) → long (later_pieces short_form s) ≤ long (later_pieces long_form s)
    later_less stop = omega arith
    later_less (step a t ps rest) =
        by_later (λ qs. long qs ≤ long (later_pieces long_form (step a t ps rest))) short_form a t ps rest (λ d. deep_less a t ps rest (relative_less rest))
        (omega (arith, later_told a t ps rest, step_less a t ps rest (preds_less ps) (later_less rest)))

    preds_less : (ps : Preds) → long (preds_pieces short_form ps) ≤ long (preds_pieces long_form ps)
    preds_less bare = omega arith
    preds_less (pred e ps) =
        omega (arith, expr_less e, preds_less ps, joined (expr_pieces short_form e) (close_pred ∷ preds_pieces short_form ps), joined (expr_pieces long_form e) (close_pred ∷ preds_pieces long_form ps))

  path_less : (s : Steps) → long (path_pieces short_form s) ≤ long (path_pieces long_form s)
  path_less stop = omega arith
  path_less (step a t ps rest) = later_less (step a t ps rest)

  paths_less : (ps : List Steps) → long (paths_pieces short_form ps) ≤ long (paths_pieces long_form ps)
  paths_less [] = omega arith
  paths_less (p ∷ ps) =
      omega (arith, path_less p, paths_less ps, joined (path_pieces short_form p) (paths_pieces short_form ps), joined (path_pieces long_form p) (paths_pieces long_form ps))

-- THE SHORT TEXT IS NEVER LONGER.
pub never_longer : NeverLonger
unfolding printed pieces
never_longer names q =
    omega (
      arith,
      path_less names q.first,
      paths_less names q.others,
      joined names (path_pieces short_form q.first) (paths_pieces short_form q.others),
      joined names (path_pieces long_form q.first) (paths_pieces long_form q.others),
    )

-- So a room that holds the long text holds the short one.
pub shorter_answer : ShorterAnswer
unfolding print_answer
shorter_answer query list room n h =
    let a = accepted long_form query list room n h in
    let m = length (printed short_form (names_of list) a.is) in
    let less : m ≤ n = omega (arith, never_longer (names_of list) a.is, a.counted) in (
      m,
      rw (
        le-ltb item_limit (length query) a.few_items,
        le-ltb list_limit (length list) a.few_bytes,
        a.no_fault,
        a.decoded,
        a.all_found,
        le-ltb room m (omega (arith, a.fits)),
      ),
      less,
    )

-- NESTING IS THE SAME.
pub same_nesting : SameNesting
same_nesting brief q = nesting_open brief q
