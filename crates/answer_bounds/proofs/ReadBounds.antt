-- A text is refused at one of its bytes or at its end, and what is read of it has at most two items a token.
-- Each reader gets a value for which the tokens that it took suffice, or is refused at the place of a token that it was given. By induction over the readers' bounds. Assumes nothing.
use Prim.Native.Nat.{ℕ, zero, suc, ◌+◌, ◌*◌, ◌≤◌}
use native.Mathlib.Omega.{arith}
use mathlib.Core.List.{List, [], ◌∷◌}
use mathlib.Core.Bool.{Bool, ◌&&◌, cond}
use mathlib.Core.Option.{Option, none, some}
use lib.ListN.{length, drop, length-drop}
use Rattle.paper.specs.Tools.{ascii}
use Rattle.paper.specs.Limits.{bracket_limit}
use Rattle.paper.specs.Tokens.{Token, slash, slashes, dot, dots, open_square, close_square, open_round, close_round, star, finish, word, letters, Placed, white, token_at, beyond, tokens_from, tokens}
use Rattle.paper.specs.Query.{Axis, Test, any_node, text_node, named, any_element, Expr, Steps, stop, Query, paths}
use Rattle.paper.specs.Measures.{size_expr, size_steps, size_preds, size_paths, size}
use Rattle.paper.specs.Reading.{Got, got, refused, then, next, at, sees, says, pass, axis_ahead, Step, before, deep, starts_step, joins}
use Rattle.paper.specs.Reading.{read_preds, read_tail, read_name, read_tested, read_axis, read_dot, read_step, read_steps, read_operand, read_term, read_expr, read_path, read_paths, read_within, read_text}
use Rattle.query_grammar.proofs.Runs.{Run, and_run, or_run, run_keeps}
use Rattle.query_grammar.proofs.Accepted.{either_way}

-- The items of a path that has only this step, and of a path.
abbrev step_size : Step → ℕ
step_size s = 2 + size_preds s.preds

abbrev path_size : Steps → ℕ
path_size s = 1 + size_steps s

abbrev query_size : Query → ℕ
query_size q = size_paths (paths q)

module _ (last : ℕ) where
  -- Every token stands at `last` or before it.
  abbrev Near : List Placed → Type 0
  Near [] = Unit {0}
  Near (t ∷ ts) = (t.place ≤ last) × Near ts

  near_at : (ts : List Placed) → Near ts → at ts ≤ last
  near_at [] h = omega arith
  near_at (t ∷ ts) h = h.0

  near_one : (ts : List Placed) → Near ts → Near (drop 1 ts)
  near_one [] h = tt
  near_one (t ∷ ts) h = h.1

  near_two : (ts : List Placed) → Near ts → Near (drop 2 ts)
  near_two [] h = tt
  near_two (t ∷ ts) h = near_one ts h.1

  -- What was got and the tokens left, at two items each, are within a limit; a refusal is near.
  abbrev Fair : {A : Type 0} → (A → ℕ) → ℕ → Got A → Type 0
  Fair measure most (got a left) = Near left × (measure a + 2 * length left ≤ most)
  Fair measure most (refused number place) = place ≤ last

  fair_more : {A : Type 0} (measure : A → ℕ) (few most : ℕ) (r : Got A) → few ≤ most → Fair measure few r → Fair measure most r
  fair_more measure few most (got a left) l h = (h.0, omega (arith, h.1))
  fair_more measure few most (refused number place) l h = h

  -- Two readers after each other.
  fair_then : {A B : Type 0} (measure : A → ℕ) (more : B → ℕ) (few most : ℕ) (r : Got A) (next : A → List Placed → Got B) → Fair measure few r
      → ((a : A) (left : List Placed) → Near left → measure a + 2 * length left ≤ few → Fair more most (next a left)) → Fair more most (then r next)
  fair_then measure more few most (got a left) next h k = k a left h.0 h.1
  fair_then measure more few most (refused number place) next h k = h

  -- A token passed over.
  fair_pass : {A : Type 0} (measure : A → ℕ) (most : ℕ) (t : Token) (a : A) (ts : List Placed) → Near ts → measure a + 2 * length ts ≤ most → Fair measure most (pass t a ts)
  fair_pass measure most t a ts n h =
      either_way (Fair measure most) (sees t ts) (near_one ts n, omega (arith, length-drop 1 ts)) (near_at ts n)

  module _ (newer : Bool) (look : List ℕ → Option ℕ) (within : ℕ → List Placed → Got Expr)
      (inside : (p : ℕ) (ts : List Placed) → p ≤ last → Near ts → Fair size_expr (2 * length ts) (within p ts)) where
    -- What stands in a bracket, and the token that closes it.
    bracket_fair : (t : Token) (p : ℕ) (ts : List Placed) → p ≤ last → Near ts → Fair size_expr (2 * length ts) (then (within p ts) (pass t))
    bracket_fair t p ts l n =
        fair_then size_expr size_expr (2 * length ts) (2 * length ts) (within p ts) (pass t) (inside p ts l n) (λ e left m h. fair_pass size_expr (2 * length ts) t e left m h)

    preds_fair : (n : ℕ) (ts : List Placed) → Near ts → Fair size_preds (2 * length ts) (read_preds newer look within n ts)
    preds_fair zero ts m = (m, omega arith)
    preds_fair (suc n) [] m = (m, omega arith)
    preds_fair (suc n) (t ∷ ts) m =
        let most = 2 * suc (length ts) in
        either_way (Fair size_preds most) (sees open_square (t ∷ ts))
        (fair_then size_expr size_preds (2 * length ts) most (then (within t.place ts) (pass close_square)) _ (bracket_fair close_square t.place ts m.0 m.1)
        (λ e left k h.
        fair_then size_preds size_preds (2 * length left) most (read_preds newer look within n left) _ (preds_fair n left k) (λ ps rest j i. (j, omega arith))))
        (m, omega arith)

    tail_fair : (a : Axis) (t : Test) (ts : List Placed) → Near ts → Fair step_size (2 + 2 * length ts) (read_tail newer look within a t ts)
    unfolding read_tail
    tail_fair a t ts m =
        fair_then size_preds step_size (2 * length ts) (2 + 2 * length ts) (read_preds newer look within (length ts) ts) _ (preds_fair (length ts) ts m) (λ ps left k h. (k, omega arith))

    name_fair : (o : Option ℕ) (a : Axis) (t : Placed) (ts : List Placed) → Near (t ∷ ts) → Fair step_size (2 + 2 * length ts) (read_name newer look within o a (t ∷ ts))
    name_fair none a t ts m = m.0
    name_fair (some v) a t ts m = tail_fair a (named v) ts m.1

    tested_fair : (a : Axis) (ts : List Placed) → Near ts → Fair step_size (2 * length ts) (read_tested newer look within a ts)
    unfolding read_tested
    tested_fair a [] m = omega arith
    tested_fair a (t ∷ ts) m =
        let most = 2 + 2 * length ts in
        let P = Fair step_size most in
        let call : (x : Test) → P (then (pass close_round x (drop 1 ts)) (read_tail newer look within a)) =
        λ x. fair_then (λ y. 0) step_size (2 * length (drop 1 ts)) most (pass close_round x (drop 1 ts)) (read_tail newer look within a)
        (fair_pass (λ y. 0) (2 * length (drop 1 ts)) close_round x (drop 1 ts) (near_one ts m.1) (omega arith))
        (λ y left k h. fair_more step_size (2 + 2 * length left) most (read_tail newer look within a y left) (omega (arith, length-drop 1 ts)) (tail_fair a y left k)) in
        fair_more step_size most (2 * length (t ∷ ts)) (read_tested newer look within a (t ∷ ts)) (omega arith)
        (either_way P (sees star (t ∷ ts)) (tail_fair a any_element ts m.1)
        (either_way P (sees open_round ts && says (ascii "node") (t ∷ ts)) (call any_node)
        (either_way P (sees open_round ts && says (ascii "text") (t ∷ ts)) (call text_node)
        (either_way P (sees (word []) (t ∷ ts)) (name_fair (look (letters (next (t ∷ ts)))) a t ts m)
        m.0))))

    axis_fair : (o : Option Axis) (ts : List Placed) → Near ts → Fair step_size (2 * length ts) (read_axis newer look within o ts)
    axis_fair none ts m = tested_fair Axis.child ts m
    axis_fair (some a) ts m =
        fair_more step_size (2 * length (drop 2 ts)) (2 * length ts) (read_tested newer look within a (drop 2 ts)) (omega (arith, length-drop 2 ts)) (tested_fair a (drop 2 ts) (near_two ts m))

    dot_fair : (a : Axis) (ts : List Placed) → Near ts → Fair step_size (2 * suc (length ts)) (read_dot newer look within a ts)
    dot_fair a ts m =
        let P = Fair step_size (2 * suc (length ts)) in
        either_way P newer (fair_more step_size (2 + 2 * length ts) (2 * suc (length ts)) (read_tail newer look within a any_node ts) (omega arith) (tail_fair a any_node ts m)) (m, omega arith)

    step_fair : (ts : List Placed) → Near ts → Fair step_size (2 * length ts) (read_step newer look within ts)
    unfolding read_step
    step_fair [] m = axis_fair none [] m
    step_fair (t ∷ ts) m =
        let P = Fair step_size (2 * length (t ∷ ts)) in
        either_way P (sees dot (t ∷ ts)) (dot_fair Axis.self ts m.1)
        (either_way P (sees dots (t ∷ ts)) (dot_fair Axis.parent ts m.1)
        (axis_fair (axis_ahead (t ∷ ts)) (t ∷ ts) m))

    steps_fair : (n : ℕ) (ts : List Placed) → Near ts → Fair path_size (2 * length ts) (read_steps newer look within n ts)
    steps_fair zero ts m = near_at ts m
    steps_fair (suc n) ts m =
        let most = 2 * length ts in
        fair_then step_size path_size most most (read_step newer look within ts) _ (step_fair ts m) (λ s left k h. go s left k h (λ us j. steps_fair n us j))
      where
        go : (s : Step) (left : List Placed) → Near left → step_size s + 2 * length left ≤ 2 * length ts
            → ((us : List Placed) → Near us → Fair path_size (2 * length us) (read_steps newer look within n us))
            → Fair path_size (2 * length ts)
            (cond (sees slash left) (then (read_steps newer look within n (drop 1 left)) (λ rest. got (before s rest)))
            (cond (sees slashes left) (then (read_steps newer look within n (drop 1 left)) (λ rest. got (before s (deep rest)))) (got (before s stop) left)))
        go s [] k h on = (k, omega arith)
        go s (t ∷ us) k h on =
            let most = 2 * length ts in
            either_way (Fair path_size most) (sees slash (t ∷ us))
            (fair_then path_size path_size (2 * length us) most (read_steps newer look within n us) _ (on us k.1) (λ rest left j i. (j, omega arith)))
            (either_way (Fair path_size most) (sees slashes (t ∷ us))
            (fair_then path_size path_size (2 * length us) most (read_steps newer look within n us) _ (on us k.1) (λ rest left j i. (j, omega arith)))
            (k, omega arith))

    operand_fair : (ts : List Placed) → Near ts → Fair size_expr (2 * length ts) (read_operand newer look within ts)
    unfolding read_operand
    operand_fair [] m = omega arith
    operand_fair (t ∷ ts) m =
        let most = 2 * length (t ∷ ts) in
        let P = Fair size_expr most in
        let after = drop 1 ts in
        either_way P (says (ascii "not") (t ∷ ts) && sees open_round ts)
        (fair_then size_expr size_expr (2 * length after) most (then (within (at ts) after) (pass close_round)) _
        (bracket_fair close_round (at ts) after (near_at ts m.1) (near_one ts m.1)) (λ e left k h. (k, omega (arith, length-drop 1 ts))))
        (either_way P (sees open_round (t ∷ ts))
        (fair_more size_expr (2 * length ts) most (then (within t.place ts) (pass close_round)) (omega arith) (bracket_fair close_round t.place ts m.0 m.1))
        (fair_then path_size size_expr most most (read_steps newer look within (length (t ∷ ts)) (t ∷ ts)) _ (steps_fair (length (t ∷ ts)) (t ∷ ts) m) (λ s left k h. (k, h))))

    -- A run, whose operands are read so.
    run_fair : (run : Run) → ((a b : Expr) → size_expr (run.join a b) ≤ 1 + size_expr a + size_expr b)
        → ((ts : List Placed) → Near ts → Fair size_expr (2 * length ts) (run.one ts)) → (ts : List Placed) → Near ts
        → Fair size_expr (2 * length ts) (then (run.one ts) (λ a left. run.more (length left) a left))
    run_fair run grows one ts m =
        let most = 2 * length ts in
        fair_then size_expr size_expr most most (run.one ts) _ (one ts m)
        (λ a left k h.
        run_keeps run (λ x us. Near us × (size_expr x + 2 * length us ≤ most)) (Fair size_expr most) (λ x us i. i)
        (λ p x us i next on.
        fair_then size_expr size_expr (2 * length us) most (run.one us) next (one us i.0.1) (λ b rest j l. on b rest (j, omega (arith, i.1, grows x b))))
        (length left) a left (k, h))

    term_fair : (ts : List Placed) → Near ts → Fair size_expr (2 * length ts) (read_term newer look within ts)
    unfolding read_term
    term_fair ts m = run_fair (and_run newer look within) (λ a b. omega arith) operand_fair ts m

    expr_fair : (ts : List Placed) → Near ts → Fair size_expr (2 * length ts) (read_expr newer look within ts)
    unfolding read_expr
    expr_fair ts m = run_fair (or_run newer look within) (λ a b. omega arith) term_fair ts m

    path_fair : (ts : List Placed) → Near ts → Fair path_size (2 * length ts) (read_path newer look within ts)
    unfolding read_path
    path_fair [] m = omega arith
    path_fair (t ∷ ts) m =
        let most = 2 * length (t ∷ ts) in
        let P = Fair path_size most in
        let steps = steps_fair (length ts) ts m.1 in
        either_way P (sees slashes (t ∷ ts))
        (fair_then path_size path_size (2 * length ts) most (read_steps newer look within (length ts) ts) _ steps (λ rest left k h. (k, omega arith)))
        (either_way P (sees slash (t ∷ ts))
        (either_way P (starts_step (next ts)) (fair_more path_size (2 * length ts) most (read_steps newer look within (length ts) ts) (omega arith) steps) (m.1, omega arith))
        m.0)

    paths_fair : (n : ℕ) (ts : List Placed) → Near ts → Fair query_size (2 * length ts) (read_paths newer look within n ts)
    paths_fair zero ts m = near_at ts m
    paths_fair (suc n) ts m =
        let most = 2 * length ts in
        fair_then path_size query_size most most (read_path newer look within ts) _ (path_fair ts m) (λ p left k h. go p left k h (λ us j. paths_fair n us j))
      where
        go : (p : Steps) (left : List Placed) → Near left → path_size p + 2 * length left ≤ 2 * length ts
            → ((us : List Placed) → Near us → Fair query_size (2 * length us) (read_paths newer look within n us))
            → Fair query_size (2 * length ts)
            (cond (joins newer left) (then (read_paths newer look within n (drop 1 left)) (λ q. got (record { first = p; others = paths q })))
            (pass finish (record { first = p; others = [] }) left))
        go p [] k h on = (k, omega arith)
        go p (t ∷ us) k h on =
            let most = 2 * length ts in
            either_way (Fair query_size most) (joins newer (t ∷ us))
            (fair_then query_size query_size (2 * length us) most (read_paths newer look within n us) _ (on us k.1) (λ q left j i. (j, omega arith)))
            (fair_pass query_size most finish (record { first = p; others = [] }) (t ∷ us) k (omega arith))

  within_fair : (newer : Bool) (look : List ℕ → Option ℕ) (d p : ℕ) (ts : List Placed) → p ≤ last → Near ts → Fair size_expr (2 * length ts) (read_within newer look d p ts)
  within_fair newer look zero p ts l m = l
  within_fair newer look (suc d) p ts l m = expr_fair newer look (read_within newer look d) (within_fair newer look d) ts m

  -- The tokens of a text stand within it, and there is at most one a byte and the end.
  tokens_near : (taken at : ℕ) (bs : List ℕ) → at + length bs ≤ last → Near (tokens_from taken at bs)
  tokens_near taken at [] l = (omega arith, tt)
  tokens_near (suc taken) at (b ∷ bs) l = tokens_near taken (suc at) bs (omega arith)
  tokens_near zero at (b ∷ bs) l =
      either_way Near (white b) (tokens_near 0 (suc at) bs (omega arith)) (omega arith, tokens_near (beyond (token_at b bs)) (suc at) bs (omega arith))

tokens_few : (taken at : ℕ) (bs : List ℕ) → length (tokens_from taken at bs) ≤ suc (length bs)
tokens_few taken at [] = omega arith
tokens_few (suc taken) at (b ∷ bs) = omega (arith, tokens_few taken (suc at) bs)
tokens_few zero at (b ∷ bs) =
    either_way (λ (ts : List Placed). length ts ≤ suc (suc (length bs))) (white b) (omega (arith, tokens_few 0 (suc at) bs))
    (omega (arith, tokens_few (beyond (token_at b bs)) (suc at) bs))

-- What is known of a text that was read: its size, or the place of its refusal.
abbrev pub Bounded : List ℕ → Got Query → Type 0
Bounded text (got q left) = size q ≤ 2 * suc (length text)
Bounded text (refused number place) = place ≤ length text

-- A TEXT IS REFUSED WITHIN IT OR AT ITS END, AND IS READ AS AT MOST TWO ITEMS A BYTE AND TWO MORE.
pub text_bounded : (newer : Bool) (look : List ℕ → Option ℕ) (text : List ℕ) → Bounded text (read_text newer look text)
unfolding read_text tokens size
text_bounded newer look text =
    let ts = tokens_from 0 0 text in
    told (read_paths newer look (read_within newer look bracket_limit) (length ts) ts)
    (paths_fair (length text) newer look (read_within newer look bracket_limit) (within_fair (length text) newer look bracket_limit) (length ts) ts (tokens_near (length text) 0 0 text (omega arith)))
  where
    told : (r : Got Query) → Fair (length text) query_size (2 * length (tokens_from 0 0 text)) r → Bounded text r
    told (got q left) h = omega (arith, h.1, tokens_few 0 0 text)
    told (refused number place) h = h
