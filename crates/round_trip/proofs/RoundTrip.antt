-- Reading what was printed, in either form, gives the very same items. The items of an accepted print are a query whose names are all of the list; its pieces stand so that each is a
-- token of its own (`Spelling`), and reading them gives the query back (`Rereading`), once with any names and once with those of the list. Assumes nothing.
use Prim.Native.Nat.{ℕ, zero, suc, ◌+◌, ◌≤◌, ◌<◌}
use native.Mathlib.Omega.{arith}
use mathlib.Core.Path.{◌≡◌, refl, sym, ◌∙◌, ap, ap₂, subst}
use mathlib.Core.Bool.{Bool, true, false, not, ◌&&◌, ◌||◌, cond, false≢true}
use mathlib.Core.List.{List, [], ◌∷◌, ◌++◌, append_assoc, map}
use mathlib.Core.Option.{Option, none, some}
use lib.Dec.{leb, ltb}
use lib.ListN.{length, get_or, take, drop}
use lib.Seq.{take-append_seam}
use borrow.Author.Tests.{leb-false, leb-true, ltb-true, ltb-false, le-ltb}
use Rattle.paper.specs.Tools.{same, some_of, when}
use Rattle.paper.specs.Limits.{text_limit, list_limit, item_limit, bracket_limit, name_limit, names_limit}
use Rattle.paper.specs.Names.{Line, lines_from, is_name, bad_line, first_bad, names_fault, names_of, number_from, number_of}
use Rattle.paper.specs.Tokens.{Placed, finish, tokens}
use Rattle.paper.specs.Reading.{got, read_paths, read_within, read_text}
use Rattle.paper.specs.Query.{Axis, Test, any_node, text_node, named, any_element}
use Rattle.paper.specs.Query.{Expr, path, both, either, negated, Steps, stop, step, Preds, bare, pred, Query, paths}
use Rattle.paper.specs.Items.{step_at, step_count, pred_count, encode_expr, encode_steps, encode_preds, encode_paths, encode, decode, good_test, good_expr, good_steps, good_preds, good_paths, good, count_bound}
use Rattle.paper.specs.Measures.{is_and, is_or, nest_paths, nesting}
use Rattle.paper.specs.Printing.{Piece, close_pred, and_word, or_word}
use Rattle.paper.specs.Printing.{close_round as close_sign}
use Rattle.paper.specs.Printing.{grouped, head_pieces, expr_pieces, relative_pieces, later_pieces, preds_pieces, path_pieces, paths_pieces, pieces, printed}
use Rattle.paper.specs.Answers.{value, line, line_query, too_long, short, unknown_test, unknown_item, unknown_from, print_answer, print_out, is_newer, any_name, read_answer, read_items}
use Rattle.paper.specs.Answers.{Answer as Told}
use Rattle.paper.proofs.Tests.{and_true, none-some}
use Rattle.paper.proofs.Fields.{step-at}
use Rattle.paper.proofs.Abbreviating.{by_head, by_later}
use Rattle.paper.proofs.Encoding.{encode_decode}
use Rattle.paper.proofs.Sizes.{size_decoded}
use Rattle.paper.proofs.Same.{same_refl, same_turned}
use Rattle.paper.proofs.Refusing.{line_value, when_none, or_none}
use Rattle.round_trip.specs.RoundTrip.{RoundTrip}
use Rattle.round_trip.proofs.Spelling.{Soft, NoSlash, Spelt, Fine, tokens_of, laid, lexed}
use Rattle.round_trip.proofs.Rereading.{OfList, StepsOf, PredsOf, AllOf, reads_paths, enough_tokens, new_steps, same_steps, same_paths}

-- ITEMS: every item of a print that is accepted is known, so each name of the query is one of the list.
module _ (count : ℕ) where
  abbrev Known : List ℕ → Type 0
  Known [] = Unit {0}
  Known (w ∷ ws) = (unknown_item count (step_at w) ≡ false) × Known ws

  all_known : (ws : List ℕ) (at : ℕ) → unknown_from count at ws ≡ none → Known ws
  all_known [] at h = tt
  all_known (w ∷ ws) at h = go (unknown_item count (step_at w)) refl h (λ g. all_known ws (suc at) g)
    where
      go : (b : Bool) → unknown_item count (step_at w) ≡ b → cond b (some at) (unknown_from count (suc at) ws) ≡ none → (unknown_from count (suc at) ws ≡ none → Known ws) → Known (w ∷ ws)
      go true e g later = none-some (sym g)
      go false e g later = (e, later g)

  known_both : (xs ys : List ℕ) → Known (xs ++ ys) → Known xs × Known ys
  known_both [] ys k = (tt, k)
  known_both (x ∷ xs) ys k = let (a, b) = known_both xs ys k.1 in ((k.0, a), b)

  abbrev Below : ℕ → Type 0
  Below v = v < count

  test_of : (t : Test) → unknown_test count t ≡ false → Spelt Below t
  test_of any_node u = tt
  test_of text_node u = tt
  test_of (named v) u = leb-false count v u
  test_of any_element u = tt

  mutual
    expr_of : (e : Expr) → good_expr e ≡ true → Known (encode_expr e) → OfList Below e
    expr_of (path s) g k =
        let h = and_true (leb 1 (step_count s) && ltb (step_count s) count_bound) (good_steps s) g in
        (leb-true 1 (step_count s) (and_true (leb 1 (step_count s)) (ltb (step_count s) count_bound) h.0).0, steps_of s h.1 k.1)
    expr_of (both a b) g k =
        let h = and_true (good_expr a) (good_expr b) g in
        let l = known_both (encode_expr a) (encode_expr b) k.1 in
        (expr_of a h.0 l.0, expr_of b h.1 l.1)
    expr_of (either a b) g k =
        let h = and_true (good_expr a) (good_expr b) g in
        let l = known_both (encode_expr a) (encode_expr b) k.1 in
        (expr_of a h.0 l.0, expr_of b h.1 l.1)
    expr_of (negated a) g k = expr_of a g k.1

    steps_of : (s : Steps) → good_steps s ≡ true → Known (encode_steps s) → StepsOf Below s
    steps_of stop g k = tt
    steps_of (step a t ps rest) g k =
        let h = and_true (good_test t && ltb (pred_count ps) count_bound && good_preds ps) (good_steps rest) g in
        let i = and_true (good_test t && ltb (pred_count ps) count_bound) (good_preds ps) h.0 in
        let j = and_true (good_test t) (ltb (pred_count ps) count_bound) i.0 in
        let l = known_both (encode_preds ps) (encode_steps rest) k.1 in (
          test_of t (sym (ap (unknown_item count) (step-at a t (pred_count ps) j.0 (ltb-true (pred_count ps) count_bound j.1))) ∙ k.0),
          preds_of ps i.1 l.0,
          steps_of rest h.1 l.1,
        )

    preds_of : (ps : Preds) → good_preds ps ≡ true → Known (encode_preds ps) → PredsOf Below ps
    preds_of bare g k = tt
    preds_of (pred e ps) g k =
        let h = and_true (good_expr e) (good_preds ps) g in
        let l = known_both (encode_expr e) (encode_preds ps) k in
        (expr_of e h.0 l.0, preds_of ps h.1 l.1)

-- PIECES: each stands before pieces that it may stand before.
module _ (P : ℕ → Type 0) (brief : Bool) where
  abbrev FineBefore : List Piece → Type 0
  FineBefore ps = (qs : List Piece) → Soft qs → Fine P qs → Fine P (ps ++ qs)

  fine_group : (b : Bool) (ps : List Piece) → FineBefore ps → FineBefore (grouped b ps)
  fine_group true ps k qs s g = rw (append_assoc ps (close_sign ∷ []) qs) (tt, k (close_sign ∷ qs) refl (tt, g))
  fine_group false ps k qs s g = k qs s g

  later_soft : (s : Steps) (qs : List Piece) → Soft qs → Soft (later_pieces brief s ++ qs)
  later_soft stop qs h = h
  later_soft (step a t ps s) qs h = by_later (λ rs. Soft (rs ++ qs)) brief a t ps s (λ d. refl) refl

  preds_soft : (ps : Preds) (qs : List Piece) → Soft qs → Soft (preds_pieces brief ps ++ qs)
  preds_soft bare qs h = h
  preds_soft (pred e ps) qs h = refl

  -- A head, which begins with no `/`.
  fine_head : (a : Axis) (t : Test) (count : ℕ) → Spelt P t → FineBefore (head_pieces brief a t count)
  fine_head a t count k = by_head FineBefore brief a t count (λ p qs s g. (s, g)) (λ p qs s g. (tt, g)) (λ p qs s g. ((s, k), g)) (λ qs s g. (refl, (tt, ((s, k), g))))

  head_slash : (a : Axis) (t : Test) (count : ℕ) (qs : List Piece) → NoSlash (head_pieces brief a t count ++ qs)
  head_slash a t count qs = by_head (λ hs. NoSlash (hs ++ qs)) brief a t count (λ p. refl) (λ p. refl) (λ p. refl) refl

  -- A step, its predicates and what follows.
  fine_step : (a : Axis) (t : Test) (ps : Preds) (s : Steps) → Spelt P t → FineBefore (preds_pieces brief ps) → FineBefore (later_pieces brief s) → FineBefore (relative_pieces brief (step a t ps s))
  fine_step a t ps s k fp fl qs h g =
      let hs = head_pieces brief a t (pred_count ps) in
      let after = later_pieces brief s ++ qs in
      rw (append_assoc hs (preds_pieces brief ps ++ later_pieces brief s) qs, append_assoc (preds_pieces brief ps) (later_pieces brief s) qs)
      (fine_head a t (pred_count ps) k (preds_pieces brief ps ++ after) (preds_soft ps after (later_soft s qs h)) (fp after (later_soft s qs h) (fl qs h g)))

  step_slash : (a : Axis) (t : Test) (ps : Preds) (s : Steps) (qs : List Piece) → NoSlash (relative_pieces brief (step a t ps s) ++ qs)
  step_slash a t ps s qs =
      rw (append_assoc (head_pieces brief a t (pred_count ps)) (preds_pieces brief ps ++ later_pieces brief s) qs)
      (head_slash a t (pred_count ps) (preds_pieces brief ps ++ later_pieces brief s ++ qs))

  mutual
    fine_expr : (e : Expr) → OfList P e → FineBefore (expr_pieces brief e)
    fine_expr (path s) k = λ qs h g. fine_relative s k.1 qs h g
    fine_expr (both a b) k =
        λ qs h g.
        rw (append_assoc (grouped (is_or a) (expr_pieces brief a)) (and_word ∷ grouped (is_or b || is_and b) (expr_pieces brief b)) qs)
        (fine_group (is_or a) (expr_pieces brief a) (λ rs i j. fine_expr a k.0 rs i j) (and_word ∷ grouped (is_or b || is_and b) (expr_pieces brief b) ++ qs) refl
        (tt, fine_group (is_or b || is_and b) (expr_pieces brief b) (λ rs i j. fine_expr b k.1 rs i j) qs h g))
    fine_expr (either a b) k =
        λ qs h g.
        rw (append_assoc (expr_pieces brief a) (or_word ∷ grouped (is_or b) (expr_pieces brief b)) qs)
        (fine_expr a k.0 (or_word ∷ grouped (is_or b) (expr_pieces brief b) ++ qs) refl
        (tt, fine_group (is_or b) (expr_pieces brief b) (λ rs i j. fine_expr b k.1 rs i j) qs h g))
    fine_expr (negated a) k = λ qs h g. rw (append_assoc (expr_pieces brief a) (close_sign ∷ []) qs) (tt, fine_expr a k (close_sign ∷ qs) refl (tt, g))

    fine_relative : (s : Steps) → StepsOf P s → FineBefore (relative_pieces brief s)
    fine_relative stop k = λ qs h g. g
    fine_relative (step a t ps s) k = fine_step a t ps s k.0 (λ qs h g. fine_preds ps k.1 qs h g) (λ qs h g. fine_later s k.2 qs h g)

    fine_later : (s : Steps) → StepsOf P s → FineBefore (later_pieces brief s)
    fine_later stop k = λ qs h g. g
    fine_later (step a t ps s) k =
        by_later FineBefore brief a t ps s (λ d qs h g. (tt, fine_relative s k.2 qs h g))
        (λ qs h g. (step_slash a t ps s qs, fine_step a t ps s k.0 (λ rs i j. fine_preds ps k.1 rs i j) (λ rs i j. fine_later s k.2 rs i j) qs h g))

    fine_preds : (ps : Preds) → PredsOf P ps → FineBefore (preds_pieces brief ps)
    fine_preds bare k = λ qs h g. g
    fine_preds (pred e ps) k =
        λ qs h g.
        rw (append_assoc (expr_pieces brief e) (close_pred ∷ preds_pieces brief ps) qs)
        (tt, fine_expr e k.0 (close_pred ∷ preds_pieces brief ps ++ qs) refl (tt, fine_preds ps k.1 qs h g))

  fine_path : (s : Steps) → StepsOf P s → (qs : List Piece) → Soft qs → NoSlash qs → Fine P qs → Fine P (path_pieces brief s ++ qs)
  fine_path stop k qs h n g = (n, g)
  fine_path (step a t ps s) k qs h n g = fine_later (step a t ps s) k qs h g

  paths_start : (ps : List Steps) → Soft (paths_pieces brief ps) × NoSlash (paths_pieces brief ps)
  paths_start [] = (tt, tt)
  paths_start (p ∷ ps) = (refl, refl)

  pub fine_paths : (ps : List Steps) → AllOf P ps → Fine P (paths_pieces brief ps)
  fine_paths [] k = tt
  fine_paths (p ∷ ps) k = (tt, fine_path p k.0 (paths_pieces brief ps) (paths_start ps).0 (paths_start ps).1 (fine_paths ps k.1))

paths_of : (count : ℕ) (ps : List Steps) → good_paths ps ≡ true → Known count (encode_paths ps) → AllOf (Below count) ps
paths_of count [] g k = tt
paths_of count (p ∷ ps) g k =
    let h = and_true (ltb (step_count p) count_bound && good_steps p) (good_paths ps) g in
    let l = known_both count (encode_expr (path p)) (encode_paths ps) k in
    (steps_of count p (and_true (ltb (step_count p) count_bound) (good_steps p) h.0).1 l.0.1, paths_of count ps h.1 l.1)

-- NAMES: in a list with no fault each line is a name, and no line repeats an earlier one.
-- A line that is not bad.
fair_line : (earlier : List (List ℕ)) (l : Line) → bad_line earlier l ≡ false → (is_name l.says ≡ true) × (some_of (same l.says) earlier ≡ false)
unfolding bad_line
fair_line earlier l h =
    let a = or_none (not (is_name l.says) || ltb name_limit (length l.says) || not l.ended || leb names_limit (length earlier)) (some_of (same l.says) earlier) h in
    let b = or_none (not (is_name l.says) || ltb name_limit (length l.says) || not l.ended) (leb names_limit (length earlier)) a.0 in
    let c = or_none (not (is_name l.says) || ltb name_limit (length l.says)) (not l.ended) b.0 in
    let d = or_none (not (is_name l.says)) (ltb name_limit (length l.says)) c.0 in
    (is (is_name l.says) d.0, a.1)
  where
    is : (b : Bool) → not b ≡ false → b ≡ true
    is true e = refl
    is false e = absurd (false≢true (sym e))

-- Where no line is bad, the first is not and those after it are not.
no_fault : (earlier : List (List ℕ)) (l : Line) (ls : List Line) → first_bad earlier (l ∷ ls) ≡ none → (bad_line earlier l ≡ false) × (first_bad (l.says ∷ earlier) ls ≡ none)
no_fault earlier l ls h = go (bad_line earlier l) refl h
  where
    go : (b : Bool) → bad_line earlier l ≡ b → cond b (some l.start) (first_bad (l.says ∷ earlier) ls) ≡ none → (bad_line earlier l ≡ false) × (first_bad (l.says ∷ earlier) ls ≡ none)
    go true e g = none-some (sym g)
    go false e g = (e, g)

fair : (ls : List Line) (earlier : List (List ℕ)) → first_bad earlier ls ≡ none → (v : ℕ) → v < length (map (λ l. l.says) ls)
    → (is_name (get_or (map (λ l. l.says) ls) v []) ≡ true) × (some_of (same (get_or (map (λ l. l.says) ls) v [])) earlier ≡ false)
fair [] earlier h v l = absurd (omega arith)
fair (x ∷ ls) earlier h zero l = fair_line earlier x (no_fault earlier x ls h).0
fair (x ∷ ls) earlier h (suc v) l =
    let g = fair ls (x.says ∷ earlier) (no_fault earlier x ls h).1 v (omega arith) in
    (g.0, (or_none (same (get_or (map (λ l. l.says) ls) v []) x.says) (some_of (same (get_or (map (λ l. l.says) ls) v [])) earlier) g.1).1)

-- So each name has its own number.
numbered : (ls : List Line) (earlier : List (List ℕ)) → first_bad earlier ls ≡ none → (k v : ℕ) → v < length (map (λ l. l.says) ls)
    → number_from k (map (λ l. l.says) ls) (get_or (map (λ l. l.says) ls) v []) ≡ some (k + v)
numbered [] earlier h k v l = absurd (omega arith)
numbered (x ∷ ls) earlier h k zero l = let e : k ≡ k + 0 = omega arith in rw (same_refl x.says, ← e)
numbered (x ∷ ls) earlier h k (suc v) l =
    let n = no_fault earlier x ls h in
    let w = get_or (map (λ l. l.says) ls) v [] in
    let g = fair ls (x.says ∷ earlier) n.1 v (omega arith) in
    let other : same x.says w ≡ false = same_turned x.says w ∙ (or_none (same w x.says) (some_of (same w) earlier) g.1).0 in
    let e : suc k + v ≡ k + suc v = omega arith in
    rw (other, numbered ls (x.says ∷ earlier) n.1 (suc k) v (omega arith), e)

module _ (list : List ℕ) (h : names_fault list ≡ none) where
  name_spelt : (v : ℕ) → v < length (names_of list) → is_name (get_or (names_of list) v []) ≡ true
  unfolding names_fault names_of
  name_spelt v l = (fair (lines_from 0 list) [] h v l).0

  name_found : (v : ℕ) → v < length (names_of list) → number_of (names_of list) (get_or (names_of list) v []) ≡ some v
  unfolding names_fault names_of
  name_found v l = let e : 0 + v ≡ v = omega arith in numbered (lines_from 0 list) [] h 0 v l ∙ ap some e

  -- READING A PRINTED TEXT.
  module _ (q : Query) (fine : good_paths (paths q) ≡ true) (nest : nest_paths (paths q) ≤ bracket_limit) (known : Known (length (names_of list)) (encode_paths (paths q))) where
    abbrev P : ℕ → Type 0
    P v = v < length (names_of list)

    all : AllOf P (paths q)
    all = paths_of (length (names_of list)) (paths q) fine known

    read_back : (brief newer : Bool) (look : List ℕ → Option ℕ) (f : ℕ → ℕ) → ((v : ℕ) → P v → look (get_or (names_of list) v []) ≡ some (f v))
        → read_text newer look (printed brief (names_of list) q) ≡ got (record { first = new_steps f q.first; others = map (new_steps f) q.others }) []
    unfolding read_text tokens printed pieces
    read_back brief newer look f finds =
        let l =
        lexed P (names_of list) name_spelt (path_pieces brief q.first ++ paths_pieces brief q.others)
        (fine_path P brief q.first all.0 (paths_pieces brief q.others) (paths_start P brief q.others).0 (paths_start P brief q.others).1 (fine_paths P brief q.others all.1)) 0 in
        let last : List Placed = record { place = l.end; token = finish } ∷ [] in
        let ts = laid l.places (tokens_of (names_of list) (path_pieces brief q.first ++ paths_pieces brief q.others)) last in
        ap (λ (x : List Placed). read_paths newer look (read_within newer look bracket_limit) (length x) x) l.are ∙
        reads_paths P (names_of list) brief newer look f finds q.others q.first all.0 all.1 bracket_limit (length ts) l.places l.end nest
        (enough_tokens P (names_of list) brief newer look f finds q.first q.others l.places last)

    same_query : (brief newer : Bool) → read_text newer (number_of (names_of list)) (printed brief (names_of list) q) ≡ got q []
    same_query brief newer =
        read_back brief newer (number_of (names_of list)) (λ v. v) name_found ∙
        ap (λ (x : Query). got x []) (ap₂ (λ (s : Steps) (ss : List Steps). record { first = s; others = ss }) (same_steps q.first) (same_paths q.others))

-- WHAT AN ACCEPTED PRINT SAYS.
pub record Accepted (brief : Bool) (query list : List ℕ) (room n : ℕ) : Type 0 where
  pub few_items : length query ≤ item_limit
  pub few_bytes : length list ≤ list_limit
  pub no_fault : names_fault list ≡ none
  pub is : Query
  pub decoded : decode query ≡ some is
  pub all_found : unknown_from (length (names_of list)) 0 query ≡ none
  pub counted : length (printed brief (names_of list) is) ≡ n
  pub fits : n ≤ room

value_same : (a b : ℕ) → value a ≡ value b → a ≡ b
value_same a b h = cc

query_value : (n number place : ℕ) (o : Option Query) (later : Query → Told) → line_query number place o later ≡ value n → (q : Query) × (o ≡ some q) × (later q ≡ value n)
query_value n number place none later h = absurd (let z : ◌≡◌ {A = ℕ} 0 1 = cc in omega arith)
query_value n number place (some q) later h = (q, refl, h)

pub accepted : (brief : Bool) (query list : List ℕ) (room n : ℕ) → print_answer brief query list room ≡ value n → Accepted brief query list room n
unfolding print_answer
accepted brief query list room n h =
    let needed : Query → ℕ = λ q. length (printed brief (names_of list) q) in
    let last : Query → Told = λ q. line 10 (short room (needed q)) (value (needed q)) in
    let later : Query → Told = λ q. line 5 (unknown_from (length (names_of list)) 0 query) (last q) in
    let a = line_value 1 n (when (too_long query item_limit || too_long list list_limit) 0) (line 2 (names_fault list) (line_query 6 0 (decode query) later)) h in
    let b = line_value 2 n (names_fault list) (line_query 6 0 (decode query) later) a.1 in
    let c = query_value n 6 0 (decode query) later b.1 in
    let d = line_value 5 n (unknown_from (length (names_of list)) 0 query) (last c.0) c.2 in
    let e = line_value 10 n (short room (needed c.0)) (value (needed c.0)) d.1 in
    let w = or_none (too_long query item_limit) (too_long list list_limit) (when_none (too_long query item_limit || too_long list list_limit) 0 a.0) in
    record {
      few_items = ltb-false item_limit (length query) w.0;
      few_bytes = ltb-false list_limit (length list) w.1;
      no_fault = b.0;
      is = c.0;
      decoded = c.1;
      all_found = d.0;
      counted = value_same (needed c.0) n e.1;
      fits = omega (arith, value_same (needed c.0) n e.1, ltb-false room (needed c.0) (when_none (ltb room (needed c.0)) (needed c.0) e.0));
    }

-- The text that an accepted print leaves.
text_left : (brief : Bool) (query list out : List ℕ) (n : ℕ) → print_answer brief query list (length out) ≡ value n → (a : Accepted brief query list (length out) n)
    → take n (print_out brief query list out) ≡ printed brief (names_of list) a.is
unfolding print_out
text_left brief query list out n h a =
    let text = printed brief (names_of list) a.is in
    rw (h, a.decoded, ← a.counted) (take-append_seam text (drop (length text) out))

-- What decoding says, path by path.
items_of : (ws : List ℕ) (q : Query) → ws ≡ encode q → ws ≡ encode_paths (paths q)
unfolding encode
items_of ws q e = e

fine_of : (q : Query) → good q ≡ true → good_paths (paths q) ≡ true
unfolding good
fine_of q e = e

nest-of : (q : Query) → nesting q ≤ bracket_limit → nest_paths (paths q) ≤ bracket_limit
unfolding nesting
nest-of q e = e

-- ROUND TRIP.
pub round_trip : RoundTrip
unfolding read_answer read_items
round_trip brief query list out n room version fine h most fits =
    let a = accepted brief query list (length out) n h in
    let text = printed brief (names_of list) a.is in
    let d = encode_decode query a.is a.decoded in
    let known : Known (length (names_of list)) (encode_paths (paths a.is)) = subst (Known (length (names_of list))) (items_of query a.is d.items) (all_known (length (names_of list)) query 0 a.all_found) in
    let good-one = fine_of a.is d.fine in
    let nest-one = nest-of a.is d.nested in
    let any = read_back list a.no_fault a.is good-one nest-one known brief (is_newer version) any_name (λ v. 0) (λ v l. refl) in
    let own = same_query list a.no_fault a.is good-one nest-one known brief (is_newer version) in
    let s = size_decoded query a.is a.decoded in
    rw (text_left brief query list out n h a) (
      rw (le-ltb text_limit (length text) (omega (arith, a.counted)), le-ltb list_limit (length list) a.few_bytes, fine, a.no_fault, any, own, s, le-ltb room (length query) fits, le-ltb item_limit (length query) a.few_items),
      rw own (sym d.items),
    )
