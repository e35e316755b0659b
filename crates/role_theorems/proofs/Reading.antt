-- What reading accepts is a query that can stand in memory: its names are below 256, each path of a predicate has a step, and no more brackets are printed than were read. By induction over the derivation. Assumes nothing.
use Prim.Native.Nat.{ℕ, zero, suc, ◌+◌, ◌≤◌, ◌<◌, max}
use native.Mathlib.Omega.{arith}
use mathlib.Core.Path.{◌≡◌, refl, sym, ◌∙◌, ap}
use mathlib.Core.Bool.{Bool, true, false, not, ◌||◌, cond}
use mathlib.Core.List.{List, [], ◌∷◌, map}
use mathlib.Core.Option.{Option, none, some}
use lib.Dec.{ltb, leb}
use lib.ListN.{length}
use borrow.Author.Tests.{lt-ltb, ltb-false, leb-false}
use Rattle.paper.specs.Tools.{when, same, some_of}
use Rattle.paper.specs.Limits.{item_limit, bracket_limit, name_limit, names_limit, text_limit, list_limit}
use Rattle.paper.specs.Tokens.{Placed, tokens}
use Rattle.paper.specs.Query.{Test, Expr, path, both, either, negated, Steps, Preds, Query, paths}
use Rattle.paper.specs.Names.{Line, lines_from, is_name, bad_line, first_bad, names_fault, names_of, number_from, number_of}
use Rattle.paper.specs.Reading.{Got, got, refused, Step, read_text}
use Rattle.paper.specs.Items.{good_test, good, encode, decode, step_count}
use Rattle.paper.specs.Measures.{is_and, is_or, in_brackets, nest_expr, nest_steps, nest_preds, nest_paths, nesting, size}
use Rattle.paper.specs.Answers.{Answer, value, refusal, line, line_got, too_long, no_version, any_name, short_of_items, items_got, read_answer, read_items}
use Rattle.paper.proofs.Tests.{none-some, some_inj}
use Rattle.paper.proofs.Refusing.{line_value, when_none, or_none}
use Rattle.paper.proofs.Decoding.{decode_encode}
use Rattle.paper.proofs.Sizes.{size_items}
use Rattle.theorems.specs.Demands.{ProperExpr, ProperSteps, ProperPreds, ProperPaths, Proper}
use Rattle.query_grammar.specs.Grammar.{PredsIn, no_pred, one_pred, TestIn, star_test, node_test, text_test, name_test}
use Rattle.query_grammar.specs.Grammar.{DotIn, dot_alone, dot_preds, StepIn, dot_step, dots_step, child_step, axis_step, StepsIn, last_step_lem, slash_step, slashes_step}
use Rattle.query_grammar.specs.Grammar.{OperandIn, path_operand, round_operand, not_operand, TermIn, one_operand, and_operand, ExprIn, one_term, or_term}
use Rattle.query_grammar.specs.Grammar.{PathIn, root_path, slash_path, slashes_path, QueryIn, one_path, join_path, Within, Derives}
use Rattle.query_grammar.proofs.Accepted.{accepted_text, all_read}
use Rattle.theorems.proofs.Forms.{proper_good}
use Rattle.role_theorems.specs.Gateway.{ReadIsQuery}

-- BRACKETS.
bracket_most : (b : Bool) (n : ℕ) → in_brackets b n ≤ 1 + n
bracket_most true n = omega arith
bracket_most false n = omega arith

bracket_least : (b : Bool) (n : ℕ) → n ≤ in_brackets b n
bracket_least true n = omega arith
bracket_least false n = omega arith

bracket_or : (a b : Bool) (n : ℕ) → in_brackets a n ≤ in_brackets (a || b) n
bracket_or true b n = omega arith
bracket_or false b n = bracket_least b n

-- THE PARTS OF A QUERY, where what stands in a bracket keeps the rules and has less than d brackets.
module _ (newer : Bool) (look : List ℕ → Option ℕ) (known : (w : List ℕ) (v : ℕ) → look w ≡ some v → v < names_limit) (d : ℕ)
    (Inside : List Placed → Expr → List Placed → Type 0)
    (inside : (ts : List Placed) (e : Expr) (rest : List Placed) → Inside ts e rest → ProperExpr e × (1 + nest_expr e ≤ d)) where
  preds_fine : {ts rest : List Placed} {ps : Preds} → PredsIn newer look Inside ts ps rest → ProperPreds ps × (nest_preds ps ≤ d)
  preds_fine no_pred = (tt, omega arith)
  preds_fine (one_pred i r) =
      let e = inside _ _ _ i in
      let more = preds_fine r in
      ((e.0, more.0), omega (arith, e.1, more.1))

  test_fine : {ts rest : List Placed} {t : Test} → TestIn newer look Inside ts t rest → good_test t ≡ true
  test_fine star_test = refl
  test_fine node_test = refl
  test_fine text_test = refl
  test_fine (name_test {v = v} {w = w} h) = lt-ltb v names_limit (known w v h)

  dot_fine : {ts rest : List Placed} {ps : Preds} → DotIn newer look Inside ts ps rest → ProperPreds ps × (nest_preds ps ≤ d)
  dot_fine dot_alone = (tt, omega arith)
  dot_fine (dot_preds n r) = preds_fine r

  step_fine : {ts rest : List Placed} {s : Step} → StepIn newer look Inside ts s rest → (good_test s.test ≡ true) × ProperPreds s.preds × (nest_preds s.preds ≤ d)
  step_fine (dot_step r) = let p = dot_fine r in (refl, p.0, p.1)
  step_fine (dots_step r) = let p = dot_fine r in (refl, p.0, p.1)
  step_fine (child_step t r) = let p = preds_fine r in (test_fine t, p.0, p.1)
  step_fine (axis_step n t r) = let p = preds_fine r in (test_fine t, p.0, p.1)

  steps_fine : {ts rest : List Placed} {s : Steps} → StepsIn newer look Inside ts s rest → (1 ≤ step_count s) × ProperSteps s × (nest_steps s ≤ d)
  steps_fine (last_step_lem r) = let p = step_fine r in (omega arith, (p.0, (p.1, tt)), omega (arith, p.2))
  steps_fine (slash_step r more) =
      let p = step_fine r in
      let q = steps_fine more in
      (omega arith, (p.0, (p.1, q.1)), omega (arith, p.2, q.2))
  steps_fine (slashes_step r more) =
      let p = step_fine r in
      let q = steps_fine more in
      (omega arith, (p.0, (p.1, (refl, (tt, q.1)))), omega (arith, p.2, q.2))

  operand_fine : {ts rest : List Placed} {e : Expr} → OperandIn newer look Inside ts e rest → ProperExpr e × (in_brackets (is_or e || is_and e) (nest_expr e) ≤ d)
  operand_fine (path_operand r) = let p = steps_fine r in ((p.0, p.1), p.2)
  operand_fine (round_operand {e = e} i) = let p = inside _ _ _ i in (p.0, omega (arith, p.1, bracket_most (is_or e || is_and e) (nest_expr e)))
  operand_fine (not_operand i) = let p = inside _ _ _ i in (p.0, p.1)

  term_fine : {ts rest : List Placed} {e : Expr} → TermIn newer look Inside ts e rest → ProperExpr e × (in_brackets (is_or e) (nest_expr e) ≤ d)
  term_fine (one_operand {e = e} r) = let p = operand_fine r in (p.0, omega (arith, p.1, bracket_or (is_or e) (is_and e) (nest_expr e)))
  term_fine (and_operand r more) =
      let p = term_fine r in
      let q = operand_fine more in
      ((p.0, q.0), omega (arith, p.1, q.1))

  expr_fine : {ts rest : List Placed} {e : Expr} → ExprIn newer look Inside ts e rest → ProperExpr e × (nest_expr e ≤ d)
  expr_fine (one_term {e = e} r) = let p = term_fine r in (p.0, omega (arith, p.1, bracket_least (is_or e) (nest_expr e)))
  expr_fine (or_term r more) =
      let p = expr_fine r in
      let q = term_fine more in
      ((p.0, q.0), omega (arith, p.1, q.1))

  path_fine : {ts rest : List Placed} {s : Steps} → PathIn newer look Inside ts s rest → ProperSteps s × (nest_steps s ≤ d)
  path_fine root_path = (tt, omega arith)
  path_fine (slash_path r) = let p = steps_fine r in (p.1, p.2)
  path_fine (slashes_path r) = let p = steps_fine r in ((refl, (tt, p.1)), omega (arith, p.2))

  query_fine : {ts rest : List Placed} {q : Query} → QueryIn newer look Inside ts q rest → ProperPaths (paths q) × (nest_paths (paths q) ≤ d)
  query_fine (one_path r) = let p = path_fine r in ((p.0, tt), omega (arith, p.1))
  query_fine (join_path j r more) =
      let p = path_fine r in
      let q = query_fine more in
      ((p.0, q.0), omega (arith, p.1, q.1))

-- So it is at every depth.
within_fine : (newer : Bool) (look : List ℕ → Option ℕ) → ((w : List ℕ) (v : ℕ) → look w ≡ some v → v < names_limit) → (d : ℕ) (ts : List Placed) (e : Expr) (rest : List Placed)
    → Within newer look d ts e rest → ProperExpr e × (1 + nest_expr e ≤ d)
within_fine newer look known zero ts e rest i = absurd i
within_fine newer look known (suc d) ts e rest i =
    let p = expr_fine newer look known d (Within newer look d) (within_fine newer look known d) i in (p.0, omega (arith, p.1))

-- A derived query keeps 01's rules, and has no more brackets open at once than it may.
derived_fine : (newer : Bool) (look : List ℕ → Option ℕ) → ((w : List ℕ) (v : ℕ) → look w ≡ some v → v < names_limit) → (d : ℕ) (ts : List Placed) (q : Query)
    → Derives newer look d ts q → Proper q × (nesting q ≤ d)
unfolding nesting
derived_fine newer look known d ts q (p, r) = query_fine newer look known d (Within newer look d) (within_fine newer look known d) r

-- NAMES. A list without fault has at most 256, so the number of a name is below that.
number_below : (k : ℕ) (names : List (List ℕ)) (word : List ℕ) (v : ℕ) → number_from k names word ≡ some v → v < k + length names
number_below k [] word v h = none-some h
number_below k (n ∷ ns) word v h = go (same n word) h (number_below (suc k) ns word v)
  where
    go : (b : Bool) → cond b (some k) (number_from (suc k) ns word) ≡ some v → (number_from (suc k) ns word ≡ some v → v < suc k + length ns) → v < k + suc (length ns)
    go true e later = omega (arith, some_inj e)
    go false e later = omega (arith, later e)

fault_free : (earlier : List (List ℕ)) (l : Line) → bad_line earlier l ≡ false → length earlier < names_limit
unfolding bad_line
fault_free earlier l h =
    let a = or_none (not (is_name l.says) || ltb name_limit (length l.says) || not l.ended || leb names_limit (length earlier)) (some_of (same l.says) earlier) h in
    let b = or_none (not (is_name l.says) || ltb name_limit (length l.says) || not l.ended) (leb names_limit (length earlier)) a.0 in
    leb-false names_limit (length earlier) b.1

lines_few : (earlier : List (List ℕ)) (ls : List Line) → first_bad earlier ls ≡ none → length earlier ≤ names_limit → length earlier + length (map (λ l. l.says) ls) ≤ names_limit
lines_few earlier [] h few = omega arith
lines_few earlier (l ∷ ls) h few = go (bad_line earlier l) refl (lines_few (l.says ∷ earlier) ls)
  where
    go : (b : Bool) → bad_line earlier l ≡ b
        → (first_bad (l.says ∷ earlier) ls ≡ none → suc (length earlier) ≤ names_limit → suc (length earlier) + length (map (λ l. l.says) ls) ≤ names_limit)
        → length earlier + suc (length (map (λ l. l.says) ls)) ≤ names_limit
    go true p later = none-some (sym (rw p at h))
    go false p later = let m = later (rw p at h) (omega (arith, fault_free earlier l p)) in omega (arith, m)

names_few : (list : List ℕ) → names_fault list ≡ none → length (names_of list) ≤ names_limit
unfolding names_fault names_of
names_few list h = omega (arith, lines_few [] (lines_from 0 list) h (omega arith))

-- THE ITEMS OF A TEXT. What an accepted reading says of its query.
pub record Reads (text list : List ℕ) (n : ℕ) : Type 0 where
  pub is : Query
  pub items : read_items text 1 list ≡ encode is
  pub decodes : decode (read_items text 1 list) ≡ some is
  pub fine : good is ≡ true
  pub nested : nesting is ≤ bracket_limit
  pub names_good : names_fault list ≡ none
  pub few : size is ≤ item_limit

got_value : (n : ℕ) (g : Got Query) (later : Answer) → line_got g (λ q. later) ≡ value n → later ≡ value n
got_value n (refused number place) later h = absurd (let z : ◌≡◌ {A = ℕ} 0 1 = cc in omega arith)
got_value n (got q left) later h = h

module _ (text list : List ℕ) (n room : ℕ) where
  text_read : names_fault list ≡ none → (g : Got Query) → read_text false (number_of (names_of list)) text ≡ g
      → line_got g (λ q. line 10 (short_of_items room (size q)) (value (size q))) ≡ value n → Reads text list n
  unfolding read_items
  text_read f (refused number place) e h = absurd (let z : ◌≡◌ {A = ℕ} 0 1 = cc in omega arith)
  text_read f (got q left) e h =
      let whole : read_text false (number_of (names_of list)) text ≡ got q [] = rw (all_read false (number_of (names_of list)) text q left e) at e in
      let derived = (accepted_text false (number_of (names_of list)) text q).0 whole in
      let known : (w : List ℕ) (v : ℕ) → number_of (names_of list) w ≡ some v → v < names_limit =
      λ w v k. omega (arith, number_below 0 (names_of list) w v k, names_few list f) in
      let p = derived_fine false (number_of (names_of list)) known bracket_limit (tokens text) q derived in
      let ten = line_value 10 n (short_of_items room (size q)) (value (size q)) h in
      let short-of = when_none (ltb room (size q) || ltb item_limit (size q)) (size q) ten.0 in
      let few = ltb-false item_limit (size q) (or_none (ltb room (size q)) (ltb item_limit (size q)) short-of).1 in
      let fine = proper_good q p.0 few in
      let items : read_items text 1 list ≡ encode q = ap items_got e in
      record {
        is = q;
        items = items;
        decodes = ap decode items ∙ decode_encode q fine p.1;
        fine = fine;
        nested = p.1;
        names_good = f;
        few = few;
      }

  pub reads : read_answer text 1 list room ≡ value n → Reads text list n
  unfolding read_answer
  reads h =
      let second = (line_value 1 n (when (too_long text text_limit || too_long list list_limit || false) 0) _ h).1 in
      let third = line_value 2 n (names_fault list) _ second in
      text_read third.0 (read_text false (number_of (names_of list)) text) refl (got_value n (read_text false any_name text) _ third.1)

pub read_is_query : ReadIsQuery
read_is_query text list room n h = let r = reads text list n room h in (r.is, r.decodes)

-- It has at most 4,096 items.
pub read_few : (text list : List ℕ) (n room : ℕ) → read_answer text 1 list room ≡ value n → length (read_items text 1 list) ≤ item_limit
read_few text list n room h = let r = reads text list n room h in omega (arith, ap length r.items, size_items r.is, r.few)
