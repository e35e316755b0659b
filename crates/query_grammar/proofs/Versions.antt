-- What version 1 accepts means the same in version 2: a derivation by version 1 is one by version 2.
-- By induction over the derivation, and over texts by what is accepted exactly. Assumes nothing.
use Prim.Native.Nat.{ℕ, zero, suc}
use native.Mathlib.Omega.{arith}
use mathlib.Core.Path.{◌≡◌, refl, sym, ◌∙◌, ap}
use mathlib.Core.Bool.{true, false, ◌||◌, false≢true}
use mathlib.Core.List.{List, []}
use mathlib.Core.Option.{Option, none}
use Rattle.paper.specs.Tools.{when}
use Rattle.paper.specs.Limits.{bracket_limit, text_limit, list_limit}
use Rattle.paper.specs.Tokens.{Token, Placed, tokens}
use Rattle.paper.specs.Query.{Test, Expr, Steps, Preds, Query}
use Rattle.paper.specs.Measures.{size}
use Rattle.paper.specs.Names.{names_fault, names_of, number_of}
use Rattle.paper.specs.Reading.{Got, got, refused, Step, read_text}
use Rattle.paper.specs.Answers.{value, line, line_got, too_long, short_of_items, any_name, read_last, read_answer, read_items}
use Rattle.paper.specs.Answers.{Answer as Told}
use Rattle.paper.proofs.Refusing.{line_value}
use Rattle.query_grammar.specs.Grammar.{PredsIn, no_pred, one_pred, TestIn, star_test, node_test, text_test, name_test}
use Rattle.query_grammar.specs.Grammar.{DotIn, dot_alone, dot_preds, StepIn, dot_step, dots_step, child_step, axis_step, StepsIn, last_step_lem, slash_step, slashes_step}
use Rattle.query_grammar.specs.Grammar.{OperandIn, path_operand, round_operand, not_operand, TermIn, one_operand, and_operand, ExprIn, one_term, or_term}
use Rattle.query_grammar.specs.Grammar.{PathIn, root_path, slash_path, slashes_path, Joins, bar_joins, union_joins, QueryIn, one_path, join_path, Within}
use Rattle.query_grammar.specs.Versions.{NewerDerives, NewerReads, NewerReadsText, NewerAnswers}
use Rattle.query_grammar.proofs.Accepted.{derived_if, read_if, tokens_ended}

module _ (look : List ℕ → Option ℕ) (Inside Newer : List Placed → Expr → List Placed → Type 0)
    (inside : (ts : List Placed) (e : Expr) (rest : List Placed) → Inside ts e rest → Newer ts e rest) where
  preds_newer : {ts rest : List Placed} {ps : Preds} → PredsIn false look Inside ts ps rest → PredsIn true look Newer ts ps rest
  preds_newer no_pred = no_pred
  preds_newer (one_pred i d) = one_pred (inside _ _ _ i) (preds_newer d)

  test_newer : {ts rest : List Placed} {t : Test} → TestIn false look Inside ts t rest → TestIn true look Newer ts t rest
  test_newer star_test = star_test
  test_newer node_test = node_test
  test_newer text_test = text_test
  test_newer (name_test h) = name_test h

  dot_newer : {ts rest : List Placed} {ps : Preds} → DotIn false look Inside ts ps rest → DotIn true look Newer ts ps rest
  dot_newer dot_alone = dot_alone
  dot_newer (dot_preds n d) = absurd (false≢true n)

  step_newer : {ts rest : List Placed} {s : Step} → StepIn false look Inside ts s rest → StepIn true look Newer ts s rest
  step_newer (dot_step d) = dot_step (dot_newer d)
  step_newer (dots_step d) = dots_step (dot_newer d)
  step_newer (child_step d f) = child_step (test_newer d) (preds_newer f)
  step_newer (axis_step n d f) = axis_step n (test_newer d) (preds_newer f)

  steps_newer : {ts rest : List Placed} {s : Steps} → StepsIn false look Inside ts s rest → StepsIn true look Newer ts s rest
  steps_newer (last_step_lem d) = last_step_lem (step_newer d)
  steps_newer (slash_step d f) = slash_step (step_newer d) (steps_newer f)
  steps_newer (slashes_step d f) = slashes_step (step_newer d) (steps_newer f)

  operand_newer : {ts rest : List Placed} {e : Expr} → OperandIn false look Inside ts e rest → OperandIn true look Newer ts e rest
  operand_newer (path_operand d) = path_operand (steps_newer d)
  operand_newer (round_operand i) = round_operand (inside _ _ _ i)
  operand_newer (not_operand i) = not_operand (inside _ _ _ i)

  term_newer : {ts rest : List Placed} {e : Expr} → TermIn false look Inside ts e rest → TermIn true look Newer ts e rest
  term_newer (one_operand d) = one_operand (operand_newer d)
  term_newer (and_operand d f) = and_operand (term_newer d) (operand_newer f)

  expr_newer : {ts rest : List Placed} {e : Expr} → ExprIn false look Inside ts e rest → ExprIn true look Newer ts e rest
  expr_newer (one_term d) = one_term (term_newer d)
  expr_newer (or_term d f) = or_term (expr_newer d) (term_newer f)

  path_newer : {ts rest : List Placed} {s : Steps} → PathIn false look Inside ts s rest → PathIn true look Newer ts s rest
  path_newer root_path = root_path
  path_newer (slash_path d) = slash_path (steps_newer d)
  path_newer (slashes_path d) = slashes_path (steps_newer d)

  joins_newer : {s : Steps} {t : Token} → Joins false s t → Joins true s t
  joins_newer bar_joins = bar_joins
  joins_newer (union_joins n l) = absurd (false≢true n)

  query_newer : {ts rest : List Placed} {q : Query} → QueryIn false look Inside ts q rest → QueryIn true look Newer ts q rest
  query_newer (one_path d) = one_path (path_newer d)
  query_newer (join_path j d f) = join_path (joins_newer j) (path_newer d) (query_newer f)

within_newer : (look : List ℕ → Option ℕ) (d : ℕ) (ts : List Placed) (e : Expr) (rest : List Placed) → Within false look d ts e rest → Within true look d ts e rest
within_newer look zero ts e rest i = absurd i
within_newer look (suc d) ts e rest i = expr_newer look (Within false look d) (Within true look d) (within_newer look d) i

-- VERSION 2 DERIVES AND READS WHAT VERSION 1 DOES.
pub newer_derives : NewerDerives
newer_derives look d ts q (p, i) = (p, query_newer look (Within false look d) (Within true look d) (within_newer look d) i)

pub newer_reads : NewerReads
newer_reads look d ts q n h = read_if true look d d ts q (omega arith) (newer_derives look d ts q (derived_if false look d ts q [] n h).0)

pub newer_reads_text : NewerReadsText
unfolding read_text
newer_reads_text look text q left h =
    let i = derived_if false look bracket_limit (tokens text) q left (tokens_ended text) h in
    read_if true look bracket_limit bracket_limit (tokens text) q (omega arith) (newer_derives look bracket_limit (tokens text) q i.0) ∙ ap (got q) (sym i.1)

-- A text whose syntax is right is read.
got_line : (n : ℕ) (r : Got Query) (later : Query → Told) → line_got r later ≡ value n → (q : Query) × (left : List Placed) × (r ≡ got q left) × (later q ≡ value n)
got_line n (got q left) later h = (q, left, refl, h)
got_line n (refused number place) later h = absurd (let z : ◌≡◌ {A = ℕ} 0 1 = cc in omega arith)

-- What is read by version 2 with any names and with those of the list gives the lines their answers.
lines_newer : (text list : List ℕ) (room n : ℕ) (q r : Query) (left rest : List Placed) → when (too_long text text_limit || too_long list list_limit || false) 0 ≡ none → names_fault list ≡ none
    → read_text true any_name text ≡ got q left → read_text true (number_of (names_of list)) text ≡ got r rest → read_text false (number_of (names_of list)) text ≡ got r rest
    → line 10 (short_of_items room (size r)) (value (size r)) ≡ value n → (read_answer text 2 list room ≡ value n) × (read_items text 2 list ≡ read_items text 1 list)
unfolding read_answer read_items
lines_newer text list room n q r left rest one two any own old last = (rw (one, two, any, own) last, rw (own, old))

-- SO WITH ANSWERS.
pub newer_answers : NewerAnswers
unfolding read_answer
newer_answers text list room n h =
    let look = number_of (names_of list) in
    let last : Query → Told = λ q. line 10 (short_of_items room (size q)) (value (size q)) in
    let third : Told = line_got (read_text false any_name text) (λ q. read_last false text list room) in
    let a = line_value 1 n (when (too_long text text_limit || too_long list list_limit || false) 0) (line 2 (names_fault list) third) h in
    let b = line_value 2 n (names_fault list) third a.1 in
    let c = got_line n (read_text false any_name text) (λ q. read_last false text list room) b.1 in
    let d = got_line n (read_text false look text) last c.3 in
    lines_newer text list room n c.0 d.0 c.1 d.1 a.0 b.0 (newer_reads_text any_name text c.0 c.1 c.2) (newer_reads_text look text d.0 d.1 d.2) d.2 d.3
