-- Abbreviations mean what XPath 1.0 says: a derivation goes over into one of the tokens with each abbreviation written out. Assumes nothing.
use Prim.Native.Nat.{ℕ, zero, suc}
use native.Mathlib.Omega.{arith}
use mathlib.Core.Path.{refl}
use mathlib.Core.Bool.{Bool}
use mathlib.Core.List.{List, []}
use mathlib.Core.Option.{Option}
use Rattle.paper.specs.Tokens.{Placed}
use Rattle.paper.specs.Query.{Test, Expr, Steps, Preds, Query}
use Rattle.paper.specs.Reading.{Step, read_step}
use Rattle.query_grammar.specs.Grammar.{PredsIn, no_pred, one_pred, TestIn, star_test, node_test, text_test, name_test}
use Rattle.query_grammar.specs.Grammar.{DotIn, dot_alone, dot_preds, StepIn, dot_step, dots_step, child_step, axis_step, StepsIn, last_step_lem, slash_step, slashes_step}
use Rattle.query_grammar.specs.Grammar.{OperandIn, path_operand, round_operand, not_operand, TermIn, one_operand, and_operand, ExprIn, one_term, or_term}
use Rattle.query_grammar.specs.Grammar.{PathIn, root_path, slash_path, slashes_path, bar_joins, union_joins, QueryIn, one_path, join_path, Within, spelt, SpeltDerived, SpeltRead, ChildRead}
use Rattle.query_grammar.proofs.Accepted.{derived_if, read_if}

module _ (newer : Bool) (look : List ℕ → Option ℕ) (Inside : List Placed → Expr → List Placed → Type 0)
    (inside : (ts : List Placed) (e : Expr) (rest : List Placed) → Inside ts e rest → Inside (spelt ts) e (spelt rest)) where
  preds_spelt : {ts rest : List Placed} {ps : Preds} → PredsIn newer look Inside ts ps rest → PredsIn newer look Inside (spelt ts) ps (spelt rest)
  preds_spelt no_pred = no_pred
  preds_spelt (one_pred i d) = one_pred (inside _ _ _ i) (preds_spelt d)

  test_spelt : {ts rest : List Placed} {t : Test} → TestIn newer look Inside ts t rest → TestIn newer look Inside (spelt ts) t (spelt rest)
  test_spelt star_test = star_test
  test_spelt node_test = node_test
  test_spelt text_test = text_test
  test_spelt (name_test h) = name_test h

  dot_spelt : {ts rest : List Placed} {ps : Preds} → DotIn newer look Inside ts ps rest → PredsIn newer look Inside (spelt ts) ps (spelt rest)
  dot_spelt dot_alone = no_pred
  dot_spelt (dot_preds n d) = preds_spelt d

  step_spelt : {ts rest : List Placed} {s : Step} → StepIn newer look Inside ts s rest → StepIn newer look Inside (spelt ts) s (spelt rest)
  step_spelt (dot_step d) = axis_step refl node_test (dot_spelt d)
  step_spelt (dots_step d) = axis_step refl node_test (dot_spelt d)
  step_spelt (child_step d f) = child_step (test_spelt d) (preds_spelt f)
  step_spelt (axis_step n d f) = axis_step n (test_spelt d) (preds_spelt f)

  steps_spelt : {ts rest : List Placed} {s : Steps} → StepsIn newer look Inside ts s rest → StepsIn newer look Inside (spelt ts) s (spelt rest)
  steps_spelt (last_step_lem d) = last_step_lem (step_spelt d)
  steps_spelt (slash_step d f) = slash_step (step_spelt d) (steps_spelt f)
  steps_spelt (slashes_step d f) = slash_step (step_spelt d) (slash_step (axis_step refl node_test no_pred) (steps_spelt f))

  operand_spelt : {ts rest : List Placed} {e : Expr} → OperandIn newer look Inside ts e rest → OperandIn newer look Inside (spelt ts) e (spelt rest)
  operand_spelt (path_operand d) = path_operand (steps_spelt d)
  operand_spelt (round_operand i) = round_operand (inside _ _ _ i)
  operand_spelt (not_operand i) = not_operand (inside _ _ _ i)

  term_spelt : {ts rest : List Placed} {e : Expr} → TermIn newer look Inside ts e rest → TermIn newer look Inside (spelt ts) e (spelt rest)
  term_spelt (one_operand d) = one_operand (operand_spelt d)
  term_spelt (and_operand d f) = and_operand (term_spelt d) (operand_spelt f)

  expr_spelt : {ts rest : List Placed} {e : Expr} → ExprIn newer look Inside ts e rest → ExprIn newer look Inside (spelt ts) e (spelt rest)
  expr_spelt (one_term d) = one_term (term_spelt d)
  expr_spelt (or_term d f) = or_term (expr_spelt d) (term_spelt f)

  path_spelt : {ts rest : List Placed} {s : Steps} → PathIn newer look Inside ts s rest → PathIn newer look Inside (spelt ts) s (spelt rest)
  path_spelt root_path = root_path
  path_spelt (slash_path d) = slash_path (steps_spelt d)
  path_spelt (slashes_path d) = slash_path (slash_step (axis_step refl node_test no_pred) (steps_spelt d))

  query_spelt : {ts rest : List Placed} {q : Query} → QueryIn newer look Inside ts q rest → QueryIn newer look Inside (spelt ts) q (spelt rest)
  query_spelt (one_path d) = one_path (path_spelt d)
  query_spelt (join_path bar_joins d f) = join_path bar_joins (path_spelt d) (query_spelt f)
  query_spelt (join_path (union_joins n l) d f) = join_path (union_joins n l) (path_spelt d) (query_spelt f)

within_spelt : (newer : Bool) (look : List ℕ → Option ℕ) (d : ℕ) (ts : List Placed) (e : Expr) (rest : List Placed) → Within newer look d ts e rest → Within newer look d (spelt ts) e (spelt rest)
within_spelt newer look zero ts e rest i = absurd i
within_spelt newer look (suc d) ts e rest i = expr_spelt newer look (Within newer look d) (within_spelt newer look d) i

-- WRITTEN OUT, THE TOKENS ARE OF THE SAME QUERY.
pub spelt_derived : SpeltDerived
spelt_derived newer look d ts q (p, i) = (p, query_spelt newer look (Within newer look d) (within_spelt newer look d) i)

pub spelt_read : SpeltRead
spelt_read newer look d ts q n h = read_if newer look d d (spelt ts) q (omega arith) (spelt_derived newer look d ts q (derived_if newer look d ts q [] n h).0)

-- NO AXIS IS CHILD.
pub child_read : ChildRead
unfolding read_step
child_read newer look d p q ts a b c = rw (a, b, c)
