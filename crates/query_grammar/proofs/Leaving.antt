-- What is derived takes tokens off the front, none of them the end of the text.
-- By induction over the derivation. Assumes nothing.
use Prim.Native.Nat.{ℕ, zero, suc, ◌≤◌}
use native.Mathlib.Omega.{arith}
use mathlib.Core.Path.{◌≡◌, refl}
use mathlib.Core.Bool.{Bool, false}
use mathlib.Core.List.{List, ◌∷◌}
use mathlib.Core.Option.{Option}
use lib.ListN.{length}
use Rattle.paper.specs.Tokens.{finish, is, Placed}
use Rattle.paper.specs.Query.{Test, Expr, Steps, Preds, Query}
use Rattle.paper.specs.Reading.{Step}
use Rattle.query_grammar.specs.Grammar.{PredsIn, no_pred, one_pred, TestIn, star_test, node_test, text_test, name_test}
use Rattle.query_grammar.specs.Grammar.{DotIn, dot_alone, dot_preds, StepIn, dot_step, dots_step, child_step, axis_step, StepsIn, last_step_lem, slash_step, slashes_step}
use Rattle.query_grammar.specs.Grammar.{OperandIn, path_operand, round_operand, not_operand, TermIn, one_operand, and_operand, ExprIn, one_term, or_term}
use Rattle.query_grammar.specs.Grammar.{PathIn, root_path, slash_path, slashes_path, bar_joins, union_joins, QueryIn, one_path, join_path, Within, ended}

-- Tokens taken off the front, and no end of the text among them, leave the rest.
pub data Leaves : List Placed → List Placed → Type 0 where
  nothing : {ts : List Placed} → Leaves ts ts
  token : {t : Placed} {ts rest : List Placed} → is finish t.token ≡ false → Leaves ts rest → Leaves (t ∷ ts) rest

leaves_then : {ts us rest : List Placed} → Leaves ts us → Leaves us rest → Leaves ts rest
leaves_then nothing r = r
leaves_then (token n l) r = token n (leaves_then l r)

-- No more are left than there were, and they end as before.
pub leaves_less : {ts rest : List Placed} → Leaves ts rest → length rest ≤ length ts
leaves_less nothing = omega arith
leaves_less (token n l) = omega (arith, leaves_less l)

pub leaves_ended : {ts rest : List Placed} → Leaves ts rest → ended ts ≡ ended rest
leaves_ended nothing = refl
leaves_ended (token n l) = rw n (leaves_ended l)

module _ (newer : Bool) (look : List ℕ → Option ℕ) (Inside : List Placed → Expr → List Placed → Type 0)
    (inside : (ts : List Placed) (e : Expr) (rest : List Placed) → Inside ts e rest → Leaves ts rest) where
  preds_leaves : {ts rest : List Placed} {ps : Preds} → PredsIn newer look Inside ts ps rest → Leaves ts rest
  preds_leaves no_pred = nothing
  preds_leaves (one_pred i d) = token refl (leaves_then (inside _ _ _ i) (token refl (preds_leaves d)))

  test_leaves : {ts rest : List Placed} {t : Test} → TestIn newer look Inside ts t rest → Leaves ts rest
  test_leaves star_test = token refl nothing
  test_leaves node_test = token refl (token refl (token refl nothing))
  test_leaves text_test = token refl (token refl (token refl nothing))
  test_leaves (name_test h) = token refl nothing

  dot_leaves : {ts rest : List Placed} {ps : Preds} → DotIn newer look Inside ts ps rest → Leaves ts rest
  dot_leaves dot_alone = nothing
  dot_leaves (dot_preds n d) = preds_leaves d

  pub step_leaves : {ts rest : List Placed} {s : Step} → StepIn newer look Inside ts s rest → Leaves ts rest
  step_leaves (dot_step d) = token refl (dot_leaves d)
  step_leaves (dots_step d) = token refl (dot_leaves d)
  step_leaves (child_step d f) = leaves_then (test_leaves d) (preds_leaves f)
  step_leaves (axis_step n d f) = token refl (token refl (leaves_then (test_leaves d) (preds_leaves f)))

  steps_leaves : {ts rest : List Placed} {s : Steps} → StepsIn newer look Inside ts s rest → Leaves ts rest
  steps_leaves (last_step_lem d) = step_leaves d
  steps_leaves (slash_step d f) = leaves_then (step_leaves d) (token refl (steps_leaves f))
  steps_leaves (slashes_step d f) = leaves_then (step_leaves d) (token refl (steps_leaves f))

  pub operand_leaves : {ts rest : List Placed} {e : Expr} → OperandIn newer look Inside ts e rest → Leaves ts rest
  operand_leaves (path_operand d) = steps_leaves d
  operand_leaves (round_operand i) = token refl (leaves_then (inside _ _ _ i) (token refl nothing))
  operand_leaves (not_operand i) = token refl (token refl (leaves_then (inside _ _ _ i) (token refl nothing)))

  pub term_leaves : {ts rest : List Placed} {e : Expr} → TermIn newer look Inside ts e rest → Leaves ts rest
  term_leaves (one_operand d) = operand_leaves d
  term_leaves (and_operand d f) = leaves_then (term_leaves d) (token refl (operand_leaves f))

  expr_leaves : {ts rest : List Placed} {e : Expr} → ExprIn newer look Inside ts e rest → Leaves ts rest
  expr_leaves (one_term d) = term_leaves d
  expr_leaves (or_term d f) = leaves_then (expr_leaves d) (token refl (term_leaves f))

  pub path_leaves : {ts rest : List Placed} {s : Steps} → PathIn newer look Inside ts s rest → Leaves ts rest
  path_leaves root_path = token refl nothing
  path_leaves (slash_path d) = token refl (steps_leaves d)
  path_leaves (slashes_path d) = token refl (steps_leaves d)

  pub query_leaves : {ts rest : List Placed} {q : Query} → QueryIn newer look Inside ts q rest → Leaves ts rest
  query_leaves (one_path d) = path_leaves d
  query_leaves (join_path bar_joins d f) = leaves_then (path_leaves d) (token refl (query_leaves f))
  query_leaves (join_path (union_joins n l) d f) = leaves_then (path_leaves d) (token refl (query_leaves f))

pub within_leaves : (newer : Bool) (look : List ℕ → Option ℕ) (d : ℕ) (ts : List Placed) (e : Expr) (rest : List Placed) → Within newer look d ts e rest → Leaves ts rest
within_leaves newer look zero ts e rest i = absurd i
within_leaves newer look (suc d) ts e rest i = expr_leaves newer look (Within newer look d) (within_leaves newer look d) i
