-- What is derived from tokens is read from them, where a token follows that cannot go on with it.
-- By induction over the derivation. Where fewer brackets may be opened than the derivation has, reading may end in refusal 4 instead. Assumes nothing.
use Prim.Native.Nat.{ℕ, zero, suc, ◌≤◌}
use native.Mathlib.Omega.{arith}
use mathlib.Core.Path.{◌≡◌, refl, sym, ◌∙◌, ap}
use mathlib.Core.Bool.{Bool, true, false, ◌&&◌, cond, false≢true}
use mathlib.Core.List.{List, ◌∷◌}
use mathlib.Core.Logic.{◌⊎◌, inl, inr, ⊎_elim}
use mathlib.Core.Option.{Option}
use lib.ListN.{drop}
use Rattle.paper.specs.Tools.{ascii, same}
use Rattle.paper.specs.Tokens.{slash, slashes, colons, open_square, close_square, open_round, close_round, finish, word, Placed}
use Rattle.paper.specs.Query.{Axis, self, child, parent, Test, any_node}
use Rattle.paper.specs.Query.{Expr, path, Steps, Preds, bare, Query}
use Rattle.paper.specs.Reading.{Got, got, refused, then, next, sees, says, Step, starts_step}
use Rattle.paper.specs.Reading.{read_tail, read_tested, read_dot, read_step, read_operand, read_term, read_expr, read_path, read_within}
use Rattle.query_grammar.specs.Grammar.{tok, lone, PredsIn, no_pred, one_pred, TestIn, star_test, node_test, text_test, name_test}
use Rattle.query_grammar.specs.Grammar.{DotIn, dot_alone, dot_preds, StepIn, dot_step, dots_step, child_step, axis_step, StepsIn, last_step_lem, slash_step, slashes_step}
use Rattle.query_grammar.specs.Grammar.{OperandIn, path_operand, round_operand, not_operand, TermIn, one_operand, and_operand, ExprIn, one_term, or_term}
use Rattle.query_grammar.specs.Grammar.{PathIn, root_path, slash_path, slashes_path, bar_joins, union_joins, QueryIn, one_path, join_path, Within}
use Rattle.query_grammar.proofs.Runs.{and_run, or_run}
use Rattle.query_grammar.proofs.Sound.{within_got}
use Rattle.query_grammar.proofs.Leaving.{Leaves, within_leaves}
use Rattle.query_grammar.proofs.Fuel.{all_preds, all_steps, all_run, all_paths, preds_on, steps_on, ands_on, ors_on, paths_on}

-- One reading comes to another, or, where brackets may run short, to refusal 4.
pub data Comes {A : Type 0} (Short : Type 0) (r s : Got A) : Type 0 where
  comes : r ≡ s → Comes Short r s
  runs_short : {p : ℕ} → Short → r ≡ refused 4 p → Comes Short r s

comes_on : {A : Type 0} {Short : Type 0} {r s t : Got A} → r ≡ s → Comes Short s t → Comes Short r t
comes_on e (comes f) = comes (e ∙ f)
comes_on e (runs_short h f) = runs_short h (e ∙ f)

comes_to : {A : Type 0} {Short : Type 0} {r s t : Got A} → Comes Short r s → Comes Short s t → Comes Short r t
comes_to (comes e) c = comes_on e c
comes_to (runs_short h e) c = runs_short h e

comes_then : {A B : Type 0} {Short : Type 0} {r : Got B} {b : B} {mid : List Placed} (more : B → List Placed → Got A) {t : Got A}
    → Comes Short r (got b mid) → Comes Short (more b mid) t → Comes Short (then r more) t
comes_then more (comes e) c = comes_on (rw e) c
comes_then more (runs_short h e) c = runs_short h (ap (λ r. then r more) e)

cond_true : {A : Type 0} (b : Bool) (x y : A) → b ≡ true → cond b x y ≡ x
cond_true true x y e = refl
cond_true false x y e = absurd (false≢true e)

pub and_false : (b : Bool) → (b && false) ≡ false
and_false true = refl
and_false false = refl

-- No predicate, call or axis goes on with the token that follows a step;
pub record Stepped (ts : List Placed) : Type 0 where
  pub square : sees open_square ts ≡ false
  pub round : sees open_round ts ≡ false
  pub colon : sees colons ts ≡ false

-- nor a further step;
pub record Over (ts : List Placed) : Type 0 where
  pub stepped : Stepped ts
  pub one : sees slash ts ≡ false
  pub two : sees slashes ts ≡ false

-- nor an operator.
pub record Done (ts : List Placed) : Type 0 where
  pub over : Over ts
  pub no_and : says (ascii "and") ts ≡ false
  pub no_or : says (ascii "or") ts ≡ false

-- So with the tokens that close a bracket.
pub square_done : (p : ℕ) (ts : List Placed) → Done (tok p close_square ∷ ts)
square_done p ts = record { over = record { stepped = record { square = refl; round = refl; colon = refl }; one = refl; two = refl }; no_and = refl; no_or = refl }

pub round_done : (p : ℕ) (ts : List Placed) → Done (tok p close_round ∷ ts)
round_done p ts = record { over = record { stepped = record { square = refl; round = refl; colon = refl }; one = refl; two = refl }; no_and = refl; no_or = refl }

module _ (Short : Type 0) (newer : Bool) (look : List ℕ → Option ℕ) (within : ℕ → List Placed → Got Expr) (Inside Read : List Placed → Expr → List Placed → Type 0)
    (sound : (p : ℕ) (ts : List Placed) (e : Expr) (left : List Placed) → within p ts ≡ got e left → Read ts e left)
    (leaves : (ts : List Placed) (e : Expr) (rest : List Placed) → Read ts e rest → Leaves ts rest)
    (inside : (p : ℕ) (ts : List Placed) (e : Expr) (rest : List Placed) → Inside ts e rest → Done rest → Comes Short (within p ts) (got e rest)) where
  preds_read : {ts rest : List Placed} {ps : Preds} → PredsIn newer look Inside ts ps rest → sees open_square rest ≡ false → Comes Short (all_preds newer look within ts) (got ps rest)
  preds_read {ts} no_pred c = comes (preds_on newer look within Read sound leaves ts ∙ rw c)
  preds_read {ts} (one_pred {q = q} {us = us} i d) c =
      comes_on (preds_on newer look within Read sound leaves ts)
      (comes_then _ (comes_then _ (inside _ _ _ _ i (square_done q us)) (comes refl)) (comes_then _ (preds_read d c) (comes refl)))

  -- What follows a test, and is no bracket of predicates, follows the predicates too.
  tested : {ts rest : List Placed} {ps : Preds} → PredsIn newer look Inside ts ps rest → Stepped rest → (sees open_round ts ≡ false) × (sees colons ts ≡ false)
  tested no_pred c = (c.round, c.colon)
  tested (one_pred i d) c = (refl, refl)

  tail_read : {ts rest : List Placed} {ps : Preds} (a : Axis) (t : Test) → PredsIn newer look Inside ts ps rest → sees open_square rest ≡ false
      → Comes Short (read_tail newer look within a t ts) (got (record { axis = a; test = t; preds = ps }) rest)
  unfolding read_tail all_preds
  tail_read a t d c = comes_then _ (preds_read d c) (comes refl)

  test_read : {ts us : List Placed} {t : Test} (a : Axis) → TestIn newer look Inside ts t us → sees open_round us ≡ false → read_tested newer look within a ts ≡ read_tail newer look within a t us
  unfolding read_tested
  test_read a star_test c = refl
  test_read a node_test c = refl
  test_read a text_test c = refl
  test_read a (name_test e) c = rw (c, e)

  no_axis : {ts us : List Placed} {t : Test} → TestIn newer look Inside ts t us → sees colons us ≡ false → read_step newer look within ts ≡ read_tested newer look within child ts
  unfolding read_step
  no_axis star_test c = rw c
  no_axis node_test c = refl
  no_axis text_test c = refl
  no_axis (name_test e) c = rw c

  dot_read : {ts rest : List Placed} {ps : Preds} (a : Axis) → DotIn newer look Inside ts ps rest → sees open_square rest ≡ false
      → Comes Short (read_dot newer look within a ts) (got (record { axis = a; test = any_node; preds = ps }) rest)
  dot_read {ts} a dot_alone c = go newer refl
    where
      go : (b : Bool) → newer ≡ b → Comes Short (read_dot newer look within a ts) (got (record { axis = a; test = any_node; preds = bare }) ts)
      go true n = comes_on (rw n) (tail_read a any_node no_pred c)
      go false n = comes (rw n)
  dot_read a (dot_preds n d) c = comes_on (rw n) (tail_read a any_node d c)

  step_read : {ts rest : List Placed} {s : Step} → StepIn newer look Inside ts s rest → Stepped rest → Comes Short (read_step newer look within ts) (got s rest)
  unfolding read_step
  step_read (dot_step d) c = dot_read self d c.square
  step_read (dots_step d) c = dot_read parent d c.square
  step_read (child_step d f) c =
      let b = tested f c in
      comes_on (no_axis d b.1 ∙ test_read child d b.0) (tail_read child _ f c.square)
  step_read (axis_step {a = a} n d f) c = comes_on (rw n (test_read a d (tested f c).0)) (tail_read a _ f c.square)

  steps_read : {ts rest : List Placed} {s : Steps} → StepsIn newer look Inside ts s rest → Over rest → Comes Short (all_steps newer look within ts) (got s rest)
  steps_read {ts} (last_step_lem d) c = comes_on (steps_on newer look within Read sound leaves ts) (comes_then _ (step_read d c.stepped) (comes (rw (c.one, c.two))))
  steps_read {ts} (slash_step d f) c =
      comes_on (steps_on newer look within Read sound leaves ts)
      (comes_then _ (step_read d (record { square = refl; round = refl; colon = refl })) (comes_then _ (steps_read f c) (comes refl)))
  steps_read {ts} (slashes_step d f) c =
      comes_on (steps_on newer look within Read sound leaves ts)
      (comes_then _ (step_read d (record { square = refl; round = refl; colon = refl })) (comes_then _ (steps_read f c) (comes refl)))

  -- A path is neither `not(..)` nor in round brackets, and starts a step.
  record Starts (ts : List Placed) : Type 0 where
    no_not : (says (ascii "not") ts && sees open_round (drop 1 ts)) ≡ false
    no_round : sees open_round ts ≡ false
    a_step : starts_step (next ts) ≡ true

  test_starts : {ts us : List Placed} {t : Test} → TestIn newer look Inside ts t us → sees open_round us ≡ false → Starts ts
  test_starts star_test c = record { no_not = refl; no_round = refl; a_step = refl }
  test_starts node_test c = record { no_not = refl; no_round = refl; a_step = refl }
  test_starts text_test c = record { no_not = refl; no_round = refl; a_step = refl }
  test_starts (name_test {w = w} e) c = record { no_not = rw c (and_false (same (ascii "not") w)); no_round = refl; a_step = refl }

  step_starts : {ts rest : List Placed} {s : Step} → StepIn newer look Inside ts s rest → Stepped rest → Starts ts
  step_starts (dot_step d) c = record { no_not = refl; no_round = refl; a_step = refl }
  step_starts (dots_step d) c = record { no_not = refl; no_round = refl; a_step = refl }
  step_starts (child_step d f) c = test_starts d (tested f c).0
  step_starts (axis_step {w = w} n d f) c = record { no_not = and_false (same (ascii "not") w); no_round = refl; a_step = refl }

  steps_starts : {ts rest : List Placed} {s : Steps} → StepsIn newer look Inside ts s rest → Over rest → Starts ts
  steps_starts (last_step_lem d) c = step_starts d c.stepped
  steps_starts (slash_step d f) c = step_starts d (record { square = refl; round = refl; colon = refl })
  steps_starts (slashes_step d f) c = step_starts d (record { square = refl; round = refl; colon = refl })

  operand_read : {ts rest : List Placed} {e : Expr} → OperandIn newer look Inside ts e rest → Over rest → Comes Short (read_operand newer look within ts) (got e rest)
  unfolding read_operand all_steps
  operand_read {ts} (path_operand d) c =
      let b = steps_starts d c in
      let plain : read_operand newer look within ts ≡ then (all_steps newer look within ts) (λ s. got (path s)) = rw (b.no_not, b.no_round) in
      comes_on plain (comes_then _ (steps_read d c) (comes refl))
  operand_read (round_operand {q = q} {rest = rest} i) c = comes_then _ (inside _ _ _ _ i (round_done q rest)) (comes refl)
  operand_read (not_operand {r = r} {rest = rest} i) c = comes_then _ (comes_then _ (inside _ _ _ _ i (round_done r rest)) (comes refl)) (comes refl)

  -- A term read so far comes to the run of `and` after it.
  term_on : {ts mid : List Placed} {e : Expr} → TermIn newer look Inside ts e mid → Over mid → Comes Short (read_term newer look within ts) (all_run (and_run newer look within) e mid)
  unfolding read_term all_run
  term_on (one_operand d) c = comes_then _ (operand_read d c) (comes refl)
  term_on (and_operand {p = p} {us = us} {a = a} d f) c =
      comes_to (term_on d (record { stepped = record { square = refl; round = refl; colon = refl }; one = refl; two = refl }))
      (comes_on (ands_on newer look within Read sound leaves a (tok p (word (ascii "and")) ∷ us)) (comes_then _ (operand_read f c) (comes refl)))

  term_read : {ts rest : List Placed} {e : Expr} → TermIn newer look Inside ts e rest → Over rest → says (ascii "and") rest ≡ false → Comes Short (read_term newer look within ts) (got e rest)
  term_read {rest = rest} {e = e} d c n = comes_to (term_on d c) (comes (ands_on newer look within Read sound leaves e rest ∙ rw n))

  -- So an expression and the run of `or`.
  expr_on : {ts mid : List Placed} {e : Expr} → ExprIn newer look Inside ts e mid → Over mid → says (ascii "and") mid ≡ false → Comes Short (read_expr newer look within ts) (all_run (or_run newer look within) e mid)
  unfolding read_expr all_run
  expr_on (one_term d) c n = comes_then _ (term_read d c n) (comes refl)
  expr_on (or_term {p = p} {us = us} {a = a} d f) c n =
      comes_to (expr_on d (record { stepped = record { square = refl; round = refl; colon = refl }; one = refl; two = refl }) refl)
      (comes_on (ors_on newer look within Read sound leaves a (tok p (word (ascii "or")) ∷ us)) (comes_then _ (term_read f c n) (comes refl)))

  pub expr_read : {ts rest : List Placed} {e : Expr} → ExprIn newer look Inside ts e rest → Done rest → Comes Short (read_expr newer look within ts) (got e rest)
  expr_read {rest = rest} {e = e} d c = comes_to (expr_on d c.over c.no_and) (comes (ors_on newer look within Read sound leaves e rest ∙ rw c.no_or))

  path_read : {ts rest : List Placed} {s : Steps} → PathIn newer look Inside ts s rest → Over rest → (lone s ≡ true → starts_step (next rest) ≡ false) → Comes Short (read_path newer look within ts) (got s rest)
  unfolding read_path all_steps
  path_read root_path c n = comes (rw (n refl))
  path_read (slash_path d) c n = comes_on (rw (steps_starts d c).a_step) (steps_read d c)
  path_read (slashes_path d) c n = comes_then _ (steps_read d c) (comes refl)

  -- A whole query, up to the end of the text.
  pub query_read : {ts rest : List Placed} {q : Query} → QueryIn newer look Inside ts q rest → (p : ℕ) (left : List Placed) → rest ≡ tok p finish ∷ left → Comes Short (all_paths newer look within ts) (got q left)
  query_read {ts} {rest} (one_path d) p left e =
      comes_on (paths_on newer look within Read sound leaves ts)
      (comes_then _
      (path_read d (rw e (record { stepped = record { square = refl; round = refl; colon = refl }; one = refl; two = refl })) (λ l. rw e refl))
      (comes (rw e refl)))
  query_read {ts} (join_path bar_joins d f) p left e =
      comes_on (paths_on newer look within Read sound leaves ts)
      (comes_then _
      (path_read d (record { stepped = record { square = refl; round = refl; colon = refl }; one = refl; two = refl }) (λ l. refl))
      (comes_then _ (query_read f p left e) (comes refl)))
  query_read {ts} (join_path (union_joins n s) d f) p left e =
      comes_on (paths_on newer look within Read sound leaves ts)
      (comes_then _
      (path_read d (record { stepped = record { square = refl; round = refl; colon = refl }; one = refl; two = refl }) (λ l. absurd (false≢true (sym s ∙ l))))
      (comes_on (cond_true newer _ _ n) (comes_then _ (query_read f p left e) (comes refl))))

-- What is derived in a bracket is read, or refused for want of brackets.
pub within_read : (Short : Type 0) (newer : Bool) (look : List ℕ → Option ℕ) (d most p : ℕ) → Short ⊎ (d ≤ most) → (ts : List Placed) (e : Expr) (rest : List Placed) → Within newer look d ts e rest → Done rest
    → Comes Short (read_within newer look most p ts) (got e rest)
within_read Short newer look zero most p h ts e rest i c = absurd i
within_read Short newer look (suc d) zero p (inl s) ts e rest i c = runs_short s refl
within_read Short newer look (suc d) zero p (inr l) ts e rest i c = absurd (omega arith)
within_read Short newer look (suc d) (suc most) p h ts e rest i c =
    expr_read Short newer look (read_within newer look most) (Within newer look d) (Within newer look most) (within_got newer look most) (within_leaves newer look most)
    (λ q us x left j b. within_read Short newer look d most q (⊎_elim (λ s. inl s) (λ l. inr (omega arith)) h) us x left j b) i c
