-- A refusal 3 is given where the tokens before can be completed to a query, and with the token at its place they cannot; a refusal 4 at the bracket that is one too many.
-- The refusal stands whatever follows; a derivation with other names, at another nesting, would be read instead or run short of brackets. Assumes nothing.
use Prim.Native.Nat.{ℕ, zero, suc, ◌<◌}
use native.Mathlib.Omega.{arith}
use mathlib.Core.Path.{◌≡◌, refl, sym, ◌∙◌, ap, subst, subst₂}
use mathlib.Core.Bool.{Bool, true, false≢true}
use mathlib.Core.List.{List, [], ◌∷◌, ◌++◌}
use mathlib.Core.Logic.{◌⊎◌, inl}
use mathlib.Core.Option.{Option}
use Rattle.paper.specs.Limits.{bracket_limit}
use Rattle.paper.specs.Answers.{any_name}
use Rattle.paper.specs.Tokens.{Token, finish, Placed, white, token_at, beyond, tokens_from, tokens}
use Rattle.paper.specs.Query.{Test, Expr, Steps, Preds, Query}
use Rattle.paper.specs.Reading.{Got, got, refused, at, Step, read_within, read_text}
use Rattle.query_grammar.specs.Grammar.{tok, lone, PredsIn, no_pred, one_pred, TestIn, star_test, node_test, text_test, name_test}
use Rattle.query_grammar.specs.Grammar.{DotIn, dot_alone, dot_preds, StepIn, dot_step, dots_step, child_step, axis_step, StepsIn, last_step_lem, slash_step, slashes_step}
use Rattle.query_grammar.specs.Grammar.{OperandIn, path_operand, round_operand, not_operand, TermIn, one_operand, and_operand, ExprIn, one_term, or_term}
use Rattle.query_grammar.specs.Grammar.{PathIn, root_path, slash_path, slashes_path, Joins, bar_joins, union_joins, QueryIn, one_path, join_path, Within, Derives, ended, reading}
use Rattle.query_grammar.proofs.Sound.{steps_long, within_got}
use Rattle.query_grammar.proofs.Leaving.{within_leaves}
use Rattle.query_grammar.proofs.Fuel.{all_paths}
use Rattle.query_grammar.proofs.Complete.{Comes, comes, runs_short, within_read, query_read}
use Rattle.query_grammar.proofs.Accepted.{derived_if, read_if, either_way, tokens_ended}
use Rattle.query_refusals.specs.Refusals.{AllKnown, all_beyond, Rising, RefusedWrong, RefusedWrongText, RefusedDeep, RefusedDeepText}
use Rattle.query_refusals.proofs.Local.{Alike}
use Rattle.query_refusals.proofs.Deep.{reached}
use Rattle.query_refusals.proofs.Stands.{Bracket, opens, too_many, local_expr, Stops, Verdict, gets, stops, verdict}

-- What is derived with some names is derived, as another query, with names that are all known.
module _ (newer : Bool) (names look : List ℕ → Option ℕ) (known : AllKnown look) (Inside Other : List Placed → Expr → List Placed → Type 0)
    (inside : (ts : List Placed) (e : Expr) (rest : List Placed) → Inside ts e rest → (x : Expr) × Other ts x rest) where
  preds_known : {ts rest : List Placed} {ps : Preds} → PredsIn newer names Inside ts ps rest → (x : Preds) × PredsIn newer look Other ts x rest
  preds_known no_pred = (_, no_pred)
  preds_known (one_pred i d) = (_, one_pred (inside _ _ _ i).1 (preds_known d).1)

  test_known : {ts rest : List Placed} {t : Test} → TestIn newer names Inside ts t rest → (x : Test) × TestIn newer look Other ts x rest
  test_known star_test = (_, star_test)
  test_known node_test = (_, node_test)
  test_known text_test = (_, text_test)
  test_known (name_test {w = w} h) = (_, name_test (known w).1)

  dot_known : {ts rest : List Placed} {ps : Preds} → DotIn newer names Inside ts ps rest → (x : Preds) × DotIn newer look Other ts x rest
  dot_known dot_alone = (_, dot_alone)
  dot_known (dot_preds n d) = (_, dot_preds n (preds_known d).1)

  step_known : {ts rest : List Placed} {s : Step} → StepIn newer names Inside ts s rest → (x : Step) × StepIn newer look Other ts x rest
  step_known (dot_step d) = (_, dot_step (dot_known d).1)
  step_known (dots_step d) = (_, dots_step (dot_known d).1)
  step_known (child_step d f) = (_, child_step (test_known d).1 (preds_known f).1)
  step_known (axis_step n d f) = (_, axis_step n (test_known d).1 (preds_known f).1)

  steps_known : {ts rest : List Placed} {s : Steps} → StepsIn newer names Inside ts s rest → (x : Steps) × StepsIn newer look Other ts x rest
  steps_known (last_step_lem d) = (_, last_step_lem (step_known d).1)
  steps_known (slash_step d f) = (_, slash_step (step_known d).1 (steps_known f).1)
  steps_known (slashes_step d f) = (_, slashes_step (step_known d).1 (steps_known f).1)

  operand_known : {ts rest : List Placed} {e : Expr} → OperandIn newer names Inside ts e rest → (x : Expr) × OperandIn newer look Other ts x rest
  operand_known (path_operand d) = (_, path_operand (steps_known d).1)
  operand_known (round_operand i) = (_, round_operand (inside _ _ _ i).1)
  operand_known (not_operand i) = (_, not_operand (inside _ _ _ i).1)

  term_known : {ts rest : List Placed} {e : Expr} → TermIn newer names Inside ts e rest → (x : Expr) × TermIn newer look Other ts x rest
  term_known (one_operand d) = (_, one_operand (operand_known d).1)
  term_known (and_operand d f) = (_, and_operand (term_known d).1 (operand_known f).1)

  expr_known : {ts rest : List Placed} {e : Expr} → ExprIn newer names Inside ts e rest → (x : Expr) × ExprIn newer look Other ts x rest
  expr_known (one_term d) = (_, one_term (term_known d).1)
  expr_known (or_term d f) = (_, or_term (expr_known d).1 (term_known f).1)

  path_known : {ts rest : List Placed} {s : Steps} → PathIn newer names Inside ts s rest → (x : Steps) × PathIn newer look Other ts x rest × (lone x ≡ lone s)
  path_known root_path = (_, root_path, refl)
  path_known (slash_path d) = let k = steps_known d in (_, slash_path k.1, steps_long newer look Other k.1 ∙ sym (steps_long newer names Inside d))
  path_known (slashes_path d) = (_, slashes_path (steps_known d).1, refl)

  joins_known : {s x : Steps} {t : Token} → Joins newer s t → lone x ≡ lone s → Joins newer x t
  joins_known bar_joins e = bar_joins
  joins_known (union_joins n l) e = union_joins n (e ∙ l)

  query_known : {ts rest : List Placed} {q : Query} → QueryIn newer names Inside ts q rest → (x : Query) × QueryIn newer look Other ts x rest
  query_known (one_path d) = (_, one_path (path_known d).1)
  query_known (join_path j d f) = let k = path_known d in (_, join_path (joins_known j k.2) k.1 (query_known f).1)

within_known : (newer : Bool) (names look : List ℕ → Option ℕ) → AllKnown look → (d : ℕ) (ts : List Placed) (e : Expr) (rest : List Placed) → Within newer names d ts e rest → (x : Expr) × Within newer look d ts x rest
within_known newer names look known zero ts e rest i = absurd i
within_known newer names look known (suc d) ts e rest i = expr_known newer names look known (Within newer names d) (Within newer look d) (within_known newer names look known d) i

-- Each bracket is read by the tokens in it, or is one too many.
pub bracket : (newer : Bool) (look : List ℕ → Option ℕ) → AllKnown look → (d p : ℕ) (ts : List Placed) → Bracket (read_within newer look d) p ts
bracket newer look known zero p ts = too_many (λ us. refl)
bracket newer look known (suc d) p ts = opens (local_expr newer look known (read_within newer look d) (Within newer look d) (within_got newer look d) (within_leaves newer look d) (bracket newer look known d) ts)

-- Where tokens are refused with 3, no query is derived from them.
pub refused_never : (newer : Bool) (look : List ℕ → Option ℕ) → AllKnown look → (d p : ℕ) (ts : List Placed) → reading newer look d ts ≡ refused 3 p
    → (names : List ℕ → Option ℕ) (depth : ℕ) (q : Query) → Derives newer names depth ts q → ⊥
unfolding all_paths
refused_never newer look known d p ts h names depth q (end, i) =
    let k = query_known newer names look known (Within newer names depth) (Within newer look depth) (within_known newer names look known depth) i in
    no
    (query_read (Unit {0}) newer look (read_within newer look d) (Within newer look depth) (Within newer look d) (within_got newer look d) (within_leaves newer look d)
    (λ r us e rest j c. within_read (Unit {0}) newer look depth d r (inl tt) us e rest j c) k.1 end [] refl)
  where
    no : {x : Query} → Comes (Unit {0}) (reading newer look d ts) (got x []) → ⊥
    no (comes e) = let f = sym h ∙ e in let z : ◌≡◌ {A = ℕ} 0 1 = cc in omega arith
    no (runs_short s e) = let f = sym h ∙ e in let z : ◌≡◌ {A = ℕ} 3 4 = cc in omega arith

pub same_head : {t u : Placed} {a e : List Placed} → t ∷ a ≡ u ∷ e → t ≡ u
same_head h = cc

pub append_cancel : (b c e : List Placed) → b ++ c ≡ b ++ e → c ≡ e
append_cancel [] c e h = h
append_cancel (x ∷ b) c e h = append_cancel b c e (let f = h in cc)

-- In tokens whose places rise, a place is that of one token.
beyond_not : (n : ℕ) (b : List Placed) (t : Placed) (a : List Placed) → all_beyond n (b ++ (t ∷ a)) → t.place ≡ n → ⊥
beyond_not n [] t a h e = omega (arith, h.0)
beyond_not n (x ∷ b) t a h e = beyond_not n b t a h.1 e

pub same_place : (b c : List Placed) (t u : Placed) (a e : List Placed) → Rising (b ++ (t ∷ a)) → b ++ (t ∷ a) ≡ c ++ (u ∷ e) → t.place ≡ u.place → b ≡ c
same_place [] [] t u a e r s p = refl
same_place [] (y ∷ c) t u a e r s p =
    let head : t ≡ y = cc in
    let tail : a ≡ c ++ (u ∷ e) = cc in
    absurd (beyond_not t.place c u e (subst (λ l. all_beyond t.place l) tail r.0) (sym p))
same_place (x ∷ b) [] t u a e r s p =
    let head : x ≡ u = cc in
    absurd (beyond_not x.place b t a r.0 (p ∙ ap (λ (z : Placed). z.place) (sym head)))
same_place (x ∷ b) (y ∷ c) t u a e r s p =
    let head : x ≡ y = cc in
    let tail : b ++ (t ∷ a) ≡ c ++ (u ∷ e) = cc in
    let rest : b ≡ c = same_place b c t u a e r.1 tail p in
    cc

-- The places of a text's tokens rise.
from_beyond : (n taken at : ℕ) (bs : List ℕ) → n < at → all_beyond n (tokens_from taken at bs)
from_beyond n taken at [] l = (l, tt)
from_beyond n (suc taken) at (b ∷ bs) l = from_beyond n taken (suc at) bs (omega arith)
from_beyond n zero at (b ∷ bs) l =
    either_way (λ ts. all_beyond n ts) (white b) (from_beyond n 0 (suc at) bs (omega arith)) (l, from_beyond n (beyond (token_at b bs)) (suc at) bs (omega arith))

from_rising : (taken at : ℕ) (bs : List ℕ) → Rising (tokens_from taken at bs)
from_rising taken at [] = (tt, tt)
from_rising (suc taken) at (b ∷ bs) = from_rising taken (suc at) bs
from_rising zero at (b ∷ bs) =
    either_way Rising (white b) (from_rising 0 (suc at) bs)
    (from_beyond at (beyond (token_at b bs)) (suc at) bs (omega arith), from_rising (beyond (token_at b bs)) (suc at) bs)

pub tokens_rising : (text : List ℕ) → Rising (tokens text)
unfolding tokens
tokens_rising text = from_rising 0 0 text

-- Where tokens are refused with 4, no query with so few brackets is derived from them.
deep_never : (newer : Bool) (look : List ℕ → Option ℕ) → AllKnown look → (d p : ℕ) (ts : List Placed) → reading newer look d ts ≡ refused 4 p
    → (names : List ℕ → Option ℕ) (q : Query) → Derives newer names d ts q → ⊥
deep_never newer look known d p ts h names q (end, i) =
    let k = query_known newer names look known (Within newer names d) (Within newer look d) (within_known newer names look known d) i in
    let f = sym h ∙ read_if newer look d d ts k.0 (omega arith) (end, k.1) in
    let z : ◌≡◌ {A = ℕ} 0 1 = cc in
    omega arith

-- Where reading stops, and with which number.
pub record StopsAt (newer : Bool) (look : List ℕ → Option ℕ) (d : ℕ) (ts : List Placed) (n p : ℕ) : Type 0 where
  pub before : List Placed
  pub token : Placed
  pub after : List Placed
  pub split : ts ≡ before ++ (token ∷ after)
  pub place : token.place ≡ p
  pub number : (n ≡ 3) ⊎ (n ≡ 4)
  pub stands : (more : List Placed) → reading newer look d (before ++ (token ∷ more)) ≡ refused n p
  pub completed : n ≡ 3 → (more : List Placed) × (q : Query) × Derives newer look d (before ++ more) q

pub stops_at : (newer : Bool) (look : List ℕ → Option ℕ) (d : ℕ) (ts : List Placed) (n p : ℕ) → AllKnown look → ended ts ≡ true → reading newer look d ts ≡ refused n p → StopsAt newer look d ts n p
unfolding all_paths
stops_at newer look d ts n p known fin h =
    judged (verdict newer look known (read_within newer look d) (Within newer look d) (within_got newer look d) (within_leaves newer look d) (bracket newer look known d) ts)
  where
    Stopped : ℕ → ℕ → Type 0
    Stopped m r = Stops newer look known (read_within newer look d) (Within newer look d) (within_got newer look d) (within_leaves newer look d) (bracket newer look known d) ts m r

    stopped : (m r : ℕ) (x : Stopped m r) (left : List Placed) → x.left ≡ left → StopsAt newer look d ts m r
    stopped m r x [] e = absurd (false≢true (sym (ap ended x.split ∙ x.unended x.left ∙ ap ended e) ∙ fin))
    stopped m r x (t ∷ after) e =
        record {
          before = x.used;
          token = t;
          after = after;
          split = x.split ∙ ap (λ l. x.used ++ l) e;
          place = sym (x.there ∙ ap at e);
          number = x.number;
          stands = λ more. x.stands (t ∷ more) (subst (λ l. Alike l (t ∷ more)) (sym e) (record { token = refl; place = refl }));
          completed = λ three.
              let c = x.completion three in
              let all = c.0 ++ (tok 0 finish ∷ []) in
              (all, c.1, (derived_if newer look d (x.used ++ all) c.1 [] (x.unended all ∙ c.2 (tok 0 finish ∷ [])) c.3).0);
        }

    judged : Verdict newer look known (read_within newer look d) (Within newer look d) (within_got newer look d) (within_leaves newer look d) (bracket newer look known d) ts → StopsAt newer look d ts n p
    judged (gets q left e) = absurd (let f = sym h ∙ e in let z : ◌≡◌ {A = ℕ} 0 1 = cc in omega arith)
    judged (stops m r x) =
        let same : ◌≡◌ {A = Got Query} (refused m r) (refused n p) = sym (ap (reading newer look d) x.split ∙ x.stands x.left (record { token = refl; place = refl })) ∙ h in
        let number : m ≡ n = cc in
        let place : r ≡ p = cc in
        subst₂ (λ k l. StopsAt newer look d ts k l) number place (stopped m r x x.left refl)

-- REFUSAL 3.
pub refused_wrong : RefusedWrong
refused_wrong newer look d ts p known fin h =
    let x = stops_at newer look d ts 3 p known fin h in
    record {
      before = x.before;
      token = x.token;
      after = x.after;
      split = x.split;
      place = x.place;
      completed = x.completed refl;
      never = λ names depth more q i. refused_never newer look known d p (x.before ++ (x.token ∷ more)) (x.stands more) names depth q i;
    }

pub refused_wrong_text : RefusedWrongText
unfolding read_text
refused_wrong_text newer text p h = refused_wrong newer any_name bracket_limit (tokens text) p (λ w. (0, refl)) (tokens_ended text) h

-- REFUSAL 4.
pub refused_deep : RefusedDeep
refused_deep newer look d ts p known fin rise h =
    let x = stops_at newer look d ts 4 p known fin h in
    let y = reached newer look d ts p known h in
    let same : y.before ≡ x.before =
    same_place y.before x.before y.token x.token y.after x.after (subst Rising y.split rise) (sym y.split ∙ x.split) (y.place ∙ sym x.place) in
    let rest : y.before ++ (y.token ∷ y.after) ≡ y.before ++ (x.token ∷ x.after) = sym y.split ∙ x.split ∙ ap (λ l. l ++ (x.token ∷ x.after)) (sym same) in
    let token : y.token ≡ x.token = same_head (append_cancel y.before (y.token ∷ y.after) (x.token ∷ x.after) rest) in
    record {
      reached = y;
      never = λ names more q i.
          deep_never newer look known d p (y.before ++ (y.token ∷ more)) (subst₂ (λ b t. reading newer look d (b ++ (t ∷ more)) ≡ refused 4 p) (sym same) (sym token) (x.stands more)) names q i;
    }

pub refused_deep_text : RefusedDeepText
unfolding read_text
refused_deep_text newer text p h = refused_deep newer any_name bracket_limit (tokens text) p (λ w. (0, refl)) (tokens_ended text) (tokens_rising text) h
