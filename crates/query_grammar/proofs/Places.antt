-- The places of tokens play no part in what is derived: a derivation goes over to the same tokens at other places.
-- By induction over the derivation, which leaves the same tokens in both lists. Assumes nothing.
use Prim.Native.Nat.{ℕ, zero, suc}
use native.Mathlib.Omega.{arith}
use mathlib.Core.Path.{◌≡◌, refl, sym, ap}
use mathlib.Core.Bool.{Bool}
use mathlib.Core.List.{List, [], ◌∷◌}
use mathlib.Core.Option.{Option}
use Rattle.paper.specs.Tokens.{Token, finish, Placed}
use Rattle.paper.specs.Query.{Test, Expr, Steps, Preds, Query}
use Rattle.paper.specs.Reading.{Step}
use Rattle.query_grammar.specs.Grammar.{tok, PredsIn, no_pred, one_pred, TestIn, star_test, node_test, text_test, name_test}
use Rattle.query_grammar.specs.Grammar.{DotIn, dot_alone, dot_preds, StepIn, dot_step, dots_step, child_step, axis_step, StepsIn, last_step_lem, slash_step, slashes_step}
use Rattle.query_grammar.specs.Grammar.{OperandIn, path_operand, round_operand, not_operand, TermIn, one_operand, and_operand, ExprIn, one_term, or_term}
use Rattle.query_grammar.specs.Grammar.{PathIn, root_path, slash_path, slashes_path, QueryIn, one_path, join_path, Within, bare_tokens, PlacesApart}

-- The same thing at other places, with what is left there.
record Moved {X : Type 0} (F : List Placed → X → List Placed → Type 0) (us : List Placed) (x : X) (rest : List Placed) : Type 0 where
  left : List Placed
  same : bare_tokens rest ≡ bare_tokens left
  derived : F us x left

-- A token in front stands in both lists.
first {ℓ} : {C : Type ℓ} (t : Token) (ts : List Token) (us : List Placed) → t ∷ ts ≡ bare_tokens us → ((q : ℕ) (vs : List Placed) → us ≡ tok q t ∷ vs → ts ≡ bare_tokens vs → C) → C
first t ts [] e k = absurd (let z : ◌≡◌ {A = ℕ} 0 1 = cc in omega arith)
first t ts (u ∷ us) e k =
    let head : t ≡ u.token = cc in
    let tail : ts ≡ bare_tokens us = cc in
    k u.place us (ap (λ x. tok u.place x ∷ us) (sym head)) tail

module _ (newer : Bool) (look : List ℕ → Option ℕ) (Inside : List Placed → Expr → List Placed → Type 0)
    (inside : (ts : List Placed) (e : Expr) (rest : List Placed) → Inside ts e rest → (us : List Placed) → bare_tokens ts ≡ bare_tokens us → Moved Inside us e rest) where
  preds_moved : {ts rest : List Placed} {ps : Preds} → PredsIn newer look Inside ts ps rest → (us : List Placed) → bare_tokens ts ≡ bare_tokens us → Moved (PredsIn newer look Inside) us ps rest
  preds_moved no_pred us e = record { left = us; same = e; derived = no_pred }
  preds_moved (one_pred i d) us e =
      first _ _ us e
      (λ q vs s f.
      let m = inside _ _ _ i vs f in
      first _ _ m.left m.same
      (λ r ws t g. let n = preds_moved d ws g in rw s (record { left = n.left; same = n.same; derived = one_pred (rw t at m.derived) n.derived })))

  test_moved : {ts rest : List Placed} {t : Test} → TestIn newer look Inside ts t rest → (us : List Placed) → bare_tokens ts ≡ bare_tokens us → Moved (TestIn newer look Inside) us t rest
  test_moved star_test us e = first _ _ us e (λ q vs s f. rw s (record { left = vs; same = f; derived = star_test }))
  test_moved node_test us e =
      first _ _ us e (λ q vs s f. first _ _ vs f (λ r ws t g. first _ _ ws g (λ k xs y h. rw (s, t, y) (record { left = xs; same = h; derived = node_test }))))
  test_moved text_test us e =
      first _ _ us e (λ q vs s f. first _ _ vs f (λ r ws t g. first _ _ ws g (λ k xs y h. rw (s, t, y) (record { left = xs; same = h; derived = text_test }))))
  test_moved (name_test n) us e = first _ _ us e (λ q vs s f. rw s (record { left = vs; same = f; derived = name_test n }))

  dot_moved : {ts rest : List Placed} {ps : Preds} → DotIn newer look Inside ts ps rest → (us : List Placed) → bare_tokens ts ≡ bare_tokens us → Moved (DotIn newer look Inside) us ps rest
  dot_moved dot_alone us e = record { left = us; same = e; derived = dot_alone }
  dot_moved (dot_preds v d) us e = let n = preds_moved d us e in record { left = n.left; same = n.same; derived = dot_preds v n.derived }

  step_moved : {ts rest : List Placed} {x : Step} → StepIn newer look Inside ts x rest → (us : List Placed) → bare_tokens ts ≡ bare_tokens us → Moved (StepIn newer look Inside) us x rest
  step_moved (dot_step d) us e = first _ _ us e (λ q vs s f. let n = dot_moved d vs f in rw s (record { left = n.left; same = n.same; derived = dot_step n.derived }))
  step_moved (dots_step d) us e = first _ _ us e (λ q vs s f. let n = dot_moved d vs f in rw s (record { left = n.left; same = n.same; derived = dots_step n.derived }))
  step_moved (child_step d k) us e =
      let m = test_moved d us e in
      let n = preds_moved k m.left m.same in
      record { left = n.left; same = n.same; derived = child_step m.derived n.derived }
  step_moved (axis_step a d k) us e =
      first _ _ us e
      (λ q vs s f.
      first _ _ vs f
      (λ r ws t g.
      let m = test_moved d ws g in
      let n = preds_moved k m.left m.same in
      rw (s, t) (record { left = n.left; same = n.same; derived = axis_step a m.derived n.derived })))

  steps_moved : {ts rest : List Placed} {x : Steps} → StepsIn newer look Inside ts x rest → (us : List Placed) → bare_tokens ts ≡ bare_tokens us → Moved (StepsIn newer look Inside) us x rest
  steps_moved (last_step_lem d) us e = let n = step_moved d us e in record { left = n.left; same = n.same; derived = last_step_lem n.derived }
  steps_moved (slash_step d k) us e =
      let m = step_moved d us e in
      first _ _ m.left m.same (λ r ws t g. let n = steps_moved k ws g in record { left = n.left; same = n.same; derived = slash_step (rw t at m.derived) n.derived })
  steps_moved (slashes_step d k) us e =
      let m = step_moved d us e in
      first _ _ m.left m.same (λ r ws t g. let n = steps_moved k ws g in record { left = n.left; same = n.same; derived = slashes_step (rw t at m.derived) n.derived })

  operand_moved : {ts rest : List Placed} {x : Expr} → OperandIn newer look Inside ts x rest → (us : List Placed) → bare_tokens ts ≡ bare_tokens us → Moved (OperandIn newer look Inside) us x rest
  operand_moved (path_operand d) us e = let n = steps_moved d us e in record { left = n.left; same = n.same; derived = path_operand n.derived }
  operand_moved (round_operand i) us e =
      first _ _ us e
      (λ q vs s f.
      let m = inside _ _ _ i vs f in
      first _ _ m.left m.same (λ r ws t g. rw s (record { left = ws; same = g; derived = round_operand (rw t at m.derived) })))
  operand_moved (not_operand i) us e =
      first _ _ us e
      (λ q vs s f.
      first _ _ vs f
      (λ k xs y h.
      let m = inside _ _ _ i xs h in
      first _ _ m.left m.same (λ r ws t g. rw (s, y) (record { left = ws; same = g; derived = not_operand (rw t at m.derived) }))))

  term_moved : {ts rest : List Placed} {x : Expr} → TermIn newer look Inside ts x rest → (us : List Placed) → bare_tokens ts ≡ bare_tokens us → Moved (TermIn newer look Inside) us x rest
  term_moved (one_operand d) us e = let n = operand_moved d us e in record { left = n.left; same = n.same; derived = one_operand n.derived }
  term_moved (and_operand d k) us e =
      let m = term_moved d us e in
      first _ _ m.left m.same (λ r ws t g. let n = operand_moved k ws g in record { left = n.left; same = n.same; derived = and_operand (rw t at m.derived) n.derived })

  expr_moved : {ts rest : List Placed} {x : Expr} → ExprIn newer look Inside ts x rest → (us : List Placed) → bare_tokens ts ≡ bare_tokens us → Moved (ExprIn newer look Inside) us x rest
  expr_moved (one_term d) us e = let n = term_moved d us e in record { left = n.left; same = n.same; derived = one_term n.derived }
  expr_moved (or_term d k) us e =
      let m = expr_moved d us e in
      first _ _ m.left m.same (λ r ws t g. let n = term_moved k ws g in record { left = n.left; same = n.same; derived = or_term (rw t at m.derived) n.derived })

  path_moved : {ts rest : List Placed} {x : Steps} → PathIn newer look Inside ts x rest → (us : List Placed) → bare_tokens ts ≡ bare_tokens us → Moved (PathIn newer look Inside) us x rest
  path_moved root_path us e = first _ _ us e (λ q vs s f. rw s (record { left = vs; same = f; derived = root_path }))
  path_moved (slash_path d) us e = first _ _ us e (λ q vs s f. let n = steps_moved d vs f in rw s (record { left = n.left; same = n.same; derived = slash_path n.derived }))
  path_moved (slashes_path d) us e = first _ _ us e (λ q vs s f. let n = steps_moved d vs f in rw s (record { left = n.left; same = n.same; derived = slashes_path n.derived }))

  query_moved : {ts rest : List Placed} {x : Query} → QueryIn newer look Inside ts x rest → (us : List Placed) → bare_tokens ts ≡ bare_tokens us → Moved (QueryIn newer look Inside) us x rest
  query_moved (one_path d) us e = let n = path_moved d us e in record { left = n.left; same = n.same; derived = one_path n.derived }
  query_moved (join_path j d k) us e =
      let m = path_moved d us e in
      first _ _ m.left m.same (λ r ws t g. let n = query_moved k ws g in record { left = n.left; same = n.same; derived = join_path j (rw t at m.derived) n.derived })

within_moved : (newer : Bool) (look : List ℕ → Option ℕ) (d : ℕ) (ts : List Placed) (e : Expr) (rest : List Placed) → Within newer look d ts e rest → (us : List Placed) → bare_tokens ts ≡ bare_tokens us
    → Moved (Within newer look d) us e rest
within_moved newer look zero ts e rest i us s = absurd i
within_moved newer look (suc d) ts e rest i us s =
    let m = expr_moved newer look (Within newer look d) (within_moved newer look d) i us s in
    record { left = m.left; same = m.same; derived = m.derived }

-- Nothing is left where nothing was.
none_left : (us : List Placed) → [] ≡ bare_tokens us → us ≡ []
none_left [] e = refl
none_left (u ∷ us) e = absurd (let z : ◌≡◌ {A = ℕ} 0 1 = cc in omega arith)

-- PLACES PLAY NO PART.
pub places_apart : PlacesApart
places_apart newer look d ts us q s (p, i) =
    let m = query_moved newer look (Within newer look d) (within_moved newer look d) i us s in
    first finish [] m.left m.same (λ r ws t g. (r, rw (t, none_left ws g) at m.derived))
