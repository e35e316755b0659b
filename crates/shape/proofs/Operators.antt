-- The two operators by one record of laws: how a run of one is read, what its parts are encoded as, and how it measures.
-- A run of `or` has terms for its parts, and a run of `and` has operands. Assumes nothing.
use Prim.Native.Nat.{ℕ, suc, ◌+◌, ◌*◌, ◌≤◌, max}
use native.Mathlib.Omega.{arith}
use native.Mathlib.Decide.{ℕ_discrete}
use mathlib.Core.Path.{◌≡◌, refl, sym, ◌∙◌, ap, ap₂, subst}
use mathlib.Core.Bool.{Bool, true, false, ◌||◌, cond}
use mathlib.Core.List.{List, [], ◌∷◌, ◌++◌}
use mathlib.Core.Logic.{⊎_elim, by_cases}
use mathlib.Core.Option.{some}
use lib.Dec.{eqb}
use lib.ListN.{drop}
use lib.Seq.{drop-drop}
use borrow.Author.Tests.{ne_eqb, eqb-false}
use Rattle.paper.specs.Tools.{found, begins}
use Rattle.paper.specs.Query.{Expr, path, both, either, negated}
use Rattle.paper.specs.Items.{and_item, or_item, step_count, encode_expr, leading, Taken, take_operand, take_ands, take_term, take_ors, take_expr, take_within}
use Rattle.paper.specs.Measures.{is_and, is_or, in_brackets, nest_expr, height_expr}
use Rattle.paper.proofs.Tests.{decide}
use Rattle.paper.proofs.Encoding.{from_operand, from_term, from_within}
use Rattle.paper.specs.Composition.{guard_depth_expr}
use Rattle.shape.specs.Walks.{nest_term, nest_operand, open_in_expr, open_in_term, open_in_operand, operators}
use Rattle.heights.specs.Heights.{opened}

-- One of the two, by its item.
abbrev pub Operator : ℕ → Type 0
Operator w = (and_item ≤ w) × (w ≤ or_item)

-- By the operator: the first for `or`, the second for `and`.
abbrev pub by_operator : {A : Type 0} → ℕ → A → A → A
by_operator operator of_or of_and = cond (eqb operator or_item) of_or of_and

-- A run with its parts; one part; so many more parts, each joined to an expression.
abbrev pub take_run : ℕ → (List ℕ → Taken Expr) → List ℕ → Taken Expr
take_run operator within = by_operator operator (take_expr within) (take_term within)

abbrev pub take_part : ℕ → (List ℕ → Taken Expr) → List ℕ → Taken Expr
take_part operator within = by_operator operator (take_term within) (take_operand within)

abbrev pub take_more : ℕ → (List ℕ → Taken Expr) → ℕ → Expr → List ℕ → Taken Expr
take_more operator within = by_operator operator (take_ors within) (take_ands within)

-- Two expressions joined by the operator, and whether an expression is so joined.
abbrev pub join_by : ℕ → Expr → Expr → Expr
join_by operator = by_operator operator either both

abbrev pub is_joined : ℕ → Expr → Bool
is_joined operator = by_operator operator is_or is_and

-- The nesting of an expression as a run, and as a part of one.
abbrev pub nest_run : ℕ → Expr → ℕ
nest_run operator = by_operator operator nest_expr nest_term

abbrev pub nest_part : ℕ → Expr → ℕ
nest_part operator = by_operator operator nest_term nest_operand

-- How deep the guarded steps of an expression stand, as a run and as a part of one.
abbrev pub open_in_run : ℕ → ℕ → Expr → ℕ
open_in_run operator depth = by_operator operator (open_in_expr depth) (open_in_term depth)

abbrev pub open_in_part : ℕ → ℕ → Expr → ℕ
open_in_part operator depth = by_operator operator (open_in_term depth) (open_in_operand depth)

-- An encoded expression begins with an operator's item exactly if it is joined by that operator.
begins_and : (e : Expr) (rest : List ℕ) → begins and_item (encode_expr e ++ rest) ≡ is_and e
begins_and (path s) rest = ne_eqb 2 (step_count s * 8) (λ e. omega arith)
begins_and (both a b) rest = refl
begins_and (either a b) rest = refl
begins_and (negated a) rest = refl

begins_or : (e : Expr) (rest : List ℕ) → begins or_item (encode_expr e ++ rest) ≡ is_or e
begins_or (path s) rest = ne_eqb 3 (step_count s * 8) (λ e. omega arith)
begins_or (both a b) rest = refl
begins_or (either a b) rest = refl
begins_or (negated a) rest = refl

-- AN OPERATOR: how a run of it begins, goes on and stops, what its parts are encoded as, and how it measures.
pub record Run (depth operator : ℕ) : Type 0 where
  pub starts : (ws : List ℕ)
      → take_run operator (take_within depth) ws ≡ found (take_part operator (take_within depth) (drop (leading operator ws) ws)) (λ r. take_more operator (take_within depth) (leading operator ws) r.0 r.1)
  pub goes : (n : ℕ) (e : Expr) (ws : List ℕ)
      → take_more operator (take_within depth) (suc n) e ws ≡ found (take_part operator (take_within depth) ws) (λ r. take_more operator (take_within depth) n (join_by operator e r.0) r.1)
  pub stops : (e : Expr) (ws : List ℕ) → take_more operator (take_within depth) 0 e ws ≡ some (e, ws)
  pub encoded : (ws : List ℕ) (r : Expr × List ℕ) → take_part operator (take_within depth) ws ≡ some r → ws ≡ encode_expr r.0 ++ r.1
  pub begins-with : (e : Expr) (rest : List ℕ) → begins operator (encode_expr e ++ rest) ≡ is_joined operator e
  pub nest_join : (a b : Expr) → nest_run operator (join_by operator a b) ≡ max (nest_run operator a) (nest_part operator b)
  pub nest_alone : (e : Expr) → is_joined operator e ≡ false → nest_part operator e ≡ nest_run operator e
  pub height_join : (a b : Expr) → height_expr (join_by operator a b) ≡ 1 + max (height_expr a) (height_expr b)
  pub guard_join : (a b : Expr) → open_in_run operator depth (join_by operator a b) ≡ max (open_in_run operator depth a) (open_in_part operator depth b)
  pub guard_alone : (e : Expr) → is_joined operator e ≡ false → open_in_part operator depth e ≡ open_in_run operator depth e

pub ands : (depth : ℕ) → Run depth and_item
unfolding take_term
ands depth =
    record {
      starts = λ ws. refl;
      goes = λ n e ws. refl;
      stops = λ e ws. refl;
      encoded = λ ws r h. (from_operand depth (take_within depth) (from_within depth) ws r h).items;
      begins-with = begins_and;
      nest_join = λ a b. refl;
      nest_alone = λ e h. rw h (plain (is_or e) (nest_expr e));
      height_join = λ a b. refl;
      guard_join = λ a b. refl;
      guard_alone = λ e h. rw h (ap (guard_depth_expr e) (plain (is_or e) (opened depth)));
    }
  where
    plain : (b : Bool) (n : ℕ) → in_brackets (b || false) n ≡ in_brackets b n
    plain true n = refl
    plain false n = refl

pub ors : (depth : ℕ) → Run depth or_item
unfolding take_expr
ors depth =
    record {
      starts = λ ws. refl;
      goes = λ n e ws. refl;
      stops = λ e ws. refl;
      encoded = λ ws r h. (from_term depth (take_within depth) (from_within depth) ws r h).items;
      begins-with = begins_or;
      nest_join = λ a b. refl;
      nest_alone = λ e h. rw h;
      height_join = λ a b. refl;
      guard_join = λ a b. refl;
      guard_alone = λ e h. rw h;
    }

-- What holds of both operators holds of each.
pub each : (P : ℕ → Type 0) → P and_item → P or_item → (operator : ℕ) → Operator operator → P operator
each P of_and of_or operator o =
    by_cases (ℕ_discrete operator or_item) (λ e. subst P (sym e) of_or) (λ n. subst P (let e : and_item ≡ operator = omega arith in e) of_and)

pub run : (depth operator : ℕ) → Operator operator → Run depth operator
run depth = each (Run depth) (ands depth) (ors depth)

-- After a run its item does not come again.
run_over : (w : ℕ) (ws : List ℕ) → begins w (drop (leading w ws) ws) ≡ false
run_over w [] = refl
run_over w (x ∷ xs) = ⊎_elim (λ p. rw p (run_over w xs)) (λ p. rw p (ne_eqb w x (λ e. eqb-false x w p (sym e)))) (decide (eqb x w))

-- A run in the items, from `at` on: its first part stands after it, and is not joined by its operator.
module _ (operator depth : ℕ) (l : Run depth operator) (items : List ℕ) (at count : ℕ) (e : count ≡ leading operator (drop at items)) where
  after : drop (leading operator (drop at items)) (drop at items) ≡ drop (at + count) items
  after = ap (λ (k : ℕ). drop k (drop at items)) (sym e) ∙ drop-drop count at items

  pub run_starts : take_run operator (take_within depth) (drop at items) ≡ found (take_part operator (take_within depth) (drop (at + count) items)) (λ r. take_more operator (take_within depth) count r.0 r.1)
  run_starts =
      l.starts (drop at items) ∙
      ap₂ (λ (ws : List ℕ) (n : ℕ). found (take_part operator (take_within depth) ws) (λ r. take_more operator (take_within depth) n r.0 r.1)) after (sym e)

  pub first_alone : (r : Expr × List ℕ) → take_part operator (take_within depth) (drop (at + count) items) ≡ some r → is_joined operator r.0 ≡ false
  first_alone r h =
      sym (l.begins-with r.0 r.1) ∙ ap (begins operator) (sym (l.encoded (drop (at + count) items) r h) ∙ sym after) ∙ run_over operator (drop at items)

-- The operators that an expression begins with are the run of `or` and the run of `and` after it.
pub operators_run : (items : List ℕ) (at ors ands : ℕ) → ors ≡ leading or_item (drop at items) → ands ≡ leading and_item (drop (at + ors) items) → operators (drop at items) ≡ ors + ands
operators_run items at ors ands o a =
    ap₂ ◌+◌ (sym o) (ap (leading and_item) (ap (λ (k : ℕ). drop k (drop at items)) (sym o) ∙ drop-drop ors at items) ∙ sym a)

-- An item of an operator is one of them.
pub operators_some : (operator : ℕ) → Operator operator → (ws : List ℕ) → 1 ≤ operators (operator ∷ ws)
operators_some = each (λ operator. (ws : List ℕ) → 1 ≤ operators (operator ∷ ws)) (λ ws. omega arith) (λ ws. omega arith)
