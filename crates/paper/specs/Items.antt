-- docs/SCOPE.md, "The query in memory": the items, one number each, in prefix order.
use Rattle.std.specs.Prelude.{ℕ, zero, suc, ◌+◌, ◌*◌, ◌/◌, ◌%◌, Bool, true, false, ◌&&◌, ◌||◌, cond, List, [], ◌∷◌, ◌++◌, eqb, leb, ltb, length, drop}
use Rattle.std.proofs.Math.Option.{Option, none, some}
use Rattle.paper.specs.Tools.{begins, found}
use Rattle.paper.specs.Limits.{bracket_limit, names_limit}
use Rattle.paper.specs.Query.{Axis, self, child, parent, descendant_or_self, ancestor_or_self, descendant, ancestor, following_sibling, preceding_sibling, following, preceding}
use Rattle.paper.specs.Query.{Test, any_node, text_node, named, any_element}
use Rattle.paper.specs.Query.{Expr, path, both, either, negated, Steps, stop, step, Preds, bare, pred, Query, paths}

-- Axes 0 to 4 in the order of 01's list, 5 to 10 in that of 02, 2026-06.
abbrev pub axis_number : Axis → ℕ
axis_number self = 0
axis_number child = 1
axis_number parent = 2
axis_number descendant_or_self = 3
axis_number ancestor_or_self = 4
axis_number descendant = 5
axis_number ancestor = 6
axis_number following_sibling = 7
axis_number preceding_sibling = 8
axis_number following = 9
axis_number preceding = 10

-- How many axes there are: their numbers are those below.
abbrev pub axes : ℕ
axes = 11

abbrev pub axis_of : ℕ → Option Axis
axis_of zero = some self
axis_of (suc zero) = some child
axis_of (suc (suc zero)) = some parent
axis_of (suc (suc (suc zero))) = some descendant_or_self
axis_of (suc (suc (suc (suc zero)))) = some ancestor_or_self
axis_of (suc (suc (suc (suc (suc zero))))) = some descendant
axis_of (suc (suc (suc (suc (suc (suc zero)))))) = some ancestor
axis_of (suc (suc (suc (suc (suc (suc (suc zero))))))) = some following_sibling
axis_of (suc (suc (suc (suc (suc (suc (suc (suc zero)))))))) = some preceding_sibling
axis_of (suc (suc (suc (suc (suc (suc (suc (suc (suc zero))))))))) = some following
axis_of (suc (suc (suc (suc (suc (suc (suc (suc (suc (suc zero)))))))))) = some preceding
axis_of (suc (suc (suc (suc (suc (suc (suc (suc (suc (suc (suc n))))))))))) = none

-- The test of the name 0; those of the other names follow.
abbrev pub named_from : ℕ
named_from = 2

-- Test 0 is `node()`, 1 `text()`, 2 + v a name, 258 `*`.
abbrev pub test_number : Test → ℕ
test_number any_node = 0
test_number text_node = 1
test_number (named v) = named_from + v
test_number any_element = 258

abbrev pub test_of : ℕ → Option Test
test_of zero = some any_node
test_of (suc zero) = some text_node
test_of (suc (suc v)) = cond (ltb v names_limit) (some (named v)) (cond (eqb v names_limit) (some any_element) none)

-- The fields of an item: an axis has 4 bits, a test 9, and a count 13, so each is below its bound, and a count is at most its limit.
abbrev pub axis_bound : ℕ
axis_bound = 16

abbrev pub test_bound : ℕ
test_bound = 512

abbrev pub count_limit : ℕ
count_limit = 8191

abbrev pub count_bound : ℕ
count_bound = count_limit + 1

-- A path item: kind 0 in bits 0 to 2, the step count in bits 3 to 15.
abbrev pub pack_path : ℕ → ℕ
pack_path count = count * 8

unfoldable pub path_at : ℕ → Option ℕ
path_at w = cond (eqb (w % 8) 0 && ltb w 65536) (some (w / 8)) none

-- What a step item says.
pub record Head : Type 0 where
  pub axis : Axis
  pub test : Test
  pub count : ℕ

-- A step item: kind 1, the axis in bits 3 to 6, the test in bits 7 to 15, the predicate count in bits 16 to 28; other bits are zero.
abbrev pub pack_step : Axis → Test → ℕ → ℕ
pack_step axis test count = 1 + axis_number axis * 8 + test_number test * 128 + count * 65536

unfoldable pub step_at : ℕ → Option Head
step_at w =
    cond (eqb (w % 8) 1 && ltb w 536870912)
    (found (axis_of (w / 8 % 16))
    (λ a. found (test_of (w / 128 % 512)) (λ t. some (record { axis = a; test = t; count = w / 65536 }))))
    none

-- The items of `and`, `or` and `not` are their kinds, 2, 3 and 4.
abbrev pub and_item : ℕ
and_item = 2

abbrev pub or_item : ℕ
or_item = 3

abbrev pub not_item : ℕ
not_item = 4

-- How many steps a path has, and predicates a step.
abbrev pub step_count : Steps → ℕ
step_count stop = 0
step_count (step a t ps rest) = suc (step_count rest)

abbrev pub pred_count : Preds → ℕ
pred_count bare = 0
pred_count (pred e ps) = suc (pred_count ps)

-- Prefix order: each item before what belongs to it.
abbrev mutual
  pub encode_expr : Expr → List ℕ
  encode_expr (path steps) = pack_path (step_count steps) ∷ encode_steps steps
  encode_expr (both a b) = and_item ∷ encode_expr a ++ encode_expr b
  encode_expr (either a b) = or_item ∷ encode_expr a ++ encode_expr b
  encode_expr (negated a) = not_item ∷ encode_expr a

  pub encode_steps : Steps → List ℕ
  encode_steps stop = []
  encode_steps (step a t ps rest) = pack_step a t (pred_count ps) ∷ encode_preds ps ++ encode_steps rest

  pub encode_preds : Preds → List ℕ
  encode_preds bare = []
  encode_preds (pred e ps) = encode_expr e ++ encode_preds ps

-- Top-level paths follow each other to the end.
abbrev pub encode_paths : List Steps → List ℕ
encode_paths [] = []
encode_paths (p ∷ ps) = encode_expr (path p) ++ encode_paths ps

unfoldable pub encode : Query → List ℕ
encode q = encode_paths (paths q)

-- How many of the first items are this one?
abbrev pub leading : ℕ → List ℕ → ℕ
leading w [] = 0
leading w (x ∷ xs) = cond (eqb x w) (suc (leading w xs)) 0

-- What is taken from the front of the items, and the items left.
abbrev pub Taken : Type 0 → Type 0
Taken A = Option (A × List ℕ)

-- `within` takes an expression that stands in one bracket more of the printed text.
module _ (within : List ℕ → Taken Expr) where
  -- So many predicates, each in its bracket.
  abbrev pub take_preds : ℕ → List ℕ → Taken Preds
  take_preds zero ws = some (bare, ws)
  take_preds (suc n) ws = found (within ws) (λ r. found (take_preds n r.1) (λ s. some (pred r.0 s.0, s.1)))

  -- So many steps.
  abbrev pub take_steps : ℕ → List ℕ → Taken Steps
  take_steps zero ws = some (stop, ws)
  take_steps (suc n) [] = none
  take_steps (suc n) (w ∷ ws) =
      found (step_at w)
      (λ h. found (take_preds h.count ws)
      (λ r. found (take_steps n r.1) (λ s. some (step h.axis h.test r.0 s.0, s.1))))

  -- A path; one in a predicate has at least one step.
  abbrev pub take_path : Bool → List ℕ → Taken Steps
  take_path bare_too [] = none
  take_path bare_too (w ∷ ws) = found (path_at w) (λ n. cond (leb 1 n || bare_too) (take_steps n ws) none)

  -- An operand of `and`: a path, or `not` or an operator, whose operands stand in a bracket.
  unfoldable pub take_operand : List ℕ → Taken Expr
  take_operand ws =
      let denied : Taken Expr = found (within (drop 1 ws)) (λ r. some (negated r.0, r.1)) in
      let grouped : Taken Expr = within ws in
      let steps : Taken Expr = found (take_path false ws) (λ r. some (path r.0, r.1)) in
      cond (begins not_item ws) denied
      (cond (begins and_item ws || begins or_item ws) grouped
      steps)

  -- So many operands more, each joined by `and` to what stands left of it.
  abbrev pub take_ands : ℕ → Expr → List ℕ → Taken Expr
  take_ands zero a ws = some (a, ws)
  take_ands (suc n) a ws = found (take_operand ws) (λ r. take_ands n (both a r.0) r.1)

  -- An operand of `or`: the items of its left-grouped `and` come first.
  unfoldable pub take_term : List ℕ → Taken Expr
  take_term ws = let n = leading and_item ws in found (take_operand (drop n ws)) (λ r. take_ands n r.0 r.1)

  abbrev pub take_ors : ℕ → Expr → List ℕ → Taken Expr
  take_ors zero a ws = some (a, ws)
  take_ors (suc n) a ws = found (take_term ws) (λ r. take_ors n (either a r.0) r.1)

  -- An expression: the items of its left-grouped `or` come first.
  unfoldable pub take_expr : List ℕ → Taken Expr
  take_expr ws = let n = leading or_item ws in found (take_term (drop n ws)) (λ r. take_ors n r.0 r.1)

-- The expression in a bracket, where so many brackets may still be opened.
abbrev pub take_within : ℕ → List ℕ → Taken Expr
take_within zero ws = none
take_within (suc depth) ws = take_expr (take_within depth) ws

-- Top-level paths to the end of the items, at most n.
abbrev pub take_paths : ℕ → List ℕ → Option (List Steps)
take_paths zero [] = some []
take_paths zero (w ∷ ws) = none
take_paths (suc n) [] = some []
take_paths (suc n) (w ∷ ws) =
    found (take_path (take_within bracket_limit) true (w ∷ ws)) (λ r. found (take_paths n r.1) (λ ps. some (r.0 ∷ ps)))

-- At least one path.
abbrev pub as_query : List Steps → Option Query
as_query [] = none
as_query (p ∷ ps) = some (record { first = p; others = ps })

-- The query that the items are; nothing where they are malformed, empty, or nested over the limit (refusal 6).
unfoldable pub decode : List ℕ → Option Query
decode ws = found (take_paths (length ws) ws) as_query

-- Can a query stand in memory: names below 256, counts below 8,192, a step in each path of a predicate?
abbrev pub good_test : Test → Bool
good_test any_node = true
good_test text_node = true
good_test (named v) = ltb v names_limit
good_test any_element = true

abbrev mutual
  pub good_expr : Expr → Bool
  good_expr (path steps) = leb 1 (step_count steps) && ltb (step_count steps) count_bound && good_steps steps
  good_expr (both a b) = good_expr a && good_expr b
  good_expr (either a b) = good_expr a && good_expr b
  good_expr (negated a) = good_expr a

  pub good_steps : Steps → Bool
  good_steps stop = true
  good_steps (step a t ps rest) = good_test t && ltb (pred_count ps) count_bound && good_preds ps && good_steps rest

  pub good_preds : Preds → Bool
  good_preds bare = true
  good_preds (pred e ps) = good_expr e && good_preds ps

abbrev pub good_paths : List Steps → Bool
good_paths [] = true
good_paths (p ∷ ps) = ltb (step_count p) count_bound && good_steps p && good_paths ps

unfoldable pub good : Query → Bool
good q = good_paths (paths q)
