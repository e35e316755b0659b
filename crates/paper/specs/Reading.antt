-- docs/SCOPE.md, "The part of XPath": the query that a text is, or the place where it stops being one.
use Rattle.std.specs.Prelude.{ℕ, zero, suc, Bool, ◌&&◌, ◌||◌, cond, List, [], ◌∷◌, length, drop}
use Rattle.std.proofs.Math.Option.{Option, none, some}
use Rattle.paper.specs.Tools.{ascii, same}
use Rattle.paper.specs.Limits.{bracket_limit}
use Rattle.paper.specs.Tokens.{Token, slash, slashes, dot, dots, colons, bar, open_square, close_square, open_round, close_round, star, finish, word}
use Rattle.paper.specs.Tokens.{is, letters, Placed, tokens}
use Rattle.paper.specs.Query.{Axis, self, child, parent, descendant_or_self, ancestor_or_self, descendant, ancestor, following_sibling, preceding_sibling, following, preceding}
use Rattle.paper.specs.Query.{Test, any_node, text_node, named, any_element}
use Rattle.paper.specs.Query.{Expr, path, both, either, negated, Steps, stop, step, Preds, bare, pred, Query, paths}

-- What reading gives: a value and the tokens left, or a refusal number with a place.
pub data Got (A : Type 0) : Type 0 where
  got : A → List Placed → Got A
  refused : ℕ → ℕ → Got A

-- What comes next, if reading has not been refused.
abbrev pub then : {A B : Type 0} → Got A → (A → List Placed → Got B) → Got B
then (got a left) next = next a left
then (refused number place) next = refused number place

-- The token that comes next, and its place.
abbrev pub next : List Placed → Token
next [] = finish
next (t ∷ ts) = t.token

abbrev pub at : List Placed → ℕ
at [] = 0
at (t ∷ ts) = t.place

-- Is the next token of this sort; is it this very word?
abbrev pub sees : Token → List Placed → Bool
sees t ts = is t (next ts)

abbrev pub says : List ℕ → List Placed → Bool
says w ts = same w (letters (next ts))

-- Refusal 3: the next token begins no query with those before it.
abbrev pub wrong : {A : Type 0} → List Placed → Got A
wrong ts = refused 3 (at ts)

-- The next token must be of this sort, and is passed over.
abbrev pub pass : {A : Type 0} → Token → A → List Placed → Got A
pass t a ts = cond (sees t ts) (got a (drop 1 ts)) (wrong ts)

-- The axis of this name.
abbrev pub axis_named : List ℕ → Option Axis
axis_named w =
    cond (same w (ascii "self")) (some self)
    (cond (same w (ascii "child")) (some child)
    (cond (same w (ascii "parent")) (some parent)
    (cond (same w (ascii "descendant-or-self")) (some descendant_or_self)
    (cond (same w (ascii "ancestor-or-self")) (some ancestor_or_self)
    (cond (same w (ascii "descendant")) (some descendant)
    (cond (same w (ascii "ancestor")) (some ancestor)
    (cond (same w (ascii "following-sibling")) (some following_sibling)
    (cond (same w (ascii "preceding-sibling")) (some preceding_sibling)
    (cond (same w (ascii "following")) (some following)
    (cond (same w (ascii "preceding")) (some preceding)
    none))))))))))

-- A word before `::` is an axis if it names one of ours.
abbrev pub axis_ahead : List Placed → Option Axis
axis_ahead ts = cond (sees colons (drop 1 ts)) (axis_named (letters (next ts))) none

-- A step by itself, before its place in a path is known.
pub record Step : Type 0 where
  pub axis : Axis
  pub test : Test
  pub preds : Preds

-- The steps with one put before them.
abbrev pub before : Step → Steps → Steps
before s rest = step s.axis s.test s.preds rest

-- The step that `//` stands for, put before steps.
abbrev pub deep : Steps → Steps
deep rest = step descendant_or_self any_node bare rest

-- Does a step begin with this token?
abbrev pub starts_step : Token → Bool
starts_step t = is (word []) t || is star t || is dot t || is dots t

-- 02, 2026-08: does a token join absolute paths? `|` does, and in version 2 of XPath the word `union`, where `newer` holds.
abbrev pub joins : Bool → List Placed → Bool
joins newer ts = sees bar ts || (says (ascii "union") ts && newer)

-- `newer` says that the text is read by version 2; the names are looked up by `look`; `within` reads the expression in a bracket that stands at a place.
module _ (newer : Bool) (look : List ℕ → Option ℕ) (within : ℕ → List Placed → Got Expr) where
  -- Any number of predicates, at most n.
  abbrev pub read_preds : ℕ → List Placed → Got Preds
  read_preds zero ts = got bare ts
  read_preds (suc n) ts =
      let more = then (then (within (at ts) (drop 1 ts)) (pass close_square)) (λ e left. then (read_preds n left) (λ ps. got (pred e ps))) in
      cond (sees open_square ts) more (got bare ts)

  -- The predicates after axis and test.
  unfoldable pub read_tail : Axis → Test → List Placed → Got Step
  read_tail a t ts = then (read_preds (length ts) ts) (λ ps. got (record { axis = a; test = t; preds = ps }))

  -- The number of a name; refusal 5 where the list has none.
  abbrev pub read_name : Option ℕ → Axis → List Placed → Got Step
  read_name none a ts = refused 5 (at ts)
  read_name (some v) a ts = read_tail a (named v) (drop 1 ts)

  -- Test and predicates after an axis: `*`, `node()`, `text()` or a name.
  unfoldable pub read_tested : Axis → List Placed → Got Step
  read_tested a ts =
      let call = sees open_round (drop 1 ts) in
      let inside : Test → Got Step = λ t. then (pass close_round t (drop 2 ts)) (read_tail a) in
      let name = read_name (look (letters (next ts))) a ts in
      cond (sees star ts) (read_tail a any_element (drop 1 ts))
      (cond (call && says (ascii "node") ts) (inside any_node)
      (cond (call && says (ascii "text") ts) (inside text_node)
      (cond (sees (word []) ts) name
      (wrong ts))))

  -- What follows an axis that may have been written.
  abbrev pub read_axis : Option Axis → List Placed → Got Step
  read_axis none ts = read_tested child ts
  read_axis (some a) ts = read_tested a (drop 2 ts)

  -- What follows `.` or `..`, which are self and parent with `node()`: no predicate in version 1, any number in version 2.
  abbrev pub read_dot : Axis → List Placed → Got Step
  read_dot a ts = let tail = read_tail a any_node ts in cond newer tail (got (record { axis = a; test = any_node; preds = bare }) ts)

  -- One step; no axis means child.
  unfoldable pub read_step : List Placed → Got Step
  read_step ts =
      let full = read_axis (axis_ahead ts) ts in
      cond (sees dot ts) (read_dot self (drop 1 ts))
      (cond (sees dots ts) (read_dot parent (drop 1 ts))
      full)

  -- One step, and after each `/` or `//` another, at most n; `//` is `/descendant-or-self::node()/`.
  abbrev pub read_steps : ℕ → List Placed → Got Steps
  read_steps zero ts = wrong ts
  read_steps (suc n) ts =
      then (read_step ts)
      (λ s left.
      let more = then (read_steps n (drop 1 left)) (λ rest. got (before s rest)) in
      let deeper = then (read_steps n (drop 1 left)) (λ rest. got (before s (deep rest))) in
      cond (sees slash left) more
      (cond (sees slashes left) deeper
      (got (before s stop) left)))

  -- An operand: `not(..)`, round brackets, or a path that starts with a step.
  unfoldable pub read_operand : List Placed → Got Expr
  read_operand ts =
      let denied = then (then (within (at (drop 1 ts)) (drop 2 ts)) (pass close_round)) (λ e. got (negated e)) in
      let grouped = then (within (at ts) (drop 1 ts)) (pass close_round) in
      let steps = then (read_steps (length ts) ts) (λ s. got (path s)) in
      cond (says (ascii "not") ts && sees open_round (drop 1 ts)) denied
      (cond (sees open_round ts) grouped
      steps)

  -- After an operand, each `and` with one more, at most n, grouped to the left.
  abbrev pub read_ands : ℕ → Expr → List Placed → Got Expr
  read_ands zero a ts = got a ts
  read_ands (suc n) a ts =
      let more = then (read_operand (drop 1 ts)) (λ b. read_ands n (both a b)) in
      cond (says (ascii "and") ts) more (got a ts)

  unfoldable pub read_term : List Placed → Got Expr
  read_term ts = then (read_operand ts) (λ a left. read_ands (length left) a left)

  -- After a term, each `or` with one more, at most n, grouped to the left.
  abbrev pub read_ors : ℕ → Expr → List Placed → Got Expr
  read_ors zero a ts = got a ts
  read_ors (suc n) a ts =
      let more = then (read_term (drop 1 ts)) (λ b. read_ors n (either a b)) in
      cond (says (ascii "or") ts) more (got a ts)

  -- An expression: `and` binds tighter than `or`.
  unfoldable pub read_expr : List Placed → Got Expr
  read_expr ts = then (read_term ts) (λ a left. read_ors (length left) a left)

  -- An absolute path: `/` alone, or `/` and steps.
  unfoldable pub read_path : List Placed → Got Steps
  read_path ts =
      let after = drop 1 ts in
      let steps = read_steps (length after) after in
      cond (sees slashes ts) (then steps (λ rest. got (deep rest)))
      (cond (sees slash ts) (cond (starts_step (next after)) steps (got stop after))
      (wrong ts))

  -- Absolute paths joined, at most n, to the end of the text.
  abbrev pub read_paths : ℕ → List Placed → Got Query
  read_paths zero ts = wrong ts
  read_paths (suc n) ts =
      then (read_path ts)
      (λ p left.
      let more = then (read_paths n (drop 1 left)) (λ q. got (record { first = p; others = paths q })) in
      cond (joins newer left) more
      (pass finish (record { first = p; others = [] }) left))

-- The expression in a bracket, where so many brackets may still be opened. Refusal 4: a bracket too many.
abbrev pub read_within : Bool → (List ℕ → Option ℕ) → ℕ → ℕ → List Placed → Got Expr
read_within newer look zero place ts = refused 4 place
read_within newer look (suc depth) place ts = read_expr newer look (read_within newer look depth) ts

-- The query that a text is.
unfoldable pub read_text : Bool → (List ℕ → Option ℕ) → List ℕ → Got Query
read_text newer look text = let ts = tokens text in read_paths newer look (read_within newer look bracket_limit) (length ts) ts
