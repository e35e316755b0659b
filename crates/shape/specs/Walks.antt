-- What walking over items tells: where it ends, and nesting and height of what stands there, with the brackets open at its deepest guarded step.
use Rattle.std.specs.Prelude.{ℕ, ◌+◌, ◌^◌, ◌≤◌, ◌<◌, ◌≡◌, ◌||◌, List, length, drop, Option, Some, None}
use Rattle.std.proofs.Math.Option as maybe
use Rattle.std.proofs.Math.Option.{none, some}
use Rattle.paper.specs.Limits.{bracket_limit}
use Rattle.paper.specs.Query.{Expr, Steps, Preds, Query}
use Rattle.paper.specs.Items.{and_item, or_item, leading, Taken}
use Rattle.paper.specs.Measures.{is_or, is_and, in_brackets, nest_expr}
use Rattle.paper.specs.Measures.{nesting as nesting_of, height as height_of}
use Rattle.paper.specs.Composition.{guard_depth_expr, guard_depth_steps, guard_depth_preds, guard_depth}
use Rattle.shape.specs.declared.Walked.{Walked}
use Rattle.shape.specs.declared.Shape.{Shape}
use Rattle.heights.specs.Heights.{opened}

-- The nesting of an expression as a term of `or` and as an operand of `and`: with the bracket that it gets there.
abbrev pub nest_term : Expr → ℕ
nest_term e = in_brackets (is_or e) (nest_expr e)

abbrev pub nest_operand : Expr → ℕ
nest_operand e = in_brackets (is_or e || is_and e) (nest_expr e)

-- The most brackets open at a guarded step of what stands there, 0 where there is none: as a predicate's whole expression, as a term of `or` and as an operand of `and`;
abbrev pub open_in_expr : ℕ → Expr → ℕ
open_in_expr depth e = guard_depth_expr e (opened depth)

abbrev pub open_in_term : ℕ → Expr → ℕ
open_in_term depth e = guard_depth_expr e (in_brackets (is_or e) (opened depth))

abbrev pub open_in_operand : ℕ → Expr → ℕ
open_in_operand depth e = guard_depth_expr e (in_brackets (is_or e || is_and e) (opened depth))

-- and of steps and of predicates.
abbrev pub open_in_steps : ℕ → Steps → ℕ
open_in_steps depth s = guard_depth_steps s (opened depth)

abbrev pub open_in_preds : ℕ → Preds → ℕ
open_in_preds depth ps = guard_depth_preds ps (opened depth)

-- How many items of operators an expression begins with: those of `or`, then those of `and`.
abbrev pub operators : List ℕ → ℕ
operators ws = leading or_item ws + leading and_item (drop (leading or_item ws) ws)

-- The walk from `at` took something, and ended at `next` with these measures of it.
pub record Walk {A : Type 0} (items : List ℕ) (at depth : ℕ) (taken : Taken A) (nest_of height_of guard_of : A → ℕ) (next nest high guard : ℕ) : Type 0 where
  pub what : A
  pub reads : taken ≡ some (what, drop next items)
  pub nests : nest ≡ nest_of what
  pub heights : high ≡ height_of what
  pub guards : guard ≡ guard_of what
  pub onward : at ≤ next
  pub inside : next ≤ length items
  pub shallow : nest ≤ depth
  pub low : high + at ≤ next

-- What an answer says of the walk.
abbrev pub Walks : {A : Type 0} → List ℕ → ℕ → ℕ → Taken A → (A → ℕ) → (A → ℕ) → (A → ℕ) → Option Walked → Type 0
Walks items at depth taken nest_of height_of guard_of (Some w) = Walk items at depth taken nest_of height_of guard_of w.next w.nesting w.height w.guards
Walks items at depth taken nest_of height_of guard_of None = taken ≡ none

-- The shape of items: nesting and height of the query that they are, and how deep its guarded steps stand.
abbrev pub shape_of : maybe.Option Query → Option Shape
shape_of none = None
shape_of (some q) = Some (record { nesting = nesting_of q; height = height_of q; guards = guard_depth q })

-- The walk with more nesting and height.
abbrev pub raised_by : Walked → ℕ → ℕ → Walked
raised_by w nesting height = record { next = w.next; nesting = w.nesting + nesting; height = w.height + height; guards = w.guards }

-- Measures that can be raised.
abbrev pub Small : Walked → Type 0
Small w = (w.nesting ≤ bracket_limit) × (w.height < 2 ^ 63)
