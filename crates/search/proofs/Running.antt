-- Deciding an expression at one node, a run of `or` with runs of `and` in it: what was read so far is decided, and each part more joins what it says.
-- Both runs go by the same laws over the operator. Assumes nothing.
use Prim.Native.Nat.{ℕ, zero, suc, ◌+◌, ◌-◌, ◌≤◌, ◌<◌}
use native.Mathlib.Omega.{arith}
use mathlib.Core.Path.{◌≡◌, refl, sym, ◌∙◌, ap, ap₂}
use mathlib.Core.Bool.{Bool, true, false, ◌&&◌, ◌||◌}
use mathlib.Core.List.{List}
use lib.ListN.{length, drop, length-append, length-drop}
use Rattle.paper.specs.Tools.{found}
use Rattle.paper.specs.Query.{Expr, path, both, either, negated}
use Rattle.paper.specs.Items.{and_item, or_item, encode_expr, leading, Taken, take_operand, take_expr, take_within}
use Rattle.paper.specs.Document.{Table}
use Rattle.paper.specs.Selection.{holds}
use Rattle.paper.proofs.Tests.{found_some}
use Rattle.shape.specs.Walks.{operators}
use Rattle.shape.proofs.Operators.{by_operator, take_run, take_part, take_more, join_by, Run, run_starts, operators_run}
use Rattle.shape.proofs.Operators.{ands as ands-laws, ors as ors-laws}
use Rattle.search.specs.Searches.{Fits, Decides}
use Rattle.search.specs.declared.Held.{Held}

-- Every expression has an item.
some_item : (e : Expr) → 1 ≤ length (encode_expr e)
some_item (path s) = omega arith
some_item (both a b) = omega arith
some_item (either a b) = omega arith
some_item (negated a) = omega arith

-- What the operator makes of two answers, and the answer before any.
abbrev pub op_of : ℕ → Bool → Bool → Bool
op_of operator = by_operator operator ◌||◌ ◌&&◌

abbrev pub unit_of : ℕ → Bool
unit_of operator = by_operator operator false true

-- Deciding a run of an operator that begins at `at`, at the node i.
module _ (t : Table) (m : List ℕ) (i : ℕ) (operator depth : ℕ) (items : List ℕ) (at : ℕ) where
  -- What has been read of the run, with so many parts owed, is decided.
  pub record Left (place owed : ℕ) (acc : Bool) : Type 0 where
    pub so_far : Expr
    pub goes_on : take_run operator (take_within depth) (drop at items) ≡ take_more operator (take_within depth) owed so_far (drop place items)
    pub tells : acc ≡ holds t m so_far i
    pub onward : at ≤ place
    pub inside : place ≤ length items

  -- A part is to be read at `place`: it can be read, and what it says joins what is known.
  pub record Awaits (place owed : ℕ) (acc : Bool) : Type 0 where
    pub fits : (room : ℕ) → Fits items at room (take_run operator (take_within depth) (drop at items)) → Fits items place room (take_part operator (take_within depth) (drop place items))
    pub gives : (held : Held) → Decides items place (take_part operator (take_within depth) (drop place items)) (λ e. holds t m e i) held → Left held.next owed (op_of operator acc held.holds)

  module _ (l : Run depth operator) where
    -- The first part.
    awaits_first : ((b : Bool) → op_of operator (unit_of operator) b ≡ b) → (count : ℕ) → count ≡ leading operator (drop at items) → at + count ≤ length items → Awaits (at + count) count (unit_of operator)
    awaits_first unit count e inside =
        record {
          fits = λ room f.
              found_some (take_part operator (take_within depth) (drop (at + count) items)) _ (f.what, f.rest) (sym starts ∙ f.reads)
              (λ a p q. record { what = a.0; rest = a.1; reads = p; room_for = omega (arith, f.room_for); inside = inside; few = f.few });
          gives = λ held v.
              record {
                so_far = v.ends.what;
                goes_on = starts ∙ ap (λ (o : Taken Expr). found o (λ r. take_more operator (take_within depth) count r.0 r.1)) v.ends.reads;
                tells = unit held.holds ∙ v.tells;
                onward = omega (arith, v.ends.onward);
                inside = v.ends.inside;
              };
        }
      where
        starts : take_run operator (take_within depth) (drop at items) ≡ found (take_part operator (take_within depth) (drop (at + count) items)) (λ r. take_more operator (take_within depth) count r.0 r.1)
        starts = run_starts operator depth l items at count e

    -- The next part, where one is owed.
    awaits_next : ((a b : Expr) → holds t m (join_by operator a b) i ≡ op_of operator (holds t m a i) (holds t m b i))
        → (place owed : ℕ) (acc : Bool) → 0 < owed → Left place owed acc → Awaits place (owed - 1) acc
    awaits_next means place zero acc z left = absurd (omega arith)
    awaits_next means place (suc owed) acc z left =
        record {
          fits = λ room f.
              found_some (take_part operator (take_within depth) (drop place items)) _ (f.what, f.rest) (sym goes ∙ f.reads)
              (λ a p q. record { what = a.0; rest = a.1; reads = p; room_for = omega (arith, f.room_for, left.onward); inside = left.inside; few = f.few });
          gives = λ held v.
              record {
                so_far = join_by operator left.so_far v.ends.what;
                goes_on = goes ∙ ap (λ (o : Taken Expr). found o (λ r. take_more operator (take_within depth) (suc owed - 1) (join_by operator left.so_far r.0) r.1)) v.ends.reads;
                tells = ap₂ (op_of operator) left.tells v.tells ∙ sym (means left.so_far v.ends.what);
                onward = omega (arith, left.onward, v.ends.onward);
                inside = v.ends.inside;
              };
        }
      where
        goes : take_run operator (take_within depth) (drop at items) ≡ found (take_part operator (take_within depth) (drop place items)) (λ r. take_more operator (take_within depth) (suc owed - 1) (join_by operator left.so_far r.0) r.1)
        goes =
            left.goes_on ∙ l.goes owed left.so_far (drop place items) ∙
            ap (λ (n : ℕ). found (take_part operator (take_within depth) (drop place items)) (λ r. take_more operator (take_within depth) n (join_by operator left.so_far r.0) r.1))
            (let k : owed ≡ suc owed - 1 = omega arith in k)

    -- No part is owed.
    left_done : (place owed : ℕ) (acc : Bool) → owed ≤ 0 → Left place owed acc → Decides items at (take_run operator (take_within depth) (drop at items)) (λ e. holds t m e i) (record { next = place; holds = acc })
    left_done place zero acc z left =
        record {
          ends = record { what = left.so_far; reads = left.goes_on ∙ l.stops left.so_far (drop place items); onward = left.onward; inside = left.inside };
          tells = left.tells;
        }
    left_done place (suc owed) acc z left = absurd (omega arith)

-- Deciding an expression that begins at `at`: an operand of `and` is to be read next, in a term that an `or` awaits and that began at `since`.
module _ (t : Table) (m : List ℕ) (i : ℕ) (depth : ℕ) (items : List ℕ) (at : ℕ) where
  pub record Turn (place ands ors : ℕ) (any all : Bool) : Type 0 where
    pub since : ℕ
    pub outer : Awaits t m i or_item depth items at since ors any
    pub inner : Awaits t m i and_item depth items since place ands all
    pub past : at + operators (drop at items) ≤ place

  pub turn_start : (ors ands : ℕ) → ors ≡ leading or_item (drop at items) → ands ≡ leading and_item (drop (at + ors) items) → at + ors ≤ length items → at + ors + ands ≤ length items
      → Turn (at + ors + ands) ands ors false true
  turn_start ors ands o a lo la =
      record {
        since = at + ors;
        outer = awaits_first t m i or_item depth items at (ors-laws depth) (λ b. refl) ors o lo;
        inner = awaits_first t m i and_item depth items (at + ors) (ands-laws depth) (λ b. refl) ands a la;
        past = omega (arith, operators_run items at ors ands o a);
      }

module _ {t : Table} {m : List ℕ} {i : ℕ} {depth : ℕ} {items : List ℕ} {at place ands ors : ℕ} {any all : Bool} (turn : Turn t m i depth items at place ands ors any all) where
  -- The operand can be read.
  pub turn_fits : (room : ℕ) → Fits items at room (take_expr (take_within depth) (drop at items)) → Fits items place room (take_operand (take_within depth) (drop place items))
  turn_fits room f = turn.inner.fits room (turn.outer.fits room f)

  -- The operand is decided.
  module _ {held : Held} (w : Decides items place (take_operand (take_within depth) (drop place items)) (λ e. holds t m e i) held) where
    pub turn_onward : place < held.next
    turn_onward =
        let v = w.ends in
        let e : length items - place ≡ length (encode_expr v.what) + (length items - held.next) =
        sym (length-drop place items) ∙ ap length ((ands-laws depth).encoded (drop place items) (v.what, drop held.next items) v.reads) ∙
        length-append (encode_expr v.what) (drop held.next items) ∙ ap (λ (k : ℕ). length (encode_expr v.what) + k) (length-drop held.next items) in
        omega (arith, e, some_item v.what, v.onward, v.inside)

    operands : Left t m i and_item depth items turn.since held.next ands (all && held.holds)
    operands = turn.inner.gives held w

    -- The operand is not its term's last.
    pub turn_and : 0 < ands → Turn t m i depth items at held.next (ands - 1) ors any (all && held.holds)
    turn_and z =
        record {
          since = turn.since;
          outer = turn.outer;
          inner = awaits_next t m i and_item depth items turn.since (ands-laws depth) (λ a b. refl) held.next ands (all && held.holds) z operands;
          past = omega (arith, turn.past, w.ends.onward);
        }

    -- The term is read, and joins the expression.
    module _ (z : ands ≤ 0) where
      terms : Left t m i or_item depth items at held.next ors (any || (all && held.holds))
      terms = turn.outer.gives (record { next = held.next; holds = all && held.holds }) (left_done t m i and_item depth items turn.since (ands-laws depth) held.next ands (all && held.holds) z operands)

      pub turn_or : {count : ℕ} → 0 < ors → count ≡ leading and_item (drop held.next items) → held.next + count ≤ length items
          → Turn t m i depth items at (held.next + count) count (ors - 1) (any || (all && held.holds)) true
      turn_or {count} y e inside =
          record {
            since = held.next;
            outer = awaits_next t m i or_item depth items at (ors-laws depth) (λ a b. refl) held.next ors (any || (all && held.holds)) y terms;
            inner = awaits_first t m i and_item depth items held.next (ands-laws depth) (λ b. refl) count e inside;
            past = omega (arith, turn.past, w.ends.onward);
          }

      pub turn_done : ors ≤ 0 → Decides items at (take_expr (take_within depth) (drop at items)) (λ e. holds t m e i) (record { next = held.next; holds = any || (all && held.holds) })
      turn_done y = left_done t m i or_item depth items at (ors-laws depth) held.next ors (any || (all && held.holds)) y terms
