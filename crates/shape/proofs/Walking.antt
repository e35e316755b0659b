-- Walking over an expression, over steps and over predicates: what was read so far, and how one thing more changes it.
-- The idea is the same each time: what is left to read gives the answer of the whole. Assumes nothing.
use Prim.Native.Nat.{ℕ, zero, suc, ◌+◌, ◌-◌, ◌≤◌, ◌<◌, max}
use native.Mathlib.Omega.{arith}
use mathlib.Core.Path.{◌≡◌, refl, sym, ◌∙◌, ap, ap₂}
use mathlib.Core.List.{List}
use mathlib.Core.Option.{none, some}
use lib.ListN.{length, get_or, drop, drop_of_length-le}
use lib.Seq.{drop-cons}
use native.Mathlib.Numerals.{add-one}
use Rattle.paper.specs.Tools.{found}
use Rattle.paper.specs.Query.{Expr, path, both, either, negated, Steps, stop, step, Preds, bare, pred}
use Rattle.paper.specs.Items.{and_item, or_item, Head, step_at, leading, Taken, take_preds, take_steps, take_operand, take_expr, take_within}
use Rattle.paper.specs.Measures.{nest_expr, nest_steps, nest_preds, height_expr, height_steps, height_preds}
use Rattle.paper.specs.Composition.{append, guard_depth_steps, guard_depth_preds}
use Rattle.shape.specs.Walks.{nest_operand, open_in_expr, open_in_operand, open_in_steps, open_in_preds, operators, Walk}
use Rattle.heights.specs.Heights.{opened, joined_height}
use Rattle.shape.proofs.Operators.{take_run, take_part, take_more, join_by, nest_run, nest_part, open_in_run, open_in_part, Run, run_starts, first_alone, operators_run}
use Rattle.shape.proofs.Operators.{ands as ands-laws, ors as ors-laws}
use Rattle.heights.proofs.Joining.{joined_more}

-- Every expression has a height.
pub some_height : (e : Expr) → 1 ≤ height_expr e
some_height (path s) = omega arith
some_height (both a b) = omega arith
some_height (either a b) = omega arith
some_height (negated a) = omega arith

-- Walking over a run of an operator that begins at `at`.
module _ (operator depth : ℕ) (items : List ℕ) (at : ℕ) where
  -- What has been read of the run, with so many parts owed.
  pub record Left (place deep high guard owed : ℕ) : Type 0 where
    pub so_far : Expr
    pub goes_on : take_run operator (take_within depth) (drop at items) ≡ take_more operator (take_within depth) owed so_far (drop place items)
    pub nests : deep ≡ nest_run operator so_far
    pub heights : high ≡ height_expr so_far
    pub guards : guard ≡ open_in_run operator depth so_far
    pub onward : at ≤ place
    pub inside : place ≤ length items
    pub shallow : deep ≤ depth
    pub low : high + owed + at ≤ place

  -- A part is to be read at `place`: what its answer makes of the run.
  pub record Awaits (place deep high guard owed : ℕ) : Type 0 where
    pub stuck : take_part operator (take_within depth) (drop place items) ≡ none → take_run operator (take_within depth) (drop at items) ≡ none
    pub gives : (next nesting height guards deep' high' guard' : ℕ)
        → Walk items place depth (take_part operator (take_within depth) (drop place items)) (nest_part operator) height_expr (open_in_part operator depth) next nesting height guards
        → deep' ≡ max deep nesting → high' ≡ joined_height high height → guard' ≡ max guard guards → Left next deep' high' guard' owed
    pub onward : at ≤ place
    pub inside : place ≤ length items
    pub low : high + owed + at ≤ place

  module _ (l : Run depth operator) where
    -- The first part.
    pub awaits_first : (count : ℕ) → count ≡ leading operator (drop at items) → at + count ≤ length items → Awaits (at + count) 0 0 0 count
    awaits_first count e inside =
        record {
          stuck = λ h. starts ∙ ap (λ (o : Taken Expr). found o (λ r. take_more operator (take_within depth) count r.0 r.1)) h;
          gives = λ next nesting height guards deep' high' guard' w ed eh eg.
              record {
                so_far = w.what;
                goes_on = starts ∙ ap (λ (o : Taken Expr). found o (λ r. take_more operator (take_within depth) count r.0 r.1)) w.reads;
                nests = omega (arith, ed, w.nests, l.nest_alone w.what (first_alone operator depth l items at count e (w.what, drop next items) w.reads));
                heights = eh ∙ w.heights;
                guards = omega (arith, eg, w.guards, l.guard_alone w.what (first_alone operator depth l items at count e (w.what, drop next items) w.reads));
                onward = omega (arith, w.onward);
                inside = w.inside;
                shallow = omega (arith, ed, w.shallow);
                low = omega (arith, eh, w.low);
              };
          onward = omega arith;
          inside = inside;
          low = omega arith;
        }
      where
        starts : take_run operator (take_within depth) (drop at items) ≡ found (take_part operator (take_within depth) (drop (at + count) items)) (λ r. take_more operator (take_within depth) count r.0 r.1)
        starts = run_starts operator depth l items at count e

    -- The next part, where one is owed.
    pub awaits_next : (place deep high guard owed : ℕ) → 0 < owed → Left place deep high guard owed → Awaits place deep high guard (owed - 1)
    awaits_next place deep high guard zero z left = absurd (omega arith)
    awaits_next place deep high guard (suc owed) z left =
        record {
          stuck = λ h. goes ∙ ap (λ (o : Taken Expr). found o (λ r. take_more operator (take_within depth) (suc owed - 1) (join_by operator left.so_far r.0) r.1)) h;
          gives = λ next nesting height guards deep' high' guard' w ed eh eg.
              let taller : high' ≡ 1 + max high height = eh ∙ joined_more high height (omega (arith, left.heights, some_height left.so_far)) in
              record {
                so_far = join_by operator left.so_far w.what;
                goes_on = goes ∙ ap (λ (o : Taken Expr). found o (λ r. take_more operator (take_within depth) (suc owed - 1) (join_by operator left.so_far r.0) r.1)) w.reads;
                nests = ed ∙ ap₂ max left.nests w.nests ∙ sym (l.nest_join left.so_far w.what);
                heights = omega (arith, taller, left.heights, w.heights, l.height_join left.so_far w.what);
                guards = eg ∙ ap₂ max left.guards w.guards ∙ sym (l.guard_join left.so_far w.what);
                onward = omega (arith, left.onward, w.onward);
                inside = w.inside;
                shallow = omega (arith, ed, left.shallow, w.shallow);
                low = omega (arith, taller, left.low, w.low, w.onward, w.heights, some_height w.what);
              };
          onward = left.onward;
          inside = left.inside;
          low = omega (arith, left.low);
        }
      where
        goes : take_run operator (take_within depth) (drop at items) ≡ found (take_part operator (take_within depth) (drop place items)) (λ r. take_more operator (take_within depth) (suc owed - 1) (join_by operator left.so_far r.0) r.1)
        goes =
            left.goes_on ∙ l.goes owed left.so_far (drop place items) ∙
            ap (λ (n : ℕ). found (take_part operator (take_within depth) (drop place items)) (λ r. take_more operator (take_within depth) n (join_by operator left.so_far r.0) r.1))
            (let k : owed ≡ suc owed - 1 = omega arith in k)

    -- No part is owed.
    pub left_done : (place deep high guard owed : ℕ) → owed ≤ 0 → Left place deep high guard owed
        → Walk items at depth (take_run operator (take_within depth) (drop at items)) (nest_run operator) height_expr (open_in_run operator depth) place deep high guard
    left_done place deep high guard zero z left =
        record {
          what = left.so_far;
          reads = left.goes_on ∙ l.stops left.so_far (drop place items);
          nests = left.nests;
          heights = left.heights;
          guards = left.guards;
          onward = left.onward;
          inside = left.inside;
          shallow = left.shallow;
          low = omega (arith, left.low);
        }
    left_done place deep high guard (suc owed) z left = absurd (omega arith)

-- Walking over an expression that begins at `at`: an operand of `and` is to be read at `place`, in a term that an `or` awaits and that began at `since`.
module _ (depth : ℕ) (items : List ℕ) (at : ℕ) where
  pub record Turn (place deep high guard term ands ors : ℕ) : Type 0 where
    pub since : ℕ
    pub outer_deep : ℕ
    pub inner_deep : ℕ
    pub deepest : deep ≡ max outer_deep inner_deep
    pub outer_guard : ℕ
    pub inner_guard : ℕ
    pub most_guarded : guard ≡ max outer_guard inner_guard
    pub outer : Awaits or_item depth items at since outer_deep high outer_guard ors
    pub inner : Awaits and_item depth items since place inner_deep term inner_guard ands
    pub past : at + operators (drop at items) ≤ place

  pub turn_start : (ors ands : ℕ) → ors ≡ leading or_item (drop at items) → ands ≡ leading and_item (drop (at + ors) items) → at + ors ≤ length items → at + ors + ands ≤ length items
      → Turn (at + ors + ands) 0 0 0 0 ands ors
  turn_start ors ands o a lo la =
      record {
        since = at + ors;
        outer_deep = 0;
        inner_deep = 0;
        deepest = refl;
        outer_guard = 0;
        inner_guard = 0;
        most_guarded = refl;
        outer = awaits_first or_item depth items at (ors-laws depth) ors o lo;
        inner = awaits_first and_item depth items (at + ors) (ands-laws depth) ands a la;
        past = omega (arith, operators_run items at ors ands o a);
      }

module _ {depth : ℕ} {items : List ℕ} {at place deep high guard term ands ors : ℕ} (t : Turn depth items at place deep high guard term ands ors) where
  pub turn_stuck : take_operand (take_within depth) (drop place items) ≡ none → take_expr (take_within depth) (drop at items) ≡ none
  turn_stuck h = t.outer.stuck (t.inner.stuck h)

  -- The operand is read.
  module _ {next nesting height guards deep' guard' term' : ℕ}
      (w : Walk items place depth (take_operand (take_within depth) (drop place items)) nest_operand height_expr (open_in_operand depth) next nesting height guards)
      (ed : deep' ≡ max deep nesting) (eg : guard' ≡ max guard guards) (et : term' ≡ joined_height term height) where
    pub turn_onward : place < next
    turn_onward = omega (arith, w.low, w.heights, some_height w.what)

    operands : Left and_item depth items t.since next (max t.inner_deep nesting) term' (max t.inner_guard guards) ands
    operands = t.inner.gives next nesting height guards (max t.inner_deep nesting) term' (max t.inner_guard guards) w refl et refl

    pub term_low : term' ≤ next
    term_low = omega (arith, operands.low)

    -- It is not its term's last.
    pub turn_and : 0 < ands → Turn depth items at next deep' high guard' term' (ands - 1) ors
    turn_and z =
        record {
          since = t.since;
          outer_deep = t.outer_deep;
          inner_deep = max t.inner_deep nesting;
          deepest = omega (arith, ed, t.deepest);
          outer_guard = t.outer_guard;
          inner_guard = max t.inner_guard guards;
          most_guarded = omega (arith, eg, t.most_guarded);
          outer = t.outer;
          inner = awaits_next and_item depth items t.since (ands-laws depth) next (max t.inner_deep nesting) term' (max t.inner_guard guards) ands z operands;
          past = omega (arith, t.past, w.onward);
        }

    -- The term is read.
    module _ {high' : ℕ} (z : ands ≤ 0) (eh : high' ≡ joined_height high term') where
      terms : Left or_item depth items at next deep' high' guard' ors
      terms =
          t.outer.gives next (max t.inner_deep nesting) term' (max t.inner_guard guards) deep' high' guard'
          (left_done and_item depth items t.since (ands-laws depth) next (max t.inner_deep nesting) term' (max t.inner_guard guards) ands z operands) (omega (arith, ed, t.deepest)) eh
          (omega (arith, eg, t.most_guarded))

      pub turn_or : {count : ℕ} → 0 < ors → count ≡ leading and_item (drop next items) → next + count ≤ length items → Turn depth items at (next + count) deep' high' guard' 0 count (ors - 1)
      turn_or {count} y e inside =
          record {
            since = next;
            outer_deep = deep';
            inner_deep = 0;
            deepest = omega arith;
            outer_guard = guard';
            inner_guard = 0;
            most_guarded = omega arith;
            outer = awaits_next or_item depth items at (ors-laws depth) next deep' high' guard' ors y terms;
            inner = awaits_first and_item depth items next (ands-laws depth) count e inside;
            past = omega (arith, t.past, w.onward);
          }

      pub turn_done : ors ≤ 0 → Walk items at depth (take_expr (take_within depth) (drop at items)) nest_expr height_expr (open_in_expr depth) next deep' high' guard'
      turn_done y = left_done or_item depth items at (ors-laws depth) next deep' high' guard' ors y terms

-- What is taken, with more put before it.
abbrev pub ahead : {A : Type 0} → (A → A) → Taken A → Taken A
ahead put none = none
ahead put (some r) = some (put r.0, r.1)

-- A row of steps or of predicates: `rows n` reads n of them, and `join` puts one row before another.
pub record Rows (A : Type 0) : Type 0 where
  pub rows : ℕ → List ℕ → Taken A
  pub join : A → A → A
  pub nest_of : A → ℕ
  pub height_of : A → ℕ
  pub guard_of : A → ℕ
  pub empty : A
  pub stops : (ws : List ℕ) → rows 0 ws ≡ some (empty, ws)
  pub nest_empty : nest_of empty ≡ 0
  pub height_empty : height_of empty ≡ 0
  pub guard_empty : guard_of empty ≡ 0
  pub join_empty : (a : A) → join a empty ≡ a
  pub empty_join : (a : A) → join empty a ≡ a
  pub join_join : (a b c : A) → join (join a b) c ≡ join a (join b c)
  pub nest_join : (a b : A) → nest_of (join a b) ≡ max (nest_of a) (nest_of b)
  pub height_join : (a b : A) → height_of (join a b) ≡ max (height_of a) (height_of b)
  pub guard_join : (a b : A) → guard_of (join a b) ≡ max (guard_of a) (guard_of b)

module _ {A : Type 0} (k : Rows A) where
  -- What has been read of the row, with so many owed.
  pub record Row (items : List ℕ) (at depth : ℕ) (whole : Taken A) (place deep high guard owed : ℕ) : Type 0 where
    pub so_far : A
    pub goes_on : whole ≡ ahead (k.join so_far) (k.rows owed (drop place items))
    pub nests : deep ≡ k.nest_of so_far
    pub heights : high ≡ k.height_of so_far
    pub guards : guard ≡ k.guard_of so_far
    pub onward : at ≤ place
    pub inside : place ≤ length items
    pub shallow : deep ≤ depth
    pub low : high + at ≤ place

  -- Nothing read yet.
  pub row_start : (items : List ℕ) (at depth count owed : ℕ) → count ≡ owed → at ≤ length items
      → Row items at depth (k.rows count (drop at items)) at 0 0 0 owed
  row_start items at depth count owed e l =
      record {
        so_far = k.empty;
        goes_on = ap (λ (n : ℕ). k.rows n (drop at items)) e ∙ go (k.rows owed (drop at items));
        nests = sym k.nest_empty;
        heights = sym k.height_empty;
        guards = sym k.guard_empty;
        onward = omega arith;
        inside = l;
        shallow = omega arith;
        low = omega arith;
      }
    where
      go : (o : Taken A) → o ≡ ahead (k.join k.empty) o
      go none = refl
      go (some r) = ap (λ (a : A). some (a, r.1)) (sym (k.empty_join r.0))

  -- One more: `goes` is what reading one then goes on with.
  pub row_more : (items : List ℕ) (at depth : ℕ) (whole : Taken A) (place deep high guard owed left next nesting height guards deep' high' guard' : ℕ) (one : A) → owed ≡ suc left
      → Row items at depth whole place deep high guard owed
      → ((n : ℕ) → k.rows (suc n) (drop place items) ≡ ahead (k.join one) (k.rows n (drop next items)))
      → place ≤ next → next ≤ length items → nesting ≡ k.nest_of one → height ≡ k.height_of one → guards ≡ k.guard_of one → nesting ≤ depth → height + place ≤ next
      → deep' ≡ max deep nesting → high' ≡ max high height → guard' ≡ max guard guards → Row items at depth whole next deep' high' guard' left
  row_more items at depth whole place deep high guard owed left next nesting height guards deep' high' guard' one z l goes o i en eh eg s b ed ei ej =
      record {
        so_far = k.join l.so_far one;
        goes_on =
            l.goes_on ∙ ap (λ (n : ℕ). ahead (k.join l.so_far) (k.rows n (drop place items))) z ∙ ap (ahead (k.join l.so_far)) (goes left) ∙
            go (k.rows left (drop next items));
        nests = ed ∙ ap₂ max l.nests en ∙ sym (k.nest_join l.so_far one);
        heights = ei ∙ ap₂ max l.heights eh ∙ sym (k.height_join l.so_far one);
        guards = ej ∙ ap₂ max l.guards eg ∙ sym (k.guard_join l.so_far one);
        onward = omega (arith, l.onward);
        inside = i;
        shallow = omega (arith, l.shallow);
        low = omega (arith, l.low, l.onward);
      }
    where
      go : (t : Taken A) → ahead (k.join l.so_far) (ahead (k.join one) t) ≡ ahead (k.join (k.join l.so_far one)) t
      go none = refl
      go (some r) = ap (λ (a : A). some (a, r.1)) (sym (k.join_join l.so_far one r.0))

  -- One that is malformed.
  pub row_stuck : (items : List ℕ) (at depth : ℕ) (whole : Taken A) (place deep high guard owed : ℕ) → 0 < owed → Row items at depth whole place deep high guard owed
      → ((n : ℕ) → k.rows (suc n) (drop place items) ≡ none) → whole ≡ none
  row_stuck items at depth whole place deep high guard zero z l stuck = absurd (omega arith)
  row_stuck items at depth whole place deep high guard (suc owed) z l stuck = l.goes_on ∙ ap (ahead (k.join l.so_far)) (stuck owed)

  -- None owed.
  pub row_done : (items : List ℕ) (at depth : ℕ) (whole : Taken A) (place deep high guard owed : ℕ) → owed ≤ 0 → Row items at depth whole place deep high guard owed
      → Walk items at depth whole k.nest_of k.height_of k.guard_of place deep high guard
  row_done items at depth whole place deep high guard zero z l =
      record {
        what = l.so_far;
        reads =
            l.goes_on ∙ ap (ahead (k.join l.so_far)) (k.stops (drop place items)) ∙
            ap (λ (a : A). some (a, drop place items)) (k.join_empty l.so_far);
        nests = l.nests;
        heights = l.heights;
        guards = l.guards;
        onward = l.onward;
        inside = l.inside;
        shallow = l.shallow;
        low = omega (arith, l.low);
      }
  row_done items at depth whole place deep high guard (suc owed) z l = absurd (omega arith)

-- Steps in a row.
pub append_stop : (s : Steps) → append s stop ≡ s
append_stop stop = refl
append_stop (step a t ps rest) = ap (step a t ps) (append_stop rest)

pub append_append : (r s u : Steps) → append (append r s) u ≡ append r (append s u)
append_append stop s u = refl
append_append (step a t ps rest) s u = ap (step a t ps) (append_append rest s u)

pub nest_append : (r s : Steps) → nest_steps (append r s) ≡ max (nest_steps r) (nest_steps s)
nest_append stop s = omega arith
nest_append (step a t ps rest) s = omega (arith, nest_append rest s)

pub height_append : (r s : Steps) → height_steps (append r s) ≡ max (height_steps r) (height_steps s)
height_append stop s = omega arith
height_append (step a t ps rest) s = omega (arith, height_append rest s)

pub guard_append : (r s : Steps) (n : ℕ) → guard_depth_steps (append r s) n ≡ max (guard_depth_steps r n) (guard_depth_steps s n)
guard_append stop s n = omega arith
guard_append (step a t ps rest) s n = omega (arith, guard_append rest s n)

-- Predicates in a row.
unfoldable pub append_preds : Preds → Preds → Preds
append_preds bare qs = qs
append_preds (pred e ps) qs = pred e (append_preds ps qs)

pub preds_bare : (ps : Preds) → append_preds ps bare ≡ ps
unfolding append_preds
preds_bare bare = refl
preds_bare (pred e ps) = ap (pred e) (preds_bare ps)

pub bare_preds : (ps : Preds) → append_preds bare ps ≡ ps
unfolding append_preds
bare_preds ps = refl

pub preds_append : (ps qs rs : Preds) → append_preds (append_preds ps qs) rs ≡ append_preds ps (append_preds qs rs)
unfolding append_preds
preds_append bare qs rs = refl
preds_append (pred e ps) qs rs = ap (pred e) (preds_append ps qs rs)

pub nest-preds : (ps qs : Preds) → nest_preds (append_preds ps qs) ≡ max (nest_preds ps) (nest_preds qs)
unfolding append_preds
nest-preds bare qs = omega arith
nest-preds (pred e ps) qs = omega (arith, nest-preds ps qs)

pub height-preds : (ps qs : Preds) → height_preds (append_preds ps qs) ≡ max (height_preds ps) (height_preds qs)
unfolding append_preds
height-preds bare qs = omega arith
height-preds (pred e ps) qs = omega (arith, height-preds ps qs)

pub guard-preds : (ps qs : Preds) (n : ℕ) → guard_depth_preds (append_preds ps qs) n ≡ max (guard_depth_preds ps n) (guard_depth_preds qs n)
unfolding append_preds
guard-preds bare qs n = omega arith
guard-preds (pred e ps) qs n = omega (arith, guard-preds ps qs n)

-- The row of steps and the row of predicates.
abbrev pub step_rows : ℕ → Rows Steps
step_rows depth =
    record {
      rows = take_steps (take_within depth);
      join = append;
      nest_of = nest_steps;
      height_of = height_steps;
      guard_of = open_in_steps depth;
      empty = stop;
      stops = λ ws. refl;
      nest_empty = refl;
      height_empty = refl;
      guard_empty = refl;
      join_empty = append_stop;
      empty_join = λ a. refl;
      join_join = append_append;
      nest_join = nest_append;
      height_join = height_append;
      guard_join = λ r s. guard_append r s (opened depth);
    }

abbrev pub pred_rows : ℕ → Rows Preds
pred_rows depth =
    record {
      rows = take_preds (take_within depth);
      join = append_preds;
      nest_of = nest_preds;
      height_of = height_preds;
      guard_of = open_in_preds depth;
      empty = bare;
      stops = λ ws. refl;
      nest_empty = refl;
      height_empty = refl;
      guard_empty = refl;
      join_empty = preds_bare;
      empty_join = bare_preds;
      join_join = preds_append;
      nest_join = nest-preds;
      height_join = height-preds;
      guard_join = λ ps qs. guard-preds ps qs (opened depth);
    }

-- What is found and put behind something is what is taken with that ahead.
pub found_ahead : {A : Type 0} (put : A → A) (o : Taken A) → found o (λ r. some (put r.0, r.1)) ≡ ahead put o
found_ahead put none = refl
found_ahead put (some r) = refl

-- One step more, from its item and its predicates.
pub step_row : (depth : ℕ) (items : List ℕ) (place : ℕ) (h : Head) (count : ℕ) (ps : Preds) (next : ℕ) → place < length items → step_at (get_or items place 0) ≡ some h
    → count ≡ h.count → take_preds (take_within depth) count (drop (place + 1) items) ≡ some (ps, drop next items) → (n : ℕ)
    → take_steps (take_within depth) (suc n) (drop place items) ≡ ahead (append (step h.axis h.test ps stop)) (take_steps (take_within depth) n (drop next items))
step_row depth items place h count ps next l e k p n =
    rw (drop-cons items place 0 l, e, ← add-one place, ← k, p) (found_ahead (append (step h.axis h.test ps stop)) (take_steps (take_within depth) n (drop next items)))

-- A step that is none, or whose predicates are malformed, or that is past the end.
pub no_step_row : (depth : ℕ) (items : List ℕ) (place : ℕ) → place < length items → step_at (get_or items place 0) ≡ none → (n : ℕ)
    → take_steps (take_within depth) (suc n) (drop place items) ≡ none
no_step_row depth items place l e n = rw (drop-cons items place 0 l, e)

pub bad_step_row : (depth : ℕ) (items : List ℕ) (place : ℕ) (h : Head) (count : ℕ) → place < length items → step_at (get_or items place 0) ≡ some h
    → count ≡ h.count → take_preds (take_within depth) count (drop (place + 1) items) ≡ none → (n : ℕ) → take_steps (take_within depth) (suc n) (drop place items) ≡ none
bad_step_row depth items place h count l e k p n = rw (drop-cons items place 0 l, e, ← add-one place, ← k, p)

pub past_step_row : (depth : ℕ) (items : List ℕ) (place : ℕ) → length items ≤ place → (n : ℕ) → take_steps (take_within depth) (suc n) (drop place items) ≡ none
past_step_row depth items place l n = rw (drop_of_length-le items l)

-- One predicate more, in its bracket.
pub pred_next : (depth : ℕ) (items : List ℕ) (place : ℕ) (e : Expr) (next : ℕ) → (depth ≡ 0 → ⊥) → take_expr (take_within (depth - 1)) (drop place items) ≡ some (e, drop next items) → (n : ℕ)
    → take_preds (take_within depth) (suc n) (drop place items) ≡ ahead (append_preds (pred e bare)) (take_preds (take_within depth) n (drop next items))
unfolding append_preds
pred_next zero items place e next d p n = absurd (d refl)
pred_next (suc depth) items place e next d p n =
    let q : take_expr (take_within depth) (drop place items) ≡ some (e, drop next items) =
    ap (λ (k : ℕ). take_expr (take_within k) (drop place items)) (let k : depth ≡ suc depth - 1 = omega arith in k) ∙ p in
    rw q (found_ahead (pred e) (take_preds (take_within (suc depth)) n (drop next items)))

pub bad_pred_row : (depth : ℕ) (items : List ℕ) (place : ℕ) → (depth ≡ 0 → ⊥) → take_expr (take_within (depth - 1)) (drop place items) ≡ none → (n : ℕ)
    → take_preds (take_within depth) (suc n) (drop place items) ≡ none
bad_pred_row zero items place d p n = absurd (d refl)
bad_pred_row (suc depth) items place d p n =
    let q : take_expr (take_within depth) (drop place items) ≡ none =
    ap (λ (k : ℕ). take_expr (take_within k) (drop place items)) (let k : depth ≡ suc depth - 1 = omega arith in k) ∙ p in
    rw q
