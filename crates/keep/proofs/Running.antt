-- Evaluating an expression, a run of `or` with runs of `and` in it: what was read so far has its set, and each part more is read into the sets behind it.
-- Both runs go by the same laws over the operator. The room is enough since a part is lower than the whole. Assumes nothing.
use Prim.Native.Nat.{ℕ, zero, suc, ◌+◌, ◌-◌, ◌*◌, ◌≤◌, ◌<◌}
use native.Mathlib.Omega.{arith}
use native.Mathlib.Nat.{mul-le-mul_left}
use mathlib.Core.Path.{◌≡◌, refl, sym, ◌∙◌, ap, subst, fun_ext}
use mathlib.Core.Bool.{Bool, ◌&&◌, ◌||◌}
use mathlib.Core.List.{List}
use mathlib.Core.Option.{some}
use lib.ListN.{length, take, drop, length-append, length-drop}
use lib.Seq.{take-take}
use borrow.Rule.Slice.PartMut.{put_mid}
use Rattle.paper.specs.Tools.{found}
use Rattle.paper.specs.Query.{Expr, path, both, either, negated}
use Rattle.paper.specs.Items.{and_item, or_item, encode_expr, leading, Taken, take_operand, take_expr, take_within}
use Rattle.paper.specs.Measures.{height_expr}
use Rattle.paper.specs.Document.{Table}
use Rattle.paper.specs.Selection.{holds}
use Rattle.paper.proofs.Tests.{found_some, some_inj}
use Rattle.shape.specs.Walks.{operators}
use Rattle.shape.proofs.Operators.{by_operator, take_run, take_part, take_more, join_by, Run, run_starts, operators_run}
use Rattle.shape.proofs.Operators.{ands as ands-laws, ors as ors-laws}
use Rattle.shape.proofs.Walking.{some_height}
use Rattle.sets.specs.Sets.{bits}
use Rattle.keep.specs.Evals.{Fits, Evaluates, Joined}
use Rattle.keep.proofs.Slices.{part_comes, first_stays, middle_same}

-- What is no higher fits where something does, and what is lower fits behind the first set.
pub enough : (n h k room : ℕ) → n * h ≤ room → k ≤ h → n * k ≤ room
enough n h k room r l = omega (arith, mul-le-mul_left n l, r)

pub behind : (n h k room : ℕ) → n * h ≤ room → suc k ≤ h → n * k ≤ room - n
behind n h k room r l = omega (arith, mul-le-mul_left n l, r)

-- Two in a row fit where something of height 2 or more does.
pub two_fit : (n h room : ℕ) → n * h ≤ room → 2 ≤ h → n + n ≤ room
two_fit n h room r l = omega (arith, mul-le-mul_left n l, r)

pub one_fits : (n h room : ℕ) → n * h ≤ room → 1 ≤ h → n ≤ room
one_fits n h room r l = omega (arith, mul-le-mul_left n l, r)

-- Every expression has an item.
some_item : (e : Expr) → 1 ≤ length (encode_expr e)
some_item (path s) = omega arith
some_item (both a b) = omega arith
some_item (either a b) = omega arith
some_item (negated a) = omega arith

-- What the operator makes of two tests.
abbrev pub op_of : ℕ → Bool → Bool → Bool
op_of operator = by_operator operator ◌||◌ ◌&&◌

-- The first set of `after` is a part's alone where nothing was held, and else joins it to the first set of `sets`.
pub record Comes (operator nodes held : ℕ) (sets part after : List ℕ) : Type 0 where
  pub first : held ≤ 0 → take nodes after ≡ take nodes part
  pub later : 0 < held → (f g : ℕ → Bool) → take nodes sets ≡ bits nodes f → take nodes part ≡ bits nodes g → take nodes after ≡ bits nodes (λ i. op_of operator (f i) (g i))

-- Evaluating a run of an operator that begins at `at`.
module _ (t : Table) (m : List ℕ) (operator depth : ℕ) (items : List ℕ) (at nodes : ℕ) where
  -- What has been read of the run, with so many parts owed, has its set.
  pub record Left (place owed : ℕ) (sets : List ℕ) : Type 0 where
    pub so_far : Expr
    pub goes_on : take_run operator (take_within depth) (drop at items) ≡ take_more operator (take_within depth) owed so_far (drop place items)
    pub set : take nodes sets ≡ bits nodes (holds t m so_far)
    pub onward : at ≤ place
    pub inside : place ≤ length items

  -- A part is to be read at `place`, into the sets behind the `held` bytes of the run's own set: it fits there, and what its set makes of the run's.
  pub record Awaits (place owed held : ℕ) (sets : List ℕ) : Type 0 where
    pub fits : (room : ℕ) → Fits items at nodes room (take_run operator (take_within depth) (drop at items)) height_expr
        → Fits items place nodes (room - held) (take_part operator (take_within depth) (drop place items)) height_expr
    pub gives : (next : ℕ) (part after : List ℕ) → Evaluates items place nodes (take_part operator (take_within depth) (drop place items)) (holds t m) next part
        → Comes operator nodes held sets part after → Left next owed after
    pub size : 0 < held → held ≡ nodes

  -- The same where the run's own set is the same.
  awaits_same : (place owed held : ℕ) (sets other : List ℕ) → (0 < held → take nodes other ≡ take nodes sets) → Awaits place owed held sets → Awaits place owed held other
  awaits_same place owed held sets other same a =
      record {
        fits = a.fits;
        gives = λ next part after v c.
            a.gives next part after v (record { first = c.first; later = λ z f g p q. c.later z f g (same z ∙ p) q });
        size = a.size;
      }

  module _ (l : Run depth operator) where
    -- What was joined is no higher than the whole.
    joined-height : (n : ℕ) (e : Expr) (ws : List ℕ) (r : Expr × List ℕ) → take_more operator (take_within depth) n e ws ≡ some r → height_expr e ≤ height_expr r.0
    joined-height zero e ws r h = let q : (e, ws) ≡ r = some_inj (sym (l.stops e ws) ∙ h) in omega (arith, ap (λ (x : Expr × List ℕ). height_expr x.0) q)
    joined-height (suc n) e ws r h =
        found_some (take_part operator (take_within depth) ws) _ r (sym (l.goes n e ws) ∙ h)
        (λ a p q. omega (arith, joined-height n (join_by operator e a.0) a.1 r q, l.height_join e a.0))

    -- The first part.
    awaits_first : (count : ℕ) (sets : List ℕ) → count ≡ leading operator (drop at items) → at + count ≤ length items → Awaits (at + count) count 0 sets
    awaits_first count sets e inside =
        record {
          fits = λ room f.
              found_some (take_part operator (take_within depth) (drop (at + count) items)) _ (f.what, f.rest) (sym starts ∙ f.reads)
              (λ a p q.
              record {
                what = a.0;
                rest = a.1;
                reads = p;
                room_for = enough nodes (height_expr f.what) (height_expr a.0) (room - 0) (omega (arith, f.room_for)) (joined-height count a.0 a.1 (f.what, f.rest) q);
                inside = inside;
              });
          gives = λ next part after v c.
              record {
                so_far = v.what;
                goes_on = starts ∙ ap (λ (o : Taken Expr). found o (λ r. take_more operator (take_within depth) count r.0 r.1)) v.reads;
                set = c.first (omega arith) ∙ v.set;
                onward = omega (arith, v.onward);
                inside = v.inside;
              };
          size = λ z. absurd (omega arith);
        }
      where
        starts : take_run operator (take_within depth) (drop at items) ≡ found (take_part operator (take_within depth) (drop (at + count) items)) (λ r. take_more operator (take_within depth) count r.0 r.1)
        starts = run_starts operator depth l items at count e

    -- The next part, where one is owed.
    awaits_next : ((a b : Expr) (i : ℕ) → holds t m (join_by operator a b) i ≡ op_of operator (holds t m a i) (holds t m b i)) → 0 < nodes
        → (place owed : ℕ) (sets : List ℕ) → 0 < owed → Left place owed sets → Awaits place (owed - 1) nodes sets
    awaits_next means rooted place zero sets z left = absurd (omega arith)
    awaits_next means rooted place (suc owed) sets z left =
        record {
          fits = λ room f.
              found_some (take_part operator (take_within depth) (drop place items)) _ (f.what, f.rest) (sym goes ∙ f.reads)
              (λ a p q.
              record {
                what = a.0;
                rest = a.1;
                reads = p;
                room_for =
                    behind nodes (height_expr f.what) (height_expr a.0) room f.room_for
                    (omega (arith, joined-height (suc owed - 1) (join_by operator left.so_far a.0) a.1 (f.what, f.rest) q, l.height_join left.so_far a.0));
                inside = left.inside;
              });
          gives = λ next part after v c.
              record {
                so_far = join_by operator left.so_far v.what;
                goes_on = goes ∙ ap (λ (o : Taken Expr). found o (λ r. take_more operator (take_within depth) (suc owed - 1) (join_by operator left.so_far r.0) r.1)) v.reads;
                set =
                    c.later rooted (holds t m left.so_far) (holds t m v.what) left.set v.set ∙
                    ap (bits nodes) (fun_ext (λ i. sym (means left.so_far v.what i)));
                onward = omega (arith, left.onward, v.onward);
                inside = v.inside;
              };
          size = λ z. refl;
        }
      where
        goes : take_run operator (take_within depth) (drop at items) ≡ found (take_part operator (take_within depth) (drop place items)) (λ r. take_more operator (take_within depth) (suc owed - 1) (join_by operator left.so_far r.0) r.1)
        goes =
            left.goes_on ∙ l.goes owed left.so_far (drop place items) ∙
            ap (λ (n : ℕ). found (take_part operator (take_within depth) (drop place items)) (λ r. take_more operator (take_within depth) n (join_by operator left.so_far r.0) r.1))
            (let k : owed ≡ suc owed - 1 = omega arith in k)

    -- No part is owed.
    left_done : (place owed : ℕ) (sets : List ℕ) → owed ≤ 0 → Left place owed sets → Evaluates items at nodes (take_run operator (take_within depth) (drop at items)) (holds t m) place sets
    left_done place zero sets z left =
        record { what = left.so_far; reads = left.goes_on ∙ l.stops left.so_far (drop place items); onward = left.onward; inside = left.inside; set = left.set }
    left_done place (suc owed) sets z left = absurd (omega arith)

-- Evaluating an expression that begins at `at`: an operand of `and` is to be read next, in a term that an `or` awaits and that began at `since`.
-- Of the expression's own set `base` bytes are held, and behind them `held` bytes of the term's.
module _ (t : Table) (m : List ℕ) (depth : ℕ) (items : List ℕ) (at nodes : ℕ) where
  pub record Turn (place base held ands ors : ℕ) (sets : List ℕ) : Type 0 where
    pub since : ℕ
    pub outer : Awaits t m or_item depth items at nodes since ors base sets
    pub inner : Awaits t m and_item depth items since nodes place ands held (drop base sets)
    pub past : at + operators (drop at items) ≤ place

  pub turn_start : (ors ands : ℕ) (sets : List ℕ) → ors ≡ leading or_item (drop at items) → ands ≡ leading and_item (drop (at + ors) items) → at + ors ≤ length items → at + ors + ands ≤ length items
      → Turn (at + ors + ands) 0 0 ands ors sets
  turn_start ors ands sets o a lo la =
      record {
        since = at + ors;
        outer = awaits_first t m or_item depth items at nodes (ors-laws depth) ors sets o lo;
        inner = awaits_first t m and_item depth items (at + ors) nodes (ands-laws depth) ands (drop 0 sets) a la;
        past = omega (arith, operators_run items at ors ands o a);
      }

module _ {t : Table} {m : List ℕ} {depth : ℕ} {items : List ℕ} {at nodes place base held ands ors : ℕ} {sets : List ℕ} (turn : Turn t m depth items at nodes place base held ands ors sets) where
  -- The operand fits behind what is held.
  pub turn_fits : (room : ℕ) → Fits items at nodes room (take_expr (take_within depth) (drop at items)) height_expr
      → Fits items place nodes (room - (base + held)) (take_operand (take_within depth) (drop place items)) height_expr
  turn_fits room f =
      subst (λ (k : ℕ). Fits items place nodes k (take_operand (take_within depth) (drop place items)) height_expr)
      (let e : room - base - held ≡ room - (base + held) = omega arith in e) (turn.inner.fits (room - base) (turn.outer.fits room f))

  pub turn_room : (room : ℕ) → 0 < nodes → Fits items at nodes room (take_expr (take_within depth) (drop at items)) height_expr → base + held + nodes ≤ room
  turn_room room rooted f =
      let g = turn_fits room f in
      omega (arith, one_fits nodes (height_expr g.what) (room - (base + held)) g.room_for (some_height g.what))

  -- What is held of a term's set is all of it, and of an expression's too.
  pub turn_held : 0 < held → held ≡ nodes
  turn_held = turn.inner.size

  pub turn_base : 0 < base → base ≡ nodes
  turn_base = turn.outer.size

  -- The operand is read into `part`, which comes back into `mid`, and its set is joined to the term's.
  module _ {next : ℕ} {part mid after : List ℕ} (rooted : 0 < nodes) (long : base + held ≤ length sets)
      (w : Evaluates items place nodes (take_operand (take_within depth) (drop place items)) (holds t m) next part)
      (back : mid ≡ put_mid (base + held) (length sets - (base + held)) sets part) (j : Joined nodes base held ◌&&◌ mid after) where
    pub turn_onward : place < next
    turn_onward =
        let e : length items - place ≡ length (encode_expr w.what) + (length items - next) =
        sym (length-drop place items) ∙ ap length ((ands-laws depth).encoded (drop place items) (w.what, drop next items) w.reads) ∙
        length-append (encode_expr w.what) (drop next items) ∙ ap (λ (k : ℕ). length (encode_expr w.what) + k) (length-drop next items) in
        omega (arith, e, some_item w.what, w.onward, w.inside)

    stays : take (base + held) mid ≡ take (base + held) sets
    stays = ap (take (base + held)) back ∙ first_stays (base + held) sets part long

    comes : drop (base + held) mid ≡ part
    comes = ap (drop (base + held)) back ∙ part_comes (base + held) sets part long

    operands : Left t m and_item depth items turn.since nodes next ands (drop base after)
    operands =
        turn.inner.gives next part (drop base after) w
        (record {
          first = λ z.
              ap (λ (xs : List ℕ). take nodes (drop base xs)) (j.first z) ∙ ap (λ (k : ℕ). take nodes (drop k mid)) (let e : base ≡ base + held = omega arith in e) ∙ ap (take nodes) comes;
          later = λ z f g p q.
              let all = turn_held z in
              j.later z f g
              (middle_same base nodes mid sets (subst (λ (k : ℕ). take (base + k) mid ≡ take (base + k) sets) all stays) ∙ p)
              (ap (λ (k : ℕ). take nodes (drop (base + k) mid)) (sym all) ∙ ap (take nodes) comes ∙ q);
        })

    -- The expression's own set stays.
    own : 0 < base → take nodes after ≡ take nodes sets
    own z =
        let all = turn_base z in
        subst (λ (k : ℕ). take k after ≡ take k sets) all
        (j.front ∙ sym (take-take base (base + held) mid (omega arith)) ∙ ap (take base) stays ∙ take-take base (base + held) sets (omega arith))

    -- The operand is not its term's last.
    pub turn_and : 0 < ands → Turn t m depth items at nodes next base nodes (ands - 1) ors after
    turn_and z =
        record {
          since = turn.since;
          outer = awaits_same t m or_item depth items at nodes turn.since ors base sets after own turn.outer;
          inner = awaits_next t m and_item depth items turn.since nodes (ands-laws depth) (λ a b i. refl) rooted next ands (drop base after) z operands;
          past = omega (arith, turn.past, w.onward);
        }

    -- The term is read, and its set added to the expression's.
    module _ {last : List ℕ} (z : ands ≤ 0) (k : Joined nodes 0 base ◌||◌ after last) where
      terms : Left t m or_item depth items at nodes next ors last
      terms =
          turn.outer.gives next (drop base after) last (left_done t m and_item depth items turn.since nodes (ands-laws depth) next ands (drop base after) z operands)
          (record {
            first = λ y. ap (take nodes) (k.first y) ∙ ap (λ (b : ℕ). take nodes (drop b after)) (let e : 0 ≡ base = omega arith in e);
            later = λ y f g p q.
                let all = turn_base y in
                k.later y f g (own y ∙ p) (ap (λ (b : ℕ). take nodes (drop b after)) (let e : 0 + nodes ≡ base = omega (arith, all) in e) ∙ q);
          })

      pub turn_or : {count : ℕ} → 0 < ors → count ≡ leading and_item (drop next items) → next + count ≤ length items → Turn t m depth items at nodes (next + count) nodes 0 count (ors - 1) last
      turn_or {count} y e inside =
          record {
            since = next;
            outer = awaits_next t m or_item depth items at nodes (ors-laws depth) (λ a b i. refl) rooted next ors last y terms;
            inner = awaits_first t m and_item depth items next nodes (ands-laws depth) count (drop nodes last) e inside;
            past = omega (arith, turn.past, w.onward);
          }

      pub turn_done : ors ≤ 0 → Evaluates items at nodes (take_expr (take_within depth) (drop at items)) (holds t m) next last
      turn_done y = left_done t m or_item depth items at nodes (ors-laws depth) next ors last y terms
