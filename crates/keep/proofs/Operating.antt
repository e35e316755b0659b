-- What an operand needs of what it holds, and its set from that one's, by its first item. Assumes nothing.
use Prim.Native.Nat.{ℕ, suc, ◌+◌, ◌-◌, ◌≤◌, ◌<◌}
use native.Mathlib.Omega.{arith}
use mathlib.Core.Path.{◌≡◌, refl, sym, ◌∙◌, ap}
use mathlib.Core.Bool.{Bool, not}
use mathlib.Core.List.{List, [], ◌∷◌}
use mathlib.Core.Logic.{by_cases}
use mathlib.Core.Option.{some}
use native.Mathlib.Decide.{ℕ_discrete, dec_lt}
use lib.ListN.{length, get_or, take, drop}
use Rattle.paper.specs.Tools.{found}
use Rattle.paper.specs.Query.{Expr, path, negated}
use Rattle.paper.specs.Items.{not_item, path_at, Taken, take_steps, take_operand, take_expr, take_within}
use Rattle.paper.specs.Measures.{height_expr, height_steps}
use Rattle.paper.specs.Document.{Table}
use Rattle.paper.specs.Selection.{holds, finds}
use Rattle.paper.proofs.Tests.{found_some, none-some, some_inj}
use Rattle.item.specs.declared.Item.{Item}
use Rattle.item.specs.declared.Item.TheVariants.{Path, Step as StepItem, And, Or, Not, Bad}
use Rattle.item.proofs.Saying.{Said}
use Rattle.shape.proofs.Operands.{operand_past, operand_path, operand_bare, operand_other, operand_step, operand_same, operand_denied, operand_shut, at_place, deeper}
use Rattle.shape.proofs.Operators.{Operator}
use Rattle.shape.proofs.Walking.{some_height}
use Rattle.sets.specs.Sets.{bits}
use Rattle.keep.specs.Evals.{Fits, Evaluates}
use Rattle.keep.proofs.Running.{enough, one_fits}

-- What can be read stands before the end.
pub operand_there : (items : List ℕ) (at nodes room depth : ℕ) → Fits items at nodes room (take_operand (take_within depth) (drop at items)) height_expr → at < length items
operand_there items at nodes room depth f =
    by_cases (dec_lt at (length items)) (λ l. l) (λ l. none-some (sym (operand_past (take_within depth) items at (omega arith)) ∙ f.reads))

-- It is read from its first item on.
operand_read : (items : List ℕ) (at nodes room depth : ℕ) (f : Fits items at nodes room (take_operand (take_within depth) (drop at items)) height_expr)
    → take_operand (take_within depth) (get_or items at 0 ∷ drop (at + 1) items) ≡ some (f.what, f.rest)
operand_read items at nodes room depth f = ap (take_operand (take_within depth)) (sym (at_place items at (operand_there items at nodes room depth f))) ∙ f.reads

module _ (t : Table) (m : List ℕ) (items : List ℕ) (at nodes room depth : ℕ) (f : Fits items at nodes room (take_operand (take_within depth) (drop at items)) height_expr) where
  -- A bracket can be opened for anything but a path.
  pub not_deep : (i : Item) → Said (get_or items at 0) i → ((count : ℕ) → i ≡ Path count → ⊥) → depth ≡ 0 → ⊥
  not_deep i s k z = none-some (sym (operand_shut (get_or items at 0) i (drop (at + 1) items) s k) ∙ ap (λ (d : ℕ). take_operand (take_within d) (get_or items at 0 ∷ drop (at + 1) items)) (sym z) ∙ operand_read items at nodes room depth f)

  -- A path.
  pub path_fits : (count : ℕ) → path_at (get_or items at 0) ≡ some count → Fits items (at + 1) nodes room (take_steps (take_within depth) count (drop (at + 1) items)) (λ s. 1 + height_steps s)
  path_fits count p =
      by_cases (ℕ_discrete count 0)
      (λ z. none-some (sym (operand_bare (take_within depth) (get_or items at 0) (drop (at + 1) items) (p ∙ ap some z)) ∙ operand_read items at nodes room depth f))
      (λ z.
      found_some (take_steps (take_within depth) count (drop (at + 1) items)) _ (f.what, f.rest)
      (sym (operand_path (take_within depth) (get_or items at 0) count (drop (at + 1) items) p (omega arith)) ∙ operand_read items at nodes room depth f)
      (λ a q r.
      record {
        what = a.0;
        rest = a.1;
        reads = q;
        room_for = enough nodes (height_expr f.what) (1 + height_steps a.0) room f.room_for (omega (arith, ap (λ (x : Expr × List ℕ). height_expr x.0) (some_inj r)));
        inside = omega (arith, operand_there items at nodes room depth f);
      }))

  pub path_set : (count next : ℕ) (sets : List ℕ) → path_at (get_or items at 0) ≡ some count
      → Evaluates items (at + 1) nodes (take_steps (take_within depth) count (drop (at + 1) items)) (finds t m) next sets
      → Evaluates items at nodes (take_operand (take_within depth) (drop at items)) (holds t m) next sets
  path_set count next sets p v =
      by_cases (ℕ_discrete count 0)
      (λ z. none-some (sym (operand_bare (take_within depth) (get_or items at 0) (drop (at + 1) items) (p ∙ ap some z)) ∙ operand_read items at nodes room depth f))
      (λ z.
      record {
        what = path v.what;
        reads = ap (take_operand (take_within depth)) (at_place items at (operand_there items at nodes room depth f)) ∙ operand_path (take_within depth) (get_or items at 0) count (drop (at + 1) items) p (omega arith) ∙ rw v.reads;
        onward = omega (arith, v.onward);
        inside = v.inside;
        set = v.set;
      })

-- A bracket of an operator and of `not`, where d brackets may still be opened in it.
module _ (t : Table) (m : List ℕ) (items : List ℕ) (at nodes room d : ℕ) (f : Fits items at nodes room (take_operand (take_within (suc d)) (drop at items)) height_expr) where
  on : at < length items
  on = operand_there items at nodes room (suc d) f

  at_item : (i : ℕ) → get_or items at 0 ≡ i → take_operand (take_within (suc d)) (drop at items) ≡ take_operand (take_within (suc d)) (i ∷ drop (at + 1) items)
  at_item i e = ap (take_operand (take_within (suc d))) (at_place items at on ∙ ap (λ (x : ℕ). x ∷ drop (at + 1) items) e)

  pub not_taken : get_or items at 0 ≡ not_item → take_operand (take_within (suc d)) (drop at items) ≡ found (take_expr (take_within d) (drop (at + 1) items)) (λ r. some (negated r.0, r.1))
  not_taken e = at_item not_item e ∙ operand_denied (take_within (suc d)) (drop (at + 1) items)

  -- What stands in the bracket of an operator is the whole, from the operator's item on.
  pub joined_fits : Operator (get_or items at 0) → Fits items at nodes room (take_expr (take_within d) (drop at items)) height_expr
  joined_fits o = record { what = f.what; rest = f.rest; reads = sym (operand_same items at d on o) ∙ f.reads; room_for = f.room_for; inside = f.inside }

  pub joined_set : (next : ℕ) (sets : List ℕ) → Operator (get_or items at 0) → Evaluates items at nodes (take_expr (take_within d) (drop at items)) (holds t m) next sets
      → Evaluates items at nodes (take_operand (take_within (suc d)) (drop at items)) (holds t m) next sets
  joined_set next sets o v = record { what = v.what; reads = operand_same items at d on o ∙ v.reads; onward = v.onward; inside = v.inside; set = v.set }

  -- What stands in the bracket of `not` is turned round.
  pub not_fits : (taken : Taken Expr) → take_operand (take_within (suc d)) (drop at items) ≡ found taken (λ r. some (negated r.0, r.1)) → Fits items (at + 1) nodes room taken height_expr
  not_fits taken e =
      found_some taken _ (f.what, f.rest) (sym e ∙ f.reads)
      (λ a q r.
      record {
        what = a.0;
        rest = a.1;
        reads = q;
        room_for = enough nodes (height_expr f.what) (height_expr a.0) room f.room_for (omega (arith, ap (λ (x : Expr × List ℕ). height_expr x.0) (some_inj r)));
        inside = omega (arith, on);
      })

  pub not_set : (taken : Taken Expr) (next : ℕ) (sets after : List ℕ) → take_operand (take_within (suc d)) (drop at items) ≡ found taken (λ r. some (negated r.0, r.1))
      → Evaluates items (at + 1) nodes taken (holds t m) next sets → ((g : ℕ → Bool) → take nodes sets ≡ bits nodes g → take nodes after ≡ bits nodes (λ i. not (g i)))
      → Evaluates items at nodes (take_operand (take_within (suc d)) (drop at items)) (holds t m) next after
  not_set taken next sets after e v flips =
      record {
        what = negated v.what;
        reads = e ∙ rw v.reads;
        onward = omega (arith, v.onward);
        inside = v.inside;
        set = flips (holds t m v.what) v.set;
      }

-- An item that is neither a path nor `not`, and can be read, is an operator's.
pub must_join : (items : List ℕ) (at nodes room depth : ℕ) → Fits items at nodes room (take_operand (take_within depth) (drop at items)) height_expr → (i : Item) → Said (get_or items at 0) i
    → ((count : ℕ) → i ≡ Path count → ⊥) → (i ≡ Not → ⊥) → Operator (get_or items at 0)
must_join items at nodes room depth f (Path count) s k l = absurd (k count refl)
must_join items at nodes room depth f (StepItem st) s k l =
    none-some (sym (operand_step (take_within depth) (get_or items at 0) (drop (at + 1) items) s.0 s.1) ∙ operand_read items at nodes room depth f)
must_join items at nodes room depth f And s k l = (omega arith, omega arith)
must_join items at nodes room depth f Or s k l = (omega arith, omega arith)
must_join items at nodes room depth f Not s k l = absurd (l refl)
must_join items at nodes room depth f Bad s k l =
    none-some (sym (operand_other (take_within depth) (get_or items at 0) (drop (at + 1) items) s.0 s.2 s.3 s.4) ∙ operand_read items at nodes room depth f)

-- The same where d brackets may be opened and d is not 0.
module _ (t : Table) (m : List ℕ) (items : List ℕ) (at nodes room depth : ℕ) (z : depth ≡ 0 → ⊥) (f : Fits items at nodes room (take_operand (take_within depth) (drop at items)) height_expr) where
  Whole : ℕ → Type 0
  Whole d = Fits items at nodes room (take_operand (take_within d) (drop at items)) height_expr

  Set : ℕ → ℕ → List ℕ → Type 0
  Set d next sets = Evaluates items at nodes (take_operand (take_within d) (drop at items)) (holds t m) next sets

  pub opens_joined : Operator (get_or items at 0) → Fits items at nodes room (take_expr (take_within (depth - 1)) (drop at items)) height_expr
  unfolding Whole
  opens_joined o =
      deeper (λ less d. Whole d → Fits items at nodes room (take_expr (take_within less) (drop at items)) height_expr)
      (λ d g. joined_fits t m items at nodes room d g o) depth z f

  pub opens_not : get_or items at 0 ≡ not_item → Fits items (at + 1) nodes room (take_expr (take_within (depth - 1)) (drop (at + 1) items)) height_expr
  unfolding Whole
  opens_not e =
      deeper (λ less d. Whole d → Fits items (at + 1) nodes room (take_expr (take_within less) (drop (at + 1) items)) height_expr)
      (λ d g. not_fits t m items at nodes room d g _ (not_taken t m items at nodes room d g e)) depth z f

  pub closes_joined : (next : ℕ) (sets : List ℕ) → Operator (get_or items at 0)
      → Evaluates items at nodes (take_expr (take_within (depth - 1)) (drop at items)) (holds t m) next sets
      → Evaluates items at nodes (take_operand (take_within depth) (drop at items)) (holds t m) next sets
  unfolding Whole Set
  closes_joined next sets o v =
      deeper (λ less d. Whole d → Evaluates items at nodes (take_expr (take_within less) (drop at items)) (holds t m) next sets → Set d next sets)
      (λ d g u. joined_set t m items at nodes room d g next sets o u) depth z f v

  pub closes_not : (next : ℕ) (sets after : List ℕ) → get_or items at 0 ≡ not_item
      → Evaluates items (at + 1) nodes (take_expr (take_within (depth - 1)) (drop (at + 1) items)) (holds t m) next sets
      → ((g : ℕ → Bool) → take nodes sets ≡ bits nodes g → take nodes after ≡ bits nodes (λ i. not (g i)))
      → Evaluates items at nodes (take_operand (take_within depth) (drop at items)) (holds t m) next after
  unfolding Whole Set
  closes_not next sets after e v flips =
      deeper (λ less d. Whole d → Evaluates items (at + 1) nodes (take_expr (take_within less) (drop (at + 1) items)) (holds t m) next sets → Set d next after)
      (λ d g u. not_set t m items at nodes room d g _ next sets after (not_taken t m items at nodes room d g e) u flips) depth z f v

-- Any operand leaves room for its set.
pub operand_room : (items : List ℕ) (at nodes room depth : ℕ) → Fits items at nodes room (take_operand (take_within depth) (drop at items)) height_expr → nodes ≤ room
operand_room items at nodes room depth f = one_fits nodes (height_expr f.what) room f.room_for (some_height f.what)
