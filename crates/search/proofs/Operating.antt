-- What an operand needs of what it holds, and what it says from that, by its first item. Assumes nothing.
use Prim.Native.Nat.{ℕ, suc, ◌+◌, ◌-◌, ◌<◌}
use native.Mathlib.Omega.{arith}
use mathlib.Core.Path.{◌≡◌, refl, sym, ◌∙◌, ap}
use mathlib.Core.Bool.{Bool, not}
use mathlib.Core.List.{List, ◌∷◌}
use mathlib.Core.Logic.{by_cases}
use mathlib.Core.Option.{some}
use native.Mathlib.Decide.{ℕ_discrete, dec_lt}
use lib.ListN.{length, get_or, drop}
use Rattle.paper.specs.Tools.{found}
use Rattle.paper.specs.Query.{path, negated}
use Rattle.paper.specs.Items.{not_item, path_at, take_steps, take_operand, take_expr, take_within}
use Rattle.paper.specs.Document.{Table, nodes}
use Rattle.paper.specs.Selection.{holds}
use Rattle.paper.proofs.Tests.{found_some, none-some}
use Rattle.item.specs.declared.Item.{Item}
use Rattle.item.specs.declared.Item.TheVariants.{Path, Step as StepItem, And, Or, Not, Bad}
use Rattle.item.proofs.Saying.{Said}
use Rattle.shape.proofs.Operands.{operand_past, operand_path, operand_bare, operand_other, operand_step, operand_same, operand_denied, operand_shut, at_place, deeper}
use Rattle.shape.proofs.Operators.{Operator}
use Rattle.shape.specs.Ending.{Ends}
use Rattle.search.specs.Searches.{Fits, Decides, Settles, goes, ending}
use Rattle.search.specs.declared.Held.{Held}
use Rattle.search.proofs.Ending.{finds_goes}

module _ (items : List ℕ) (at room depth : ℕ) (f : Fits items at room (take_operand (take_within depth) (drop at items))) where
  -- What can be read stands before the end.
  pub operand_there : at < length items
  operand_there =
      by_cases (dec_lt at (length items)) (λ l. l) (λ l. none-some (sym (operand_past (take_within depth) items at (omega arith)) ∙ f.reads))

  -- It is read from its first item on.
  operand_read : take_operand (take_within depth) (get_or items at 0 ∷ drop (at + 1) items) ≡ some (f.what, f.rest)
  operand_read = ap (take_operand (take_within depth)) (sym (at_place items at operand_there)) ∙ f.reads

  -- A bracket can be opened for anything but a path.
  pub not_deep : (i : Item) → Said (get_or items at 0) i → ((count : ℕ) → i ≡ Path count → ⊥) → depth ≡ 0 → ⊥
  not_deep i s k z = none-some (sym (operand_shut (get_or items at 0) i (drop (at + 1) items) s k) ∙ ap (λ (d : ℕ). take_operand (take_within d) (get_or items at 0 ∷ drop (at + 1) items)) (sym z) ∙ operand_read)

  -- A path.
  pub path_fits : (count : ℕ) → path_at (get_or items at 0) ≡ some count → Fits items (at + 1) room (take_steps (take_within depth) count (drop (at + 1) items))
  path_fits count p =
      by_cases (ℕ_discrete count 0)
      (λ z. none-some (sym (operand_bare (take_within depth) (get_or items at 0) (drop (at + 1) items) (p ∙ ap some z)) ∙ operand_read))
      (λ z.
      found_some (take_steps (take_within depth) count (drop (at + 1) items)) _ (f.what, f.rest)
      (sym (operand_path (take_within depth) (get_or items at 0) count (drop (at + 1) items) p (omega arith)) ∙ operand_read)
      (λ a q r. record { what = a.0; rest = a.1; reads = q; room_for = omega (arith, f.room_for); inside = omega (arith, operand_there); few = f.few }))

  pub path_says : (t : Table) (m : List ℕ) (i count next : ℕ) (b : Bool) → path_at (get_or items at 0) ≡ some count
      → Settles (take_steps (take_within depth) count (drop (at + 1) items)) (λ s. goes t m (ending (nodes t) (nodes t)) s i) b
      → Ends items (at + 1) (take_steps (take_within depth) count (drop (at + 1) items)) next
      → Decides items at (take_operand (take_within depth) (drop at items)) (λ e. holds t m e i) (record { next = next; holds = b })
  path_says t m i count next b p v e =
      by_cases (ℕ_discrete count 0)
      (λ z. none-some (sym (operand_bare (take_within depth) (get_or items at 0) (drop (at + 1) items) (p ∙ ap some z)) ∙ operand_read))
      (λ z.
      record {
        ends =
            record {
              what = path e.what;
              reads = ap (take_operand (take_within depth)) (at_place items at operand_there) ∙ operand_path (take_within depth) (get_or items at 0) count (drop (at + 1) items) p (omega arith) ∙ rw e.reads;
              onward = omega (arith, e.onward);
              inside = e.inside;
            };
        tells = v e.what (drop next items) e.reads ∙ sym (finds_goes t m e.what i);
      })

  -- An item that is neither a path nor `not`, and can be read, is an operator's.
  pub must_join : (i : Item) → Said (get_or items at 0) i → ((count : ℕ) → i ≡ Path count → ⊥) → (i ≡ Not → ⊥) → Operator (get_or items at 0)
  must_join (Path count) s k l = absurd (k count refl)
  must_join (StepItem st) s k l = none-some (sym (operand_step (take_within depth) (get_or items at 0) (drop (at + 1) items) s.0 s.1) ∙ operand_read)
  must_join And s k l = (omega arith, omega arith)
  must_join Or s k l = (omega arith, omega arith)
  must_join Not s k l = absurd (l refl)
  must_join Bad s k l = none-some (sym (operand_other (take_within depth) (get_or items at 0) (drop (at + 1) items) s.0 s.2 s.3 s.4) ∙ operand_read)

-- A bracket of an operator and of `not`, where d brackets may still be opened in it.
module _ (t : Table) (m : List ℕ) (i : ℕ) (items : List ℕ) (at room d : ℕ) (f : Fits items at room (take_operand (take_within (suc d)) (drop at items))) where
  on : at < length items
  on = operand_there items at room (suc d) f

  not_taken : get_or items at 0 ≡ not_item → take_operand (take_within (suc d)) (drop at items) ≡ found (take_expr (take_within d) (drop (at + 1) items)) (λ r. some (negated r.0, r.1))
  not_taken e =
      ap (take_operand (take_within (suc d))) (at_place items at on ∙ ap (λ (x : ℕ). x ∷ drop (at + 1) items) e) ∙ operand_denied (take_within (suc d)) (drop (at + 1) items)

  -- What stands in the bracket of an operator is the whole, from the operator's item on.
  joined_fits : Operator (get_or items at 0) → Fits items at room (take_expr (take_within d) (drop at items))
  joined_fits o = record { what = f.what; rest = f.rest; reads = sym (operand_same items at d on o) ∙ f.reads; room_for = f.room_for; inside = f.inside; few = f.few }

  joined_says : (held : Held) → Operator (get_or items at 0) → Decides items at (take_expr (take_within d) (drop at items)) (λ e. holds t m e i) held
      → Decides items at (take_operand (take_within (suc d)) (drop at items)) (λ e. holds t m e i) held
  joined_says held o v =
      record {
        ends = record { what = v.ends.what; reads = operand_same items at d on o ∙ v.ends.reads; onward = v.ends.onward; inside = v.ends.inside };
        tells = v.tells;
      }

  -- What stands in the bracket of `not` is turned round.
  not_fits : get_or items at 0 ≡ not_item → Fits items (at + 1) room (take_expr (take_within d) (drop (at + 1) items))
  not_fits e =
      found_some (take_expr (take_within d) (drop (at + 1) items)) _ (f.what, f.rest) (sym (not_taken e) ∙ f.reads)
      (λ a q r. record { what = a.0; rest = a.1; reads = q; room_for = omega (arith, f.room_for); inside = omega (arith, on); few = f.few })

  not_says : (held : Held) → get_or items at 0 ≡ not_item → Decides items (at + 1) (take_expr (take_within d) (drop (at + 1) items)) (λ e. holds t m e i) held
      → Decides items at (take_operand (take_within (suc d)) (drop at items)) (λ e. holds t m e i) (record { next = held.next; holds = not held.holds })
  not_says held e v =
      record {
        ends = record { what = negated v.ends.what; reads = not_taken e ∙ rw v.ends.reads; onward = omega (arith, v.ends.onward); inside = v.ends.inside };
        tells = ap not v.tells;
      }

-- The same where d brackets may be opened and d is not 0.
module _ (t : Table) (m : List ℕ) (i : ℕ) (items : List ℕ) (at room depth : ℕ) (z : depth ≡ 0 → ⊥) (f : Fits items at room (take_operand (take_within depth) (drop at items))) where
  Whole : ℕ → Type 0
  Whole d = Fits items at room (take_operand (take_within d) (drop at items))

  Says : ℕ → Held → Type 0
  Says d held = Decides items at (take_operand (take_within d) (drop at items)) (λ e. holds t m e i) held

  pub opens_joined : Operator (get_or items at 0) → Fits items at room (take_expr (take_within (depth - 1)) (drop at items))
  unfolding Whole
  opens_joined o =
      deeper (λ less d. Whole d → Fits items at room (take_expr (take_within less) (drop at items)))
      (λ d g. joined_fits t m i items at room d g o) depth z f

  pub opens_not : get_or items at 0 ≡ not_item → Fits items (at + 1) room (take_expr (take_within (depth - 1)) (drop (at + 1) items))
  unfolding Whole
  opens_not e =
      deeper (λ less d. Whole d → Fits items (at + 1) room (take_expr (take_within less) (drop (at + 1) items)))
      (λ d g. not_fits t m i items at room d g e) depth z f

  pub closes_joined : (held : Held) → Operator (get_or items at 0)
      → Decides items at (take_expr (take_within (depth - 1)) (drop at items)) (λ e. holds t m e i) held
      → Decides items at (take_operand (take_within depth) (drop at items)) (λ e. holds t m e i) held
  unfolding Whole Says
  closes_joined held o v =
      deeper (λ less d. Whole d → Decides items at (take_expr (take_within less) (drop at items)) (λ e. holds t m e i) held → Says d held)
      (λ d g u. joined_says t m i items at room d g held o u) depth z f v

  pub closes_not : (held : Held) → get_or items at 0 ≡ not_item
      → Decides items (at + 1) (take_expr (take_within (depth - 1)) (drop (at + 1) items)) (λ e. holds t m e i) held
      → Decides items at (take_operand (take_within depth) (drop at items)) (λ e. holds t m e i) (record { next = held.next; holds = not held.holds })
  unfolding Whole Says
  closes_not held e v =
      deeper (λ less d. Whole d → Decides items (at + 1) (take_expr (take_within less) (drop (at + 1) items)) (λ e. holds t m e i) held → Says d (record { next = held.next; holds = not held.holds }))
      (λ d g u. not_says t m i items at room d g held e u) depth z f v
