-- Predicates in a row at one node: those read so far hold, and what is left decides the whole. Assumes nothing.
use Prim.Native.Nat.{ℕ, zero, suc, ◌-◌, ◌≤◌, ◌<◌}
use native.Mathlib.Omega.{arith}
use mathlib.Core.Path.{◌≡◌, refl, sym, ◌∙◌, ap, subst}
use mathlib.Core.Bool.{true, false, ◌&&◌}
use mathlib.Core.List.{List}
use mathlib.Core.Option.{some}
use lib.ListN.{length, drop}
use Rattle.paper.specs.Query.{Expr, Preds}
use Rattle.paper.specs.Items.{take_preds, take_expr, take_within}
use Rattle.paper.specs.Document.{Table}
use Rattle.paper.specs.Selection.{holds, all_hold}
use Rattle.paper.proofs.Tests.{found_some, none-some, some_inj}
use Rattle.shape.specs.Ending.{Ends}
use Rattle.search.specs.Searches.{Fits, Decides, Settles}
use Rattle.search.specs.declared.Held.{Held}

module _ (t : Table) (m : List ℕ) (i : ℕ) (items : List ℕ) (at depth : ℕ) where
  -- The predicates read so far hold: what is read of the whole row is read of those owed, and they decide it.
  pub record Owed (count place owed : ℕ) : Type 0 where
    pub goes_on : (ps : Preds) (rest : List ℕ) → take_preds (take_within depth) count (drop at items) ≡ some (ps, rest)
        → (qs : Preds) × (take_preds (take_within depth) owed (drop place items) ≡ some (qs, rest)) × (all_hold t m ps i ≡ all_hold t m qs i)
    pub onward : at ≤ place
    pub inside : place ≤ length items

  pub owed_all : (count : ℕ) → at ≤ length items → Owed count at count
  owed_all count l = record { goes_on = λ ps rest e. (ps, e, refl); onward = omega arith; inside = l }

  -- An owed predicate can be read, in a bracket more.
  pub pred_fits {ℓ} : {C : Type ℓ} (room count place owed : ℕ) → 0 < owed → Fits items at room (take_preds (take_within depth) count (drop at items)) → Owed count place owed
      → ((depth ≡ 0 → ⊥) → Fits items place room (take_expr (take_within (depth - 1)) (drop place items)) → C) → C
  pred_fits room count place zero z f l k = absurd (omega arith)
  pred_fits room count place (suc owed) z f l k =
      let left = l.goes_on f.what f.rest f.reads in
      found_some (take_within depth (drop place items)) _ (left.0, f.rest) left.1
      (λ e u v.
      let deep : depth ≡ 0 → ⊥ = λ z. none-some (ap (λ (d : ℕ). take_within d (drop place items)) (sym z) ∙ u) in
      k deep (record { what = e.0; rest = e.1; reads = opened depth deep u; room_for = omega (arith, f.room_for, l.onward); inside = l.inside; few = f.few }))
    where
      opened : (d : ℕ) → (d ≡ 0 → ⊥) → {e : Expr × List ℕ} → take_within d (drop place items) ≡ some e → take_expr (take_within (d - 1)) (drop place items) ≡ some e
      opened zero z u = absurd (z refl)
      opened (suc d) z u = ap (λ (k : ℕ). take_expr (take_within k) (drop place items)) (let q : suc d - 1 ≡ d = omega arith in q) ∙ u

  -- What the row says once one more is decided.
  module _ (count place owed : ℕ) (l : Owed count place (suc owed)) (held : Held) (deep : depth ≡ 0 → ⊥) (v : Decides items place (take_expr (take_within (depth - 1)) (drop place items)) (λ e. holds t m e i) held) where
    read : (d : ℕ) → (d ≡ 0 → ⊥) → take_expr (take_within (d - 1)) (drop place items) ≡ some (v.ends.what, drop held.next items) → take_within d (drop place items) ≡ some (v.ends.what, drop held.next items)
    read zero z u = absurd (z refl)
    read (suc d) z u = ap (λ (k : ℕ). take_expr (take_within k) (drop place items)) (let q : d ≡ suc d - 1 = omega arith in q) ∙ u

    one_more : (ps : Preds) (rest : List ℕ) → take_preds (take_within depth) count (drop at items) ≡ some (ps, rest)
        → (qs : Preds) × (take_preds (take_within depth) owed (drop held.next items) ≡ some (qs, rest)) × (all_hold t m ps i ≡ (held.holds && all_hold t m qs i))
    one_more ps rest e =
        let left = l.goes_on ps rest e in
        found_some (take_within depth (drop place items)) _ (left.0, rest) left.1
        (λ a u w.
        found_some (take_preds (take_within depth) owed a.1) _ (left.0, rest) w
        (λ b x y.
        let same = some_inj (sym u ∙ read depth deep v.ends.reads) in (
          b.0,
          ap (take_preds (take_within depth) owed) (sym (ap (λ (z : Expr × List ℕ). z.1) same)) ∙ x ∙ ap (λ (z : List ℕ). some (b.0, z)) (ap (λ (z : Preds × List ℕ). z.1) (some_inj y)),
          left.2 ∙ ap (λ (z : Preds × List ℕ). all_hold t m z.0 i) (sym (some_inj y))
              ∙ ap (λ c. c && all_hold t m b.0 i) (ap (λ (z : Expr × List ℕ). holds t m z.0 i) same ∙ sym v.tells),
        )))

    pub row_fails : held.holds ≡ false → Settles (take_preds (take_within depth) count (drop at items)) (λ ps. all_hold t m ps i) false
    row_fails h ps rest e = let o = one_more ps rest e in sym (o.2 ∙ ap (λ c. c && all_hold t m o.0 i) h)

    row_goes : held.holds ≡ true → Owed count held.next owed
    row_goes h =
        record {
          goes_on = λ ps rest e. let o = one_more ps rest e in (o.0, o.1, o.2 ∙ ap (λ c. c && all_hold t m o.0 i) h);
          onward = omega (arith, l.onward, v.ends.onward);
          inside = v.ends.inside;
        }

  -- The same in the code's form.
  pub fails : (count place owed : ℕ) → 0 < owed → Owed count place owed → (held : Held) → (depth ≡ 0 → ⊥) → Decides items place (take_expr (take_within (depth - 1)) (drop place items)) (λ e. holds t m e i) held
      → held.holds ≡ false → Settles (take_preds (take_within depth) count (drop at items)) (λ ps. all_hold t m ps i) false
  fails count place zero z l held deep v h = absurd (omega arith)
  fails count place (suc owed) z l held deep v h = row_fails count place owed l held deep v h

  pub one_owed_less : (count place owed : ℕ) → 0 < owed → Owed count place owed → (held : Held) → (depth ≡ 0 → ⊥) → Decides items place (take_expr (take_within (depth - 1)) (drop place items)) (λ e. holds t m e i) held
      → held.holds ≡ true → Owed count held.next (owed - 1)
  one_owed_less count place zero z l held deep v h = absurd (omega arith)
  one_owed_less count place (suc owed) z l held deep v h =
      subst (Owed count held.next) (let q : owed ≡ suc owed - 1 = omega arith in q) (row_goes count place owed l held deep v h)

  -- None is owed: all hold, and the row ends here.
  pub row-holds : (count place owed : ℕ) → owed ≤ 0 → Owed count place owed → Settles (take_preds (take_within depth) count (drop at items)) (λ ps. all_hold t m ps i) true
  row-holds count place zero z l ps rest e =
      let o = l.goes_on ps rest e in
      sym (o.2 ∙ ap (λ (r : Preds × List ℕ). all_hold t m r.0 i) (sym (some_inj o.1)))
  row-holds count place (suc owed) z l ps rest e = absurd (omega arith)

  pub row_ends : (room count place owed : ℕ) → owed ≤ 0 → Fits items at room (take_preds (take_within depth) count (drop at items)) → Owed count place owed → Ends items at (take_preds (take_within depth) count (drop at items)) place
  row_ends room count place zero z f l =
      let o = l.goes_on f.what f.rest f.reads in
      record {
        what = f.what;
        reads = f.reads ∙ ap (λ (r : Preds × List ℕ). some (f.what, r.1)) (sym (some_inj o.1));
        onward = l.onward;
        inside = l.inside;
      }
  row_ends room count place (suc owed) z f l = absurd (omega arith)
