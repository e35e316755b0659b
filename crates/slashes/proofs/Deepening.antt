-- What is asked of a step that `//` stands for, and what the code asks of its item: the same. Assumes nothing.
use Prim.Native.Nat.{ℕ, ◌-◌, ◌≤◌, ◌<◌}
use native.Mathlib.Omega.{arith}
use mathlib.Core.Path.{◌≡◌, refl, sym, ◌∙◌}
use mathlib.Core.Bool.{Bool, true, false, ◌&&◌, false≢true}
use mathlib.Core.Logic.{◌⊎◌, inl, inr, ⊎_elim}
use mathlib.Core.List.{List}
use mathlib.Core.Option.{Option, none, some}
use lib.Dec.{eqb, ltb}
use lib.ListN.{length, get_or, get_or-eq_default}
use borrow.Author.Tests.{eqb-true, ltb-true, ltb-false, lt-ltb}
use Rattle.paper.specs.Query.{descendant_or_self, any_node}
use Rattle.paper.specs.Items.{axis_number, test_number, Head, step_at}
use Rattle.paper.specs.Printing.{plain, deepened}
use Rattle.paper.proofs.Tests.{decide, and_true}
use Rattle.slashes.specs.Deep.{deep_head, passed}

-- A number is below another or not.
pub within : (i n : ℕ) → (i < n) ⊎ (n ≤ i)
within i n = ⊎_elim (λ e. inl (ltb-true i n e)) (λ e. inr (ltb-false i n e)) (decide (ltb i n))

-- What is asked of a step that `//` stands for.
pub record Asked (brief : Bool) (h : Head) (left : ℕ) : Type 0 where
  pub brief_one : brief ≡ true
  pub no_preds : h.count ≡ 0
  pub two : 1 < left

pub deep_asked : (brief : Bool) (left : ℕ) (h : Head) → deepened brief h.axis h.test h.count (left - 1) ≡ true → Asked brief h left
unfolding deepened
deep_asked brief left h e =
    let p = and_true (brief && plain descendant_or_self h.axis h.test h.count) (ltb 0 (left - 1)) e in
    let q = and_true brief (plain descendant_or_self h.axis h.test h.count) p.0 in
    let c = eqb-true h.count 0 (and_true (eqb (axis_number h.axis) 3 && eqb (test_number h.test) 0) (eqb h.count 0) q.1).1 in
    record { brief_one = q.0; no_preds = c; two = omega (arith, ltb-true 0 (left - 1) p.1) }

-- WHAT THE CODE ASKS of the item, where it is worth asking.
module _ (brief : Bool) (items : List ℕ) (at left : ℕ) where
  abbrev pub Worth : Bool → Type 0
  Worth b = brief && ltb 1 left && ltb at (length items) ≡ b

  -- Where it is not, nothing is skipped:
  pub not_worth : Worth false → 0 ≡ passed brief items at left
  unfolding step_at
  not_worth w = go (deep_head brief left (step_at (get_or items at 0))) refl
    where
      there : (o : Option Head) → deep_head brief left o ≡ true → (brief ≡ true) × (1 < left)
      there none e = absurd (false≢true e)
      there (some h) e = let k = deep_asked brief left h e in (k.brief_one, k.two)

      past : length items ≤ at → deep_head brief left (step_at (get_or items at 0)) ≡ true → ⊥
      past l e =
          let zero-there : ◌≡◌ {A = ℕ} (get_or items at 0) 0 = get_or-eq_default items 0 l in
          absurd (false≢true (rw zero-there at e))

      never : deep_head brief left (step_at (get_or items at 0)) ≡ true → ⊥
      never e =
          let k = there (step_at (get_or items at 0)) e in
          ⊎_elim (λ l. absurd (false≢true (sym w ∙ rw (k.0, lt-ltb 1 left k.1, lt-ltb at (length items) l)))) (λ l. past l e) (within at (length items))

      go : (b : Bool) → deep_head brief left (step_at (get_or items at 0)) ≡ b → 0 ≡ passed brief items at left
      go true e = absurd (never e)
      go false e = rw e

  -- nor where no step stands there;
  pub no_step_there : step_at (get_or items at 0) ≡ none → 0 ≡ passed brief items at left
  no_step_there e = rw e

  -- and otherwise the fields of the item decide.
  module _ (h : Head) (stands : step_at (get_or items at 0) ≡ some h) (w : Worth true) where
    abbrev fields : Bool
    fields = eqb (axis_number h.axis) (axis_number descendant_or_self) && eqb (test_number h.test) (test_number any_node) && eqb h.count 0

    by_fields : deep_head brief left (step_at (get_or items at 0)) ≡ fields
    unfolding deepened
    by_fields =
        let a = (and_true (brief && ltb 1 left) (ltb at (length items)) w).0 in
        let b = and_true brief (ltb 1 left) a in
        let more : 1 < left = ltb-true 1 left b.1 in
        rw (stands, b.0, lt-ltb 0 (left - 1) (omega arith)) (same_and fields)
      where
        same_and : (x : Bool) → x && true ≡ x
        same_and true = refl
        same_and false = refl

    pub fields_pass : fields ≡ true → 1 ≡ passed brief items at left
    fields_pass e = rw (by_fields ∙ e)

    pub fields_fail : fields ≡ false → 0 ≡ passed brief items at left
    fields_fail e = rw (by_fields ∙ e)
