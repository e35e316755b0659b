-- Seeking the next node for a step: candidates that were passed are led to in vain or fail a predicate. Assumes nothing.
use Rattle.std.specs.Prelude.{Option, Some, None}
use Prim.Native.Nat.{ℕ, ◌+◌, ◌≤◌, ◌<◌}
use native.Mathlib.Omega.{arith}
use native.Mathlib.Decide.{ℕ_discrete, dec_lt}
use mathlib.Core.Path.{◌≡◌, refl, sym, ◌∙◌, ap, subst}
use mathlib.Core.Bool.{Bool, true, false, ◌&&◌, false≢true}
use mathlib.Core.List.{List}
use mathlib.Core.Logic.{by_cases}
use mathlib.Core.Option.{some}
use lib.ListN.{get_or, drop}
use Rattle.paper.specs.Query.{Axis, Test, Preds}
use Rattle.paper.specs.Items.{Head, step_at, axis_number, test_number, good_test, take_preds, take_within}
use Rattle.paper.specs.Document.{Table}
use Rattle.paper.specs.Selection.{reaches, all_hold}
use Rattle.paper.proofs.Tests.{some_inj, true_and}
use Rattle.paper.proofs.Fields.{step_found}
use Rattle.item.specs.declared.Step.{Step}
use Rattle.item.proofs.Saying.{numbered}
use Rattle.candidates.specs.Best.{Last, Best}
use Rattle.shape.specs.Ending.{Ends}
use Rattle.search.specs.Searches.{StepSaid, Seeks}
use Rattle.search.specs.declared.Sought.{Sought}
use Rattle.candidates.proofs.Leading.{and_none}

-- Something is not nothing.
pub not_none : {A : Type 0} {x : A} → ◌≡◌ {A = Option A} (Some x) None → ⊥
not_none e = let z : ◌≡◌ {A = ℕ} 0 1 = cc in omega arith

none_and : {a : Bool} (b : Bool) → a ≡ false → (a && b) ≡ false
none_and {a} b e = rw e

module _ (t : Table) (m : List ℕ) (items : List ℕ) (place depth from bound : ℕ) where
  abbrev Here : Head → Preds → ℕ → Bool
  Here h ps j = reaches t m h.axis h.test from j && all_hold t m ps j

  -- No node from c on below the bound will do.
  pub record Past (c : ℕ) : Type 0 where
    pub within : c ≤ bound
    pub none : (h : Head) (ps : Preds) (rest : List ℕ) → step_at (get_or items place 0) ≡ some h → take_preds (take_within depth) h.count (drop (place + 1) items) ≡ some (ps, rest) → (j : ℕ) → c ≤ j → j < bound → Here h ps j ≡ false

  pub past_none : Past bound
  past_none = record { within = omega arith; none = λ h ps rest p u j a b. absurd (omega arith) }

  -- What `candidate` promises of the step that stands there.
  abbrev pub Candidate : Step → ℕ → Option ℕ → Type 0
  Candidate step c r = (a : Axis) (x : Test) → good_test x ≡ true → step.axis ≡ axis_number a → step.test ≡ test_number x → Best (reaches t m a x from) c r

  module _ (step : Step) (said : StepSaid (get_or items place 0) step) where
    best_of : (c : ℕ) (r : Option ℕ) → Candidate step c r → (h : Head) → step_at (get_or items place 0) ≡ some h → Best (reaches t m h.axis h.test from) c r
    best_of c r v h p =
        let same : said.0 ≡ h = some_inj (sym said.1 ∙ p) in
        let is = said.2 ∙ ap numbered same in
        v h.axis h.test (step_found _ h p).1 (ap (λ (x : Step). x.axis) is) (ap (λ (x : Step). x.test) is)

    pub step_count : (h : Head) → step_at (get_or items place 0) ≡ some h → step.count ≡ h.count
    step_count h p = ap (λ (x : Step). x.count) (said.2 ∙ ap numbered (some_inj (sym said.1 ∙ p)))

    -- Where none is led to, all are passed,
    pub past_all : {c : ℕ} → Candidate step c None → Past c → Past 0
    past_all {c} v o =
        record {
          within = omega arith;
          none = λ h ps rest p u j a b.
              by_cases (dec_lt j c) (λ l. none_and (all_hold t m ps j) (best_of c None v h p j l)) (λ l. o.none h ps rest p u j (omega arith) b);
        }

    -- and otherwise those above the one led to.
    module _ {c n : ℕ} (v : Candidate step c (Some n)) where
      last_of_step : (h : Head) → step_at (get_or items place 0) ≡ some h → Last (reaches t m h.axis h.test from) c n
      last_of_step h p = best_of c (Some n) v h p

      pub led_within : n < c
      led_within = (last_of_step said.0 said.1).within

      pub led_here : (h : Head) → step_at (get_or items place 0) ≡ some h → reaches t m h.axis h.test from n ≡ true
      led_here h p = (last_of_step h p).here

      pub past_led : Past c → Past (n + 1)
      past_led o =
          record {
            within = omega (arith, o.within, led_within);
            none = λ h ps rest p u j a b.
                by_cases (dec_lt j c) (λ l. none_and (all_hold t m ps j) ((last_of_step h p).later j (omega arith) l)) (λ l. o.none h ps rest p u j (omega arith) b);
          }

  -- One that fails a predicate is passed too.
  pub past_failed : (n : ℕ) → Past (n + 1)
      → ((h : Head) (ps : Preds) (rest : List ℕ) → step_at (get_or items place 0) ≡ some h → take_preds (take_within depth) h.count (drop (place + 1) items) ≡ some (ps, rest) → all_hold t m ps n ≡ false) → Past n
  past_failed n o never =
      record {
        within = omega (arith, o.within);
        none = λ h ps rest p u j a b.
            by_cases (ℕ_discrete j n) (λ e. ap (Here h ps) e ∙ and_none (reaches t m h.axis h.test from n) (never h ps rest p u)) (λ e. o.none h ps rest p u j (omega arith) b);
      }

  -- What is sought: nothing, or the candidate at hand.
  pub sought_none : Past 0 → (more : Bool) → more ≡ true → Seeks items place more depth t m from bound None
  sought_none o more e =
      record {
        no_more = λ h. refl;
        best = λ h₀ h ps rest p u j l. o.none h ps rest p u j (omega arith) l;
        ends = λ h₀ s z. absurd (not_none (sym z));
      }

  pub sought_no_step : (more : Bool) → more ≡ false → Seeks items place more depth t m from bound None
  sought_no_step more e = record { no_more = λ h. refl; best = λ h. absurd (false≢true (sym e ∙ h)); ends = λ h s z. absurd (not_none (sym z)) }

  pub sought_here : (n next : ℕ) → Past (n + 1)
      → ((h : Head) → step_at (get_or items place 0) ≡ some h → reaches t m h.axis h.test from n ≡ true)
      → ((h : Head) (ps : Preds) (rest : List ℕ) → step_at (get_or items place 0) ≡ some h → take_preds (take_within depth) h.count (drop (place + 1) items) ≡ some (ps, rest) → all_hold t m ps n ≡ true)
      → ((h : Head) → step_at (get_or items place 0) ≡ some h → Ends items (place + 1) (take_preds (take_within depth) h.count (drop (place + 1) items)) next)
      → (more : Bool) → more ≡ true → Seeks items place more depth t m from bound (Some (record { node = n; next = next }))
  sought_here n next o led holds ends more e =
      record {
        no_more = λ h. absurd (false≢true (sym h ∙ e));
        best = λ h₀ h ps rest p u.
            record { within = omega (arith, o.within); here = true_and (led h p) (holds h ps rest p u); later = λ j a b. o.none h ps rest p u j (omega arith) b };
        ends = λ h₀ s z h p. subst (λ (k : ℕ). Ends items (place + 1) (take_preds (take_within depth) h.count (drop (place + 1) items)) k) (same_next z) (ends h p);
      }
    where
      same_next : {s : Sought} → ◌≡◌ {A = Option Sought} (Some (record { node = n; next = next })) (Some s) → next ≡ s.next
      same_next e = cc
