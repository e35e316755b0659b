-- The steps of a path, found one by one from its start: how far behind they end, and the step that stands there. Assumes nothing.
use Prim.Native.Nat.{ℕ, zero, suc, ◌+◌, ◌-◌, ◌≤◌, ◌<◌}
use native.Mathlib.Omega.{arith}
use native.Mathlib.Numerals.{add-one}
use native.Mathlib.Decide.{dec_lt}
use mathlib.Core.Path.{◌≡◌, refl, sym, ◌∙◌, ap}
use mathlib.Core.List.{List, ◌∷◌}
use mathlib.Core.Logic.{by_cases}
use mathlib.Core.Option.{none, some}
use lib.ListN.{length, get_or, drop, length-append, length-drop, drop_of_length-le}
use lib.Seq.{drop-cons, drop-drop, drop-append_seam}
use Rattle.paper.specs.Query.{Steps, stop, step, Preds}
use Rattle.paper.specs.Items.{count_limit, Head, step_at, step_count, encode_steps, encode_preds, take_preds, take_steps, take_within}
use Rattle.paper.proofs.Tests.{found_some, none-some, some_inj}
use Rattle.paper.proofs.Encoding.{from_steps, from_within}
use Rattle.owed.specs.Owing.{eaten}
use Rattle.owed.proofs.Owing.{steps_eaten, none_eaten}
use Rattle.shape.specs.Ending.{Ends, Readable}
use Rattle.shape.proofs.Stepping.{later, later_next, split, fewer_readable, further}
use Rattle.search.specs.Searches.{Fits, StepFits}

-- Each step has an item.
steps_items : (s : Steps) → step_count s ≤ length (encode_steps s)
steps_items stop = omega arith
steps_items (step a x ps rest) = omega (arith, length-append (encode_preds ps) (encode_steps rest), steps_items rest)

module _ (items : List ℕ) (at depth : ℕ) where
  -- So many steps that were read end so far behind.
  pub steps_far : (k place : ℕ) → Ends items at (take_steps (take_within depth) k (drop at items)) place → at + k ≤ place
  steps_far k place e =
      let read = from_steps depth (take_within depth) (from_within depth) k (drop at items) (e.what, drop place items) e.reads in
      let long : length items - at ≡ length (encode_steps e.what) + (length items - place) =
      sym (length-drop at items) ∙ ap length read.items ∙ length-append (encode_steps e.what) (drop place items) ∙ ap (λ (n : ℕ). length (encode_steps e.what) + n) (length-drop place items) in
      omega (arith, long, steps_items e.what, read.count, e.onward, e.inside)

-- What is passed until no step is owed is the steps that can be read.
pub skip_ends : (items : List ℕ) (at depth count next : ℕ) → at ≤ length items → Readable (take_steps (take_within depth) count (drop at items)) → (next ≡ at + eaten (drop at items) count) × (next ≤ length items)
    → Ends items at (take_steps (take_within depth) count (drop at items)) next
skip_ends items at depth count next on ((s, rest), reads) (passed, last) =
    let read = from_steps depth (take_within depth) (from_within depth) count (drop at items) (s, rest) reads in
    let size : eaten (drop at items) count ≡ length (encode_steps s) =
    ap (λ (ws : List ℕ). eaten ws count) read.items ∙ steps_eaten s read.fine rest count 0 (omega (arith, read.count)) ∙ omega (arith, none_eaten rest) in
    let there : drop next items ≡ rest =
    ap (λ (k : ℕ). drop k items) (let e : next ≡ at + length (encode_steps s) = omega (arith, passed, size) in e) ∙ sym (drop-drop (length (encode_steps s)) at items) ∙ ap (drop (length (encode_steps s))) read.items ∙ drop-append_seam (encode_steps s) rest in
    record { what = s; reads = reads ∙ ap (λ (ws : List ℕ). some (s, ws)) (sym there); onward = omega (arith, passed); inside = last }

-- A path that can be read: how many steps it has, and the step after the first k, with what comes behind it.
module _ (items : List ℕ) (at room depth count : ℕ) (f : Fits items at room (take_steps (take_within depth) count (drop at items))) where
  pub count_steps : step_count f.what ≡ count
  count_steps = (from_steps depth (take_within depth) (from_within depth) count (drop at items) (f.what, f.rest) f.reads).count

  pub first_readable : (k : ℕ) → k ≤ count → Readable (take_steps (take_within depth) k (drop at items))
  first_readable k l = fewer_readable items at depth k count l ((f.what, f.rest), f.reads)

  -- It has no more steps than an item can count.
  pub count_few : count ≤ count_limit
  count_few =
      let read = from_steps depth (take_within depth) (from_within depth) count (drop at items) (f.what, f.rest) f.reads in
      omega (arith, f.few, length-drop at items, ap length read.items, length-append (encode_steps f.what) f.rest, steps_items f.what, count_steps)

  pub begin_ends : Ends items at (take_steps (take_within depth) 0 (drop at items)) at
  begin_ends = record { what = stop; reads = refl; onward = omega arith; inside = f.inside }

  -- The step after the first k.
  pub step-here {ℓ} : {C : Type ℓ} (k place : ℕ) → k < count → Ends items at (take_steps (take_within depth) k (drop at items)) place
      → ((h : Head) (ps : Preds) (rest : List ℕ) → place < length items → step_at (get_or items place 0) ≡ some h → take_preds (take_within depth) h.count (drop (place + 1) items) ≡ some (ps, rest)
      → later k f.what ≡ step h.axis h.test ps (later (suc k) f.what) → C) → C
  step-here {C = C} k place l e next =
      split (take_within depth) k count (drop at items) f.what f.rest (omega arith) f.reads
      (λ p mid u v.
      let there : mid ≡ drop place items = ap (λ (z : Steps × List ℕ). z.1) (some_inj (sym u ∙ e.reads)) in
      let read : take_steps (take_within depth) (count - k) (drop place items) ≡ some (later k f.what, f.rest) = ap (take_steps (take_within depth) (count - k)) (sym there) ∙ v in
      by_cases (dec_lt place (length items)) (λ on. go (count - k) (omega arith) on read)
      (λ off. none-some (sym (past (count - k) (omega arith) (omega arith)) ∙ read)))
    where
      past : (n : ℕ) → 0 < n → length items ≤ place → take_steps (take_within depth) n (drop place items) ≡ none
      past zero z o = absurd (omega arith)
      past (suc n) z o = rw (drop_of_length-le items o)

      go : (n : ℕ) → 0 < n → place < length items → take_steps (take_within depth) n (drop place items) ≡ some (later k f.what, f.rest) → C
      go zero z on read = absurd (omega arith)
      go (suc n) z on read =
          found_some (step_at (get_or items place 0)) _ (later k f.what, f.rest) (rw (drop-cons items place 0 on) at read)
          (λ h p q.
          found_some (take_preds (take_within depth) h.count (drop (suc place) items)) _ (later k f.what, f.rest) q
          (λ a u v.
          found_some (take_steps (take_within depth) n a.1) _ (later k f.what, f.rest) v
          (λ b x y.
          let is : step h.axis h.test a.0 b.0 ≡ later k f.what = ap (λ (z : Steps × List ℕ). z.0) (some_inj y) in
          next h a.0 a.1 on p (ap (λ (j : ℕ). take_preds (take_within depth) h.count (drop j items)) (add-one place) ∙ u)
          (sym is ∙ ap (step h.axis h.test a.0) (sym (later_next k f.what h.axis h.test a.0 b.0 (sym is)))))))

  -- What it needs of the items,
  pub step_fits : (k place part : ℕ) → k < count → Ends items at (take_steps (take_within depth) k (drop at items)) place → part ≡ room - k → k ≤ room → StepFits items place depth part
  step_fits k place part l e r u =
      step-here k place l e
      (λ h ps rest on p q is.
      record {
        head = h;
        there = p;
        on = on;
        preds =
            record {
              what = ps;
              rest = rest;
              reads = q;
              room_for = omega (arith, f.room_for, steps_far items at depth k place e, r, u);
              inside = omega arith;
              few = f.few;
            };
      })

  -- and where it ends with its predicates one step more ends.
  pub step_ends : (k place next : ℕ) (h : Head) → k < count → Ends items at (take_steps (take_within depth) k (drop at items)) place → step_at (get_or items place 0) ≡ some h → place < length items
      → Ends items (place + 1) (take_preds (take_within depth) h.count (drop (place + 1) items)) next → Ends items at (take_steps (take_within depth) (k + 1) (drop at items)) next
  step_ends k place next h l e p on v =
      further items at depth k 1 (k + 1) place e (first_readable (k + 1) (omega arith)) (omega arith) next
      (record {
        what = step h.axis h.test v.what stop;
        reads = ap (take_steps (take_within depth) 1) (drop-cons items place 0 on ∙ ap (λ (j : ℕ). get_or items place 0 ∷ drop j items) (sym (add-one place))) ∙ rw (p, v.reads);
        onward = omega (arith, v.onward);
        inside = v.inside;
      })
