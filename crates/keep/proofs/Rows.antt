-- Predicates in a row, each narrowing the first set; and the steps of a path, found one by one from its start. Assumes nothing.
use Prim.Native.Nat.{ℕ, zero, suc, ◌+◌, ◌-◌, ◌≤◌, ◌<◌}
use native.Mathlib.Omega.{arith}
use native.Mathlib.Numerals.{add-one}
use mathlib.Core.Path.{◌≡◌, refl, sym, ◌∙◌, ap, fun_ext}
use mathlib.Core.Bool.{Bool, true, false, cond, ◌&&◌}
use mathlib.Core.List.{List, ◌∷◌, ◌++◌}
use mathlib.Core.Logic.{by_cases}
use mathlib.Core.Option.{none, some}
use native.Mathlib.Decide.{dec_lt}
use lib.ListN.{length, get_or, take, drop, replicate, drop_of_length-le}
use lib.Seq.{drop-cons}
use Rattle.paper.specs.Tools.{column_from}
use Rattle.paper.specs.Query.{Expr, Steps, stop, step, Preds, bare, pred}
use Rattle.paper.specs.Items.{Head, step_at, step_count, Taken, take_preds, take_steps, take_expr, take_within}
use Rattle.paper.specs.Measures.{height_expr, height_steps, height_preds}
use Rattle.paper.specs.Document.{Table, kind_of, marked}
use Rattle.paper.specs.Selection.{meets, holds, finds, all_hold}
use Rattle.paper.specs.Composition.{turned}
use Rattle.paper.proofs.Tests.{found_some, none-some, some_inj}
use Rattle.paper.proofs.Encoding.{from_steps, from_within}
use Rattle.shape.proofs.Walking.{ahead, append_preds, preds_bare, bare_preds, preds_append, height-preds, pred_next, some_height}
use Rattle.sets.specs.Sets.{bits, image}
use Rattle.places.specs.Standing.{Ends, Readable}
use Rattle.places.proofs.Stepping.{later, later_all, later_next, split, fewer_readable}
use Rattle.keep.specs.Evals.{Fits, Evaluates, Narrows}
use Rattle.keep.proofs.Slices.{front_back}
use Rattle.keep.proofs.Stepwise.{back_step}
use Rattle.keep.proofs.Running.{behind, enough, two_fit}

-- Sets of the same nodes are the same.
pub bits_same : (n : ℕ) (f g : ℕ → Bool) → ((i : ℕ) → f i ≡ g i) → bits n f ≡ bits n g
bits_same n f g h = ap (bits n) (fun_ext h)

and_all : (b : Bool) → b ≡ (b && true)
and_all true = refl
and_all false = refl

regroup : (a b c : Bool) → ((a && b) && c) ≡ (a && (b && c))
regroup true b c = refl
regroup false b c = refl

-- What is taken with something ahead was taken.
ahead-some {ℓ} : {A : Type 0} {C : Type ℓ} (put : A → A) (o : Taken A) (r : A × List ℕ) → ahead put o ≡ some r → ((a : A × List ℕ) → o ≡ some a → put a.0 ≡ r.0 → a.1 ≡ r.1 → C) → C
ahead-some put none r h k = none-some h
ahead-some put (some a) r h k = k a refl (ap (λ x. x.0) (some_inj h)) (ap (λ x. x.1) (some_inj h))

-- All of two rows hold if all of each do.
holds_append : (t : Table) (m : List ℕ) (ps qs : Preds) (i : ℕ) → all_hold t m (append_preds ps qs) i ≡ (all_hold t m ps i && all_hold t m qs i)
unfolding append_preds
holds_append t m bare qs i = refl
holds_append t m (pred e ps) qs i = ap (λ b. holds t m e i && b) (holds_append t m ps qs i) ∙ sym (regroup (holds t m e i) (all_hold t m ps i) (all_hold t m qs i))

module _ (t : Table) (m : List ℕ) (items : List ℕ) (at nodes depth : ℕ) where
  -- What has been read of a row of predicates, with so many owed, has narrowed the first set.
  pub record PredSet (whole : Taken Preds) (place owed : ℕ) (before sets : List ℕ) : Type 0 where
    pub so_far : Preds
    pub goes_on : whole ≡ ahead (append_preds so_far) (take_preds (take_within depth) owed (drop place items))
    pub set : (f : ℕ → Bool) → take nodes before ≡ bits nodes f → take nodes sets ≡ bits nodes (λ i. f i && all_hold t m so_far i)
    pub onward : at ≤ place
    pub inside : place ≤ length items

  pub preds_begin : (count : ℕ) (sets : List ℕ) → at ≤ length items → PredSet (take_preds (take_within depth) count (drop at items)) at count sets sets
  preds_begin count sets l =
      record {
        so_far = bare;
        goes_on = go (take_preds (take_within depth) count (drop at items));
        set = λ f h. h ∙ bits_same nodes f (λ i. f i && true) (λ i. and_all (f i));
        onward = omega arith;
        inside = l;
      }
    where
      go : (o : Taken Preds) → o ≡ ahead (append_preds bare) o
      go none = refl
      go (some r) = ap (λ (ps : Preds). some (ps, r.1)) (sym (bare_preds r.0))

  -- An owed predicate can be read, in a bracket more, and its set fits behind the first.
  pub pred_fits {ℓ} : {C : Type ℓ} (room : ℕ) (whole_row : Taken Preds) (place owed : ℕ) (before sets : List ℕ) → 0 < owed → Fits items at nodes room whole_row (λ ps. 1 + height_preds ps)
      → PredSet whole_row place owed before sets
      → ((depth ≡ 0 → ⊥) → Fits items place nodes (room - nodes) (take_expr (take_within (depth - 1)) (drop place items)) height_expr → nodes + nodes ≤ room → C) → C
  pred_fits room whole_row place zero before sets z f l k = absurd (omega arith)
  pred_fits room whole_row place (suc owed) before sets z f l k =
      ahead-some (append_preds l.so_far) (take_preds (take_within depth) (suc owed) (drop place items)) (f.what, f.rest) (sym l.goes_on ∙ f.reads)
      (λ a p q r.
      found_some (take_within depth (drop place items)) _ a p
      (λ e u v.
      found_some (take_preds (take_within depth) owed e.1) _ a v
      (λ b x y.
      let high : height_expr e.0 ≤ height_preds f.what =
      omega (arith, height-preds l.so_far a.0, ap height_preds q, ap (λ (z : Preds × List ℕ). height_preds z.0) (some_inj y)) in
      let deep : depth ≡ 0 → ⊥ = λ z. none-some (ap (λ (d : ℕ). take_within d (drop place items)) (sym z) ∙ u) in
      k deep
      (record {
        what = e.0;
        rest = e.1;
        reads = opened depth deep u;
        room_for = behind nodes (1 + height_preds f.what) (height_expr e.0) room f.room_for (omega arith);
        inside = l.inside;
      })
      (two_fit nodes (1 + height_preds f.what) room f.room_for (omega (arith, some_height e.0))))))
    where
      opened : (d : ℕ) → (d ≡ 0 → ⊥) → {e : Expr × List ℕ} → take_within d (drop place items) ≡ some e → take_expr (take_within (d - 1)) (drop place items) ≡ some e
      opened zero z u = absurd (z refl)
      opened (suc d) z u = ap (λ (k : ℕ). take_expr (take_within k) (drop place items)) (let q : suc d - 1 ≡ d = omega arith in q) ∙ u

  -- One predicate more.
  pub preds_more : (whole_row : Taken Preds) (place owed next : ℕ) (e : Expr) (before sets part after : List ℕ) → 0 < owed → (depth ≡ 0 → ⊥) → PredSet whole_row place owed before sets
      → take_expr (take_within (depth - 1)) (drop place items) ≡ some (e, drop next items) → place ≤ next → next ≤ length items → take nodes part ≡ bits nodes (holds t m e)
      → ((f g : ℕ → Bool) → take nodes sets ≡ bits nodes f → take nodes part ≡ bits nodes g → take nodes after ≡ bits nodes (λ i. f i && g i))
      → PredSet whole_row next (owed - 1) before after
  preds_more whole_row place zero next e before sets part after z d l p o i s joins = absurd (omega arith)
  preds_more whole_row place (suc owed) next e before sets part after z d l p o i s joins =
      record {
        so_far = append_preds l.so_far (pred e bare);
        goes_on =
            l.goes_on ∙ ap (ahead (append_preds l.so_far)) (pred_next depth items place e next d p owed) ∙ go (take_preds (take_within depth) owed (drop next items)) ∙
            ap (λ (n : ℕ). ahead (append_preds (append_preds l.so_far (pred e bare))) (take_preds (take_within depth) n (drop next items))) (let q : owed ≡ suc owed - 1 = omega arith in q);
        set =
            λ f h.
            joins (λ i. f i && all_hold t m l.so_far i) (holds t m e) (l.set f h) s ∙
            bits_same nodes _ _
            (λ i.
            regroup (f i) (all_hold t m l.so_far i) (holds t m e i) ∙
            ap (λ b. f i && b) (ap (λ b. all_hold t m l.so_far i && b) (and_all (holds t m e i)) ∙ sym (holds_append t m l.so_far (pred e bare) i)));
        onward = omega (arith, l.onward);
        inside = i;
      }
    where
      go : (o : Taken Preds) → ahead (append_preds l.so_far) (ahead (append_preds (pred e bare)) o) ≡ ahead (append_preds (append_preds l.so_far (pred e bare))) o
      go none = refl
      go (some r) = ap (λ (ps : Preds). some (ps, r.1)) (sym (preds_append l.so_far (pred e bare) r.0))

  pub preds_end : (whole_row : Taken Preds) (place owed : ℕ) (before sets : List ℕ) → owed ≤ 0 → PredSet whole_row place owed before sets
      → Narrows items at nodes whole_row (all_hold t m) place before sets
  preds_end whole_row place zero before sets z l =
      record {
        what = l.so_far;
        reads = l.goes_on ∙ ap (λ (ps : Preds). some (ps, drop place items)) (preds_bare l.so_far);
        onward = l.onward;
        inside = l.inside;
        set = l.set;
      }
  preds_end whole_row place (suc owed) before sets z l = absurd (omega arith)

-- Fewer steps are no higher.
later_height : (k : ℕ) (s : Steps) → height_steps (later k s) ≤ height_steps s
later_height zero s = omega arith
later_height (suc k) stop = omega arith
later_height (suc k) (step a x ps rest) = omega (arith, later_height k rest)

-- Where step k of a readable path stands: its item, its predicates, and what the steps from there on are.
pub record StepHere (items : List ℕ) (place nodes room depth : ℕ) (s : Steps) (k : ℕ) (h : Head) : Type 0 where
  pub preds : Fits items (place + 1) nodes room (take_preds (take_within depth) h.count (drop (place + 1) items)) (λ ps. 1 + height_preds ps)
  pub here : later k s ≡ step h.axis h.test preds.what (later (suc k) s)

module _ (items : List ℕ) (at nodes room depth count : ℕ) (f : Fits items at nodes room (take_steps (take_within depth) count (drop at items)) (λ s. 1 + height_steps s)) where
  pub first_readable : (k : ℕ) → k ≤ count → Readable (take_steps (take_within depth) k (drop at items))
  first_readable k l = fewer_readable items at depth k count l ((f.what, f.rest), f.reads)

  pub count_steps : step_count f.what ≡ count
  count_steps = (from_steps depth (take_within depth) (from_within depth) count (drop at items) (f.what, f.rest) f.reads).count

  -- The step after the first k.
  pub step-here {ℓ} : {C : Type ℓ} (k place : ℕ) → k < count → Ends items at (take_steps (take_within depth) k (drop at items)) place
      → (place < length items → (h : Head) → step_at (get_or items place 0) ≡ some h → StepHere items place nodes room depth f.what k h → C) → C
  step-here {C = C} k place l e next =
      split (take_within depth) k count (drop at items) f.what f.rest (omega arith) f.reads
      (λ p mid u v.
      let there : mid ≡ drop place items = ap (λ (z : Steps × List ℕ). z.1) (some_inj (sym u ∙ e.reads)) in
      let read : take_steps (take_within depth) (count - k) (drop place items) ≡ some (later k f.what, f.rest) = ap (take_steps (take_within depth) (count - k)) (sym there) ∙ v in
      by_cases (dec_lt place (length items)) (λ on. go (count - k) (omega arith) on read)
      (λ off. none-some (sym (past (count - k) (omega arith) (omega arith)) ∙ read)))
    where
      past : (n : ℕ) → 0 < n → length items ≤ place → take_steps (take_within depth) n (drop place items) ≡ none
      past zero z o = absurd (omega arith)
      past (suc n) z o = rw (drop_of_length-le items o)

      go : (n : ℕ) → 0 < n → place < length items → take_steps (take_within depth) n (drop place items) ≡ some (later k f.what, f.rest) → C
      go zero z on read = absurd (omega arith)
      go (suc n) z on read =
          found_some (step_at (get_or items place 0)) _ (later k f.what, f.rest) (rw (drop-cons items place 0 on) at read)
          (λ h p q.
          found_some (take_preds (take_within depth) h.count (drop (suc place) items)) _ (later k f.what, f.rest) q
          (λ a u v.
          found_some (take_steps (take_within depth) n a.1) _ (later k f.what, f.rest) v
          (λ b x y.
          let is : step h.axis h.test a.0 b.0 ≡ later k f.what = ap (λ (z : Steps × List ℕ). z.0) (some_inj y) in
          next on h p
          (record {
            preds =
                record {
                  what = a.0;
                  rest = a.1;
                  reads = ap (λ (j : ℕ). take_preds (take_within depth) h.count (drop j items)) (add-one place) ∙ u;
                  room_for =
                      enough nodes (1 + height_steps f.what) (1 + height_preds a.0) room f.room_for
                      (omega (arith, later_height k f.what, ap height_steps is));
                  inside = omega arith;
                };
            here = sym is ∙ ap (step h.axis h.test a.0) (sym (later_next k f.what h.axis h.test a.0 b.0 (sym is)));
          }))))

-- The steps of a path from the one that is next on have their set: the nodes from which they find a node.
pub record PathSet (t : Table) (m : List ℕ) (items : List ℕ) (at nodes depth count left : ℕ) (sets : List ℕ) : Type 0 where
  pub steps : Steps
  pub rest : List ℕ
  pub reads : take_steps (take_within depth) count (drop at items) ≡ some (steps, rest)
  pub fewer : left ≤ count
  pub set : take nodes sets ≡ bits nodes (finds t m (later left steps))

module _ (t : Table) (m : List ℕ) (items : List ℕ) (at nodes room depth count : ℕ) (f : Fits items at nodes room (take_steps (take_within depth) count (drop at items)) (λ s. 1 + height_steps s)) where
  -- Before any step all nodes are in the set.
  pub path_begin : (part rest : List ℕ) → part ≡ replicate {A = ℕ} nodes 1 → PathSet t m items at nodes depth count count (part ++ rest)
  path_begin part rest e =
      record {
        steps = f.what;
        rest = f.rest;
        reads = f.reads;
        fewer = omega arith;
        set =
            front_back nodes (finds t m (later count f.what)) part rest
            (e ∙ ones nodes 0 ∙
            ap (λ (s : Steps). bits nodes (finds t m s)) (sym (later_all f.what) ∙ ap (λ (k : ℕ). later k f.what) (count_steps items at nodes room depth count f)));
      }
    where
      ones : (n from : ℕ) → replicate {A = ℕ} n 1 ≡ column_from n from (λ i. cond true 1 0)
      ones zero from = refl
      ones (suc n) from = ap (λ (z : List ℕ). 1 ∷ z) (ones n (suc from))

  -- The set, of the steps that are to be read.
  pub path_now : (left : ℕ) (sets : List ℕ) → PathSet t m items at nodes depth count left sets → take nodes sets ≡ bits nodes (finds t m (later left f.what))
  path_now left sets l = l.set ∙ ap (λ (z : Steps × List ℕ). bits nodes (finds t m (later left z.0))) (some_inj (sym l.reads ∙ f.reads))

  -- One step back: marks and test, then the predicates, then the turned axis.
  pub path_back : (k place : ℕ) (h : Head) (sets part one after part' rest : List ℕ) → k < count → StepHere items place nodes room depth f.what k h
      → PathSet t m items at nodes depth count (suc k) sets
      → ((g : ℕ → Bool) → take nodes sets ≡ bits nodes g → part ≡ bits nodes (λ i. (g i && marked m i) && meets h.test (kind_of t i)))
      → (next : ℕ) → Narrows items (place + 1) nodes (take_preds (take_within depth) h.count (drop (place + 1) items)) (all_hold t m) next (part ++ one) after
      → ((g : ℕ → Bool) → take nodes after ≡ bits nodes g → part' ≡ bits nodes (image t (turned h.axis) g))
      → PathSet t m items at nodes depth count k (part' ++ rest)
  path_back k place h sets part one after part' rest l here p restricted next v moved =
      let g : ℕ → Bool = finds t m (later (suc k) f.what) in
      let g₁ : ℕ → Bool = λ i. (g i && marked m i) && meets h.test (kind_of t i) in
      let g₂ : ℕ → Bool = λ i. g₁ i && all_hold t m v.what i in
      let first : part ≡ bits nodes g₁ = restricted g (path_now (suc k) sets p) in
      let second : take nodes after ≡ bits nodes g₂ = v.set g₁ (front_back nodes g₁ part one first) in
      let same : v.what ≡ here.preds.what = ap (λ (z : Preds × List ℕ). z.0) (some_inj (sym v.reads ∙ here.preds.reads)) in
      record {
        steps = f.what;
        rest = f.rest;
        reads = f.reads;
        fewer = omega arith;
        set =
            front_back nodes (image t (turned h.axis) g₂) part' rest (moved g₂ second) ∙
            bits_same nodes (image t (turned h.axis) g₂) (finds t m (step h.axis h.test v.what (later (suc k) f.what))) (λ i. back_step t m h.axis h.test v.what (later (suc k) f.what) i) ∙
            ap (λ (s : Steps). bits nodes (finds t m s)) (ap (λ (ps : Preds). step h.axis h.test ps (later (suc k) f.what)) same ∙ sym here.here);
      }

  pub path_done : (next : ℕ) (sets : List ℕ) → PathSet t m items at nodes depth count 0 sets → Ends items at (take_steps (take_within depth) count (drop at items)) next
      → Evaluates items at nodes (take_steps (take_within depth) count (drop at items)) (finds t m) next sets
  path_done next sets p e =
      record {
        what = e.what;
        reads = e.reads;
        onward = e.onward;
        inside = e.inside;
        set = path_now 0 sets p ∙ ap (λ (z : Steps × List ℕ). bits nodes (finds t m z.0)) (some_inj (sym f.reads ∙ e.reads));
      }
