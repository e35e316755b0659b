-- The top-level paths of a query over all nodes at once: the set of the root alone, moved forward step by step, and what is selected spread up and down.
-- Assumes nothing.
use Prim.Native.Nat.{ℕ, zero, suc, ◌+◌, ◌-◌, ◌≤◌, ◌<◌}
use native.Mathlib.Omega.{arith}
use native.Mathlib.Numerals.{add-one}
use native.Mathlib.Decide.{dec_lt}
use mathlib.Core.Path.{◌≡◌, refl, sym, ◌∙◌, ap, ap₂, subst, fun_ext}
use mathlib.Core.Bool.{Bool, true, false, cond, ◌&&◌, ◌||◌}
use mathlib.Core.List.{List, [], ◌∷◌, ◌++◌, append_assoc, append-nil}
use mathlib.Core.Logic.{by_cases}
use mathlib.Core.Option.{none, some}
use lib.Dec.{eqb, leb}
use lib.ListN.{length, get_or, take, drop, set, replicate, drop_of_length-le}
use lib.Seq.{drop-cons}
use borrow.Author.Tests.{eqb-true, eq-eqb, ne_eqb}
use Rattle.paper.specs.Tools.{some_below, some_of, column_from}
use Rattle.paper.specs.Limits.{bracket_limit}
use Rattle.paper.specs.Query.{Steps, stop, step, Preds, Query, paths}
use Rattle.paper.specs.Items.{Head, path_at, step_at, take_preds, take_steps, take_path, take_within, take_paths, as_query, decode}
use Rattle.paper.specs.Measures.{height_steps, height_preds, height_paths, height}
use Rattle.paper.specs.Document.{Table, nodes, kind_of, marked}
use Rattle.paper.specs.Selection.{meets, all_hold, arrives, selects}
use Rattle.paper.proofs.Tests.{and_true, true_and, or_right, agree, found_some, none-some, some_inj}
use Rattle.paper.proofs.Searches.{some_intro, some-elim, column_same}
use Rattle.sets.specs.Sets.{bits, image}
use Rattle.keep.specs.Evals.{Fits, Narrows, Moves, Runs}
use Rattle.keep.proofs.Slices.{front_back}
use Rattle.keep.proofs.Stepwise.{forward_step}
use Rattle.keep.proofs.Running.{enough}

-- THE ROOT ALONE.

-- Past the root the set is empty.
empty_from : (b : Bool) (n from : ℕ) → 0 < from → column_from {A = ℕ} n from (λ i. cond (eqb i 0 && b) 1 0) ≡ replicate n 0
empty_from b zero from l = refl
empty_from b (suc n) from l = ap₂ ◌∷◌ (rw (ne_eqb from 0 (λ e. omega arith))) (empty_from b n (suc from) (omega arith))

pub root_alone : (n : ℕ) (b : Bool) (v : ℕ) → 0 < n → v ≡ cond b 1 0 → set (replicate n 0) 0 v ≡ bits n (λ i. eqb i 0 && b)
root_alone zero b v l e = absurd (omega arith)
root_alone (suc n) b v l e = ap₂ ◌∷◌ e (sym (empty_from b n 1 (omega arith)))

-- The first mark, of marks that are 0 or 1.
pub first_mark : (n : ℕ) (marks : List ℕ) → 0 < n → marks ≡ bits n (marked marks) → get_or marks 0 0 ≡ cond (marked marks 0) 1 0
first_mark zero marks l e = absurd (omega arith)
first_mark (suc n) marks l e = ap (λ (z : List ℕ). get_or z 0 0) e

-- SPREADING.

-- FORWARD.

-- At the end of the steps the set is where they have arrived.
stopped : (n : ℕ) (g : ℕ → Bool) (k : ℕ) → k < n → some_below n (λ j. g j && eqb j k) ≡ g k
stopped n g k l =
    agree (some_below n (λ j. g j && eqb j k)) (g k)
    (λ e. some-elim n (λ j. g j && eqb j k) e (λ j lj p. let r = and_true (g j) (eqb j k) p in subst (λ (x : ℕ). g x ≡ true) (eqb-true j k r.1) r.0))
    (λ e. some_intro n (λ j. g j && eqb j k) k l (true_and e (eq-eqb k k refl)))

-- Sets that agree below n are the same bytes.
pub bits_below : (n : ℕ) (f g : ℕ → Bool) → ((i : ℕ) → i < n → f i ≡ g i) → bits n f ≡ bits n g
bits_below n f g h = column_same n 0 (λ i. cond (f i) 1 0) (λ i. cond (g i) 1 0) (λ i a l. ap (λ b. cond b 1 0) (h i (omega arith)))

-- What is left of the steps leads, from the set as it is now, where all of them lead from the set as it was.
pub record Going (t : Table) (m : List ℕ) (items : List ℕ) (at count place left : ℕ) (before sets : List ℕ) : Type 0 where
  pub steps : Steps
  pub ahead : Steps
  pub rest : List ℕ
  pub reads : take_steps (take_within bracket_limit) count (drop at items) ≡ some (steps, rest)
  pub goes_on : take_steps (take_within bracket_limit) left (drop place items) ≡ some (ahead, rest)
  pub low : height_steps ahead ≤ height_steps steps
  pub set : (f : ℕ → Bool) → take (nodes t) before ≡ bits (nodes t) f
      → (g : ℕ → Bool) × (take (nodes t) sets ≡ bits (nodes t) g) × ((k : ℕ) → some_below (nodes t) (λ i. f i && arrives t m steps i k) ≡ some_below (nodes t) (λ j. g j && arrives t m ahead j k))
  pub onward : at ≤ place
  pub inside : place ≤ length items

module _ (t : Table) (m : List ℕ) (items : List ℕ) (at count room : ℕ) (f : Fits items at (nodes t) room (take_steps (take_within bracket_limit) count (drop at items)) (λ s. 1 + height_steps s)) where
  -- The next step can be read: its item, its predicates, and the steps after it.
  pub record Next (place left : ℕ) (ahead : Steps) (rest : List ℕ) (h : Head) : Type 0 where
    pub later : Steps
    pub preds : Fits items (place + 1) (nodes t) room (take_preds (take_within bracket_limit) h.count (drop (place + 1) items)) (λ ps. 1 + height_preds ps)
    pub here : ahead ≡ step h.axis h.test preds.what later
    pub then_read : take_steps (take_within bracket_limit) (left - 1) preds.rest ≡ some (later, rest)

  pub next-step {ℓ} : {C : Type ℓ} (place left : ℕ) (before sets : List ℕ) → 0 < left → (g : Going t m items at count place left before sets)
      → (place < length items → (h : Head) → step_at (get_or items place 0) ≡ some h → Next place left g.ahead g.rest h → C) → C
  next-step place zero before sets z g k = absurd (omega arith)
  next-step {C = C} place (suc left) before sets z g k =
      by_cases (dec_lt place (length items)) (λ on. go on) (λ off. none-some (sym (past (omega arith)) ∙ g.goes_on))
    where
      past : length items ≤ place → take_steps (take_within bracket_limit) (suc left) (drop place items) ≡ none
      past o = rw (drop_of_length-le items o)

      whole_height : 1 + height_steps g.steps ≤ 1 + height_steps f.what
      whole_height = omega (arith, ap (λ (x : Steps × List ℕ). height_steps x.0) (some_inj (sym g.reads ∙ f.reads)))

      go : place < length items → C
      go on =
          found_some (step_at (get_or items place 0)) _ (g.ahead, g.rest) (rw (drop-cons items place 0 on) at g.goes_on)
          (λ h p q.
          found_some (take_preds (take_within bracket_limit) h.count (drop (suc place) items)) _ (g.ahead, g.rest) q
          (λ a u v.
          found_some (take_steps (take_within bracket_limit) left a.1) _ (g.ahead, g.rest) v
          (λ b x y.
          let is : step h.axis h.test a.0 b.0 ≡ g.ahead = ap (λ (z : Steps × List ℕ). z.0) (some_inj y) in
          k on h p
          (record {
            later = b.0;
            preds =
                record {
                  what = a.0;
                  rest = a.1;
                  reads = ap (λ (j : ℕ). take_preds (take_within bracket_limit) h.count (drop j items)) (add-one place) ∙ u;
                  room_for =
                      enough (nodes t) (1 + height_steps f.what) (1 + height_preds a.0) room f.room_for
                      (omega (arith, g.low, whole_height, ap height_steps is));
                  inside = omega arith;
                };
            here = sym is;
            then_read =
                ap (λ (n : ℕ). take_steps (take_within bracket_limit) n a.1) (let e : suc left - 1 ≡ left = omega arith in e) ∙ x ∙
                ap (λ (r : List ℕ). some (b.0, r)) (ap (λ (z : Steps × List ℕ). z.1) (some_inj y));
          }))))

  -- One step forward: along the axis, then marks and test, then the predicates.
  pub going_on : (place left next : ℕ) (h : Head) (before sets part one part' after : List ℕ) → 0 < left → (g : Going t m items at count place left before sets)
      → (n : Next place left g.ahead g.rest h)
      → ((x : ℕ → Bool) → take (nodes t) sets ≡ bits (nodes t) x → part ≡ bits (nodes t) (image t h.axis x))
      → ((x : ℕ → Bool) → part ≡ bits (nodes t) x → part' ≡ bits (nodes t) (λ i. (x i && marked m i) && meets h.test (kind_of t i)))
      → Narrows items (place + 1) (nodes t) (take_preds (take_within bracket_limit) h.count (drop (place + 1) items)) (all_hold t m) next (part' ++ one) after
      → Going t m items at count next (left - 1) before after
  going_on place left next h before sets part one part' after z g n moved restricted v =
      let same_preds : ◌≡◌ {A = Preds × List ℕ} (v.what, drop next items) (n.preds.what, n.preds.rest) = some_inj (sym v.reads ∙ n.preds.reads) in
      record {
        steps = g.steps;
        ahead = n.later;
        rest = g.rest;
        reads = g.reads;
        goes_on = ap (take_steps (take_within bracket_limit) (left - 1)) (ap (λ (z : Preds × List ℕ). z.1) same_preds) ∙ n.then_read;
        low = omega (arith, g.low, ap height_steps n.here);
        set =
            λ x e.
            let now-set = g.set x e in
            let y : ℕ → Bool = now-set.0 in
            let y₁ : ℕ → Bool = image t h.axis y in
            let y₂ : ℕ → Bool = λ i. (y₁ i && marked m i) && meets h.test (kind_of t i) in
            let y₃ : ℕ → Bool = λ i. y₂ i && all_hold t m v.what i in
            let p₂ : part' ≡ bits (nodes t) y₂ = restricted y₁ (moved y now-set.1) in (
              y₃,
              v.set y₂ (front_back (nodes t) y₂ part' one p₂),
              λ k.
                  now-set.2 k ∙
                  ap (λ (s : Steps). some_below (nodes t) (λ j. y j && arrives t m s j k)) (n.here ∙ ap (λ (ps : Preds). step h.axis h.test ps n.later) (sym (ap (λ (z : Preds × List ℕ). z.0) same_preds))) ∙
                  forward_step t m h.axis h.test v.what n.later y k,
            );
        onward = omega (arith, g.onward, v.onward);
        inside = v.inside;
      }

  pub going_done : (place left : ℕ) (before sets : List ℕ) → left ≤ 0 → Going t m items at count place left before sets
      → Moves items at t m (take_steps (take_within bracket_limit) count (drop at items)) place before sets
  going_done place zero before sets z g =
      let end : ◌≡◌ {A = Steps × List ℕ} (stop, drop place items) (g.ahead, g.rest) = some_inj g.goes_on in
      record {
        what = g.steps;
        reads = g.reads ∙ ap (λ (r : List ℕ). some (g.steps, r)) (sym (ap (λ (x : Steps × List ℕ). x.1) end));
        onward = g.onward;
        inside = g.inside;
        set =
            λ x e.
            let now-set = g.set x e in
            let y : ℕ → Bool = now-set.0 in
            now-set.1 ∙
            bits_below (nodes t) y (λ k. some_below (nodes t) (λ i. x i && arrives t m g.steps i k))
            (λ k l.
            sym (stopped (nodes t) y k l) ∙ ap (λ (s : Steps). some_below (nodes t) (λ j. y j && arrives t m s j k)) (ap (λ (x : Steps × List ℕ). x.0) end) ∙ sym (now-set.2 k));
      }
  going_done place (suc left) before sets z g = absurd (omega arith)

-- THE PATHS OF A QUERY.

-- What has been read of the paths, and as many more as the items that are left hold; the marks are what those read have selected.
pub record PathsDone (t : Table) (m : List ℕ) (items : List ℕ) (place : ℕ) (marks : List ℕ) : Type 0 where
  pub query : Query
  pub decodes : decode items ≡ some query
  pub so_far : List Steps
  pub ahead : List Steps
  pub fuel : ℕ
  pub goes_on : take_paths fuel (drop place items) ≡ some ahead
  pub all : paths query ≡ so_far ++ ahead
  pub inside : place ≤ length items
  pub set : marks ≡ bits (nodes t) (λ k. some_of (λ p. marked m 0 && arrives t m p 0 k) so_far)

nothing_yet : (n from : ℕ) → replicate {A = ℕ} n 0 ≡ column_from n from (λ i. cond false 1 0)
nothing_yet zero from = refl
nothing_yet (suc n) from = ap (λ (z : List ℕ). 0 ∷ z) (nothing_yet n (suc from))

query_paths : (ps : List Steps) (q : Query) → as_query ps ≡ some q → paths q ≡ ps
query_paths [] q e = none-some e
query_paths (p ∷ ps) q e = ap paths (sym (some_inj e))

pub paths_begin : (t : Table) (m : List ℕ) (items : List ℕ) (room : ℕ) (marks : List ℕ) → Runs items (nodes t) room → marks ≡ replicate (nodes t) 0 → PathsDone t m items 0 marks
unfolding decode
paths_begin t m items room marks r e =
    found_some (take_paths (length items) items) as_query r.query r.decodes
    (λ ps u v.
    record {
      query = r.query;
      decodes = r.decodes;
      so_far = [];
      ahead = ps;
      fuel = length items;
      goes_on = u;
      all = query_paths ps r.query v;
      inside = omega arith;
      set = e ∙ nothing_yet (nodes t) 0;
    })

-- No path of a row is higher than the row.
path_low : (so_far : List Steps) (p : Steps) (ps : List Steps) → 1 + height_steps p ≤ height_paths (so_far ++ (p ∷ ps))
path_low [] p ps = omega arith
path_low (q ∷ so_far) p ps = omega (arith, path_low so_far p ps)

-- The next path can be read.
pub record NextPath (t : Table) (items : List ℕ) (place room : ℕ) (ahead : List Steps) (count : ℕ) : Type 0 where
  pub steps : Fits items (place + 1) (nodes t) room (take_steps (take_within bracket_limit) count (drop (place + 1) items)) (λ s. 1 + height_steps s)
  pub later : List Steps
  pub fuel : ℕ
  pub here : ahead ≡ steps.what ∷ later
  pub then_read : take_paths fuel steps.rest ≡ some later

module _ (t : Table) (m : List ℕ) (items : List ℕ) (room : ℕ) (r : Runs items (nodes t) room) where
  pub next-path {ℓ} : {C : Type ℓ} (place : ℕ) (marks : List ℕ) → place < length items → (d : PathsDone t m items place marks)
      → ((count : ℕ) → path_at (get_or items place 0) ≡ some count → NextPath t items place room d.ahead count → C) → C
  unfolding height
  next-path {C = C} place marks on d k = go d.fuel (rw (drop-cons items place 0 on) at d.goes_on)
    where
      go : (fuel : ℕ) → take_paths fuel (get_or items place 0 ∷ drop (suc place) items) ≡ some d.ahead → C
      go zero e = none-some e
      go (suc fuel) e =
          found_some (take_path (take_within bracket_limit) true (get_or items place 0 ∷ drop (suc place) items)) _ d.ahead e
          (λ a u v.
          found_some (take_paths fuel a.1) _ d.ahead v
          (λ ps x y.
          found_some (path_at (get_or items place 0)) _ a u
          (λ count p q.
          let read : take_steps (take_within bracket_limit) count (drop (suc place) items) ≡ some a = rw (or_right (leb 1 count) refl) at q in
          let is : a.0 ∷ ps ≡ d.ahead = some_inj y in
          let same : r.query ≡ d.query = some_inj (sym r.decodes ∙ d.decodes) in
          k count p
          (record {
            steps =
                record {
                  what = a.0;
                  rest = a.1;
                  reads = ap (λ (j : ℕ). take_steps (take_within bracket_limit) count (drop j items)) (add-one place) ∙ read;
                  room_for =
                      enough (nodes t) (height r.query) (1 + height_steps a.0) room r.room_for
                      (omega (arith, path_low d.so_far a.0 ps, ap height_paths (ap (λ (z : List Steps). d.so_far ++ z) is), ap height_paths d.all, ap (λ (q : Query). height_paths (paths q)) same));
                  inside = omega arith;
                };
            later = ps;
            fuel = fuel;
            here = sym is;
            then_read = x;
          }))))

  -- One path more: where it leads from the root is added to the marks.
  pub path_added : (place next count : ℕ) (marks sets before after marks' : List ℕ) → (d : PathsDone t m items place marks) → NextPath t items place room d.ahead count
      → take (nodes t) before ≡ bits (nodes t) (λ i. eqb i 0 && marked m 0)
      → Moves items (place + 1) t m (take_steps (take_within bracket_limit) count (drop (place + 1) items)) next before after
      → ((f g : ℕ → Bool) → marks ≡ bits (nodes t) f → take (nodes t) after ≡ bits (nodes t) g → marks' ≡ bits (nodes t) (λ i. f i || g i))
      → 0 < nodes t → PathsDone t m items next marks'
  path_added place next count marks sets before after marks' d n start v adds rooted =
      let same : ◌≡◌ {A = Steps × List ℕ} (v.what, drop next items) (n.steps.what, n.steps.rest) = some_inj (sym v.reads ∙ n.steps.reads) in
      record {
        query = d.query;
        decodes = d.decodes;
        so_far = d.so_far ++ (v.what ∷ []);
        ahead = n.later;
        fuel = n.fuel;
        goes_on = ap (take_paths n.fuel) (ap (λ (x : Steps × List ℕ). x.1) same) ∙ n.then_read;
        all =
            d.all ∙ ap (λ (z : List Steps). d.so_far ++ z) (n.here ∙ ap (λ (s : Steps). s ∷ n.later) (sym (ap (λ (x : Steps × List ℕ). x.0) same))) ∙
            sym (append_assoc d.so_far (v.what ∷ []) n.later);
        inside = v.inside;
        set =
            adds (λ k. some_of (λ p. marked m 0 && arrives t m p 0 k) d.so_far) (λ k. some_below (nodes t) (λ i. (eqb i 0 && marked m 0) && arrives t m v.what i k)) d.set
            (v.set (λ i. eqb i 0 && marked m 0) start) ∙
            ap (bits (nodes t)) (fun_ext (λ k. ap (λ b. some_of (λ p. marked m 0 && arrives t m p 0 k) d.so_far || b) (from_root v.what k) ∙ sym (some_snoc (λ p. marked m 0 && arrives t m p 0 k) d.so_far v.what)));
      }
    where
      from_root : (s : Steps) (k : ℕ) → some_below (nodes t) (λ i. (eqb i 0 && marked m 0) && arrives t m s i k) ≡ (marked m 0 && arrives t m s 0 k)
      from_root s k =
          agree (some_below (nodes t) (λ i. (eqb i 0 && marked m 0) && arrives t m s i k)) (marked m 0 && arrives t m s 0 k)
          (λ e.
          some-elim (nodes t) (λ i. (eqb i 0 && marked m 0) && arrives t m s i k) e
          (λ i l p.
          let q = and_true (eqb i 0 && marked m 0) (arrives t m s i k) p in
          let w = and_true (eqb i 0) (marked m 0) q.0 in
          true_and w.1 (subst (λ (x : ℕ). arrives t m s x k ≡ true) (eqb-true i 0 w.0) q.1)))
          (λ e. let q = and_true (marked m 0) (arrives t m s 0 k) e in some_intro (nodes t) (λ i. (eqb i 0 && marked m 0) && arrives t m s i k) 0 rooted (true_and (true_and refl q.0) q.1))

      some_snoc : (test : Steps → Bool) (ps : List Steps) (p : Steps) → some_of test (ps ++ (p ∷ [])) ≡ (some_of test ps || test p)
      some_snoc test [] p = or_false_right (test p)
        where
          or_false_right : (b : Bool) → (b || false) ≡ b
          or_false_right true = refl
          or_false_right false = refl
      some_snoc test (q ∷ ps) p = ap (λ b. test q || b) (some_snoc test ps p) ∙ regroup (test q) (some_of test ps) (test p)
        where
          regroup : (a b c : Bool) → (a || (b || c)) ≡ ((a || b) || c)
          regroup true b c = refl
          regroup false b c = refl

  -- At the end of the items the marks are what the query selects.
  pub paths_selected : (place : ℕ) (marks : List ℕ) → length items ≤ place → PathsDone t m items place marks → (q : Query) → decode items ≡ some q → marks ≡ bits (nodes t) (selects t m q)
  unfolding selects
  paths_selected place marks off d q e =
      let none_left : d.ahead ≡ [] = go d.fuel (rw (drop_of_length-le items off) at d.goes_on) in
      let all_read : paths q ≡ d.so_far = ap paths (some_inj (sym e ∙ d.decodes)) ∙ d.all ∙ ap (λ (z : List Steps). d.so_far ++ z) none_left ∙ append-nil d.so_far in
      d.set ∙ ap (bits (nodes t)) (fun_ext (λ k. factor (marked m 0) (λ p. arrives t m p 0 k) d.so_far ∙ ap (λ (ps : List Steps). marked m 0 && some_of (λ p. arrives t m p 0 k) ps) (sym all_read)))
    where
      go : (fuel : ℕ) → take_paths fuel [] ≡ some d.ahead → d.ahead ≡ []
      go zero h = sym (some_inj h)
      go (suc fuel) h = sym (some_inj h)

      factor : (b : Bool) (test : Steps → Bool) (ps : List Steps) → some_of (λ p. b && test p) ps ≡ (b && some_of test ps)
      factor true test ps = refl
      factor false test [] = refl
      factor false test (p ∷ ps) = factor false test ps

-- Every query has a height.
pub some_tall : (q : Query) → 1 ≤ height q
unfolding height
some_tall q = omega arith
