-- The state of a path's search: where its first steps stand, where the next one's items are and what candidates it has left; the answer of the whole is the answer of what is left.
-- The moves: a step more stands, or the one before goes on. Assumes nothing.
use Rattle.std.specs.Prelude.{Some, None}
use Prim.Native.Nat.{ℕ, zero, suc, ◌+◌, ◌-◌, ◌≤◌, ◌<◌}
use native.Mathlib.Omega.{arith}
use mathlib.Core.Path.{◌≡◌, refl, sym, ◌∙◌, ap, subst}
use mathlib.Core.Bool.{Bool, true, false, ◌&&◌}
use mathlib.Core.List.{List, [], ◌∷◌, ◌++◌}
use mathlib.Core.Logic.{⊎_elim}
use mathlib.Core.Option.{some}
use lib.Dec.{ltb}
use lib.ListN.{length, get_or, drop, length-append}
use borrow.Author.Tests.{ltb-true, ltb-false}
use Rattle.paper.specs.Query.{Steps, step, Preds}
use Rattle.paper.specs.Items.{Head, step_at, step_count, take_preds, take_steps, take_within}
use Rattle.paper.specs.Document.{Table, nodes}
use Rattle.paper.specs.Selection.{reaches, all_hold}
use Rattle.paper.proofs.Tests.{some_inj, decide}
use Rattle.candidates.specs.Best.{Last}
use Rattle.shape.specs.Ending.{Ends}
use Rattle.search.specs.Searches.{Fits, StepFits, Settles, Seeks, last_of, ending, goes}
use Rattle.search.specs.declared.Sought.{Sought}
use Rattle.search.proofs.Seeking.{not_none}
use Rattle.search.proofs.Stands.{last_more}
use Rattle.shape.proofs.Stepping.{later, later_all}
use Rattle.search.proofs.Steps.{count_steps, begin_ends, steps_far, step-here, step_fits, step_ends}
use Rattle.search.proofs.Searching.{left, left_begin, left_found, left_push, left_pop, step_dry, worth, worth_push, worth_pop}

-- Nodes below a number, of which the last is one.
last_below : (n i : ℕ) (js : List ℕ) → i < n → ((p : ℕ) → p < length js → get_or js p 0 < n) → last_of i js < n
last_below n i [] l h = l
last_below n i (j ∷ js) l h = last_below n j js (h 0 (omega arith)) (λ p b. h (suc p) (omega arith))

nothing : (js : List ℕ) → length js ≡ 0 → js ≡ []
nothing [] e = refl
nothing (j ∷ js) e = absurd (omega arith)

more_below : (n j : ℕ) (js : List ℕ) → j < n → ((p : ℕ) → p < length js → get_or js p 0 < n) → (p : ℕ) → p < length js + 1 → get_or (js ++ (j ∷ [])) p 0 < n
more_below n j [] l h zero b = l
more_below n j [] l h (suc p) b = absurd (omega arith)
more_below n j (i ∷ js) l h zero b = h 0 (omega arith)
more_below n j (i ∷ js) l h (suc p) b = more_below n j js l (λ q c. h (suc q) (omega arith)) p (omega arith)

fewer_below : (n j : ℕ) (js : List ℕ) → ((p : ℕ) → p < length js + 1 → get_or (js ++ (j ∷ [])) p 0 < n) → ((p : ℕ) → p < length js → get_or js p 0 < n) × (j < n)
fewer_below n j [] h = (λ p b. absurd (omega arith), h 0 (omega arith))
fewer_below n j (i ∷ js) h =
    let rest = fewer_below n j js (λ p b. h (suc p) (omega arith)) in
    (λ p b. first p b rest.0, rest.1)
  where
    first : (p : ℕ) → p < length (i ∷ js) → ((q : ℕ) → q < length js → get_or js q 0 < n) → get_or (i ∷ js) p 0 < n
    first zero b g = h 0 (omega arith)
    first (suc p) b g = g p (omega arith)

module _ (t : Table) (m : List ℕ) (items : List ℕ) (at depth count node wanted : ℕ) where
  pub record State (js : List ℕ) (k place bound : ℕ) : Type 0 where
    pub what : Steps
    pub rest : List ℕ
    pub reads : take_steps (take_within depth) count (drop at items) ≡ some (what, rest)
    pub size : length js ≡ k
    pub few : k ≤ count
    pub there : Ends items at (take_steps (take_within depth) k (drop at items)) place
    pub below : (p : ℕ) → p < length js → get_or js p 0 < nodes t
    pub under : bound ≤ nodes t
    pub answer : goes t m (ending (nodes t) wanted) what node ≡ left t m (ending (nodes t) wanted) what node js bound

  -- Before the first step all is left.
  pub state_begin : (room : ℕ) (f : Fits items at room (take_steps (take_within depth) count (drop at items))) → State [] 0 at (nodes t)
  state_begin room f =
      record {
        what = f.what;
        rest = f.rest;
        reads = f.reads;
        size = refl;
        few = omega arith;
        there = begin_ends items at room depth count f;
        below = λ p b. absurd (omega arith);
        under = omega arith;
        answer = left_begin t m (ending (nodes t) wanted) f.what node;
      }

  module _ (room : ℕ) (f : Fits items at room (take_steps (take_within depth) count (drop at items))) {js : List ℕ} {k place bound : ℕ} (s : State js k place bound) where
    same : s.what ≡ f.what
    same = ap (λ (z : Steps × List ℕ). z.0) (some_inj (sym s.reads ∙ f.reads))

    -- There is a place for the node of each step.
    pub state_room : k ≤ room
    state_room = omega (arith, f.room_for, steps_far items at depth k place s.there, s.there.inside)

    pub state_on : k < count → place < length items
    state_on l = step-here items at room depth count f k place l s.there (λ h ps rest on p q is. on)

    pub state_from : node < nodes t → last_of node js < nodes t
    state_from l = last_below (nodes t) node js l s.below

    -- The step that is next can be sought.
    pub state_step : (part : ℕ) → part ≡ room - k → ltb k count ≡ true → StepFits items place depth part
    state_step part e h = step_fits items at room depth count f k place part (ltb-true k count h) s.there e state_room

    settled : (b : Bool) → b ≡ left t m (ending (nodes t) wanted) s.what node js bound → Settles (take_steps (take_within depth) count (drop at items)) (λ u. goes t m (ending (nodes t) wanted) u node) b
    settled b e what rest r =
        e ∙ sym s.answer ∙ ap (λ (z : Steps × List ℕ). goes t m (ending (nodes t) wanted) z.0 node) (some_inj (sym s.reads ∙ r))

    -- All steps stand, the last at the node wanted.
    pub state_found : k ≡ count → ending (nodes t) wanted (last_of node js) ≡ true → Settles (take_steps (take_within depth) count (drop at items)) (λ u. goes t m (ending (nodes t) wanted) u node) true
    state_found e h =
        settled true
        (sym
        (left_found t m (ending (nodes t) wanted) s.what node js bound
        (s.size ∙ e ∙ sym (count_steps items at room depth count f) ∙ ap step_count (sym same)) h))

    -- Nothing is left of the step that is next.
    abbrev pub Dead : Type 0
    Dead = left t m (ending (nodes t) wanted) (later k s.what) (last_of node js) [] bound ≡ false

    pub state_dead : (from : ℕ) → from ≡ last_of node js → Seeks items place (ltb k count) depth t m from bound None → (k ≡ count → ending (nodes t) wanted from ≡ false) → Dead
    state_dead from e q never =
        ⊎_elim
        (λ l.
        step-here items at room depth count f k place (ltb-true k count l) s.there
        (λ h ps rest on p u is.
        ap (λ (v : Steps). left t m (ending (nodes t) wanted) (later k v) (last_of node js) [] bound) same
        ∙ ap (λ (v : Steps). left t m (ending (nodes t) wanted) v (last_of node js) [] bound) is
        ∙ ap (λ i. left t m (ending (nodes t) wanted) (step h.axis h.test ps (later (suc k) f.what)) i [] bound) (sym e)
        ∙ step_dry t m (ending (nodes t) wanted) h.axis h.test ps (later (suc k) f.what) from bound (q.best l h ps rest p u)))
        (λ l.
        let all : k ≡ count = omega (arith, ltb-false k count l, s.few) in
        ap (λ (v : Steps). left t m (ending (nodes t) wanted) v (last_of node js) [] bound)
        (ap (λ i. later i s.what) (all ∙ sym (count_steps items at room depth count f) ∙ ap step_count (sym same)) ∙ later_all s.what)
        ∙ ap (ending (nodes t) wanted) (sym e) ∙ never all)
        (decide (ltb k count))

    pub state_dry : Dead → k ≡ 0 → Settles (take_steps (take_within depth) count (drop at items)) (λ u. goes t m (ending (nodes t) wanted) u node) false
    state_dry d z =
        let none = nothing js (s.size ∙ z) in
        settled false
        (sym (ap (λ (ks : List ℕ). left t m (ending (nodes t) wanted) s.what node ks bound) none
        ∙ sym (ap (λ (ks : List ℕ). left t m (ending (nodes t) wanted) s.what (last_of node ks) [] bound) none)
        ∙ sym (ap (λ i. left t m (ending (nodes t) wanted) (later i s.what) (last_of node js) [] bound) z) ∙ d))

    -- The step before goes on below where it stood.
    module _ (d : Dead) (ks : List ℕ) (j : ℕ) (e : js ≡ ks ++ (j ∷ [])) where
      long : length ks + 1 ≡ k
      long = sym (length-append ks (j ∷ [])) ∙ ap length (sym e) ∙ s.size

      parts : ((p : ℕ) → p < length ks → get_or ks p 0 < nodes t) × (j < nodes t)
      parts =
          fewer_below (nodes t) j ks
          (λ p b. subst (λ (xs : List ℕ). get_or xs p 0 < nodes t) e (s.below p (omega (arith, long, s.size))))

      pub state_back : (place' : ℕ) → Ends items at (take_steps (take_within depth) (k - 1) (drop at items)) place' → State ks (k - 1) place' j
      state_back place' v =
          record {
            what = s.what;
            rest = s.rest;
            reads = s.reads;
            size = omega (arith, long);
            few = omega (arith, s.few);
            there = v;
            below = parts.0;
            under = omega (arith, parts.1);
            answer =
                s.answer ∙ ap (λ (xs : List ℕ). left t m (ending (nodes t) wanted) s.what node xs bound) e
                ∙ left_pop t m (ending (nodes t) wanted) s.what node ks j bound
                (ap (λ i. left t m (ending (nodes t) wanted) (later i s.what) j [] bound) (let q : suc (length ks) ≡ k = omega (arith, long) in q)
                ∙ ap (λ i. left t m (ending (nodes t) wanted) (later k s.what) i [] bound) (sym (ap (last_of node) e ∙ last_more node j ks)) ∙ d);
          }

      pub back_less : worth (nodes t) count ks j < worth (nodes t) count js bound
      back_less = subst (λ (xs : List ℕ). worth (nodes t) count ks j < worth (nodes t) count xs bound) (sym e) (worth_pop (nodes t) count ks j bound (omega (arith, long, s.few)))

    -- One step more stands.
    module _ (from : ℕ) (r : Sought) (e : from ≡ last_of node js) (q : Seeks items place (ltb k count) depth t m from bound (Some r)) where
      more_steps : ltb k count ≡ true
      more_steps = ⊎_elim (λ h. h) (λ h. absurd (not_none (q.no_more h))) (decide (ltb k count))

      best_at : (h : Head) (ps : Preds) (rest : List ℕ) → step_at (get_or items place 0) ≡ some h → take_preds (take_within depth) h.count (drop (place + 1) items) ≡ some (ps, rest)
          → Last (λ j. reaches t m h.axis h.test from j && all_hold t m ps j) bound r.node
      best_at h ps rest p u = q.best more_steps h ps rest p u

      pub state_within : r.node < bound
      state_within = step-here items at room depth count f k place (ltb-true k count more_steps) s.there (λ h ps rest on p u is. (best_at h ps rest p u).within)

      pub state_push : State (js ++ (r.node ∷ [])) (k + 1) r.next (nodes t)
      state_push =
          step-here items at room depth count f k place (ltb-true k count more_steps) s.there
          (λ h ps rest on p u is.
          record {
            what = s.what;
            rest = s.rest;
            reads = s.reads;
            size = length-append js (r.node ∷ []) ∙ ap (λ n. n + 1) s.size;
            few = omega (arith, ltb-true k count more_steps);
            there = step_ends items at room depth count f k place r.next h (ltb-true k count more_steps) s.there p on (q.ends more_steps r refl h p);
            below = λ i b. more_below (nodes t) r.node js (omega (arith, state_within, s.under)) s.below i (omega (arith, length-append js (r.node ∷ [])));
            under = omega arith;
            answer =
                s.answer
                ∙ left_push t m (ending (nodes t) wanted) s.what node js bound r.node h.axis h.test ps (later (suc k) f.what)
                (ap (λ i. later i s.what) s.size ∙ ap (later k) same ∙ is)
                (subst (λ i. Last (λ j. reaches t m h.axis h.test i j && all_hold t m ps j) bound r.node) e (best_at h ps rest p u));
          })

      pub push_less : worth (nodes t) count (js ++ (r.node ∷ [])) (nodes t) < worth (nodes t) count js bound
      push_less = worth_push (nodes t) count js bound r.node (omega (arith, ltb-true k count more_steps, s.size)) state_within
