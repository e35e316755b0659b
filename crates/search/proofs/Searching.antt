-- The search of a path with back-tracking: what is left to find where the first steps stand at nodes and the next has candidates left below a bound, and how each move keeps it; and how many moves are left. Assumes nothing.
use Prim.Native.Nat.{ℕ, zero, suc, ◌+◌, ◌≤◌, ◌<◌}
use native.Mathlib.Omega.{arith}
use native.Mathlib.Decide.{ℕ_discrete}
use mathlib.Core.Path.{◌≡◌, refl, sym, ◌∙◌, ap, subst}
use mathlib.Core.Bool.{Bool, true, false, ◌&&◌, ◌||◌}
use mathlib.Core.List.{List, [], ◌∷◌, ◌++◌}
use mathlib.Core.Logic.{by_cases}
use lib.Dec.{eqb}
use lib.ListN.{length}
use borrow.Author.Tests.{eq-eqb}
use Rattle.paper.specs.Tools.{some_below}
use Rattle.paper.specs.Query.{Axis, Test, Steps, stop, step, Preds}
use Rattle.paper.specs.Items.{step_count}
use Rattle.paper.specs.Document.{Table, nodes}
use Rattle.paper.specs.Selection.{reaches, all_hold}
use Rattle.candidates.specs.Best.{Last}
use Rattle.search.specs.Searches.{goes, last_of}
use Rattle.shape.proofs.Stepping.{later, later_next}

-- Two tests joined that fail, of which the first holds.
pub not_both : (k n : ℕ) (b : Bool) → (eqb k n && b) ≡ false → k ≡ n → b ≡ false
not_both k n b h e = rw (eq-eqb k n e) at h

-- Below a bound nothing passes a test that fails for all,
some_none : (n : ℕ) (test : ℕ → Bool) → ((j : ℕ) → j < n → test j ≡ false) → some_below n test ≡ false
some_none zero test h = refl
some_none (suc n) test h = rw (h n (omega arith)) (some_none n test (λ j l. h j (omega arith)))

-- and where it fails from c on, only what is below c counts.
some_cut : (n c : ℕ) (test : ℕ → Bool) → c ≤ n → ((j : ℕ) → c ≤ j → j < n → test j ≡ false) → some_below n test ≡ some_below c test
some_cut zero c test l h = ap (λ k. some_below k test) (let e : 0 ≡ c = omega arith in e)
some_cut (suc n) c test l h =
    by_cases (ℕ_discrete c (suc n)) (λ e. ap (λ k. some_below k test) (sym e))
    (λ e. rw (h n (omega arith) (omega arith)) (some_cut n c test (omega arith) (λ j a b. h j a (omega arith))))

none_and : {a : Bool} (b : Bool) → a ≡ false → (a && b) ≡ false
none_and {a} b e = rw e

module _ (t : Table) (marks : List ℕ) (more : ℕ → Bool) where
  -- A step, with what comes after it: does it lead from i to j?
  abbrev pub onward : Axis → Test → Preds → Steps → ℕ → ℕ → Bool
  onward a x ps rest i j = reaches t marks a x i j && all_hold t marks ps j && goes t marks more rest j

  -- What is left to find from i, where the first steps stand at these nodes and the step after them has the candidates below c left.
  abbrev pub left : Steps → ℕ → List ℕ → ℕ → Bool
  left stop i js c = more i
  left (step a x ps rest) i [] c = some_below c (onward a x ps rest i)
  left (step a x ps rest) i (j ∷ js) c = left rest j js c || some_below j (onward a x ps rest i)

  -- At the beginning all is left.
  pub left_begin : (s : Steps) (i : ℕ) → goes t marks more s i ≡ left s i [] (nodes t)
  left_begin stop i = refl
  left_begin (step a x ps rest) i = refl

  -- A change at the last step is one of the whole.
  pub left_deep : (s : Steps) (i : ℕ) (js ks : List ℕ) (c d : ℕ) → left (later (length js) s) (last_of i js) [] c ≡ left (later (length js) s) (last_of i js) ks d → left s i js c ≡ left s i (js ++ ks) d
  left_deep s i [] ks c d h = h
  left_deep stop i (j ∷ js) ks c d h = refl
  left_deep (step a x ps rest) i (j ∷ js) ks c d h = ap (λ b. b || some_below j (onward a x ps rest i)) (left_deep rest j js ks c d h)

  -- What is found at the last step is found.
  pub left_found : (s : Steps) (i : ℕ) (js : List ℕ) (c : ℕ) → length js ≡ step_count s → more (last_of i js) ≡ true → left s i js c ≡ true
  left_found stop i [] c l h = h
  left_found (step a x ps rest) i [] c l h = absurd (omega arith)
  left_found stop i (j ∷ js) c l h = absurd (omega arith)
  left_found (step a x ps rest) i (j ∷ js) c l h = ap (λ b. b || some_below j (onward a x ps rest i)) (left_found rest j js c (omega arith) h)

  module _ (a : Axis) (x : Test) (ps : Preds) (rest : Steps) (from : ℕ) where
    abbrev Here : ℕ → Bool
    Here j = reaches t marks a x from j && all_hold t marks ps j

    -- Where a step has no candidate, nothing is left of it;
    pub step_dry : (c : ℕ) → ((j : ℕ) → j < c → Here j ≡ false) → left (step a x ps rest) from [] c ≡ false
    step_dry c h = some_none c (onward a x ps rest from) (λ j l. none_and (goes t marks more rest j) (h j l))

    -- and the best candidate is where it stands next.
    step_on : (c n : ℕ) → Last Here c n → left (step a x ps rest) from [] c ≡ left (step a x ps rest) from (n ∷ []) (nodes t)
    step_on c n b =
        some_cut c (suc n) (onward a x ps rest from) (omega (arith, b.within)) (λ j u v. none_and (goes t marks more rest j) (b.later j (omega arith) v))
        ∙ ap (λ y. (y && goes t marks more rest n) || some_below n (onward a x ps rest from)) b.here
        ∙ ap (λ y. y || some_below n (onward a x ps rest from)) (left_begin rest n)

  -- A step more stands: its candidates below are left to it, and all to the one behind.
  pub left_push : (s : Steps) (i : ℕ) (js : List ℕ) (c n : ℕ) (a : Axis) (x : Test) (ps : Preds) (rest : Steps) → later (length js) s ≡ step a x ps rest
      → Last (λ j. reaches t marks a x (last_of i js) j && all_hold t marks ps j) c n → left s i js c ≡ left s i (js ++ (n ∷ [])) (nodes t)
  left_push s i js c n a x ps rest e b =
      left_deep s i js (n ∷ []) c (nodes t)
      (subst (λ (u : Steps). left u (last_of i js) [] c ≡ left u (last_of i js) (n ∷ []) (nodes t)) (sym e) (step_on a x ps rest (last_of i js) c n b))

  -- Where nothing is left behind a step, it goes on below where it stood.
  pub left_pop : (s : Steps) (i : ℕ) (js : List ℕ) (j c : ℕ) → left (later (suc (length js)) s) j [] c ≡ false → left s i (js ++ (j ∷ [])) c ≡ left s i js j
  left_pop s i js j c h = sym (left_deep s i js (j ∷ []) j c (go (later (length js) s) refl))
    where
      go : (u : Steps) → later (length js) s ≡ u → left u (last_of i js) [] j ≡ left u (last_of i js) (j ∷ []) c
      go stop e = refl
      go (step a x ps rest) e =
          ap (λ y. y || some_below j (onward a x ps rest (last_of i js))) (sym (ap (λ (u : Steps). left u j [] c) (sym (later_next (length js) s a x ps rest e)) ∙ h))

-- HOW MANY MOVES ARE LEFT. Each candidate of a step may be paid for by all the moves behind it, and two more.
abbrev pub pay : ℕ → ℕ → ℕ
pay zero b = 0
pay (suc c) b = 2 + b + pay c b

pay_less : (r c b : ℕ) → r < c → 2 + b + pay r b ≤ pay c b
pay_less r zero b l = absurd (omega arith)
pay_less r (suc c) b l = by_cases (ℕ_discrete r c) (λ e. omega (arith, ap (λ k. pay k b) e)) (λ e. omega (arith, pay_less r c b (omega arith)))

-- The moves left to so many steps among n nodes, by where the first of them stand.
abbrev pub worth : ℕ → ℕ → List ℕ → ℕ → ℕ
worth n zero js c = 0
worth n (suc m) [] c = pay c (worth n m [] n)
worth n (suc m) (j ∷ js) c = 1 + pay j (worth n m [] n) + worth n m js c

pub worth_push : (n m : ℕ) (js : List ℕ) (c r : ℕ) → length js < m → r < c → worth n m (js ++ (r ∷ [])) n < worth n m js c
worth_push n zero js c r l u = absurd (omega arith)
worth_push n (suc m) [] c r l u = omega (arith, pay_less r c (worth n m [] n) u)
worth_push n (suc m) (j ∷ js) c r l u = omega (arith, worth_push n m js c r (omega arith) u)

pub worth_pop : (n m : ℕ) (js : List ℕ) (j c : ℕ) → length js < m → worth n m js j < worth n m (js ++ (j ∷ [])) c
worth_pop n zero js j c l = absurd (omega arith)
worth_pop n (suc m) [] j c l = omega arith
worth_pop n (suc m) (k ∷ js) j c l = omega (arith, worth_pop n m js j c (omega arith))
