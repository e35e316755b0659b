-- From one state of a run of characters to another: the states that wait for a pattern wait for its bytes, and the first byte of a pattern decides how it goes on.
-- Assumes nothing.
use Prim.Native.Nat.{ℕ, suc, ◌+◌, ◌≤◌, ◌<◌}
use native.Mathlib.Omega.{arith}
use mathlib.Core.Path.{◌≡◌, refl, sym, ◌∙◌, ap, subst}
use mathlib.Core.Bool.{Bool, true, false, cond}
use mathlib.Core.List.{List, [], ◌∷◌}
use mathlib.Core.Option.{none, some}
use borrow.Author.Tests.{ne_eqb}
use lib.Dec.{eqb}
use lib.ListN.{length, get_or, drop}
use lib.Seq.{drop-cons}
use Rattle.paper.specs.Xml.{Pattern, done, one, is_done, after, say, Frame, Mode, State, stands, run, partly, goes_on, step_mode, left_out, left_out_anywhere}
use Rattle.xml_bytes.specs.Seeking.{Sought, settled}
use Rattle.std.specs.Prelude.{Ok, Err}
use Rattle.paper.specs.declared.Refusal.{Refusal}
use Rattle.paper.specs.declared.Refusal.TheVariants.{NoXml, LeftOut}
use Rattle.xml_bytes.specs.Promised.{Reach, state, seek_at, reached, Between, refusal_at, row_of, Reads, calm, all_calm, spelling}
use Rattle.xml_runs.specs.Runs.{Crosses}
use Rattle.xml_bytes.proofs.Rows.{CalmSet, CalmSets, landed, row_goes, reads_bounds, exactly_between, word_calm, ones, say_ones}
use Rattle.xml_bytes.proofs.Steps.{opens_not, Calm, is_calm, Waits, text_ends, opens_here, steps_on, no_step, refused_here, wait_ends, wait_over, wait_refused}

-- The state of a run that waits for a pattern; where nothing must come, the run goes on.
abbrev pub held : ℕ → List Frame → Pattern → State
held begin frames p = cond (is_done p) (state (run begin 0) frames) (state (partly begin p) frames)

goes_held : (begin : ℕ) (frames : List Frame) (p : Pattern) → goes_on begin frames (some p) ≡ some (held begin frames p)
goes_held begin frames p = go (is_done p)
  where
    go : (b : Bool) → cond b (stands (run begin 0) frames) (stands (partly begin p) frames) ≡ some (cond b (state (run begin 0) frames) (state (partly begin p) frames))
    go true = refl
    go false = refl

-- A state that waits for one byte of a set.
wait_one : (begin at : ℕ) (frames : List Frame) (set : ℕ → Bool) (p : Pattern) → Waits (state (partly begin (one set p)) frames) at set (held begin frames p)
unfolding left_out
wait_one begin at frames set p = record { unsettled = λ bs. refl; goes = λ b. go (set b); opens = λ bs. refl }
  where
    go : (t : Bool) → goes_on begin frames (cond t (some p) none) ≡ cond t (some (held begin frames p)) none
    go true = goes_held begin frames p
    go false = refl

-- CROSSING.
module _ (text : List ℕ) (at : ℕ) where
  -- A row of bytes, at least one.
  pub cross_row : (set : ℕ → Bool) (sets : List (ℕ → Bool)) (r : Reach) → CalmSet set → CalmSets sets → at ≤ length text → Reads text at (set ∷ sets) r
      → Crosses text at (λ begin. partly begin (ones (set ∷ sets) done)) (λ begin. run begin 0) r
  cross_row set sets r first calm l h =
      record {
        goes = λ begin frames. row_goes text (waiting begin frames)
            (λ n x rest m. wait_ends text n x (waiting_for begin frames (x ∷ rest)) (waiting_for begin frames rest) (wait_one begin n frames x (ones rest done)) m)
            (λ n x rest inside t c. wait_over text n x (waiting_for begin frames (x ∷ rest)) (waiting_for begin frames rest) (wait_one begin n frames x (ones rest done)) inside t c)
            (λ n x rest inside t. wait_refused text n x (waiting_for begin frames (x ∷ rest)) (waiting_for begin frames rest) (wait_one begin n frames x (ones rest done)) (waiting_for begin frames []) inside t
            ∙ as_reached begin frames (Err (refusal_at (left_out_anywhere (drop n text)) n)))
            at (set ∷ sets) (first, calm)
            ∙ sym (as_reached begin frames (row_of at (set ∷ sets) (drop at text))) ∙ ap (reached text (waiting_for begin frames [])) (sym h.comes);
        bounds = exactly_between (at + suc (length sets)) (suc at) (length text) r (omega arith) (reads_bounds text at (set ∷ sets) r l h);
      }
    where
      waiting_for : ℕ → List Frame → List (ℕ → Bool) → State
      waiting_for begin frames rest = held begin frames (ones rest done)

      waiting : ℕ → List Frame → ℕ → List (ℕ → Bool) → Sought
      waiting begin frames n rest = seek_at text n (waiting_for begin frames rest)

      as_reached : (begin : ℕ) (frames : List Frame) (q : Reach) → reached text (waiting_for begin frames []) q ≡ landed (λ to. waiting begin frames to []) q
      as_reached begin frames (Ok to) = refl
      as_reached begin frames (Err why) = refl

  -- The text ends where a pattern must go on.
  pub cross_ends : (p : Pattern) (after : ℕ → Mode) → length text ≤ at → at ≤ length text → Crosses text at (λ begin. partly begin p) after (Err (NoXml at))
  cross_ends p after l m = record { goes = λ begin frames. text_ends text at (state (partly begin p) frames) l refl; bounds = m }

  module _ (inside : at < length text) where
    -- The first byte leads to a state from which the rest crosses.
    pub cross_on : (before mid behind : ℕ → Mode) (r : Reach) → ((begin : ℕ) (frames : List Frame) → settled (before begin) at frames (drop at text) ≡ none)
        → ((begin : ℕ) → left_out (before begin) (drop at text) ≡ false)
        → ((begin : ℕ) (frames : List Frame) → step_mode (before begin) at frames (get_or text at 0) ≡ stands (mid begin) frames)
        → Crosses text (at + 1) mid behind r → Crosses text at before behind r
    cross_on before mid behind r still opens goes h =
        let e : suc at ≡ at + 1 = omega arith in
        record {
          goes = λ begin frames. steps_on text at (state (before begin) frames) inside (still begin frames) (state (mid begin) frames) (opens begin) (goes begin frames)
              ∙ ap (λ n. seek_at text n (state (mid begin) frames)) e ∙ h.goes begin frames;
          bounds = wider r h.bounds;
        }
      where
        wider : (r : Reach) → Between (suc (at + 1)) (length text) r → Between (suc at) (length text) r
        wider (Ok to) b = (omega (arith, b.0), b.1)
        wider (Err why) b = b

    pub pattern_on : (p q : Pattern) (r : Reach) → Calm (get_or text at 0) → after p (get_or text at 0) ≡ some q → is_done q ≡ false
        → Crosses text (at + 1) (λ begin. partly begin q) (λ begin. run begin 0) r → Crosses text at (λ begin. partly begin p) (λ begin. run begin 0) r
    unfolding left_out
    pattern_on p q r calm e more h =
        cross_on (λ begin. partly begin p) (λ begin. partly begin q) (λ begin. run begin 0) r (λ begin frames. refl) (λ begin. opens_not text at inside calm)
        (λ begin frames. ap (goes_on begin frames) e ∙ rw more) h

    -- In a run no piece ends before another byte than `<`.
    pub run_still : (get_or text at 0 ≡ 60 → ⊥) → (begin k : ℕ) (frames : List Frame) → settled (run begin k) at frames (drop at text) ≡ none
    run_still other begin k [] = refl
    run_still other begin k (f ∷ fs) = rw (drop-cons text at 0 inside, ne_eqb 60 (get_or text at 0) (λ e. other (sym e)))

    -- In a run the byte begins a pattern.
    pub run_on : (k : ℕ) (q : Pattern) (r : Reach) → (get_or text at 0 ≡ 60 → ⊥) → left_out_anywhere (drop at text) ≡ false
        → ((begin : ℕ) (frames : List Frame) → step_mode (run begin k) at frames (get_or text at 0) ≡ stands (partly begin q) frames)
        → Crosses text (at + 1) (λ begin. partly begin q) (λ begin. run begin 0) r → Crosses text at (λ begin. run begin k) (λ begin. run begin 0) r
    unfolding left_out
    run_on k q r other opens goes h =
        cross_on (λ begin. run begin k) (λ begin. partly begin q) (λ begin. run begin 0) r (λ begin. run_still other begin k) (λ begin. opens) goes h

    -- In a run the byte is a character.
    pub run_by : (k k' to : ℕ) → Calm (get_or text at 0) → to ≡ at + 1 → ((begin : ℕ) (frames : List Frame) → step_mode (run begin k) at frames (get_or text at 0) ≡ stands (run begin k') frames)
        → Crosses text at (λ begin. run begin k) (λ begin. run begin k') (Ok to)
    unfolding left_out
    run_by k k' to calm e goes =
        let next : suc at ≡ to = omega arith in
        record {
          goes = λ begin frames. steps_on text at (state (run begin k) frames) inside (run_still calm.no_tag begin k frames) (state (run begin k') frames) (opens_not text at inside calm) (goes begin frames)
              ∙ ap (λ n. seek_at text n (state (run begin k') frames)) next;
          bounds = (omega arith, omega arith);
        }

    -- In a run no wanted text goes on with the byte, or a reference opens that is left out.
    pub run_stuck : (k : ℕ) (behind : ℕ → Mode) → Calm (get_or text at 0) → ((begin : ℕ) (frames : List Frame) → step_mode (run begin k) at frames (get_or text at 0) ≡ none)
        → Crosses text at (λ begin. run begin k) behind (Err (NoXml at))
    unfolding left_out
    run_stuck k behind calm goes =
        record {
          goes = λ begin frames. no_step text at (state (run begin k) frames) inside (run_still calm.no_tag begin k frames) (opens_not text at inside calm) (goes begin frames);
          bounds = omega arith;
        }

    pub run_left_out : (k : ℕ) (behind : ℕ → Mode) → (get_or text at 0 ≡ 60 → ⊥) → left_out_anywhere (drop at text) ≡ true → Crosses text at (λ begin. run begin k) behind (Err (LeftOut at))
    unfolding left_out
    run_left_out k behind other opens =
        record {
          goes = λ begin frames. opens_here text at (state (run begin k) frames) inside (run_still other begin k frames) opens;
          bounds = omega arith;
        }

    -- No pattern goes on with the byte.
    pub pattern_refused : (p : Pattern) (behind : ℕ → Mode) (why : Refusal) → after p (get_or text at 0) ≡ none → why ≡ refusal_at (left_out_anywhere (drop at text)) at
        → Crosses text at (λ begin. partly begin p) behind (Err why)
    unfolding left_out
    pattern_refused p behind why e s =
        record {
          goes = λ begin frames. refused_here text at (state (partly begin p) frames) inside refl (state (behind begin) frames) refl (ap (goes_on begin frames) e)
              ∙ ap (λ (r : Refusal). reached text (state (behind begin) frames) (Err r)) (sym s);
          bounds = rw s (go (left_out_anywhere (drop at text)));
        }
      where
        go : (opens : Bool) → Between (suc at) (length text) (Err (refusal_at opens at))
        go true = omega arith
        go false = omega arith

    -- Two patterns that go on alike.
    pub pattern_same : (p q : Pattern) (behind : ℕ → Mode) (r : Reach) → after p (get_or text at 0) ≡ after q (get_or text at 0)
        → Crosses text at (λ begin. partly begin q) behind r → Crosses text at (λ begin. partly begin p) behind r
    unfolding left_out
    pattern_same p q behind r e h =
        record {
          goes = λ begin frames. same_way begin frames ∙ h.goes begin frames;
          bounds = h.bounds;
        }
      where
        same_way : (begin : ℕ) (frames : List Frame) → seek_at text at (state (partly begin p) frames) ≡ seek_at text at (state (partly begin q) frames)
        same_way begin frames = rw (drop-cons text at 0 inside, e)

-- A KNOWN BYTE leads to a pattern, or to a word.
module _ (text : List ℕ) (at : ℕ) (inside : at < length text) (p : Pattern) (n : ℕ) (r : Reach) (here : get_or text at 0 ≡ n) (calm-here : calm n ≡ true) where
  pub byte_on : (q : Pattern) → after p n ≡ some q → is_done q ≡ false → Crosses text (at + 1) (λ begin. partly begin q) (λ begin. run begin 0) r
      → Crosses text at (λ begin. partly begin p) (λ begin. run begin 0) r
  byte_on q e more h = pattern_on text at inside p q r (subst Calm (sym here) (is_calm n calm-here)) (ap (after p) here ∙ e) more h

  pub word_on : (b : ℕ) (word : List ℕ) → after p n ≡ some (say (b ∷ word) done) → all_calm (b ∷ word) ≡ true → Reads text (at + 1) (spelling (b ∷ word)) r
      → Crosses text at (λ begin. partly begin p) (λ begin. run begin 0) r
  word_on b word e calm h =
      let sets = word_calm (b ∷ word) calm in
      byte_on (say (b ∷ word) done) e refl (rw (say_ones word done) (cross_row text (at + 1) (eqb b) (spelling word) r sets.0 sets.1 (omega arith) h))
