-- Each promise of looking ahead leaves one answer: it is made of the tokens from the place on, and the cursor past them of where they end. Assumes nothing.
use Prim.Native.Nat.{ℕ}
use mathlib.Core.Path.{◌≡◌, refl, sym, ◌∙◌, ap, ap₂, subst}
use mathlib.Core.Bool.{Bool, true, false, ◌&&◌, ◌||◌, cond}
use mathlib.Core.List.{List}
use mathlib.Core.Option as maybe
use mathlib.Core.Option.{none, some}
use mathlib.Core.Logic.{inl, inr}
use lib.ListN.{drop}
use Rattle.paper.specs.Tools.{ascii}
use Rattle.paper.specs.Tokens as paper
use Rattle.paper.specs.Tokens.{Placed}
use Rattle.paper.specs.Query.{Axis}
use Rattle.paper.specs.Items.{axis_number}
use Rattle.paper.specs.Reading.{next, at, sees, says, axis_ahead, starts_step}
use Rattle.token.specs.declared.Cursor.{Cursor}
use Rattle.std.specs.Prelude.{Option, Some, None, Result, Ok, Err}
use Rattle.marks.specs.declared.There.{There}
use Rattle.ahead.specs.declared.Joint.{Joint}
use Rattle.ahead.specs.declared.Lead.{Lead}
use Rattle.ahead.specs.declared.Lead.TheVariants.{Alone, Before}
use Rattle.ahead.specs.declared.Opens.{Opens}
use Rattle.ahead.specs.declared.Opens.TheVariants.{Not, Round, Path}
use Rattle.ahead.specs.declared.AxisAhead.{AxisAhead}
use Rattle.ahead.specs.declared.Call.{Call}
use Rattle.marks.specs.Marks.{tokens_at, end_of, Past, Looks}
use Rattle.ahead.specs.Looking.{Slashed, Joins, Leads, Begins, Axes, call_code, Calls}

-- The cursor where the next token ends.
abbrev after : List Placed → Cursor
after ts = record { at = end_of ts }

after_made : (past : Cursor) (ts : List Placed) → past.at ≡ end_of ts → past ≡ after ts
after_made past ts e = ap (λ n. record { at = n }) e

module _ (text : List ℕ) (from : ℕ) where
  abbrev here : List Placed
  here = tokens_at text from

  past_made : (past : Cursor) → Past text from past.at → past ≡ after here
  past_made past p = after_made past here p.ends

  -- MARKS AND WORDS.
  looks_made : (test : Bool) (r : Result There ℕ) → Looks text from test r → r ≡ cond test (Ok (record { place = at here; next = after here })) (Err (at here))
  looks_made test (Ok there) h = rw h.0 (ap₂ (λ (p : ℕ) (c : Cursor). Ok (record { place = p; next = c })) h.1 (past_made there.next h.2))
  looks_made test (Err place) h = rw h.0 (ap Err h.1)

  pub looks_unique : (test : Bool) (r s : Result There ℕ) → Looks text from test r → Looks text from test s → r ≡ s
  looks_unique test r s p q = looks_made test r p ∙ sym (looks_made test s q)

  -- PATHS AND OPERANDS.
  joins_made : (r : Result Joint ℕ) → Joins text from r
      → r
      ≡ cond (sees paper.slash here) (Ok (record { next = after here; deep = false }))
      (cond (sees paper.slashes here) (Ok (record { next = after here; deep = true })) (Err (at here)))
  joins_made (Ok joint) h = go joint.deep joint.next h
    where
      go : (deep : Bool) (past : Cursor) → Slashed text from deep past.at
          → ◌≡◌ {A = Result Joint ℕ} (Ok (record { next = past; deep = deep }))
          (cond (sees paper.slash here) (Ok (record { next = after here; deep = false }))
          (cond (sees paper.slashes here) (Ok (record { next = after here; deep = true })) (Err (at here))))
      go true past j = rw (j.single, j.double) (ap (λ (c : Cursor). Ok (record { next = c; deep = true })) (past_made past j.passed))
      go false past j = rw j.single (ap (λ (c : Cursor). Ok (record { next = c; deep = false })) (past_made past j.passed))
  joins_made (Err spot) h = rw (h.0, h.1) (ap Err h.2)

  pub joined_unique : (r s : Result Joint ℕ) → Joins text from r → Joins text from s → r ≡ s
  joined_unique r s p q = joins_made r p ∙ sym (joins_made s q)

  -- Does a step begin where the next token ends?
  abbrev step_after : Bool
  step_after = starts_step (next (tokens_at text (end_of here)))

  step_made : (past : ℕ) (b : Bool) → Past text from past → starts_step (next (tokens_at text past)) ≡ b → step_after ≡ b
  step_made past b p h = subst (λ n. starts_step (next (tokens_at text n)) ≡ b) p.ends h

  abbrev lead_answer : Result Lead ℕ
  lead_answer =
      cond (sees paper.slashes here) (Ok (Before (record { next = after here; deep = true })))
      (cond (sees paper.slash here) (cond step_after (Ok (Before (record { next = after here; deep = false }))) (Ok (Alone (after here)))) (Err (at here)))

  leads_made : (r : Result Lead ℕ) → Leads text from r → r ≡ lead_answer
  leads_made (Ok (Alone past)) h =
      let j = h.0 in
      rw (j.double, j.single, step_made past.at false j.passed h.1) (ap (λ (c : Cursor). Ok (Alone c)) (past_made past j.passed))
  leads_made (Ok (Before joint)) h = go joint.deep joint.next h.0 h.1
    where
      go : (deep : Bool) (past : Cursor) → Slashed text from deep past.at → (deep || starts_step (next (tokens_at text past.at))) ≡ true
          → ◌≡◌ {A = Result Lead ℕ} (Ok (Before (record { next = past; deep = deep }))) lead_answer
      go true past j k = rw j.double (ap (λ (c : Cursor). Ok (Before (record { next = c; deep = true }))) (past_made past j.passed))
      go false past j k =
          rw (j.double, j.single, step_made past.at true j.passed k)
          (ap (λ (c : Cursor). Ok (Before (record { next = c; deep = false }))) (past_made past j.passed))
  leads_made (Err spot) h = rw (h.1, h.0) (ap Err h.2)

  pub path_lead_unique : (r s : Result Lead ℕ) → Leads text from r → Leads text from s → r ≡ s
  path_lead_unique r s p q = leads_made r p ∙ sym (leads_made s q)

  begins_made : (r : Opens) → Begins text from r
      → r
      ≡ cond (says (ascii "not") here && sees paper.open_round (drop 1 here)) (Not (record { place = at (drop 1 here); next = after (drop 1 here) }))
      (cond (sees paper.open_round here) (Round (record { place = at here; next = after here })) Path)
  begins_made (Not round) h =
      rw (h.says_not, h.first.rest, h.opens)
      (ap₂ (λ (p : ℕ) (c : Cursor). Not (record { place = p; next = c })) h.place (after_made round.next (tokens_at text h.word) h.second.ends))
  begins_made (Round round) h = rw (h.0, h.1) (ap₂ (λ (p : ℕ) (c : Cursor). Round (record { place = p; next = c })) h.2 (past_made round.next h.3))
  begins_made Path h = rw (h.0, h.1)

  pub opening_unique : (r s : Opens) → Begins text from r → Begins text from s → r ≡ s
  opening_unique r s p q = begins_made r p ∙ sym (begins_made s q)

  -- AXES AND TESTS.
  abbrev axis_answer : maybe.Option Axis → Option AxisAhead
  axis_answer none = None
  axis_answer (some a) = Some (record { axis = axis_number a; next = after (drop 1 here) })

  axes_made : (r : Option AxisAhead) → Axes text from r → r ≡ axis_answer (axis_ahead here)
  axes_made (Some ahead) h =
      rw h.ahead (ap₂ (λ (n : ℕ) (c : Cursor). Some (record { axis = n; next = c })) h.number (after_made ahead.next (drop 1 here) h.ends))
  axes_made None h = rw h

  pub axis_ahead_unique : (r s : Option AxisAhead) → Axes text from r → Axes text from s → r ≡ s
  axis_ahead_unique r s p q = axes_made r p ∙ sym (axes_made s q)

  abbrev call_answer : Option ℕ → Bool → Option Call
  call_answer (Some test) true = Some (record { test = test; next = after here })
  call_answer (Some test) false = None
  call_answer None round = None

  no_call : (o : Option ℕ) → call_answer o false ≡ None
  no_call (Some test) = refl
  no_call None = refl

  calls_made : (word : List ℕ) (r : Option Call) → Calls text word from r → r ≡ call_answer (call_code word) (sees paper.open_round here)
  calls_made word (Some call) h = rw (h.0, h.2) (ap (λ (c : Cursor). Some (record { test = call.test; next = c })) (past_made call.next h.3))
  calls_made word None (inl none-called) = rw none-called
  calls_made word None (inr closed) = rw closed (sym (no_call (call_code word)))

  pub test_call_unique : (word : List ℕ) (r s : Option Call) → Calls text word from r → Calls text word from s → r ≡ s
  test_call_unique word r s p q = calls_made word r p ∙ sym (calls_made word s q)
