-- The head that was read is the one that the tokens alone make: one law for each way that reading ends. Assumes nothing.
use Prim.Native.Nat.{ℕ, ◌+◌}
use native.Mathlib.Omega.{arith}
use mathlib.Core.Path.{◌≡◌, refl, sym, ◌∙◌, ap}
use mathlib.Core.Bool.{Bool, true, false}
use mathlib.Core.List.{List, []}
use mathlib.Core.Option.{Option, none, some}
use Rattle.std.specs.Prelude.{Result, Some, None, Ok, Err}
use Rattle.std.specs.Prelude.{Option as CodeOption}
use mathlib.Core.Logic.{◌⊎◌, inl, inr}
use lib.ListN.{drop}
use lib.Seq.{drop-drop}
use borrow.Author.Tests.{eq-eqb, ne_eqb}
use Rattle.paper.specs.Tokens as paper
use Rattle.paper.specs.Tokens.{Placed, sort, letters}
use Rattle.paper.specs.Query.{child, any_element}
use Rattle.paper.specs.Items.{axis_number, test_number, named_from}
use Rattle.paper.specs.Reading.{next, at, sees, axis_ahead}
use Rattle.token.specs.declared.Cursor.{Cursor}
use Rattle.paper.specs.declared.Refusal.{Refusal}
use Rattle.paper.specs.declared.Refusal.TheVariants.{NoQuery, UnknownName}
use Rattle.marks.specs.Marks.{tokens_at, Past}
use Rattle.ahead.specs.Looking.{AxisWritten, call_code, Calls}
use Rattle.heads.specs.declared.Head.{Head}
use Rattle.heads.specs.declared.Head.TheVariants.{Tested}
use Rattle.heads.specs.Heads.{dotted_head, after, closed_head, named_head, called_head, tested_head, step_head}

past_made : (text : List ℕ) (from : ℕ) (past : Cursor) → Past text from past.at → past ≡ after (tokens_at text from)
past_made text from past p = ap (λ n. record { at = n }) p.ends

closes_made : (text : List ℕ) (from axis test : ℕ) (past : Cursor) → sees paper.close_round (tokens_at text from) ≡ true → Past text from past.at
    → Ok (Tested axis test past) ≡ closed_head axis test (tokens_at text from)
closes_made text from axis test past c p = rw c (ap (λ (n : Cursor). Ok (Tested axis test n)) (past_made text from past p))

unclosed_made : (text : List ℕ) (from axis test place : ℕ) → sees paper.close_round (tokens_at text from) ≡ false → place ≡ at (tokens_at text from)
    → Err (NoQuery place) ≡ closed_head axis test (tokens_at text from)
unclosed_made text from axis test place c e = rw c (ap (λ (n : ℕ). Err (NoQuery n)) e)

no_round : (o : CodeOption ℕ) (named : Option ℕ) (axis : ℕ) (ts : List Placed) → (o ≡ None) ⊎ (sees paper.open_round (drop 1 ts) ≡ false) → called_head o named axis ts ≡ named_head named axis ts
no_round o named axis ts (inl e) = rw e
no_round (Some test) named axis ts (inr e) = rw e
no_round None named axis ts (inr e) = refl

-- THE TEST.
module _ (look : List ℕ → Option ℕ) (text : List ℕ) (from axis : ℕ) where
  pub star_made : (past : Cursor) → sees paper.star (tokens_at text from) ≡ true → Past text from past.at → Ok (Tested axis (test_number any_element) past) ≡ tested_head look axis (tokens_at text from)
  unfolding tested_head
  star_made past s p = rw s (ap (λ (n : Cursor). Ok (Tested axis (test_number any_element) n)) (past_made text from past p))

  pub wrong_made : (place : ℕ) → sees paper.star (tokens_at text from) ≡ false → sees (paper.word []) (tokens_at text from) ≡ false → place ≡ at (tokens_at text from)
      → Err (NoQuery place) ≡ tested_head look axis (tokens_at text from)
  unfolding tested_head
  wrong_made place s w e = rw (s, w) (ap (λ (n : ℕ). Err (NoQuery n)) e)

  -- A word: it is no `*`.
  module _ (w : List ℕ) (past : Cursor) (is : sort (next (tokens_at text from)) ≡ 13) (l : letters (next (tokens_at text from)) ≡ w) (p : Past text from past.at) where
    no_star : sees paper.star (tokens_at text from) ≡ false
    no_star = ne_eqb 10 (sort (next (tokens_at text from))) (λ e. omega arith)

    a_word : sees (paper.word []) (tokens_at text from) ≡ true
    a_word = eq-eqb 13 (sort (next (tokens_at text from))) (sym is)

    module _ (test inner : ℕ) (code : call_code w ≡ Some test) (opens : sees paper.open_round (tokens_at text past.at) ≡ true) (q : Past text past.at inner) where
      call_made : tested_head look axis (tokens_at text from) ≡ closed_head axis test (tokens_at text inner)
      unfolding tested_head
      call_made =
          let two : drop 2 (tokens_at text from) ≡ tokens_at text inner = sym (drop-drop 1 1 (tokens_at text from)) ∙ ap (drop 1) p.rest ∙ q.rest in
          rw (no_star, a_word, l, code, p.rest, opens, two)

      pub closed_made : (next : Cursor) → sees paper.close_round (tokens_at text inner) ≡ true → Past text inner next.at → Ok (Tested axis test next) ≡ tested_head look axis (tokens_at text from)
      closed_made next c e = closes_made text inner axis test next c e ∙ sym call_made

      pub open_made : (place : ℕ) → sees paper.close_round (tokens_at text inner) ≡ false → place ≡ at (tokens_at text inner) → Err (NoQuery place) ≡ tested_head look axis (tokens_at text from)
      open_made place c e = unclosed_made text inner axis test place c e ∙ sym call_made

    module _ (none-called : Calls text w past.at None) where
      word_made : tested_head look axis (tokens_at text from) ≡ named_head (look w) axis (tokens_at text from)
      unfolding tested_head
      word_made =
          let none : called_head (call_code w) (look w) axis (tokens_at text from) ≡ named_head (look w) axis (tokens_at text from) =
          no_round (call_code w) (look w) axis (tokens_at text from) (rw p.rest none-called) in
          rw (no_star, a_word, l) none

      pub name_made : (v : ℕ) → look w ≡ some v → Ok (Tested axis (v + named_from) past) ≡ tested_head look axis (tokens_at text from)
      name_made v h = sym (word_made ∙ rw h (ap (λ (n : Cursor). Ok (Tested axis (v + named_from) n)) (sym (past_made text from past p))))

      pub unknown_made : (place : ℕ) → look w ≡ none → place ≡ at (tokens_at text from) → Err (UnknownName place) ≡ tested_head look axis (tokens_at text from)
      unknown_made place h e = sym (word_made ∙ rw h (ap (λ (n : ℕ). Err (UnknownName n)) (sym e)))

-- THE HEAD.
module _ (newer : Bool) (look : List ℕ → Option ℕ) (text : List ℕ) (from : ℕ) where
  pub dot_made : (past : Cursor) (r : Head) → r ≡ dotted_head newer 0 past → sees paper.dot (tokens_at text from) ≡ true → Past text from past.at → Ok r ≡ step_head newer look (tokens_at text from)
  unfolding step_head
  dot_made past r e s p = ap (λ (h : Head). Ok h) e ∙ rw s (ap (λ (n : Cursor). Ok (dotted_head newer 0 n)) (past_made text from past p))

  pub dots_made : (past : Cursor) (r : Head) → r ≡ dotted_head newer 2 past → sees paper.dot (tokens_at text from) ≡ false → sees paper.dots (tokens_at text from) ≡ true
      → Past text from past.at → Ok r ≡ step_head newer look (tokens_at text from)
  unfolding step_head
  dots_made past r e d s p = ap (λ (h : Head). Ok h) e ∙ rw (d, s) (ap (λ (n : Cursor). Ok (dotted_head newer 2 n)) (past_made text from past p))

  module _ (no_dot : sees paper.dot (tokens_at text from) ≡ false) (no_dots : sees paper.dots (tokens_at text from) ≡ false) (r : Result Head Refusal) where
    pub axis_made : (axis past : ℕ) (w : AxisWritten text from axis past) → r ≡ tested_head look axis (tokens_at text past) → r ≡ step_head newer look (tokens_at text from)
    unfolding step_head
    axis_made axis past w h = h ∙ ap (λ (n : ℕ). tested_head look n (tokens_at text past)) w.number ∙ sym (rw (no_dot, no_dots, w.ahead, w.rest))

    pub child_made : axis_ahead (tokens_at text from) ≡ none → r ≡ tested_head look (axis_number child) (tokens_at text from) → r ≡ step_head newer look (tokens_at text from)
    unfolding step_head
    child_made n h = h ∙ sym (rw (no_dot, no_dots, n))
