-- The head of a step: its axis, its test, and what the paper's reader makes of them. Assumes nothing.
use Prim.Native.Nat.{ℕ, ◌+◌, ◌≤◌, ◌<◌}
use native.Mathlib.Omega.{arith}
use mathlib.Core.Path.{◌≡◌, refl, sym, ◌∙◌, ap, subst}
use mathlib.Core.Bool.{Bool, true, false, ◌&&◌, cond}
use mathlib.Core.List.{List, []}
use mathlib.Core.Option.{Option, none, some}
use Rattle.std.specs.Prelude.{Result, Some, None, Ok, Err}
use mathlib.Core.Logic.{⊎_elim}
use lib.ListN.{length, drop}
use lib.Seq.{drop-drop}
use borrow.Author.Tests.{eq-eqb, ne_eqb}
use Rattle.paper.proofs.Axes.{axis_below}
use Rattle.paper.specs.Limits.{names_limit}
use Rattle.paper.specs.Tools.{ascii, same}
use Rattle.paper.specs.Tokens as paper
use Rattle.paper.specs.Tokens.{Placed, sort, letters}
use Rattle.paper.specs.Query.{Axis, self, child, parent, Test, any_node, text_node, named, any_element, Expr}
use Rattle.paper.specs.Items.{axis_number, test_number, named_from, axis_bound}
use Rattle.paper.specs.Reading.{Got, got, refused, then, next, at, sees, says, axis_ahead, Step, read_name, read_tested, read_dot, read_step, read_tail}
use Rattle.paper.proofs.Tests.{decide}
use Rattle.token.specs.declared.Cursor.{Cursor}
use Rattle.marks.specs.Marks.{tokens_at, Past}
use Rattle.ahead.specs.Looking.{AxisWritten, call_code, Calls}
use Rattle.heads.specs.declared.Head.{Head}
use Rattle.heads.specs.declared.Head.TheVariants.{Plain, Tested}
use Rattle.paper.specs.declared.Refusal.{Refusal}
use Rattle.heads.specs.Heads.{TestedStep, dotted_head, Heads}

-- The number of an axis fits into an item.
pub axis_small : (a : Axis) (n : ℕ) → n ≡ axis_number a → n < axis_bound
axis_small a n e = omega (arith, axis_below a)

-- Two tests joined fail if the second does.
and_false : (a : Bool) → (a && false) ≡ false
and_false true = refl
and_false false = refl

-- THE TEST.
some_test : (m n : ℕ) → ◌≡◌ (Some m) (Some n) → n ≡ m
some_test m n e = cc

abbrev Outcome : Type 0
Outcome = (ℕ → List Placed → Got Expr) → Got Step

module _ (newer : Bool) (look : List ℕ → Option ℕ) (text : List ℕ) (from axis : ℕ) (a : Axis) (number : axis ≡ axis_number a) where
  pub tested_star : (past : ℕ) → sees paper.star (tokens_at text from) ≡ true → Past text from past
      → TestedStep newer look text from axis (test_number any_element) past (λ within. read_tested newer look within a (tokens_at text from))
  unfolding read_tested
  tested_star past s p =
      record {
        way = a;
        kind = any_element;
        number = number;
        tested = refl;
        small = omega arith;
        reads = λ within. rw (s, p.rest);
        onward = p.onward;
        inside = p.inside;
        fewer = omega (arith, p.fewer);
      }

  -- Neither `*` nor a word.
  pub tested_wrong : (place : ℕ) → sees paper.star (tokens_at text from) ≡ false → sees (paper.word []) (tokens_at text from) ≡ false → letters (next (tokens_at text from)) ≡ []
      → place ≡ at (tokens_at text from) → (within : ℕ → List Placed → Got Expr) → read_tested newer look within a (tokens_at text from) ≡ refused 3 place
  unfolding read_tested
  tested_wrong place s w l e within =
      let call = sees paper.open_round (drop 1 (tokens_at text from)) in
      rw (s, l, and_false call, w, ← e)

  -- A word: the other tests fail first.
  module _ (w : List ℕ) (mid : ℕ) (is : sort (next (tokens_at text from)) ≡ 13) (l : letters (next (tokens_at text from)) ≡ w) (p : Past text from mid) where
    no_star : sees paper.star (tokens_at text from) ≡ false
    no_star = ne_eqb 10 (sort (next (tokens_at text from))) (λ e. omega arith)

    a_word : sees (paper.word []) (tokens_at text from) ≡ true
    a_word = eq-eqb 13 (sort (next (tokens_at text from))) (sym is)

    node : (b : Bool) → same (ascii "node") w ≡ b → says (ascii "node") (tokens_at text from) ≡ b
    node b h = ap (same (ascii "node")) l ∙ h

    text_too : (b : Bool) → same (ascii "text") w ≡ b → says (ascii "text") (tokens_at text from) ≡ b
    text_too b h = ap (same (ascii "text")) l ∙ h

    -- A test that is called.
    module _ (test inner : ℕ) (code : call_code w ≡ Some test) (few : test < 2) (opens : sees paper.open_round (tokens_at text mid) ≡ true) (q : Past text mid inner) where
      two : drop 2 (tokens_at text from) ≡ tokens_at text inner
      two = sym (drop-drop 1 1 (tokens_at text from)) ∙ ap (drop 1) p.rest ∙ q.rest

      record Called : Type 0 where
        pub kind : Test
        pub tested : test ≡ test_number kind
        pub reads : (within : ℕ → List Placed → Got Expr)
            → read_tested newer look within a (tokens_at text from) ≡ then (cond (sees paper.close_round (tokens_at text inner)) (got kind (drop 1 (tokens_at text inner))) (refused 3 (at (tokens_at text inner)))) (read_tail newer look within a)

      which : Called
      unfolding read_tested
      which =
          ⊎_elim
          (λ (h : same (ascii "node") w ≡ true). record { kind = any_node; tested = some_test 0 test (sym (let e : call_code w ≡ Some 0 = rw h in e) ∙ code); reads = λ within. rw (no_star, p.rest, opens, node true h, two) })
          (λ (h : same (ascii "node") w ≡ false).
          ⊎_elim
          (λ (k : same (ascii "text") w ≡ true). record { kind = text_node; tested = some_test 1 test (sym (let e : call_code w ≡ Some 1 = rw (h, k) in e) ∙ code); reads = λ within. rw (no_star, p.rest, opens, node false h, text_too true k, two) })
          (λ (k : same (ascii "text") w ≡ false). absurd (let e : call_code w ≡ None = rw (h, k) in let z : ◌≡◌ {A = ℕ} 0 1 = cc in omega arith))
          (decide (same (ascii "text") w)))
          (decide (same (ascii "node") w))

      pub tested_closed : (past : ℕ) → sees paper.close_round (tokens_at text inner) ≡ true → Past text inner past
          → TestedStep newer look text from axis test past (λ within. read_tested newer look within a (tokens_at text from))
      tested_closed past c e =
          record {
            way = a;
            kind = which.kind;
            number = number;
            tested = which.tested;
            small = omega (arith, few);
            reads = λ within. which.reads within ∙ rw (c, e.rest);
            onward = omega (arith, p.onward, q.onward, e.onward);
            inside = e.inside;
            fewer = omega (arith, p.fewer, q.fewer, e.fewer);
          }

      pub tested_unclosed : (place : ℕ) → sees paper.close_round (tokens_at text inner) ≡ false → place ≡ at (tokens_at text inner) → (within : ℕ → List Placed → Got Expr)
          → read_tested newer look within a (tokens_at text from) ≡ refused 3 place
      tested_unclosed place c e within = which.reads within ∙ rw (c, ← e)

    -- A name.
    module _ (none-called : Calls text w mid None) where
      named_next : (within : ℕ → List Placed → Got Expr) → read_tested newer look within a (tokens_at text from) ≡ read_name newer look within (look w) a (tokens_at text from)
      unfolding read_tested
      named_next within =
          ⊎_elim
          (λ (two : call_code w ≡ None).
          ⊎_elim
          (λ (h : same (ascii "node") w ≡ true). absurd (let e : call_code w ≡ Some 0 = rw h in let z : ◌≡◌ {A = ℕ} 0 1 = cc in omega arith))
          (λ (h : same (ascii "node") w ≡ false).
          ⊎_elim
          (λ (k : same (ascii "text") w ≡ true). absurd (let e : call_code w ≡ Some 1 = rw (h, k) in let z : ◌≡◌ {A = ℕ} 0 1 = cc in omega arith))
          (λ (k : same (ascii "text") w ≡ false). rw (no_star, node false h, text_too false k, and_false (sees paper.open_round (drop 1 (tokens_at text from))), a_word, l))
          (decide (same (ascii "text") w)))
          (decide (same (ascii "node") w)))
          (λ (closed : sees paper.open_round (tokens_at text mid) ≡ false). rw (no_star, p.rest, closed, a_word, l)) none-called

      pub tested_name : (v : ℕ) → look w ≡ some v → v < names_limit → TestedStep newer look text from axis (v + named_from) mid (λ within. read_tested newer look within a (tokens_at text from))
      tested_name v h small =
          record {
            way = a;
            kind = named v;
            number = number;
            tested = omega arith;
            small = omega arith;
            reads = λ within. named_next within ∙ rw (h, p.rest);
            onward = p.onward;
            inside = p.inside;
            fewer = omega (arith, p.fewer);
          }

      pub tested_unknown : (place : ℕ) → look w ≡ none → place ≡ at (tokens_at text from) → (within : ℕ → List Placed → Got Expr) → read_tested newer look within a (tokens_at text from) ≡ refused 5 place
      tested_unknown place h e within = named_next within ∙ rw (h, ← e)

-- THE HEAD. What is read from a later place on is what is read from here.
heads_from : (newer : Bool) (look : List ℕ → Option ℕ) (text : List ℕ) (from mid : ℕ) (o p : Outcome) (r : Result Head Refusal) → ((within : ℕ → List Placed → Got Expr) → o within ≡ p within) → from ≤ mid
    → length (tokens_at text mid) ≤ length (tokens_at text from) → Heads newer look text mid p r → Heads newer look text from o r
heads_from newer look text from mid o p (Ok (Plain axis past)) e l f h =
    record {
      way = h.way;
      number = h.number;
      reads = λ within. e within ∙ h.reads within;
      onward = omega (arith, h.onward);
      inside = h.inside;
      fewer = omega (arith, h.fewer);
    }
heads_from newer look text from mid o p (Ok (Tested axis test past)) e l f h =
    record {
      way = h.way;
      kind = h.kind;
      number = h.number;
      tested = h.tested;
      small = h.small;
      reads = λ within. e within ∙ h.reads within;
      onward = omega (arith, h.onward);
      inside = h.inside;
      fewer = omega (arith, h.fewer);
    }
heads_from newer look text from mid o p (Err why) e l f h = λ within.
    let r = h within in
    record { number = r.number; place = r.place; told = r.told; is = e within ∙ r.is }

pub dotted_on : (newer : Bool) (axis : ℕ) (past : Cursor) → newer ≡ true → Tested axis (test_number any_node) past ≡ dotted_head newer axis past
dotted_on newer axis past n = rw n

pub dotted_off : (newer : Bool) (axis : ℕ) (past : Cursor) → newer ≡ false → Plain axis past ≡ dotted_head newer axis past
dotted_off newer axis past n = rw n

-- `.` and `..`, of which the reader knows the axis a: by version 2 their predicates follow, by version 1 none.
dotted-head : (newer : Bool) (look : List ℕ → Option ℕ) (text : List ℕ) (from axis : ℕ) (a : Axis) (past : Cursor) (o : Outcome) → axis ≡ axis_number a
    → ((within : ℕ → List Placed → Got Expr) → o within ≡ read_dot newer look within a (tokens_at text past.at)) → Past text from past.at
    → Heads newer look text from o (Ok (dotted_head newer axis past))
dotted-head true look text from axis a past o number s p =
    record {
      way = a;
      kind = any_node;
      number = number;
      tested = refl;
      small = omega arith;
      reads = s;
      onward = p.onward;
      inside = p.inside;
      fewer = omega (arith, p.fewer);
    }
dotted-head false look text from axis a past o number s p =
    record {
      way = a;
      number = number;
      reads = s;
      onward = p.onward;
      inside = p.inside;
      fewer = omega (arith, p.fewer);
    }

module _ (newer : Bool) (look : List ℕ → Option ℕ) (text : List ℕ) (from : ℕ) where
  pub head_dot : (past : Cursor) (r : Head) → r ≡ dotted_head newer 0 past → sees paper.dot (tokens_at text from) ≡ true → Past text from past.at
      → Heads newer look text from (λ within. read_step newer look within (tokens_at text from)) (Ok r)
  unfolding read_step
  head_dot past r e s p =
      subst (λ h. Heads newer look text from (λ within. read_step newer look within (tokens_at text from)) (Ok h)) (sym e)
      (dotted-head newer look text from 0 self past _ refl (λ within. rw (s, p.rest)) p)

  pub head_dots : (past : Cursor) (r : Head) → r ≡ dotted_head newer 2 past → sees paper.dot (tokens_at text from) ≡ false → sees paper.dots (tokens_at text from) ≡ true
      → Past text from past.at → Heads newer look text from (λ within. read_step newer look within (tokens_at text from)) (Ok r)
  unfolding read_step
  head_dots past r e d s p =
      subst (λ h. Heads newer look text from (λ within. read_step newer look within (tokens_at text from)) (Ok h)) (sym e)
      (dotted-head newer look text from 2 parent past _ refl (λ within. rw (d, s, p.rest)) p)

  module _ (no_dot : sees paper.dot (tokens_at text from) ≡ false) (no_dots : sees paper.dots (tokens_at text from) ≡ false) (r : Result Head Refusal) where
    pub head_axis : (axis past : ℕ) (w : AxisWritten text from axis past) → Heads newer look text past (λ within. read_tested newer look within w.way (tokens_at text past)) r
        → Heads newer look text from (λ within. read_step newer look within (tokens_at text from)) r
    unfolding read_step
    head_axis axis past w h =
        heads_from newer look text from past _ (λ within. read_tested newer look within w.way (tokens_at text past)) r
        (λ within. rw (no_dot, no_dots, w.ahead, w.rest)) (omega (arith, w.onward)) w.fewer h

    pub head_child : axis_ahead (tokens_at text from) ≡ none → Heads newer look text from (λ within. read_tested newer look within child (tokens_at text from)) r
        → Heads newer look text from (λ within. read_step newer look within (tokens_at text from)) r
    unfolding read_step
    head_child n h =
        heads_from newer look text from from _ (λ within. read_tested newer look within child (tokens_at text from)) r
        (λ within. rw (no_dot, no_dots, n)) (omega arith) (omega arith) h
