-- What brackets, operands and single steps come to, by the parts that were read. Assumes nothing.
use Prim.Native.Nat.{ℕ, zero, suc, ◌+◌, ◌-◌, ◌*◌, ◌≤◌, ◌<◌}
use native.Mathlib.Omega.{arith}
use mathlib.Core.Path.{◌≡◌, refl, sym, ◌∙◌, ap, subst}
use mathlib.Core.Bool.{Bool, true, false}
use mathlib.Core.List.{List, [], ◌∷◌}
use mathlib.Core.Option.{Option}
use lib.ListN.{length, drop}
use lib.Seq.{drop-drop}
use Rattle.paper.specs.Tokens.{Placed, close_round}
use Rattle.paper.specs.Query.{Expr, path, negated, Steps}
use Rattle.paper.specs.Items.{not_item, encode_expr, count_bound}
use Rattle.paper.specs.Reading.{Got, got, refused, then, at, sees, pass, read_tail, read_step, read_steps, read_operand, read_expr, read_within}
use Rattle.std.specs.Prelude.{Result, Ok, Err}
use Rattle.paper.specs.declared.Refusal.{Refusal}
use Rattle.paper.specs.declared.Refusal.TheVariants.{NoQuery, TooDeep}
use Rattle.read_paths.specs.declared.Part.{Part}
use Rattle.token.specs.declared.Mark.{Mark}
use Rattle.token.specs.Taking.{mark_of}
use Rattle.marks.specs.declared.There.{There}
use Rattle.heads.specs.Heads.{Refused}
use Rattle.read_paths.proofs.Runs.{passed_on}
use Rattle.token.specs.declared.Cursor.{Cursor}
use Rattle.item.specs.Unpacked.{packed}
use Rattle.ahead.specs.declared.Opens.TheVariants.{Round, Path}
use Rattle.marks.specs.Marks.{tokens_at, Past}
use Rattle.ahead.specs.Looking.{NotBegins, Begins}
use Rattle.slots.specs.Slots.{Wrote}
use Rattle.read_paths.specs.Parts.{Gives, Reads, step_items, path_items}
use Rattle.heads.specs.Heads.{PlainStep, TestedStep}
use Rattle.slots.proofs.Writing.{wrote_head}

-- What is read from a later place on is what is read from here.
pub reads_from : {A : Type 0} (text old new : List ℕ) (from mid slot low high low' high' : ℕ) (o o' : Got A) (items : A → List ℕ) (r : Result Part Refusal) → o' ≡ o → from ≤ mid
    → length (tokens_at text mid) ≤ length (tokens_at text from) → low' + high ≤ low + high' → Reads text old new mid slot low high o items r
    → Reads text old new from slot low' high' o' items r
reads_from text old new from mid slot low high low' high' o o' items (Ok part) e l f k g =
    record {
      what = g.what;
      reads = e ∙ g.reads;
      wrote = g.wrote;
      ends = g.ends;
      onward = omega (arith, g.onward);
      inside = g.inside;
      fewer = omega (arith, g.fewer);
      grows = omega (arith, g.grows);
    }
reads_from text old new from mid slot low high low' high' o o' items (Err why) e l f k g = passed_on o o' why g (λ n place h. e ∙ h)

-- BRACKETS.
module _ (newer : Bool) (look : List ℕ → Option ℕ) where
  pub too_deep : (depth bracket : ℕ) (closer : Mark) (ts : List Placed) → depth ≡ 0 → Refused (then (read_within newer look depth bracket ts) (pass (mark_of closer))) (TooDeep bracket)
  too_deep depth bracket closer ts z = record { number = 4; place = bracket; told = refl; is = rw z }

  pub opened : (depth bracket : ℕ) (ts : List Placed) → (depth ≡ 0 → ⊥) → read_within newer look depth bracket ts ≡ read_expr newer look (read_within newer look (depth - 1)) ts
  opened zero bracket ts z = absurd (z refl)
  opened (suc d) bracket ts z = ap (λ (k : ℕ). read_expr newer look (read_within newer look k) ts) (let e : d ≡ suc d - 1 = omega arith in e)

module _ (text old new : List ℕ) (from slot : ℕ) (closer : Mark) (o o' : Got Expr) (is : o ≡ o') where
  pub closed : (mid past end : ℕ) → Gives text old new from slot (3 * from) slot o' encode_expr mid end → sees (mark_of closer) (tokens_at text mid) ≡ true → Past text mid past
      → Gives text old new from slot (3 * from) slot (then o (pass (mark_of closer))) encode_expr past end
  closed mid past end g s p =
      record {
        what = g.what;
        reads = ap (λ x. then x (pass (mark_of closer))) (is ∙ g.reads) ∙ rw (s, p.rest);
        wrote = g.wrote;
        ends = g.ends;
        onward = omega (arith, g.onward, p.onward);
        inside = p.inside;
        fewer = omega (arith, g.fewer, p.fewer);
        grows = omega (arith, g.grows, p.onward);
      }

  pub unclosed : (mid end place : ℕ) → Gives text old new from slot (3 * from) slot o' encode_expr mid end → sees (mark_of closer) (tokens_at text mid) ≡ false
      → place ≡ at (tokens_at text mid) → Refused (then o (pass (mark_of closer))) (NoQuery place)
  unclosed mid end place g s e = record { number = 3; place = place; told = refl; is = ap (λ x. then x (pass (mark_of closer))) (is ∙ g.reads) ∙ rw (s, ← e) }

-- OPERANDS.
once : (o : Got Steps) → then o (λ s. got (path s)) ≡ then (then o (λ s. got s)) (λ s. got (path s))
once (got s left) = refl
once (refused n place) = refl

module _ (newer : Bool) (look : List ℕ → Option ℕ) (within : ℕ → List Placed → Got Expr) (text old : List ℕ) (from slot : ℕ) where
  abbrev inner : ℕ → ℕ → Got Expr
  inner place past = then (within place (tokens_at text past)) (pass close_round)

  pub not_reads : (place past : ℕ) → NotBegins text from place past → read_operand newer look within (tokens_at text from) ≡ then (inner place past) (λ e. got (negated e))
  unfolding read_operand
  not_reads place past b =
      let two : drop 2 (tokens_at text from) ≡ tokens_at text past =
      sym (drop-drop 1 1 (tokens_at text from)) ∙ ap (drop 1) b.first.rest ∙ b.second.rest in
      rw (b.says_not, b.first.rest, b.opens, two, ← b.place)

  pub not_stuck : (place past n end-spot : ℕ) → NotBegins text from place past → inner place past ≡ refused n end-spot → read_operand newer look within (tokens_at text from) ≡ refused n end-spot
  not_stuck place past n end-spot b h = not_reads place past b ∙ ap (λ o. then o (λ e. got (negated e))) h

  pub not_done : (place past : ℕ) (mid new : List ℕ) (last end : ℕ) → NotBegins text from place past
      → Gives text old mid past (slot + 1) (3 * past) (slot + 1) (inner place past) encode_expr last end → Wrote mid new slot (not_item ∷ [])
      → Gives text old new from slot (3 * from) slot (read_operand newer look within (tokens_at text from)) encode_expr last end
  not_done place past mid new last end b g v =
      record {
        what = negated g.what;
        reads = not_reads place past b ∙ ap (λ o. then o (λ e. got (negated e))) g.reads;
        wrote = wrote_head old mid new slot not_item not_item (encode_expr g.what) g.wrote v (λ few. refl);
        ends = omega (arith, g.ends);
        onward = omega (arith, g.onward, b.first.onward, b.second.onward);
        inside = g.inside;
        fewer = omega (arith, g.fewer, b.first.fewer, b.second.fewer);
        grows = omega (arith, g.grows, b.first.onward, b.second.onward);
      }

  pub round_done : (new : List ℕ) (round : There) (r : Result Part Refusal) → Begins text from (Round round)
      → Reads text old new round.next.at slot (3 * round.next.at) slot (inner round.place round.next.at) encode_expr r
      → Reads text old new from slot (3 * from) slot (read_operand newer look within (tokens_at text from)) encode_expr r
  unfolding read_operand
  round_done new round r b g =
      reads_from text old new from round.next.at slot (3 * round.next.at) slot (3 * from) slot (inner round.place round.next.at) (read_operand newer look within (tokens_at text from)) encode_expr r
      (rw (b.0, b.1, ← b.2, b.3.rest)) (omega (arith, b.3.onward)) (omega (arith, b.3.fewer)) (omega (arith, b.3.onward)) g

  abbrev run : Got Steps
  run = then (read_steps newer look within (length (tokens_at text from)) (tokens_at text from)) (λ s. got s)

  as_path : Begins text from Path → read_operand newer look within (tokens_at text from) ≡ then run (λ s. got (path s))
  unfolding read_operand
  as_path b = rw (b.0, b.1) (once (read_steps newer look within (length (tokens_at text from)) (tokens_at text from)))

  pub path_done : (new : List ℕ) (r : Result Part Refusal) → Begins text from Path → Reads text old new from slot (3 * from) slot run path_items r
      → Reads text old new from slot (3 * from) slot (read_operand newer look within (tokens_at text from)) encode_expr r
  path_done new (Ok part) b g =
      record {
        what = path g.what;
        reads = as_path b ∙ ap (λ x. then x (λ s. got (path s))) g.reads;
        wrote = g.wrote;
        ends = g.ends;
        onward = g.onward;
        inside = g.inside;
        fewer = g.fewer;
        grows = g.grows;
      }
  path_done new (Err why) b g = passed_on run (read_operand newer look within (tokens_at text from)) why g (λ n place h. as_path b ∙ ap (λ x. then x (λ s. got (path s))) h)

-- STEPS BY THEIR HEADS.
module _ (newer : Bool) (look : List ℕ → Option ℕ) (within : ℕ → List Placed → Got Expr) (text old new : List ℕ) (from slot : ℕ) where
  pub plain_done : (axis made past : ℕ) → PlainStep newer look text from axis past (λ w. read_step newer look w (tokens_at text from)) → (0 < count_bound → made ≡ packed (record { axis = axis; test = 0; count = 0 }))
      → Wrote old new slot (made ∷ []) → Gives text old new from slot (3 * from + 2) slot (read_step newer look within (tokens_at text from)) step_items past (slot + 1)
  plain_done axis made past h right v =
      record {
        what = record { axis = h.way; test = _; preds = _ };
        reads = h.reads within;
        wrote = subst (λ (w : ℕ). Wrote old new slot (w ∷ [])) (right (omega arith) ∙ rw h.number) v;
        ends = refl;
        onward = omega (arith, h.onward);
        inside = h.inside;
        fewer = h.fewer;
        grows = omega (arith, h.onward);
      }

  pub tested_done : (axis test : ℕ) (past : Cursor) (r : Result Part Refusal) (h : TestedStep newer look text from axis test past.at (λ w. read_step newer look w (tokens_at text from)))
      → Reads text old new past.at slot (3 * past.at) (slot + 1) (read_tail newer look within h.way h.kind (tokens_at text past.at)) step_items r
      → Reads text old new from slot (3 * from + 2) slot (read_step newer look within (tokens_at text from)) step_items r
  tested_done axis test past r h g =
      reads_from text old new from past.at slot (3 * past.at) (slot + 1) (3 * from + 2) slot (read_tail newer look within h.way h.kind (tokens_at text past.at)) (read_step newer look within (tokens_at text from))
      step_items r (h.reads within) (omega (arith, h.onward)) h.fewer (omega (arith, h.onward)) g
