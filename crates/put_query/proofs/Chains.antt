-- Printing an expression, a run of `or` with runs of `and` in it: what is read so far is printed, and what is left to read gives the answer of the whole.
-- Both runs go by the same laws over the operator. Assumes nothing.
use Prim.Native.Nat.{ℕ, zero, suc, ◌+◌, ◌-◌, ◌*◌, ◌≤◌, ◌<◌}
use native.Mathlib.Omega.{arith}
use mathlib.Core.Path.{◌≡◌, refl, sym, ◌∙◌, ap}
use mathlib.Core.Bool.{Bool, true, false, ◌||◌}
use mathlib.Core.List.{List, [], ◌∷◌, ◌++◌, append_assoc}
use lib.ListN.{length, drop}
use Rattle.paper.specs.Tools.{found, ascii}
use Rattle.paper.specs.Query.{Expr}
use Rattle.paper.specs.Items.{and_item, or_item, leading, Taken, take_operand, take_term, take_expr, take_within}
use Rattle.paper.specs.Measures.{is_or}
use Rattle.paper.specs.Printing.{Piece, and_word, or_word, piece_text, grouped, expr_pieces, text_of}
use Rattle.paper.proofs.Tests.{found_some}
use Rattle.shape.proofs.Operators.{by_operator, take_run, take_part, take_more, join_by, is_joined, Run, run_starts, first_alone, operators_run}
use Rattle.shape.proofs.Operators.{ands as ands-laws, ors as ors-laws}
use Rattle.shape.specs.Walks.{operators}
use Rattle.pen.specs.Putting.{Puts}
use Rattle.pen.proofs.Putting.{puts_both, puts_as, puts_long}
use Rattle.put_query.specs.declared.Reached.{Reached}
use Rattle.put_query.specs.Writing.{term_pieces, operand_pieces, Some, Prints, item_room, sign_room}

-- The text of pieces and others after them.
pub text_append : (names : List (List ℕ)) (ps qs : List Piece) → text_of names (ps ++ qs) ≡ text_of names ps ++ text_of names qs
text_append names [] qs = refl
text_append names (p ∷ ps) qs = ap (λ (t : List ℕ). piece_text names p ++ t) (text_append names ps qs) ∙ sym (append_assoc (piece_text names p) (text_of names ps) (text_of names qs))

-- An expression as a run of the operator, and as a part of one; and the text between two parts.
abbrev run_pieces : Bool → ℕ → Expr → List Piece
run_pieces brief operator = by_operator operator (expr_pieces brief) (term_pieces brief)

abbrev part_pieces : Bool → ℕ → Expr → List Piece
part_pieces brief operator = by_operator operator (term_pieces brief) (operand_pieces brief)

abbrev operator_text : ℕ → List ℕ
operator_text operator = by_operator operator (ascii " or ") (ascii " and ")

-- Where the first operand of a part stands, after the operators that the part begins with.
abbrev part_base : ℕ → List ℕ → ℕ → ℕ
part_base operator items place = by_operator operator (place + leading and_item (drop place items)) place

-- The text of a run and a part joined to it, and of what stands as a part as it stands as a run.
record Joined (brief : Bool) (names : List (List ℕ)) (operator : ℕ) : Type 0 where
  text_join : (a b : Expr)
      → text_of names (run_pieces brief operator a) ++ operator_text operator ++ text_of names (part_pieces brief operator b) ≡ text_of names (run_pieces brief operator (join_by operator a b))
  text_alone : (e : Expr) → is_joined operator e ≡ false → text_of names (part_pieces brief operator e) ≡ text_of names (run_pieces brief operator e)
  few : length (operator_text operator) ≤ sign_room
  ahead : (items : List ℕ) (place : ℕ) → place ≤ part_base operator items place

-- The text of pieces with a sign between them.
between_text : (names : List (List ℕ)) (ps : List Piece) (sign : Piece) (qs : List Piece) → text_of names ps ++ piece_text names sign ++ text_of names qs ≡ text_of names (ps ++ sign ∷ qs)
between_text names ps sign qs = append_assoc (text_of names ps) (piece_text names sign) (text_of names qs) ∙ sym (text_append names ps (sign ∷ qs))

ands_text : (brief : Bool) (names : List (List ℕ)) → Joined brief names and_item
ands_text brief names =
    record {
      text_join = λ a b. between_text names (term_pieces brief a) and_word (operand_pieces brief b);
      text_alone = λ e h. rw h (ap (text_of names) (plain (is_or e) (expr_pieces brief e)));
      few = omega arith;
      ahead = λ items place. omega arith;
    }
  where
    plain : (b : Bool) (ps : List Piece) → grouped (b || false) ps ≡ grouped b ps
    plain true ps = refl
    plain false ps = refl

ors_text : (brief : Bool) (names : List (List ℕ)) → Joined brief names or_item
ors_text brief names =
    record {
      text_join = λ a b. between_text names (expr_pieces brief a) or_word (term_pieces brief b);
      text_alone = λ e h. rw h;
      few = omega arith;
      ahead = λ items place. omega arith;
    }

-- Printing a run of an operator that begins at `at`, from `pen` on; its first operand stands at `base`.
module _ (brief : Bool) (names : List (List ℕ)) (operator depth : ℕ) (items : List ℕ) (at base pen : ℕ) (old : List ℕ) where
  -- What has been read and printed of the run, with so many parts owed.
  pub record Left (out : List ℕ) (place byte owed : ℕ) : Type 0 where
    pub so_far : Expr
    pub goes_on : take_run operator (take_within depth) (drop at items) ≡ take_more operator (take_within depth) owed so_far (drop place items)
    pub puts : Puts (text_of names (run_pieces brief operator so_far)) pen old out byte
    pub onward : base ≤ place
    pub inside : place ≤ length items
    pub low : byte + item_room * base + sign_room ≤ pen + item_room * place

  -- A part is to be printed next: it is there, and what printing it makes of the run.
  pub record Awaits (out : List ℕ) (place byte owed : ℕ) : Type 0 where
    pub there : Some (take_part operator (take_within depth) (drop place items))
    pub gives : (new : List ℕ) (r : Reached) → Prints names items (part_base operator items place) byte sign_room (take_part operator (take_within depth) (drop place items)) (part_pieces brief operator) out new r
        → Left new r.item r.byte owed
    pub inside : place ≤ length items
    pub low : byte + item_room * base ≤ pen + item_room * part_base operator items place
    pub long : length out ≡ length old

  module _ (l : Run depth operator) (j : Joined brief names operator) where
    module _ (s : Some (take_run operator (take_within depth) (drop at items))) where
      -- The first part.
      awaits_first : (count : ℕ) → count ≡ leading operator (drop at items) → base ≡ part_base operator items (at + count) → at + count ≤ length items → Awaits old (at + count) pen count
      awaits_first count e b inside =
          record {
            there = found_some (take_part operator (take_within depth) (drop (at + count) items)) _ s.tree (sym starts ∙ s.taken_whole) (λ a p q. record { tree = a; taken_whole = p });
            gives = λ new r w.
                record {
                  so_far = w.what;
                  goes_on = starts ∙ ap (λ (o : Taken Expr). found o (λ t. take_more operator (take_within depth) count t.0 t.1)) w.reads;
                  puts = puts_as (j.text_alone w.what (first_alone operator depth l items at count e (w.what, drop r.item items) w.reads)) w.puts;
                  onward = omega (arith, b, w.onward);
                  inside = w.inside;
                  low = omega (arith, b, w.low);
                };
            inside = inside;
            low = omega (arith, b);
            long = refl;
          }
        where
          starts : take_run operator (take_within depth) (drop at items) ≡ found (take_part operator (take_within depth) (drop (at + count) items)) (λ t. take_more operator (take_within depth) count t.0 t.1)
          starts = run_starts operator depth l items at count e

      -- The next part, where one is owed, after the operator's word.
      awaits_next : (out mid : List ℕ) (place byte ready owed : ℕ) → 0 < owed → Left out place byte owed → Puts (operator_text operator) byte out mid ready → Awaits mid place ready (owed - 1)
      awaits_next out mid place byte ready zero z left p = absurd (omega arith)
      awaits_next out mid place byte ready (suc owed) z left p =
          record {
            there = found_some (take_part operator (take_within depth) (drop place items)) _ s.tree (sym goes ∙ s.taken_whole) (λ a q r. record { tree = a; taken_whole = q });
            gives = λ new r w.
                record {
                  so_far = join_by operator left.so_far w.what;
                  goes_on = goes ∙ ap (λ (o : Taken Expr). found o (λ t. take_more operator (take_within depth) (suc owed - 1) (join_by operator left.so_far t.0) t.1)) w.reads;
                  puts = puts_as (j.text_join left.so_far w.what) (puts_both (puts_both left.puts p) w.puts);
                  onward = omega (arith, left.onward, w.onward, j.ahead items place);
                  inside = w.inside;
                  low = omega (arith, left.low, w.low, p.moved, j.few, j.ahead items place);
                };
            inside = left.inside;
            low = omega (arith, left.low, p.moved, j.few, j.ahead items place);
            long = puts_long p ∙ puts_long left.puts;
          }
        where
          goes : take_run operator (take_within depth) (drop at items) ≡ found (take_part operator (take_within depth) (drop place items)) (λ t. take_more operator (take_within depth) (suc owed - 1) (join_by operator left.so_far t.0) t.1)
          goes =
              left.goes_on ∙ l.goes owed left.so_far (drop place items) ∙
              ap (λ (n : ℕ). found (take_part operator (take_within depth) (drop place items)) (λ t. take_more operator (take_within depth) n (join_by operator left.so_far t.0) t.1))
              (let k : owed ≡ suc owed - 1 = omega arith in k)

    -- No part is owed.
    left_done : (out : List ℕ) (r : Reached) (owed : ℕ) → owed ≤ 0 → Left out r.item r.byte owed
        → Prints names items base pen sign_room (take_run operator (take_within depth) (drop at items)) (run_pieces brief operator) old out r
    left_done out r zero z left =
        record {
          what = left.so_far;
          reads = left.goes_on ∙ l.stops left.so_far (drop r.item items);
          puts = left.puts;
          onward = left.onward;
          inside = left.inside;
          low = left.low;
        }
    left_done out r (suc owed) z left = absurd (omega arith)

-- Printing an expression that begins at `at`: an operand of `and` is to be printed next, in a term that an `or` awaits.
-- The term began at `since` in the items and at `begun` in the text, where `mid` had been written.
module _ (brief : Bool) (names : List (List ℕ)) (depth : ℕ) (items : List ℕ) (at pen : ℕ) (old : List ℕ) where
  pub record Turn (out : List ℕ) (place byte ands ors : ℕ) : Type 0 where
    pub since : ℕ
    pub begun : ℕ
    pub mid : List ℕ
    pub outer : Awaits brief names or_item depth items at (at + operators (drop at items)) pen old mid since begun ors
    pub inner : Awaits brief names and_item depth items since (since + leading and_item (drop since items)) begun mid out place byte ands
    pub past : at + operators (drop at items) ≤ place

  ands_first : (since begun : ℕ) (mid : List ℕ) → Some (take_term (take_within depth) (drop since items)) → (count : ℕ) → count ≡ leading and_item (drop since items) → since + count ≤ length items
      → Awaits brief names and_item depth items since (since + leading and_item (drop since items)) begun mid mid (since + count) begun count
  ands_first since begun mid s count e inside =
      awaits_first brief names and_item depth items since (since + leading and_item (drop since items)) begun mid (ands-laws depth) (ands_text brief names) s count e (omega (arith, e)) inside

  pub turn_start : Some (take_expr (take_within depth) (drop at items)) → (ors ands : ℕ) → ors ≡ leading or_item (drop at items) → ands ≡ leading and_item (drop (at + ors) items) → at + ors ≤ length items
      → at + ors + ands ≤ length items → Turn old (at + ors + ands) pen ands ors
  turn_start s ors ands o a lo la =
      let first : at + operators (drop at items) ≡ at + ors + leading and_item (drop (at + ors) items) = omega (arith, operators_run items at ors ands o a, a) in
      let outer = awaits_first brief names or_item depth items at (at + operators (drop at items)) pen old (ors-laws depth) (ors_text brief names) s ors o first lo in
      record {
        since = at + ors;
        begun = pen;
        mid = old;
        outer = outer;
        inner = ands_first (at + ors) pen old outer.there ands a la;
        past = omega (arith, operators_run items at ors ands o a);
      }

module _ {brief : Bool} {names : List (List ℕ)} {depth : ℕ} {items : List ℕ} {at pen : ℕ} {old out : List ℕ} {place byte ands ors : ℕ} (t : Turn brief names depth items at pen old out place byte ands ors) where
  pub turn_low : byte + item_room * (at + operators (drop at items)) ≤ pen + item_room * place
  turn_low = omega (arith, t.outer.low, t.inner.low)

  pub turn_long : length out ≡ length old
  turn_long = t.inner.long ∙ t.outer.long

  -- The operand is printed.
  module _ {new : List ℕ} {r : Reached} (w : Prints names items place byte sign_room (take_operand (take_within depth) (drop place items)) (operand_pieces brief) out new r) where
    pub turn_onward : place < r.item
    turn_onward = omega (arith, w.low, w.puts.moved)

    operands : Left brief names and_item depth items t.since (t.since + leading and_item (drop t.since items)) t.begun t.mid new r.item r.byte ands
    operands = t.inner.gives new r w

    -- It is not its term's last.
    pub turn_and : {last : List ℕ} {ready : ℕ} → 0 < ands → Puts (ascii " and ") r.byte new last ready → Turn brief names depth items at pen old last r.item ready (ands - 1) ors
    turn_and {last} {ready} z p =
        record {
          since = t.since;
          begun = t.begun;
          mid = t.mid;
          outer = t.outer;
          inner =
              awaits_next brief names and_item depth items t.since (t.since + leading and_item (drop t.since items)) t.begun t.mid (ands-laws depth) (ands_text brief names) t.outer.there
              new last r.item r.byte ready ands z operands p;
          past = omega (arith, t.past, w.onward);
        }

    -- The term is printed.
    module _ (z : ands ≤ 0) where
      terms : Left brief names or_item depth items at (at + operators (drop at items)) pen old new r.item r.byte ors
      terms = t.outer.gives new r (left_done brief names and_item depth items t.since (t.since + leading and_item (drop t.since items)) t.begun t.mid (ands-laws depth) (ands_text brief names) new r ands z operands)

      pub turn_or : {last : List ℕ} {ready count : ℕ} → Some (take_expr (take_within depth) (drop at items)) → 0 < ors → Puts (ascii " or ") r.byte new last ready
          → count ≡ leading and_item (drop r.item items) → r.item + count ≤ length items → Turn brief names depth items at pen old last (r.item + count) ready count (ors - 1)
      turn_or {last} {ready} {count} s y p e inside =
          let outer = awaits_next brief names or_item depth items at (at + operators (drop at items)) pen old (ors-laws depth) (ors_text brief names) s new last r.item r.byte ready ors y terms p in
          record {
            since = r.item;
            begun = ready;
            mid = last;
            outer = outer;
            inner = ands_first brief names depth items at pen old r.item ready last outer.there count e inside;
            past = omega (arith, t.past, w.onward);
          }

      pub turn_done : ors ≤ 0 → Prints names items (at + operators (drop at items)) pen sign_room (take_expr (take_within depth) (drop at items)) (expr_pieces brief) old new r
      turn_done y = left_done brief names or_item depth items at (at + operators (drop at items)) pen old (ors-laws depth) (ors_text brief names) new r ors y terms
