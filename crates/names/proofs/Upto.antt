-- What checking the list line by line has settled when it stands at the start of a line: what is left to check gives the answer of the whole. Assumes nothing.
use Prim.Native.Nat.{ℕ, zero, suc, ◌+◌, ◌-◌, ◌≤◌, ◌<◌}
use native.Mathlib.Omega.{arith}
use native.Mathlib.Numerals.{add-one}
use native.Mathlib.Nat.{add-zero, zero-add}
use native.Mathlib.Decide.{dec_lt, ℕ_discrete}
use mathlib.Core.Path.{◌≡◌, refl, sym, ◌∙◌, ap, ap₂, subst}
use mathlib.Core.Bool.{true, false, false≢true}
use mathlib.Core.Logic.{⊎_elim, by_cases}
use mathlib.Core.List.{List, [], ◌∷◌, ◌++◌, map, append-nil}
use borrow.Author.Tests.{ltb-true, eq-eqb, eqb-true}
use lib.Dec.{ltb}
use lib.ListN.{length, get_or, set, take, drop, drop_of_length-le, length-set, length-drop, take-append-drop}
use lib.Seq.{get_or-set_same, get_or-set_other, get_or-drop, take_all, append_snoc, take-suc, take-set-le, drop-set-lt, drop-drop, length-take-le}
use Rattle.std.specs.Prelude.{Ok, Err}
use Rattle.paper.specs.Tools.{column, column_from, written}
use Rattle.paper.specs.Limits.{name_limit, names_limit}
use Rattle.paper.specs.Names.{lines_from, first_bad, bad_line, is_name, names_fault, names_of}
use Rattle.paper.proofs.Searches.{column_same}
use Rattle.paper.proofs.Lines.{first-line, bad_name, bad_long, bad_open, bad_many}
use Rattle.paper.proofs.Tests.{decide}
use Rattle.paper.specs.declared.Refusal.TheVariants.{BadName}
use Rattle.names.specs.Listing.{Ends, Checked, line_to, opened}
use Rattle.name_lines.specs.Lines.{Rising, said, starts_count}
use Rattle.name_keys.specs.Keys.{Keyed, key_of, earlier}
use Rattle.name_keys.proofs.Earlier.{earlier_length}
use Rattle.names.proofs.Parts.{name_length}

-- The first LF from `start` on stands at `end`, or there is none and the list ends there.
pub record EndsAt (list : List ℕ) (start end : ℕ) : Type 0 where
  pub least : start ≤ end
  pub most : end ≤ length list
  pub before : (k : ℕ) → start ≤ k → k < end → get_or list k 0 ≡ 10 → ⊥
  pub stops : end < length list → get_or list end 0 ≡ 10

-- The line that starts here, by what the bytes from its start on say.
pub ends_at : (list : List ℕ) (start len : ℕ) → start ≤ length list → Ends (take (length list - start) (drop start list)) len → EndsAt list start (start + len)
ends_at list start len inside ends =
    let long : length (drop start list) ≡ length list - start = length-drop start list in
    let e = subst (λ bytes. Ends bytes len) (take_all (length list - start) (drop start list) (omega arith)) ends in
    record {
      least = omega arith;
      most = omega (arith, e.most);
      before = λ k a l h.
          let n : start + (k - start) ≡ k = omega arith in
          let here : get_or (drop start list) (k - start) 0 ≡ 10 = get_or-drop start list (k - start) 0 ∙ ap (λ m. get_or list m 0) n ∙ h in
          false≢true (sym (e.before (k - start) (omega arith)) ∙ eq-eqb (get_or (drop start list) (k - start) 0) 10 here);
      stops = λ l. sym (get_or-drop start list len 0) ∙ eqb-true (get_or (drop start list) len 0) 10 (e.stops (omega arith));
    }

pub record Upto (list old starts : List ℕ) (count start : ℕ) : Type 0 where
  pub rising : Rising list starts count
  pub here : get_or starts count 0 ≡ start
  pub most : start ≤ length list
  pub fault : names_fault list ≡ first_bad (earlier list starts count) (lines_from start (drop start list))
  pub names : names_of list ≡ column count (said list starts) ++ map (λ l. l.says) (lines_from start (drop start list))
  pub kept : opened (length list) [] (lines_from 0 list) ≡ take count starts ++ opened (length list) (earlier list starts count) (lines_from start (drop start list))
  pub rest : drop (suc count) starts ≡ drop (suc count) old
  pub size : length starts ≡ starts_count

-- At first nothing is settled.
pub at_first : (list starts : List ℕ) → get_or starts 0 0 ≡ 0 → length starts ≡ starts_count → Upto list starts starts 0 0
unfolding names_fault names_of
at_first list starts h size =
    record {
      rising = record { few = omega arith; rises = λ v l. absurd (omega arith); within = λ v l. absurd (omega arith) };
      here = h;
      most = omega arith;
      fault = refl;
      names = refl;
      kept = refl;
      rest = refl;
      size = size;
    }

-- The first start may have been written before.
pub since_entry : {list starts : List ℕ} (old : List ℕ) {count start : ℕ} → Upto list (set old 0 0) starts count start → Upto list old starts count start
since_entry old {count} u =
    record {
      rising = u.rising;
      here = u.here;
      most = u.most;
      fault = u.fault;
      names = u.names;
      kept = u.kept;
      rest = u.rest ∙ drop-set-lt (suc count) old 0 0 (omega arith);
      size = u.size;
    }

-- Where the start of this line is the last to keep, the kept starts stand first, and the rest is untouched.
all_kept : (list old starts : List ℕ) (count start : ℕ) → Upto list old starts count start
    → opened (length list) (earlier list starts count) (lines_from start (drop start list)) ≡ start ∷ [] → starts ≡ written (opened (length list) [] (lines_from 0 list)) old
all_kept list old starts count start u last =
    let whole : opened (length list) [] (lines_from 0 list) ≡ take (suc count) starts =
    u.kept ∙ ap (λ l. take count starts ++ l) (last ∙ ap (λ n. n ∷ []) (sym u.here)) ∙ sym (take-suc starts count 0 (omega (arith, u.size, u.rising.few))) in
    let long : length (take (suc count) starts) ≡ suc count = length-take-le (suc count) starts (omega (arith, u.size, u.rising.few)) in
    sym (take-append-drop (suc count) starts) ∙ ap (λ l. take (suc count) starts ++ l) u.rest ∙ rw (whole, long)

-- At the end of the list all is settled.
pub at_last : {list old starts : List ℕ} {count start : ℕ} → Upto list old starts count start → length list ≤ start → Checked list old starts (Ok count)
at_last {list} {old} {starts} {count} {start} u l =
    let none : drop start list ≡ [] = drop_of_length-le list l in
    let end : length list ≡ start = omega (arith, u.most) in
    record {
      good = (record { rising = u.rising; names = u.names ∙ rw none (append-nil (column count (said list starts))) }, u.fault ∙ rw none);
      bad = tt;
      kept = all_kept list old starts count start u (rw none (ap (λ n. n ∷ []) end));
    }

-- The line that stands next.
next_line : (list : List ℕ) (start end : ℕ) → start < length list → EndsAt list start end
    → lines_from start (drop start list) ≡ line_to list start end ∷ lines_from (suc end) (drop (suc end) list)
next_line list start end inside e =
    let whole : start + (end - start) ≡ end = omega (arith, e.least) in
    subst (λ m. lines_from start (drop start list) ≡ record { start = start; says = take (end - start) (drop start list); ended = ltb m (length list) } ∷ lines_from (suc m) (drop (suc m) list))
    whole
    (first-line (end - start) start list inside (rw whole e.most) (λ k a b. e.before k a (rw whole at b)) (rw whole e.stops))

-- A bad line is the first.
pub at_fault : {list old starts : List ℕ} {count start : ℕ} (end : ℕ) → Upto list old starts count start → start < length list → EndsAt list start end
    → bad_line (earlier list starts count) (line_to list start end) ≡ true → Checked list old starts (Err (BadName start))
at_fault {list} {old} {starts} {count} {start} end u inside e bad =
    let lines = next_line list start end inside e in
    record {
      good = tt;
      bad = record { start = start; refused = refl; fault = u.fault ∙ rw (lines, bad) };
      kept = all_kept list old starts count start u (rw (lines, bad));
    }

-- A column of one more.
column_more : {A : Type 0} (n at : ℕ) (f : ℕ → A) → column_from (suc n) at f ≡ column_from n at f ++ (f (at + n) ∷ [])
column_more zero at f = rw (add-zero at)
column_more (suc n) at f =
    let e : suc at + n ≡ at + suc n = omega arith in
    ap (◌∷◌ (f at)) (column_more n (suc at) f ∙ ap (λ m. column_from n (suc at) f ++ (f m ∷ [])) e)

-- A good line is settled with those before it.
module _ {list old starts : List ℕ} {count start : ℕ} (end : ℕ) (u : Upto list old starts count start) (inside : start < length list) (e : EndsAt list start end)
    (good : bad_line (earlier list starts count) (line_to list start end) ≡ false) where
  -- An LF ends it.
  ended : end < length list
  ended =
      ⊎_elim (λ h. ltb-true end (length list) h)
      (λ h. absurd (false≢true (sym good ∙ bad_open (earlier list starts count) (line_to list start end) h)))
      (decide (ltb end (length list)))

  -- It is not the 257th.
  pub room : count < names_limit
  room =
      by_cases (dec_lt count names_limit) (λ l. l)
      (λ n. absurd (false≢true (sym good ∙ bad_many (earlier list starts count) (line_to list start end) (rw (earlier_length list starts count) (omega arith)))))

  abbrev word : List ℕ
  word = take (end - start) (drop start list)

  -- It has a key.
  pub has_key : (0 < length word) × (length word ≤ name_limit)
  has_key =
      let line = line_to list start end in (
        ⊎_elim (λ h. name_length word h) (λ h. absurd (false≢true (sym good ∙ bad_name (earlier list starts count) line h))) (decide (is_name word)),
        by_cases (dec_lt name_limit (length word)) (λ l. absurd (false≢true (sym good ∙ bad_long (earlier list starts count) line l))) (λ n. omega arith),
      )

  abbrev after : List ℕ
  after = set starts (suc count) (suc end)

  unchanged : (v : ℕ) → v ≤ count → get_or after v 0 ≡ get_or starts v 0
  unchanged v l = get_or-set_other starts (suc count) v (suc end) 0 (λ h. omega arith)

  new : get_or after (suc count) 0 ≡ suc end
  new = get_or-set_same starts (suc count) (suc end) 0 (omega (arith, room, u.size))

  said_old : (v : ℕ) → v < count → said list after v ≡ said list starts v
  said_old v l = rw (unchanged v (omega arith), unchanged (suc v) (omega arith))

  said_new : said list after count ≡ word
  said_new =
      let m : suc end - 1 - start ≡ end - start = omega arith in
      rw (unchanged count (omega arith), new, u.here, m)

  earlier_old : (n : ℕ) → n ≤ count → earlier list after n ≡ earlier list starts n
  earlier_old zero l = refl
  earlier_old (suc n) l = ap₂ ◌∷◌ (said_old n (omega arith)) (earlier_old n (omega arith))

  last_line : {P : ℕ → Type 0} → P count → ((v : ℕ) → v < count → P v) → (v : ℕ) → v < suc count → P v
  last_line {P} here before v l = by_cases (ℕ_discrete v count) (λ h. subst P (sym h) here) (λ h. before v (omega arith))

  pub at_next : Upto list old after (suc count) (suc end)
  at_next =
      let lines = next_line list start end inside e in
      let front : take (suc count) after ≡ take count starts ++ (start ∷ []) =
      take-set-le (suc count) starts (suc count) (suc end) (omega arith) ∙ take-suc starts count 0 (omega (arith, room, u.size)) ∙ ap (λ n. take count starts ++ (n ∷ [])) u.here in
      let one_more : (l : List ℕ) → drop (suc (suc count)) l ≡ drop 1 (drop (suc count) l) = λ l. sym (drop-drop 1 (suc count) l ∙ ap (λ n. drop n l) (add-one (suc count))) in
      let later = map (λ l. l.says) (lines_from (suc end) (drop (suc end) list)) in
      let more : column (suc count) (said list after) ≡ column count (said list starts) ++ (word ∷ []) =
      column_more count 0 (said list after)
      ∙ ap₂ (λ xs x. xs ++ (x ∷ [])) (column_same count 0 (said list after) (said list starts) (λ i a l. said_old i (omega arith))) (ap (said list after) (zero-add count) ∙ said_new) in
      record {
        rising =
            record {
              few = room;
              rises =
                  last_line {P = λ v. get_or after v 0 < get_or after (suc v) 0} (rw (unchanged count (omega arith), new, u.here) (omega (arith, e.least)))
                  (λ v l. rw (unchanged v (omega arith), unchanged (suc v) (omega arith)) (u.rising.rises v l));
              within =
                  last_line {P = λ v. get_or after (suc v) 0 ≤ length list} (rw new ended)
                  (λ v l. rw (unchanged (suc v) (omega arith)) (u.rising.within v l));
            };
        here = new;
        most = ended;
        fault = u.fault ∙ rw (lines, good, said_new, earlier_old count (omega arith));
        names =
            u.names ∙ ap (λ ls. column count (said list starts) ++ map (λ l. l.says) ls) lines ∙ sym (append_snoc (column count (said list starts)) word later)
            ∙ ap (λ xs. xs ++ later) (sym more);
        kept = u.kept ∙ rw (lines, good, said_new, earlier_old count (omega arith), front) (sym (append_snoc (take count starts) start _));
        rest = drop-set-lt (suc (suc count)) starts (suc count) (suc end) (omega arith) ∙ one_more starts ∙ ap (drop 1) u.rest ∙ sym (one_more old);
        size = length-set starts (suc count) (suc end) ∙ u.size;
      }

  -- Its key is kept with those before it.
  pub keyed_next : (keys : List ℕ) → length keys ≡ starts_count → Keyed list starts keys count → Keyed list after (set keys count (key_of word)) (suc count)
  keyed_next keys long keyed =
      last_line {P = λ v. get_or (set keys count (key_of word)) v 0 ≡ key_of (said list after v)}
      (get_or-set_same keys count (key_of word) 0 (omega (arith, room)) ∙ ap key_of (sym said_new))
      (λ v l. get_or-set_other keys count v (key_of word) 0 (λ h. omega arith) ∙ keyed v l ∙ ap key_of (sym (said_old v l)))
