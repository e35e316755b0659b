-- How reading goes through the declaration: a name and the quote of its value, the values, and what may follow each of them. Assumes nothing.
use Prim.Native.Nat.{ℕ, suc, ◌+◌, ◌-◌, ◌≤◌, ◌<◌}
use native.Mathlib.Omega.{arith}
use borrow.Author.Tests.{le-leb, leb-true, eqb-true, eqb-false, eq-eqb, ne_eqb}
use mathlib.Core.Path.{◌≡◌, refl, sym, ◌∙◌, ap, subst}
use mathlib.Core.Bool.{Bool, true, false, ◌&&◌, ◌||◌, false≢true}
use mathlib.Core.List.{List, [], ◌∷◌}
use mathlib.Core.Logic.{⊎_elim}
use mathlib.Core.Option.{none, some}
use Rattle.std.specs.Prelude.{Ok, Err}
use lib.Dec.{eqb, leb, ltb}
use lib.ListN.{length, get_or, drop, drop_of_length-le}
use lib.Seq.{drop-cons}
use Rattle.paper.specs.Tools.{ascii, begins, run_of}
use Rattle.paper.specs.Tokens.{white}
use Rattle.paper.specs.Xml.{Pattern, done, one, many, fork, is_done, quote_of, after, say, quoted, digit, any_case, declaration_end, after_encoding, after_version, heading, left_out, left_out_anywhere, other_encoding}
use Rattle.paper.proofs.Tests.{decide, and_true, or_true}
use Rattle.paper.proofs.Lexing.{run_more}
use Rattle.paper.specs.declared.Refusal.{Refusal}
use Rattle.paper.specs.declared.Refusal.TheVariants.{NoXml, LeftOut}
use Rattle.xml_bytes.specs.Seeking.{refused, refusing, refusal_place}
use Rattle.xml_bytes.specs.Promised.{Reach, state, refusal_at, calm}
use Rattle.prolog.specs.Heading.{seek_head, head_at, awaiting, Heads, valued, is_quote, Gives, numbered, utf8, encoding_value, yes_no, standalone_value}
use Rattle.xml_bytes.proofs.Steps.{Calm, is_calm, in_or_out, run_inside, stops_run}
use Rattle.prolog.proofs.Heading.{pattern_cut, pattern_takes, pattern_none, pattern_alike, farther, heads_stuck, heads_from, many_run, enters_run, space_calm}

-- LETTERS. In either case.
pub case_same : (b small : ℕ) → 97 ≤ small → (eqb b small || eqb b (small - 32)) ≡ any_case small b
case_same b small l =
    ap (λ (t : Bool). eqb b small || t)
    (⊎_elim (λ (h : eqb b (small - 32) ≡ true). h ∙ sym (eq-eqb (b + 32) small (let e = eqb-true b (small - 32) h in omega arith)))
    (λ (h : eqb b (small - 32) ≡ false). h ∙ sym (ne_eqb (b + 32) small (λ e. eqb-false b (small - 32) h (omega arith)))) (decide (eqb b (small - 32))))

pub case_calm : (b small : ℕ) → 97 ≤ small → any_case small b ≡ true → Calm b
case_calm b small l h =
    ⊎_elim (λ t. let e = eqb-true b small t in record { no_tag = λ f. omega arith; no-reference = λ f. omega arith })
    (λ t. let e = eqb-true (b + 32) small t in record { no_tag = λ f. omega arith; no-reference = λ f. omega arith }) (or_true (eqb b small) (eqb (b + 32) small) h)

pub digit_calm : (b : ℕ) → digit b ≡ true → Calm b
digit_calm b h =
    let l = leb-true 48 b (and_true (leb 48 b) (leb b 57) h).0 in
    let m = leb-true b 57 (and_true (leb 48 b) (leb b 57) h).1 in
    record { no_tag = λ f. omega arith; no-reference = λ f. omega arith }

-- `=` WITH WHITE SPACE AROUND.
module _ (text : List ℕ) (at place : ℕ) (e : place ≡ at + run_of white (drop at text)) where
  pub past-space : at ≤ place
  past-space = omega arith

  pub equals_stuck : (p : Pattern) (why : Refusal) → Heads text place (one (eqb 61) (many white p)) (many white p) (Err why) → Heads text at (many white (one (eqb 61) (many white p))) p (Err why)
  equals_stuck p why h =
      heads_from text at place (many white (one (eqb 61) (many white p))) (one (eqb 61) (many white p)) p (Err why) past-space
      (many_run white space_calm text at place e (one (eqb 61) (many white p)) refl refl) (heads_stuck text place (one (eqb 61) (many white p)) (many white p) p why h)

  pub equals_read : (next end : ℕ) → end ≡ next + run_of white (drop next text) → (p : Pattern) → is_done p ≡ false → quote_of p ≡ none → Heads text place (one (eqb 61) (many white p)) (many white p) (Ok next)
      → Heads text at (many white (one (eqb 61) (many white p))) p (Ok end)
  equals_read next end f p more plain h =
      record {
        goes = many_run white space_calm text at place e (one (eqb 61) (many white p)) refl refl ∙ h.goes ∙ many_run white space_calm text next end f p more plain ∙ rw more;
        bounds = (omega (arith, h.bounds.0), run_inside white text next end f h.bounds.1);
      }

-- THE QUOTE THAT OPENS A VALUE.
module _ (text : List ℕ) (at : ℕ) where
  pub quote_cut : at ≤ length text → length text ≤ at → Gives text at quoted (Err (NoXml at))
  quote_cut m l = record { goes = λ value. pattern_cut text at (quoted value) refl l; bounds = m; quote = tt }

  pub quote_taken : (to : ℕ) → at < length text → is_quote (get_or text at 0) ≡ true → to ≡ at + 1 → Gives text at quoted (Ok to)
  quote_taken to inside h e =
      record {
        goes = λ value. ⊎_elim (λ t. by value 34 (eqb-true (get_or text at 0) 34 t) refl (is_calm 34 refl)) (λ t. by value 39 (eqb-true (get_or text at 0) 39 t) refl (is_calm 39 refl))
            (or_true (eqb (get_or text at 0) 34) (eqb (get_or text at 0) 39) h);
        bounds = (omega arith, omega arith);
        quote = ap (λ n. is_quote (get_or text n 0)) before ∙ h;
      }
    where
      before : to - 1 ≡ at
      before = omega arith

      by : (value : ℕ → Pattern) (n : ℕ) → get_or text at 0 ≡ n → after (quoted value) n ≡ some (value n) → Calm n → head_at text at (state (heading (quoted value)) []) ≡ head_at text to (awaiting (value (get_or text (to - 1) 0)))
      by value n f a c =
          let next : suc at ≡ to = omega arith in
          pattern_takes text at (quoted value) refl inside (value n) (subst Calm (sym f) c) (ap (after (quoted value)) f ∙ a) ∙ ap (λ m. head_at text m (awaiting (value n))) next
          ∙ ap (λ m. head_at text to (awaiting (value m))) (sym f ∙ ap (λ m. get_or text m 0) (sym before))

  pub quote_other : (why : Refusal) → at < length text → is_quote (get_or text at 0) ≡ false → why ≡ refusal_at (left_out_anywhere (drop at text)) at → Gives text at quoted (Err why)
  quote_other why inside h e =
      rw e (go (left_out_anywhere (drop at text)) refl)
    where
      neither : (value : ℕ → Pattern) → after (quoted value) (get_or text at 0) ≡ none
      neither value =
          ⊎_elim (λ (t : eqb 34 (get_or text at 0) ≡ true). absurd (false≢true (sym h ∙ rw (sym (eqb-true 34 (get_or text at 0) t))))) (λ (t : eqb 34 (get_or text at 0) ≡ false).
          ⊎_elim (λ (u : eqb 39 (get_or text at 0) ≡ true). absurd (false≢true (sym h ∙ rw (sym (eqb-true 39 (get_or text at 0) u))))) (λ (u : eqb 39 (get_or text at 0) ≡ false). rw (t, u)) (decide (eqb 39 (get_or text at 0))))
          (decide (eqb 34 (get_or text at 0)))

      go : (t : Bool) → left_out_anywhere (drop at text) ≡ t → Gives text at quoted (Err (refusal_at t at))
      go true o = record { goes = λ value. pattern_none text at (quoted value) refl inside (LeftOut at) (neither value) (ap (λ t. refusal_at t at) (sym o)); bounds = omega arith; quote = tt }
      go false o = record { goes = λ value. pattern_none text at (quoted value) refl inside (NoXml at) (neither value) (ap (λ t. refusal_at t at) (sym o)); bounds = omega arith; quote = tt }

  -- A NAME AND THE QUOTE.
  module _ (name : List ℕ) where
    pub name_stuck : (why : Refusal) → ((p : Pattern) → Heads text at (say name p) p (Err why)) → Gives text at (λ value. say name (valued value)) (Err why)
    name_stuck why h = record { goes = λ value. (h (valued value)).goes; bounds = (h done).bounds; quote = tt }

    module _ (name_end : ℕ) (named : (p : Pattern) → Heads text at (say name p) p (Ok name_end)) where
      pub mark_stuck : (why : Refusal) → ((p : Pattern) → is_done p ≡ false → quote_of p ≡ none → Heads text name_end (many white (one (eqb 61) (many white p))) p (Err why))
          → Gives text at (λ value. say name (valued value)) (Err why)
      mark_stuck why h = record { goes = λ value. (named (valued value)).goes ∙ (h (quoted value) refl refl).goes; bounds = (h (one white done) refl refl).bounds; quote = tt }

      pub name_quote : (place : ℕ) (r : Reach) → ((p : Pattern) → is_done p ≡ false → quote_of p ≡ none → Heads text name_end (many white (one (eqb 61) (many white p))) p (Ok place))
          → Gives text place quoted r → Gives text at (λ value. say name (valued value)) r
      name_quote place r h g =
          record {
            goes = λ value. (named (valued value)).goes ∙ (h (quoted value) refl refl).goes ∙ g.goes value;
            bounds = farther (suc place) (suc at) (length text) r (omega (arith, (named done).bounds.0, (h (one white done) refl refl).bounds.0)) g.bounds;
            quote = g.quote;
          }

  -- The value behind it.
  module _ (before : (ℕ → Pattern) → Pattern) (value : ℕ → Pattern) (p : Pattern) where
    pub given_stuck : (why : Refusal) → Gives text at before (Err why) → Heads text at (before value) p (Err why)
    given_stuck why g = record { goes = g.goes value; bounds = g.bounds }

    pub given_then : (from : ℕ) (r : Reach) → Gives text at before (Ok from) → Heads text from (value (get_or text (from - 1) 0)) p r → Heads text at (before value) p r
    given_then from r g h = record { goes = g.goes value ∙ h.goes; bounds = farther from at (length text) r (omega (arith, g.bounds.0)) h.bounds }

-- A quote is calm.
pub quote_calm : (b : ℕ) → is_quote b ≡ true → calm b ≡ true
quote_calm b h = ⊎_elim (λ t. rw (eqb-true b 34 t)) (λ t. rw (eqb-true b 39 t)) (or_true (eqb b 34) (eqb b 39) h)

-- DIGITS.
module _ (text : List ℕ) (at end q : ℕ) (e : end ≡ at + run_of digit (drop at text)) (l : at ≤ length text) (p : Pattern) where
  pub number_refused : (why : Refusal) → end ≤ at → why ≡ refusal_at (left_out_anywhere (drop at text)) at → Heads text at (numbered q p) p (Err why)
  number_refused why m f =
      in_or_out at (length text)
      (λ inside. record { goes = pattern_none text at (numbered q p) refl inside why (let h = no_digit inside in rw h) f; bounds = rw f (go (left_out_anywhere (drop at text))) })
      (λ over. record { goes = pattern_cut text at (numbered q p) refl over ∙ sym (ap refusing f ∙ rw (drop_of_length-le text over)); bounds = rw f (go (left_out_anywhere (drop at text))) })
    where
      no_digit : at < length text → digit (get_or text at 0) ≡ false
      no_digit inside = ⊎_elim (λ (h : digit (get_or text at 0) ≡ true). absurd (let z = run_more text at inside digit h in omega arith)) (λ h. h) (decide (digit (get_or text at 0)))

      go : (t : Bool) → refusal_place (refusal_at t at) ≤ length text
      go true = l
      go false = l

  pub number_read : (r : Reach) → at < end → Heads text end (one (eqb q) p) p r → Heads text at (numbered q p) p r
  number_read r m h =
      let inside : at < length text = let z = run_inside digit text at end e l in omega arith in
      heads_from text at end (numbered q p) (one (eqb q) p) p r (omega arith)
      (enters_run digit digit_calm text at end e (numbered q p) (many digit (one (eqb q) p)) m inside refl refl refl (λ b d. rw d) (λ b d. rw d)
      ∙ pattern_alike text end (many digit (one (eqb q) p)) (one (eqb q) p) refl refl (λ in'. let s = stops_run digit text at end e in' in rw s)) h

-- WHAT STANDS AT A PLACE.
pub stood : (text : List ℕ) (at b : ℕ) → at < length text → begins b (drop at text) ≡ eqb b (get_or text at 0)
stood text at b inside = rw (drop-cons text at 0 inside)

module _ (text : List ℕ) (at : ℕ) (p : Pattern) (r : Reach) where
  -- `yes` or `no`.
  pub is_yes : begins 121 (drop at text) ≡ true → Heads text at (say (ascii "yes") p) p r → Heads text at (yes_no p) p r
  is_yes h g = heads_from text at at (yes_no p) (say (ascii "yes") p) p r (omega arith) (pattern_alike text at (yes_no p) (say (ascii "yes") p) refl refl (λ inside. let e = eqb-true 121 (get_or text at 0) (sym (stood text at 121 inside) ∙ h) in rw (sym e))) g

  pub is_no : begins 121 (drop at text) ≡ false → Heads text at (say (ascii "no") p) p r → Heads text at (yes_no p) p r
  is_no h g = heads_from text at at (yes_no p) (say (ascii "no") p) p r (omega arith) (pattern_alike text at (yes_no p) (say (ascii "no") p) refl refl (λ inside. let e : eqb 121 (get_or text at 0) ≡ false = sym (stood text at 121 inside) ∙ h in rw e)) g

-- WHAT MAY FOLLOW A VALUE.
abbrev alone : Pattern
alone = say (ascii "standalone") (valued standalone_value)

abbrev coded : Pattern
coded = say (ascii "encoding") (valued encoding_value)

abbrev over : Pattern
over = say (ascii "?>") done

abbrev alone_or_over : Pattern
alone_or_over = fork (many white alone) (many white over)

abbrev coded_or_more : Pattern
coded_or_more = fork (many white coded) alone_or_over

module _ (text : List ℕ) (at place : ℕ) (l : at ≤ length text) (e : place ≡ at + run_of white (drop at text)) where
  no_white : place < length text → white (get_or text place 0) ≡ false
  no_white = stops_run white text at place e

  inside_text : at < place → at < length text
  inside_text m = let z = run_inside white text at place e l in omega arith

  pub over_on : (r : Reach) → Heads text place over done r → Heads text at declaration_end done r
  over_on r h = heads_from text at place declaration_end over done r (omega arith) (many_run white space_calm text at place e over refl refl) h

  -- White space, then one of those that may follow.
  to_alone : at < place → head_at text at (state (heading after_encoding) []) ≡ head_at text place (state (heading alone_or_over) [])
  to_alone m = enters_run white space_calm text at place e after_encoding alone_or_over m (inside_text m) refl refl refl (λ b h. rw h) (λ b h. rw h)

  to_coded : at < place → head_at text at (state (heading after_version) []) ≡ head_at text place (state (heading coded_or_more) [])
  to_coded m = enters_run white space_calm text at place e after_version coded_or_more m (inside_text m) refl refl refl (λ b h. rw h) (λ b h. rw h)

  pub alone_on : (r : Reach) → at < place → begins 115 (drop place text) ≡ true → Heads text place alone done r → Heads text at after_encoding done r
  alone_on r m h g =
      heads_from text at place after_encoding alone done r (omega arith)
      (to_alone m ∙ pattern_alike text place alone_or_over alone refl refl (λ inside. let f = eqb-true 115 (get_or text place 0) (sym (stood text place 115 inside) ∙ h) in rw (sym f))) g

  pub alone_off : (r : Reach) → (ltb at place && begins 115 (drop place text)) ≡ false → Heads text at declaration_end done r → Heads text at after_encoding done r
  alone_off r h g = record { goes = same_way ∙ g.goes; bounds = g.bounds }
    where
      further : at < place → head_at text at (state (heading after_encoding) []) ≡ head_at text at (state (heading declaration_end) [])
      further m =
          to_alone m
          ∙ pattern_alike text place alone_or_over over refl refl (λ inside. let s = no_white inside in let o : eqb 115 (get_or text place 0) ≡ false = sym (stood text place 115 inside) ∙ not_here in rw (s, o))
          ∙ sym (many_run white space_calm text at place e over refl refl)
        where
          not_here : begins 115 (drop place text) ≡ false
          not_here = sym (rw (le-leb (suc at) place m)) ∙ h

      same_way : head_at text at (state (heading after_encoding) []) ≡ head_at text at (state (heading declaration_end) [])
      same_way = in_or_out at place further (λ m. let here : place ≡ at = omega arith in pattern_alike text at after_encoding declaration_end refl refl (λ inside. let s : white (get_or text at 0) ≡ false = subst (λ n. n < length text → white (get_or text n 0) ≡ false) here no_white inside in rw s))

  pub coded_on : (r : Reach) → at < place → begins 101 (drop place text) ≡ true → Heads text place coded done r → Heads text at after_version done r
  coded_on r m h g =
      heads_from text at place after_version coded done r (omega arith)
      (to_coded m ∙ pattern_alike text place coded_or_more coded refl refl (λ inside. let f = eqb-true 101 (get_or text place 0) (sym (stood text place 101 inside) ∙ h) in rw (sym f))) g

  pub coded_off : (r : Reach) → (ltb at place && begins 101 (drop place text)) ≡ false → Heads text at after_encoding done r → Heads text at after_version done r
  coded_off r h g = record { goes = same_way ∙ g.goes; bounds = g.bounds }
    where
      further : at < place → head_at text at (state (heading after_version) []) ≡ head_at text at (state (heading after_encoding) [])
      further m =
          to_coded m
          ∙ pattern_alike text place coded_or_more alone_or_over refl refl (λ inside. let s = no_white inside in let o : eqb 101 (get_or text place 0) ≡ false = sym (stood text place 101 inside) ∙ not_here in rw (s, o))
          ∙ sym (to_alone m)
        where
          not_here : begins 101 (drop place text) ≡ false
          not_here = sym (rw (le-leb (suc at) place m)) ∙ h

      same_way : head_at text at (state (heading after_version) []) ≡ head_at text at (state (heading after_encoding) [])
      same_way = in_or_out at place further (λ m. let here : place ≡ at = omega arith in pattern_alike text at after_version after_encoding refl refl (λ inside. let s : white (get_or text at 0) ≡ false = subst (λ n. n < length text → white (get_or text n 0) ≡ false) here no_white inside in rw s))

-- THE ENCODING.
module _ (text : List ℕ) (at q : ℕ) (l : at ≤ length text) where
  pub encoding_other : other_encoding (some q) (drop at text) ≡ true → Heads text at (encoding_value q) done (Err (LeftOut at))
  unfolding left_out
  encoding_other h = in_or_out at (length text) (λ inside. record { goes = here inside; bounds = l }) (λ o. absurd (false≢true (sym (ap (other_encoding (some q)) (drop_of_length-le text o)) ∙ h)))
    where
      or_last : (t : Bool) → (t || true) ≡ true
      or_last true = refl
      or_last false = refl

      here : at < length text → head_at text at (state (heading (encoding_value q)) []) ≡ refused 12 at
      here inside =
          let h' = rw (drop-cons text at 0 inside) at h in
          let o : left_out (heading (encoding_value q)) (get_or text at 0 ∷ drop (suc at) text) ≡ true = ap (λ t. left_out_anywhere (get_or text at 0 ∷ drop (suc at) text) || t) h' ∙ or_last (left_out_anywhere (get_or text at 0 ∷ drop (suc at) text)) in
          ap (λ (bs : List ℕ). seek_head at (state (heading (encoding_value q)) []) bs) (drop-cons text at 0 inside) ∙ rw o

  pub encoding_none : (r : Reach) → other_encoding (some q) (drop at text) ≡ false → Heads text at (utf8 q) done r → Heads text at (encoding_value q) done r
  unfolding left_out
  encoding_none r h g = record { goes = in_or_out at (length text) here (λ o. rw (drop_of_length-le text o)) ∙ g.goes; bounds = g.bounds }
    where
      here : at < length text → head_at text at (state (heading (encoding_value q)) []) ≡ head_at text at (state (heading (utf8 q)) [])
      here inside = let h' = rw (drop-cons text at 0 inside) at h in rw (drop-cons text at 0 inside, h')
