-- The automaton sees a thing that is left out exactly where one opens behind the bytes before.
-- From left to right by what was reached; from right to left by going over the bytes before again, which go one way. Assumes nothing.
use Prim.Native.Nat.{ℕ, suc, ◌+◌}
use mathlib.Core.Path.{◌≡◌, refl, sym, ◌∙◌, ap, subst}
use mathlib.Core.Bool.{Bool, true, false, not, ◌&&◌, ◌||◌, false≢true}
use mathlib.Core.List.{List, [], ◌∷◌, ◌++◌, append-nil, append_assoc}
use mathlib.Core.Logic.{◌⊎◌, ⊎_elim}
use mathlib.Core.Option.{some}
use lib.ListN.{length}
use borrow.Author.Tests.{not-true}
use Rattle.paper.specs.Tools.{ascii}
use Rattle.paper.specs.Names.{name_start, name_part}
use Rattle.paper.specs.Tokens.{white}
use Rattle.paper.specs.Xml.{xml_start, xml_part, Pattern, done, one, many, fork, encoding, quote_of, say, declaration}
use Rattle.paper.specs.Xml.{Frame, Mode, start, in_name, in_tag, State, step}
use Rattle.paper.specs.Xml.{starts, first_is, other_encoding, left_out_anywhere, declares, left_out}
use Rattle.paper.proofs.Tests.{and_true, or_true, or_left, or_right, true_and}
use Rattle.xml_grammar.specs.Productions.{ManyIn, no_more, one_more, SomeIn, at_least, PartsIn, name_ends, name_goes_on, NameIn, name-starts}
use Rattle.xml_verdicts.specs.Owed.{TagOpens, tag_opens, NameOpens, name_opens, GapOpens, gap_opens, ValueOpens, value_opens}
use Rattle.xml_verdicts.specs.Owed.{Opens, markup, character, instruction, no_declaration, byte_order_mark, attribute, name-start, name-part, other-encoding}
use Rattle.xml_grammar.proofs.Moves.{state, Runs, still, onto, runs_one, runs_cut, runs_then, goes_runs}
use Rattle.xml_grammar.proofs.Patterns.{opened}
use Rattle.xml_grammar.proofs.Live.{encoding_value}
use Rattle.xml_grammar.proofs.Heading.{head, value_goes}
use Rattle.xml_grammar.proofs.Followed.{Enters, white_no_part, no_question}
use Rattle.xml_grammar.proofs.Declared.{value-passed}
use Rattle.xml_verdicts.proofs.Marks.{starts-two, Tag, tag_first, tag_later, less_read}
use Rattle.xml_grammar.proofs.Reached.{Reached, Passed, Left, left-of, reached, at_first, in_heading, at_ahead, at_opening, in_name_lem, in_tag_lem, at_emptied}
use Rattle.xml_grammar.proofs.Reached.{at_content, in_run, in_part, in_closing, at_closing, at_ended}

-- SEEN, SO IT OPENS.

-- A name with nothing behind it is all that was read; with something behind it, what stands before that.
parts_alone : {at to : ℕ} {bs name rest : List ℕ} → PartsIn at bs name to rest → (bs ≡ name ++ rest) × PartsIn at name name to []
parts_alone name_ends = (refl, name_ends)
parts_alone (name_goes_on {b = b} h p) = let (e, q) = parts_alone p in (ap (λ l. b ∷ l) e, name_goes_on h q)

name_alone : {at to : ℕ} {bs name rest : List ℕ} → NameIn at bs name to rest → (bs ≡ name ++ rest) × NameIn at name name to []
name_alone (name-starts {b = b} h p) = let (e, q) = parts_alone p in (ap (λ l. b ∷ l) e, name-starts h q)

tag_of : {whole : List ℕ} → Left whole (60 ∷ []) → TagOpens whole
tag_of (left-of u e) = subst TagOpens e (tag_opens u)

name_of : {whole cs name : List ℕ} {at to : ℕ} → Left whole (60 ∷ cs) → NameIn at cs name to [] → NameOpens whole
name_of {name = name} (left-of u e) n =
    let (f, k) = name_alone n in
    subst NameOpens (ap (λ l. u ++ (60 ∷ l)) (sym (f ∙ append-nil name)) ∙ e) (name_opens u name k)

gap_of : {whole cs ds name : List ℕ} {at p q : ℕ} → Left whole (60 ∷ cs) → NameIn at cs name p ds → SomeIn white p ds q [] → GapOpens whole
gap_of {ds = ds} {name = name} (left-of u e) n s =
    let (f, k) = name_alone n in
    subst GapOpens (ap (λ l. u ++ (60 ∷ l)) (sym f) ∙ e) (gap_opens u name ds k s)

value_of : {to : ℕ} {cs : List ℕ} (quote : ℕ) (v : Pattern) → Passed (say (ascii "xml") declaration) 2 cs (encoding quote v) to [] → ValueOpens (60 ∷ 63 ∷ cs) quote
value_of {to = to} quote v pass = value-passed (pass (encoding quote v) to [] opened) (λ p mid ds es x w g f. value_opens x w g)

anywhere_opens : {b : ℕ} {before bs : List ℕ} → left_out_anywhere bs ≡ true → Opens (b ∷ before) bs
anywhere_opens {bs = bs} h =
    ⊎_elim (λ k. ⊎_elim markup character (or_true (starts (ascii "<!") bs) (starts (ascii "&#") bs) k)) instruction (or_true (starts (ascii "<!") bs || starts (ascii "&#") bs) (starts (ascii "<?") bs) h)

or_opens : {b : ℕ} {before bs : List ℕ} (more : Bool) → (more ≡ true → Opens (b ∷ before) bs) → (left_out_anywhere bs || more) ≡ true → Opens (b ∷ before) bs
or_opens {bs = bs} more f h = ⊎_elim anywhere_opens f (or_true (left_out_anywhere bs) more h)

encoding_opens : {to : ℕ} {cs bs : List ℕ} (p : Pattern) → Passed (say (ascii "xml") declaration) 2 cs p to [] → other_encoding (quote_of p) bs ≡ true → Opens (60 ∷ 63 ∷ cs) bs
encoding_opens done pass h = absurd (false≢true h)
encoding_opens (one set p) pass h = absurd (false≢true h)
encoding_opens (many set p) pass h = absurd (false≢true h)
encoding_opens (fork l r) pass h = absurd (false≢true h)
encoding_opens (encoding quote v) pass h = other-encoding (value_of quote v pass) h

later_opens : {b : ℕ} {before bs : List ℕ} {m : Mode} {fs : List Frame} {to : ℕ} → Reached (b ∷ before) m fs to [] → left_out m bs ≡ true → Opens (b ∷ before) bs
unfolding left_out
later_opens {bs = bs} at_first h = or_opens (first_is (λ b. xml_start b && not (name_start b)) bs) (λ k. name-start (tag_opens []) k) h
later_opens {bs = bs} (in_heading {p = p} pass live d) h = or_opens (other_encoding (quote_of p) bs) (λ k. encoding_opens p pass k) h
later_opens (at_ahead o) h = anywhere_opens h
later_opens {bs = bs} (at_opening l o) h = or_opens (first_is (λ b. xml_start b && not (name_start b)) bs) (λ k. name-start (tag_of l) k) h
later_opens {bs = bs} (in_name_lem l o n) h = or_opens (first_is (λ b. xml_part b && not (name_part b)) bs) (λ k. name-part (name_of l n) k) h
later_opens {bs = bs} (in_tag_lem l o n w) h = or_opens (first_is xml_start bs) (λ k. attribute (gap_of l n w) k) h
later_opens (at_emptied o n m) h = anywhere_opens h
later_opens (at_content o) h = anywhere_opens h
later_opens (in_run o g r) h = anywhere_opens h
later_opens (in_part o g w pass live d) h = anywhere_opens h
later_opens (in_closing o y k) h = anywhere_opens h
later_opens (at_closing o y m) h = anywhere_opens h
later_opens (at_ended o r m) h = anywhere_opens h

start_opens : {bs : List ℕ} → left_out start bs ≡ true → Opens [] bs
unfolding left_out
start_opens {bs = bs} h =
    ⊎_elim
    (λ k.
    let (i, j) = and_true (left_out_anywhere bs) (not (declares bs)) k in
    ⊎_elim (λ l. ⊎_elim markup character (or_true (starts (ascii "<!") bs) (starts (ascii "&#") bs) l)) (λ l. no_declaration l (not-true (declares bs) j))
    (or_true (starts (ascii "<!") bs || starts (ascii "&#") bs) (starts (ascii "<?") bs) i))
    byte_order_mark (or_true (left_out_anywhere bs && not (declares bs)) (starts (239 ∷ 187 ∷ 191 ∷ []) bs) h)

pub seen_opens : {before bs : List ℕ} {s : State} → Runs 0 (state start []) before s → left_out s.mode bs ≡ true → Opens before bs
seen_opens still h = start_opens h
seen_opens (onto h r) k = later_opens (reached (onto h r)).1 k

-- IT OPENS, SO IT IS SEEN.

tag-enters {ℓ} : {C : Type ℓ} {m : Mode} {s : State} → Tag m s → ((begin : ℕ) (fs : List Frame) → Enters begin fs s → C) → C
tag-enters tag_first k = k 0 [] (λ n b h. rw (no_question b h, h))
tag-enters (tag_later {begin = begin} {fs = fs}) k = k begin fs (λ n b h. rw h)

-- A `<` behind other bytes.
less-behind {ℓ} : {C : Type ℓ} (u : List ℕ) {cs : List ℕ} {s : State} → Runs 0 (state start []) (u ++ (60 ∷ cs)) s → ((m : Mode) (n : ℕ) (t : State) → Tag m t → Runs n t cs s → C) → C
less-behind {C = C} u {cs} {s} r k = let c = runs_cut u r in go c.0 (0 + length u) c.1 c.2
  where
    go : (t : State) (n : ℕ) → Runs 0 (state start []) u t → Runs n t (60 ∷ cs) s → C
    go t n p (onto {t = v} h q) = k t.mode (suc n) v (less_read n (reached p).1 h) q

parts_runs : {at to begin : ℕ} {bs name front : List ℕ} {fs : List Frame} (n : ℕ) → PartsIn at bs name to [] → Runs n (state (in_name begin front) fs) bs (state (in_name begin (front ++ bs)) fs)
parts_runs {begin = begin} {front = front} {fs = fs} n name_ends = subst (λ l. Runs n (state (in_name begin front) fs) [] (state (in_name begin l) fs)) (sym (append-nil front)) still
parts_runs {begin = begin} {front = front} {fs = fs} n (name_goes_on {b = b} {bs = bs} h p) =
    onto (here h) (subst (λ l. Runs (suc n) (state (in_name begin (front ++ (b ∷ []))) fs) bs (state (in_name begin l) fs)) (append_assoc front (b ∷ []) bs) (parts_runs (suc n) p))
  where
    here : name_part b ≡ true → step n (state (in_name begin front) fs) b ≡ some (state (in_name begin (front ++ (b ∷ []))) fs)
    here h = rw h

name_runs {ℓ} : {C : Type ℓ} {at to : ℕ} {bs name : List ℕ} {m : Mode} {t : State} (n : ℕ) → Tag m t → NameIn at bs name to []
    → ((begin : ℕ) (fs : List Frame) → Runs n t bs (state (in_name begin bs) fs) → C) → C
name_runs n g (name-starts {b = b} h p) k = tag-enters g (λ begin fs e. k begin fs (onto (e n b h) (parts_runs (suc n) p)))

white_runs : {set : ℕ → Bool} {at to : ℕ} {bs : List ℕ} (s : State) → ((n b : ℕ) → set b ≡ true → step n s b ≡ some s) → (n : ℕ) → ManyIn set at bs to [] → Runs n s bs s
white_runs s loop n no_more = still
white_runs s loop n (one_more {b = b} h m) = onto (loop n b h) (white_runs s loop (suc n) m)

gap_runs : {at to begin : ℕ} {bs name : List ℕ} {fs : List Frame} (n : ℕ) → SomeIn white at bs to [] → Runs n (state (in_name begin name) fs) bs (state (in_tag begin name) fs)
gap_runs {begin = begin} {name = name} {fs = fs} n (at_least {b = b} h m) = onto (here h) (white_runs (state (in_tag begin name) fs) stay (suc n) m)
  where
    here : white b ≡ true → step n (state (in_name begin name) fs) b ≡ some (state (in_tag begin name) fs)
    here h = rw (white_no_part b h, h)

    stay : (n b : ℕ) → white b ≡ true → step n (state (in_tag begin name) fs) b ≡ some (state (in_tag begin name) fs)
    stay n b h = rw h

-- The bytes at which it opens.
module _ (bs : List ℕ) where
  later_seen : {b : ℕ} {before : List ℕ} {m : Mode} {fs : List Frame} {to : ℕ} → Reached (b ∷ before) m fs to [] → left_out_anywhere bs ≡ true → left_out m bs ≡ true
  unfolding left_out
  later_seen at_first h = or_left (first_is (λ b. xml_start b && not (name_start b)) bs) h
  later_seen (in_heading {p = p} pass live d) h = or_left (other_encoding (quote_of p) bs) h
  later_seen (at_ahead o) h = h
  later_seen (at_opening l o) h = or_left (first_is (λ b. xml_start b && not (name_start b)) bs) h
  later_seen (in_name_lem l o n) h = or_left (first_is (λ b. xml_part b && not (name_part b)) bs) h
  later_seen (in_tag_lem l o n w) h = or_left (first_is xml_start bs) h
  later_seen (at_emptied o n m) h = h
  later_seen (at_content o) h = h
  later_seen (in_run o g r) h = h
  later_seen (in_part o g w pass live d) h = h
  later_seen (in_closing o y k) h = h
  later_seen (at_closing o y m) h = h
  later_seen (at_ended o r m) h = h

  start_seen : left_out_anywhere bs ≡ true → declares bs ≡ false → left_out start bs ≡ true
  unfolding left_out
  start_seen h k = or_left (starts (239 ∷ 187 ∷ 191 ∷ []) bs) (true_and h (let f : not (declares bs) ≡ true = ap not k in f))

  anywhere_seen : {before : List ℕ} {s : State} → Runs 0 (state start []) before s → left_out_anywhere bs ≡ true → declares bs ≡ false → left_out s.mode bs ≡ true
  anywhere_seen still h k = start_seen h k
  anywhere_seen (onto {b = b} i r) h k = later_seen {b = b} (reached (onto i r)).1 h

  mark_seen : {s : State} → Runs 0 (state start []) [] s → starts (239 ∷ 187 ∷ 191 ∷ []) bs ≡ true → left_out s.mode bs ≡ true
  unfolding left_out
  mark_seen still h = or_right (left_out_anywhere bs && not (declares bs)) h

  -- Past a `<`.
  tag_seen : {m : Mode} {s : State} → Tag m s → first_is (λ b. xml_start b && not (name_start b)) bs ≡ true → left_out s.mode bs ≡ true
  unfolding left_out
  tag_seen tag_first h = or_right (left_out_anywhere bs) h
  tag_seen tag_later h = or_right (left_out_anywhere bs) h

  name_seen : {name : List ℕ} {begin : ℕ} {fs : List Frame} {s : State} → state (in_name begin name) fs ≡ s → first_is (λ b. xml_part b && not (name_part b)) bs ≡ true → left_out s.mode bs ≡ true
  unfolding left_out
  name_seen e h = subst (λ s. left_out s.mode bs ≡ true) e (or_right (left_out_anywhere bs) h)

  gap_seen : {name : List ℕ} {begin : ℕ} {fs : List Frame} {s : State} → state (in_tag begin name) fs ≡ s → first_is xml_start bs ≡ true → left_out s.mode bs ≡ true
  unfolding left_out
  gap_seen e h = subst (λ s. left_out s.mode bs ≡ true) e (or_right (left_out_anywhere bs) h)

  value_seen : {quote : ℕ} {s : State} → head (encoding quote (encoding_value quote)) ≡ s → other_encoding (some quote) bs ≡ true → left_out s.mode bs ≡ true
  unfolding left_out
  value_seen e h = subst (λ s. left_out s.mode bs ≡ true) e (or_right (left_out_anywhere bs) h)

  pub opens_seen : {before : List ℕ} {s : State} → Runs 0 (state start []) before s → Opens before bs → left_out s.mode bs ≡ true
  opens_seen r (markup h) =
      anywhere_seen r (or_left (starts (ascii "<?") bs) (or_left (starts (ascii "&#") bs) h)) (starts-two 60 33 bs h (λ rest e. subst (λ l. declares l ≡ false) (sym e) refl))
  opens_seen r (character h) =
      anywhere_seen r (or_left (starts (ascii "<?") bs) (or_right (starts (ascii "<!") bs) h)) (starts-two 38 35 bs h (λ rest e. subst (λ l. declares l ≡ false) (sym e) refl))
  opens_seen r (instruction h) = later_seen (reached r).1 (or_right (starts (ascii "<!") bs || starts (ascii "&#") bs) h)
  opens_seen r (no_declaration h k) = anywhere_seen r (or_right (starts (ascii "<!") bs || starts (ascii "&#") bs) h) k
  opens_seen r (byte_order_mark h) = mark_seen r h
  opens_seen {s = s} r (attribute (gap_opens u name gap n w) h) =
      less-behind u r
      (λ m p t g q. name_runs p g n (λ begin fs x. gap_seen (runs_one (runs_then x (gap_runs (p + length name) w)) q) h))
  opens_seen r (name-start (tag_opens u) h) = less-behind u r (λ m p t g q. at_tag g q h)
    where
      at_tag : {m : Mode} {n : ℕ} {t s : State} → Tag m t → Runs n t [] s → first_is (λ b. xml_start b && not (name_start b)) bs ≡ true → left_out s.mode bs ≡ true
      at_tag g still h = tag_seen g h
  opens_seen r (name-part (name_opens u name n) h) = less-behind u r (λ m p t g q. name_runs p g n (λ begin fs x. name_seen (runs_one x q) h))
  opens_seen r (other-encoding (value_opens x v g) h) = value_seen (runs_one (goes_runs (value_goes x v g)) r) h
