-- Where a thing opens that is left out, no bytes lead to the end of a wanted text.
-- By cases on where reading stands: the next byte or the one after it stops reading, but for a declaration and an encoding name, which are read on. Assumes nothing.
use Prim.Native.Nat.{ℕ, suc, ◌+◌}
use native.Mathlib.Omega.{arith}
use mathlib.Core.Path.{◌≡◌, refl, sym, ◌∙◌, ap, subst}
use mathlib.Core.Bool.{Bool, true, false, not, ◌&&◌, ◌||◌, false≢true}
use mathlib.Core.List.{List, [], ◌∷◌}
use mathlib.Core.Logic.{◌⊎◌, ⊎_elim}
use mathlib.Core.Option.{some}
use lib.Dec.{eqb}
use borrow.Author.Tests.{eqb-true, not-true}
use Rattle.paper.specs.Tools.{ascii}
use Rattle.paper.specs.Names.{name_start, name_part}
use Rattle.paper.specs.Tokens.{white}
use Rattle.paper.specs.Xml.{Nodes, xml_start, xml_part, Pattern, done, one, many, fork, encoding, after, is_done, quote_of, say, declaration, any_case, after_encoding}
use Rattle.paper.specs.Xml.{Frame, Mode, start, first, opening, in_name, in_tag, ended, State, step, heading_goes_on, name_or_slash, tag_goes_on}
use Rattle.paper.specs.Xml.{starts, first_is, other_encoding, left_out_anywhere, declares, left_out}
use Rattle.paper.proofs.Tests.{and_true, or_true, some_inj, none-some, decide}
use Rattle.xml_grammar.specs.Productions.{is_quote, GivenIn, gives}
use Rattle.xml_grammar.proofs.Moves.{state, Runs, still, onto}
use Rattle.xml_grammar.proofs.Patterns.{chosen, opened}
use Rattle.xml_grammar.proofs.Live.{encoding_value}
use Rattle.xml_grammar.proofs.Heading.{head, quotes}
use Rattle.xml_grammar.proofs.Followed.{whites}
use Rattle.xml_grammar.proofs.Declared.{value-passed}
use Rattle.xml_verdicts.proofs.Marks.{starts-two, not_anywhere}
use Rattle.xml_grammar.proofs.Reached.{Reached, Passed, at-start, at_first, in_heading, at_ahead, at_opening, in_name_lem, in_tag_lem, at_emptied}
use Rattle.xml_grammar.proofs.Reached.{at_content, in_run, in_part, in_closing, at_closing, at_ended}

-- Reading stands past the element.
abbrev pub Ended : State → Type 0
Ended u = (tree : Nodes) × (u.mode ≡ ended tree)

-- A byte must come.
byte-needed {ℓ} : {C : Type ℓ} {at : ℕ} {bs : List ℕ} {s u : State} → Runs at s bs u → Ended u → (Ended s → ⊥) → ((b : ℕ) (cs : List ℕ) (t : State) → bs ≡ b ∷ cs → step at s b ≡ some t → Runs (suc at) t cs u → C) → C
byte-needed still e n k = absurd (n e)
byte-needed (onto h r) e n k = k _ _ _ refl h r

not_ended : (p : Pattern) → Ended (head p) → ⊥
not_ended p (tree, e) = let z : ◌≡◌ {A = ℕ} 0 1 = cc in omega arith

-- A byte of a set, in the declaration.
set-needed {ℓ} : {C : Type ℓ} {at : ℕ} {bs : List ℕ} {u : State} (w : Pattern) (set : ℕ → Bool) (p : Pattern) → ((b : ℕ) → after w b ≡ after (one set p) b) → is_done p ≡ false → Runs at (head w) bs u → Ended u
    → ((b : ℕ) (cs : List ℕ) → bs ≡ b ∷ cs → set b ≡ true → Runs (suc at) (head p) cs u → C) → C
set-needed {C = C} {at = at} {bs = bs} {u = u} w set p f d r e k = byte-needed r e (not_ended w) (λ b cs t q h r. taken b cs t q (ap heading_goes_on (sym (f b)) ∙ h) r)
  where
    taken : (b : ℕ) (cs : List ℕ) (t : State) → bs ≡ b ∷ cs → heading_goes_on (after (one set p) b) ≡ some t → Runs (suc at) t cs u → C
    taken b cs t q h r =
        ⊎_elim (λ (s : set b ≡ true). k b cs q s (subst (λ z. Runs (suc at) z cs u) (sym (some_inj (rw (s, d) at h))) r)) (λ (s : set b ≡ false). none-some (rw s at h)) (decide (set b))

-- The very byte.
this-needed {ℓ} : {C : Type ℓ} {at : ℕ} {bs : List ℕ} {u : State} (x : ℕ) (p : Pattern) → is_done p ≡ false → Runs at (head (one (eqb x) p)) bs u → Ended u
    → ((cs : List ℕ) → bs ≡ x ∷ cs → Runs (suc at) (head p) cs u → C) → C
this-needed x p d r e k = set-needed (one (eqb x) p) (eqb x) p (λ b. refl) d r e (λ b cs q s r. k cs (q ∙ ap (λ z. z ∷ cs) (sym (eqb-true x b s))) r)

-- A DECLARATION.

declares_needed : {at : ℕ} {bs : List ℕ} {u : State} → Runs at (head (say (ascii "xml") declaration)) bs u → Ended u → declares (60 ∷ 63 ∷ bs) ≡ true
declares_needed r e =
    this-needed 120 (say (ascii "ml") declaration) refl r e
    (λ cs p r.
    this-needed 109 (say (ascii "l") declaration) refl r e
    (λ ds q r.
    this-needed 108 declaration refl r e
    (λ es s r.
    set-needed declaration white _ (λ b. refl) refl r e
    (λ b fs t w r.
    subst (λ l. declares (60 ∷ 63 ∷ l) ≡ true) (sym (p ∙ ap (λ l. 120 ∷ l) (q ∙ ap (λ l. 109 ∷ l) (s ∙ ap (λ l. 108 ∷ l) t)))) w))))

-- AN ENCODING.

cases {ℓ} : (P : ℕ → Type ℓ) (capital : ℕ) (b : ℕ) → any_case (capital + 32) b ≡ true → P capital → P (capital + 32) → P b
cases P capital b h x y =
    ⊎_elim (λ k. subst P (sym (eqb-true b (capital + 32) k)) y) (λ k. subst P (let e = eqb-true (b + 32) (capital + 32) k in let f : capital ≡ b = omega arith in f) x)
    (or_true (eqb b (capital + 32)) (eqb (b + 32) (capital + 32)) h)

utf-8 : (q : ℕ) (rest : List ℕ) (u t f : ℕ) → is_quote q ≡ true → any_case 117 u ≡ true → any_case 116 t ≡ true → any_case 102 f ≡ true → other_encoding (some q) (u ∷ t ∷ f ∷ 45 ∷ 56 ∷ q ∷ rest) ≡ false
utf-8 q rest u t f i a b c =
    quotes (λ q. other_encoding (some q) (u ∷ t ∷ f ∷ 45 ∷ 56 ∷ q ∷ rest) ≡ false) q i
    (letters 34 (refl, refl, (refl, refl, (refl, refl, (refl, refl)))))
    (letters 39 (refl, refl, (refl, refl, (refl, refl, (refl, refl)))))
  where
    Other : ℕ → ℕ → ℕ → ℕ → Type 0
    Other q x y z = other_encoding (some q) (x ∷ y ∷ z ∷ 45 ∷ 56 ∷ q ∷ rest) ≡ false

    letters : (q : ℕ) → Other q 85 84 70 × Other q 85 84 102 × (Other q 85 116 70 × Other q 85 116 102 × (Other q 117 84 70 × Other q 117 84 102 × (Other q 117 116 70 × Other q 117 116 102))) → Other q u t f
    letters q w =
        cases (λ x. Other q x t f) 85 u a
        (cases (λ y. Other q 85 y f) 84 t b (cases (λ z. Other q 85 84 z) 70 f c w.0 w.1) (cases (λ z. Other q 85 116 z) 70 f c w.2.0 w.2.1))
        (cases (λ y. Other q 117 y f) 84 t b (cases (λ z. Other q 117 84 z) 70 f c w.2.2.0 w.2.2.1) (cases (λ z. Other q 117 116 z) 70 f c w.2.2.2.0 w.2.2.2.1))

encoding_needed : {at : ℕ} {bs : List ℕ} {u : State} (q : ℕ) → is_quote q ≡ true → Runs at (head (encoding q (encoding_value q))) bs u → Ended u → other_encoding (some q) bs ≡ false
encoding_needed {bs = bs} q i r e =
    set-needed (encoding q (encoding_value q)) (any_case 117) (one (any_case 116) (one (any_case 102) (say (ascii "-8") (one (eqb q) after_encoding)))) (λ b. refl) refl r e
    (λ x cs p a r.
    set-needed (one (any_case 116) (one (any_case 102) (say (ascii "-8") (one (eqb q) after_encoding)))) (any_case 116) (one (any_case 102) (say (ascii "-8") (one (eqb q) after_encoding))) (λ b. refl) refl r e
    (λ y ds s b r.
    set-needed (one (any_case 102) (say (ascii "-8") (one (eqb q) after_encoding))) (any_case 102) (say (ascii "-8") (one (eqb q) after_encoding)) (λ b. refl) refl r e
    (λ z es t c r.
    this-needed 45 (say (ascii "8") (one (eqb q) after_encoding)) refl r e
    (λ fs v r.
    this-needed 56 (one (eqb q) after_encoding) refl r e
    (λ gs w r.
    this-needed q after_encoding refl r e
    (λ hs k r.
    subst (λ l. other_encoding (some q) l ≡ false)
    (sym (p ∙ ap (λ l. x ∷ l) (s ∙ ap (λ l. y ∷ l) (t ∙ ap (λ l. z ∷ l) (v ∙ ap (λ l. 45 ∷ l) (w ∙ ap (λ l. 56 ∷ l) k))))))
    (utf-8 q hs x y z i a b c)))))))

-- TAGS.

-- The bytes that may come in a start tag behind its name, and those past its `<`.
tag-byte {ℓ} : {t : State} (Q : ℕ → Type ℓ) (begin : ℕ) (name : List ℕ) (fs : List Frame) (b : ℕ) → tag_goes_on begin name fs b ≡ some t → Q 32 → Q 9 → Q 10 → Q 13 → Q 47 → Q 62 → Q b
tag-byte Q begin name fs b h v w x y z l =
    chosen (white b) h (λ k e. whites Q b k v w x y)
    (λ k e. chosen (eqb b 47) e (λ k e. subst Q (sym (eqb-true b 47 k)) z) (λ k e. chosen (eqb b 62) e (λ k e. subst Q (sym (eqb-true b 62 k)) l) (λ k e. none-some e)))

name-byte {ℓ} : {C : Type ℓ} {t : State} (begin : ℕ) (fs : List Frame) (b : ℕ) → name_or_slash begin fs b ≡ some t → (name_start b ≡ true → C) → (b ≡ 47 → C) → C
name-byte begin fs b h f g = chosen (name_start b) h (λ k e. f k) (λ k e. chosen (eqb b 47) e (λ k e. g (eqb-true b 47 k)) (λ k e. none-some e))

abbrev New : ℕ → Bool
New b = xml_start b && not (name_start b)

no_new : (b : ℕ) → New b ≡ true → name_start b ≡ true → ⊥
no_new b h k = false≢true (sym (not-true (name_start b) (and_true (xml_start b) (not (name_start b)) h).1) ∙ k)

none_first : {at : ℕ} {bs : List ℕ} {u : State} → first_is New bs ≡ true → Runs at (state first []) bs u → ⊥
none_first h still = false≢true h
none_first h (onto {b = b} k r) =
    chosen (eqb b 63) k (λ i e. false≢true (subst (λ x. New x ≡ true) (eqb-true b 63 i) h)) (λ i e. name-byte 0 [] b e (λ j. no_new b h j) (λ j. false≢true (subst (λ x. New x ≡ true) j h)))

none_opening : {at begin : ℕ} {bs : List ℕ} {fs : List Frame} {u : State} → first_is New bs ≡ true → Runs at (state (opening begin) fs) bs u → ⊥
none_opening h still = false≢true h
none_opening {begin = begin} {fs = fs} h (onto {b = b} k r) = name-byte begin fs b k (λ j. no_new b h j) (λ j. false≢true (subst (λ x. New x ≡ true) j h))

none_name : {at begin : ℕ} {bs name : List ℕ} {fs : List Frame} {u : State} → first_is (λ b. xml_part b && not (name_part b)) bs ≡ true → Runs at (state (in_name begin name) fs) bs u → ⊥
none_name h still = false≢true h
none_name {begin = begin} {name = name} {fs = fs} h (onto {b = b} k r) =
    let (i, j) = and_true (xml_part b) (not (name_part b)) h in
    chosen (name_part b) k (λ l e. false≢true (sym (not-true (name_part b) j) ∙ l))
    (λ l e. tag-byte (λ x. xml_part x ≡ true → ⊥) begin name fs b e (λ m. false≢true m) (λ m. false≢true m) (λ m. false≢true m) (λ m. false≢true m) (λ m. false≢true m) (λ m. false≢true m) i)

none_tag : {at begin : ℕ} {bs name : List ℕ} {fs : List Frame} {u : State} → first_is xml_start bs ≡ true → Runs at (state (in_tag begin name) fs) bs u → ⊥
none_tag h still = false≢true h
none_tag {begin = begin} {name = name} {fs = fs} h (onto {b = b} k r) =
    tag-byte (λ x. xml_start x ≡ true → ⊥) begin name fs b k (λ m. false≢true m) (λ m. false≢true m) (λ m. false≢true m) (λ m. false≢true m) (λ m. false≢true m) (λ m. false≢true m) h

-- NOTHING ENDS.

-- At the start of the text.
none_start : {at : ℕ} {bs : List ℕ} {u : State} → (left_out_anywhere bs && not (declares bs) || starts (239 ∷ 187 ∷ 191 ∷ []) bs) ≡ true → Runs at (state start []) bs u → Ended u → ⊥
none_start {at = at} {bs = bs} {u = u} h r e =
    ⊎_elim
    (λ k.
    let (i, j) = and_true (left_out_anywhere bs) (not (declares bs)) k in
    ⊎_elim
    (λ l.
    ⊎_elim (λ m. starts-two 60 33 bs m (λ rest p. markup rest (subst (λ b. Runs at (state start []) b u) p r)))
    (λ m. starts-two 38 35 bs m (λ rest p. character rest (subst (λ b. Runs at (state start []) b u) p r))) (or_true (starts (ascii "<!") bs) (starts (ascii "&#") bs) l))
    (λ l.
    starts-two 60 63 bs l
    (λ rest p. instruction rest (subst (λ b. Runs at (state start []) b u) p r) (subst (λ b. declares b ≡ false) p (not-true (declares bs) j))))
    (or_true (starts (ascii "<!") bs || starts (ascii "&#") bs) (starts (ascii "<?") bs) i))
    (λ k. mark bs k r) (or_true (left_out_anywhere bs && not (declares bs)) (starts (239 ∷ 187 ∷ 191 ∷ []) bs) h)
  where
    markup : (rest : List ℕ) → Runs at (state start []) (60 ∷ 33 ∷ rest) u → ⊥
    markup rest (onto h (onto {t = v} k q)) = none-some (subst (λ z. step (suc at) z 33 ≡ some v) (sym (some_inj h)) k)

    character : (rest : List ℕ) → Runs at (state start []) (38 ∷ 35 ∷ rest) u → ⊥
    character rest (onto h q) = none-some h

    instruction : (rest : List ℕ) → Runs at (state start []) (60 ∷ 63 ∷ rest) u → declares (60 ∷ 63 ∷ rest) ≡ false → ⊥
    instruction rest (onto h (onto {t = v} k q)) n =
        let f = subst (λ z. step (suc at) z 63 ≡ some v) (sym (some_inj h)) k in
        false≢true (sym n ∙ declares_needed (subst (λ z. Runs (suc (suc at)) z rest u) (sym (some_inj f)) q) e)

    mark : (bs : List ℕ) → starts (239 ∷ 187 ∷ 191 ∷ []) bs ≡ true → Runs at (state start []) bs u → ⊥
    mark [] h q = false≢true h
    mark (b ∷ bs) h q =
        first_mark (subst (λ x. Runs at (state start []) (x ∷ bs) u) (eqb-true b 239 (and_true (eqb b 239) (starts (187 ∷ 191 ∷ []) bs) h).0) q)
      where
        first_mark : {bs : List ℕ} → Runs at (state start []) (239 ∷ bs) u → ⊥
        first_mark (onto h q) = none-some h

-- A place that is not the start.
module _ {whole left bs : List ℕ} {m : Mode} {fs : List Frame} {to at : ℕ} {u : State} (r : Reached whole m fs to left) (n : m ≡ start → ⊥) (q : Runs at (state m fs) bs u) where
  nothing_more : left_out_anywhere bs ≡ true → ⊥
  nothing_more h = not_anywhere r n h q

  or_more : (more : Bool) → (more ≡ true → ⊥) → (left_out_anywhere bs || more) ≡ true → ⊥
  or_more more f h = ⊎_elim nothing_more f (or_true (left_out_anywhere bs) more h)

quote_given : {word bs rest : List ℕ} {quote at to : ℕ} → GivenIn word quote at bs to rest → is_quote quote ≡ true
quote_given (gives s w e i) = i

-- In the declaration: where an encoding's value opens, UTF-8 must come.
heading_unending : {at to : ℕ} {bs cs left : List ℕ} {u : State} (p : Pattern) → Passed (say (ascii "xml") declaration) 2 cs p to left → other_encoding (quote_of p) bs ≡ true → Runs at (head p) bs u → Ended u → ⊥
heading_unending done pass h q e = false≢true h
heading_unending (one set p) pass h q e = false≢true h
heading_unending (many set p) pass h q e = false≢true h
heading_unending (fork l r) pass h q e = false≢true h
heading_unending {at = at} {to = to} {bs = bs} {left = left} {u = u} (encoding quote v) pass h q e =
    value-passed (pass (encoding quote v) to left opened)
    (λ n mid ds es x w g f.
    false≢true (sym (encoding_needed quote (quote_given g) (subst (λ p. Runs at (head (encoding quote p)) bs u) (sym f) q) e) ∙ h))

pub unending : {whole left bs : List ℕ} {m : Mode} {fs : List Frame} {to at : ℕ} {u : State} → Reached whole m fs to left → left_out m bs ≡ true → Runs at (state m fs) bs u → Ended u → ⊥
unfolding left_out
unending at-start h q e = none_start h q e
unending {bs = bs} (at_first {bs = left}) h q e = or_more (at_first {bs = left}) (λ k. let z : ◌≡◌ {A = ℕ} 0 1 = cc in omega arith) q (first_is New bs) (λ k. none_first k q) h
unending {bs = bs} (in_heading {p = p} pass live d) h q e = or_more (in_heading pass live d) (λ k. let z : ◌≡◌ {A = ℕ} 0 1 = cc in omega arith) q (other_encoding (quote_of p) bs) (λ k. heading_unending p pass k q e) h
unending (at_ahead o) h q e = nothing_more (at_ahead o) (λ k. let z : ◌≡◌ {A = ℕ} 0 1 = cc in omega arith) q h
unending {bs = bs} (at_opening l o) h q e = or_more (at_opening l o) (λ k. let z : ◌≡◌ {A = ℕ} 0 1 = cc in omega arith) q (first_is New bs) (λ k. none_opening k q) h
unending {bs = bs} (in_name_lem l o n) h q e = or_more (in_name_lem l o n) (λ k. let z : ◌≡◌ {A = ℕ} 0 1 = cc in omega arith) q (first_is (λ b. xml_part b && not (name_part b)) bs) (λ k. none_name k q) h
unending {bs = bs} (in_tag_lem l o n w) h q e = or_more (in_tag_lem l o n w) (λ k. let z : ◌≡◌ {A = ℕ} 0 1 = cc in omega arith) q (first_is xml_start bs) (λ k. none_tag k q) h
unending (at_emptied o n m) h q e = nothing_more (at_emptied o n m) (λ k. let z : ◌≡◌ {A = ℕ} 0 1 = cc in omega arith) q h
unending (at_content o) h q e = nothing_more (at_content o) (λ k. let z : ◌≡◌ {A = ℕ} 0 1 = cc in omega arith) q h
unending (in_run o g r) h q e = nothing_more (in_run o g r) (λ k. let z : ◌≡◌ {A = ℕ} 0 1 = cc in omega arith) q h
unending (in_part o g w pass live d) h q e = nothing_more (in_part o g w pass live d) (λ k. let z : ◌≡◌ {A = ℕ} 0 1 = cc in omega arith) q h
unending (in_closing o y k) h q e = nothing_more (in_closing o y k) (λ k. let z : ◌≡◌ {A = ℕ} 0 1 = cc in omega arith) q h
unending (at_closing o y m) h q e = nothing_more (at_closing o y m) (λ k. let z : ◌≡◌ {A = ℕ} 0 1 = cc in omega arith) q h
unending (at_ended o r m) h q e = nothing_more (at_ended o r m) (λ k. let z : ◌≡◌ {A = ℕ} 0 1 = cc in omega arith) q h
