-- The patterns that reading meets: from each its end can be reached, and neither `<` nor `&` passes it.
-- By induction over how they are built; the forks of the declaration and of the references are gone through byte by byte. Assumes nothing.
use Prim.Native.Nat.{ℕ}
use mathlib.Core.Path.{◌≡◌, refl, sym, ◌∙◌, ap, subst}
use mathlib.Core.Bool.{Bool, true, false, false≢true}
use mathlib.Core.List.{List, [], ◌∷◌}
use mathlib.Core.Logic.{◌⊎◌, ⊎_elim}
use mathlib.Core.Option.{none, some}
use lib.Dec.{eqb}
use borrow.Author.Tests.{eqb-true, eq-eqb}
use Rattle.paper.specs.Tools.{ascii}
use Rattle.paper.specs.Tokens.{white}
use Rattle.paper.specs.Xml.{Pattern, done, one, many, fork, encoding, ways, after, is_done, say, quoted, digit}
use Rattle.paper.specs.Xml.{declaration_end, after_encoding, after_version, declaration, reference, any_case}
use Rattle.paper.proofs.Tests.{some_inj, none-some, decide}
use Rattle.xml_grammar.proofs.Patterns.{chosen}

-- The three values, behind the quote that opens them.
abbrev pub version_value : ℕ → Pattern
version_value q = say (ascii "1.") (one digit (many digit (one (eqb q) after_version)))

abbrev pub encoding_value : ℕ → Pattern
encoding_value q = one (any_case 117) (one (any_case 116) (one (any_case 102) (say (ascii "-8") (one (eqb q) after_encoding))))

abbrev pub standalone_value : ℕ → Pattern
standalone_value q = fork (say (ascii "yes") (one (eqb q) declaration_end)) (say (ascii "no") (one (eqb q) declaration_end))

-- The patterns behind white space that stands after the version, and after the encoding.
abbrev pub equals : (ℕ → Pattern) → Pattern
equals value = many white (one (eqb 61) (many white (quoted value)))

abbrev pub encoding_word : Pattern
encoding_word = say (ascii "encoding") (equals (λ q. encoding q (encoding_value q)))

abbrev pub standalone_word : Pattern
standalone_word = say (ascii "standalone") (equals standalone_value)

abbrev pub past_encoding : Pattern
past_encoding = fork (many white standalone_word) declaration_end

abbrev pub past_version : Pattern
past_version = fork (many white encoding_word) past_encoding

-- No byte of the set passes the pattern.
abbrev pub Shuns : (ℕ → Bool) → Pattern → Type 0
Shuns set p = (b : ℕ) → set b ≡ true → after p b ≡ none

pub data Live : Pattern → Type 0 where
  live_done : Live done
  live_one : {set : ℕ → Bool} {p : Pattern} (b : ℕ) → set b ≡ true → set 60 ≡ false → set 38 ≡ false → Live p → Live (one set p)
  live_many : {set : ℕ → Bool} {p : Pattern} → set 60 ≡ false → set 38 ≡ false → Shuns set p → is_done p ≡ false → Live p → Live (many set p)
  live_encoding : {quote : ℕ} {p : Pattern} → is_done p ≡ false → Live p → Live (encoding quote p)
  live_two : {set other : ℕ → Bool} {p q : Pattern} → ((b : ℕ) → set b ≡ true → other b ≡ false) → Live (one set p) → Live (one other q) → Live (fork (one set p) (one other q))
  at_version : Live after_version
  past-version : Live past_version
  at_encoding : Live after_encoding
  past-encoding : Live past_encoding
  in_reference : Live reference

-- Two bytes that differ.
pub not_both : (x y : ℕ) → eqb x y ≡ false → (b : ℕ) → eqb x b ≡ true → eqb y b ≡ false
not_both x y n b h = ⊎_elim (λ k. absurd (false≢true (sym n ∙ eq-eqb x y (eqb-true x b h ∙ sym (eqb-true y b k))))) (λ k. k) (decide (eqb y b))

-- No byte is white space and this byte, which is none.
pub shuns_say : (set : ℕ → Bool) (x : ℕ) (p : Pattern) → set x ≡ false → Shuns set (one (eqb x) p)
shuns_say set x p n b h =
    ⊎_elim (λ k. absurd (false≢true (sym n ∙ ap set (eqb-true x b k) ∙ h))) (λ (k : eqb x b ≡ false). rw k) (decide (eqb x b))

shuns_two : (set : ℕ → Bool) (x y : ℕ) (p q : Pattern) → set x ≡ false → set y ≡ false → Shuns set (fork (one (eqb x) p) (one (eqb y) q))
shuns_two set x y p q m n b h = rw (shuns_say set x p m b h, shuns_say set y q n b h)

live_this : {p : Pattern} (b : ℕ) → eqb b 60 ≡ false → eqb b 38 ≡ false → Live p → Live (one (eqb b) p)
live_this b m n l = live_one b (eq-eqb b b refl) m n l

-- Bytes that are neither `<` nor `&`.
abbrev pub calm : List ℕ → Type 0
calm [] = Unit
calm (w ∷ ws) = (eqb w 60 ≡ false) × (eqb w 38 ≡ false) × calm ws

live_say : (ws : List ℕ) {p : Pattern} → calm ws → Live p → Live (say ws p)
live_say [] c l = l
live_say (w ∷ ws) c l = live_this w c.0 c.1 (live_say ws c.2 l)

live_quoted : (value : ℕ → Pattern) → Live (value 34) → Live (value 39) → Live (quoted value)
live_quoted value l m = live_two (not_both 34 39 refl) (live_this 34 refl refl l) (live_this 39 refl refl m)

-- A word's equals sign and value.
live_equals : (value : ℕ → Pattern) → Live (value 34) → Live (value 39) → Live (equals value)
live_equals value l m =
    live_many refl refl (shuns_say white 61 (many white (quoted value)) refl) refl
    (live_this 61 refl refl (live_many refl refl (shuns_two white 34 39 (value 34) (value 39) refl refl) refl (live_quoted value l m)))

live_end : Live declaration_end
live_end = live_many refl refl (shuns_say white 63 (one (eqb 62) done) refl) refl (live_this 63 refl refl (live_this 62 refl refl live_done))

live_standalone : Live standalone_word
live_standalone =
    live_say (ascii "standalone") (refl, refl, (refl, refl, (refl, refl, (refl, refl, (refl, refl, (refl, refl, (refl, refl, (refl, refl, (refl, refl, (refl, refl, tt))))))))))
    (live_equals standalone_value (yes-no 34 refl refl) (yes-no 39 refl refl))
  where
    yes-no : (q : ℕ) → eqb q 60 ≡ false → eqb q 38 ≡ false → Live (standalone_value q)
    yes-no q m n =
        live_two (not_both 121 110 refl) (live_say (ascii "yes") (refl, refl, (refl, refl, (refl, refl, tt))) (live_this q m n live_end))
        (live_say (ascii "no") (refl, refl, (refl, refl, tt)) (live_this q m n live_end))

live_encoded : Live encoding_word
live_encoded =
    live_say (ascii "encoding") (refl, refl, (refl, refl, (refl, refl, (refl, refl, (refl, refl, (refl, refl, (refl, refl, (refl, refl, tt))))))))
    (live_equals (λ q. encoding q (encoding_value q)) (utf 34 refl refl) (utf 39 refl refl))
  where
    utf : (q : ℕ) → eqb q 60 ≡ false → eqb q 38 ≡ false → Live (encoding q (encoding_value q))
    utf q m n =
        live_encoding refl
        (live_one 117 refl refl refl
        (live_one 116 refl refl refl
        (live_one 102 refl refl refl (live_say (ascii "-8") (refl, refl, (refl, refl, tt)) (live_this q m n at_encoding)))))

pub live_declaration : Live (say (ascii "xml") declaration)
live_declaration =
    live_say (ascii "xml") (refl, refl, (refl, refl, (refl, refl, tt)))
    (live_one 32 refl refl refl
    (live_many refl refl (shuns_say white 118 (say (ascii "ersion") (equals version_value)) refl) refl
    (live_say (ascii "version") (refl, refl, (refl, refl, (refl, refl, (refl, refl, (refl, refl, (refl, refl, (refl, refl, tt))))))) (live_equals version_value (one_dot 34 refl refl refl) (one_dot 39 refl refl refl)))))
  where
    one_dot : (q : ℕ) → eqb q 60 ≡ false → eqb q 38 ≡ false → digit q ≡ false → Live (version_value q)
    one_dot q m n d =
        live_say (ascii "1.") (refl, refl, (refl, refl, tt))
        (live_one 48 refl refl refl (live_many refl refl (shuns_say digit q after_version d) refl (live_this q m n at_version)))

-- NEITHER `<` NOR `&`.

pub live_no : {p : Pattern} → Live p → (after p 60 ≡ none) × (after p 38 ≡ none)
live_no live_done = (refl, refl)
live_no (live_one b h m n l) = (rw m, rw n)
live_no (live_many m n s d l) = let k = live_no l in (rw (m, k.0), rw (n, k.1))
live_no (live_encoding d l) = live_no l
live_no (live_two a l m) = let k = live_no l in let j = live_no m in (rw (k.0, j.0), rw (k.1, j.1))
live_no at_version = (refl, refl)
live_no past-version = (refl, refl)
live_no at_encoding = (refl, refl)
live_no past-encoding = (refl, refl)
live_no in_reference = (refl, refl)

-- AFTER A BYTE.

live_next : {p q : Pattern} → Live q → some q ≡ some p → Live p
live_next l e = subst Live (some_inj e) l

live_rest : {set : ℕ → Bool} {p : Pattern} → Live (one set p) → Live p
live_rest (live_one b h m n l) = l

-- A byte that is this one, or another.
which {ℓ} : {C : Type ℓ} (x b : ℕ) → (x ≡ b → C) → (eqb x b ≡ false → C) → C
which x b f g = ⊎_elim (λ k. f (eqb-true x b k)) g (decide (eqb x b))

-- One of two words, or of three, that begin apart.
end_word : {p : Pattern} (b : ℕ) → after (say (ascii "?>") done) b ≡ some p → Live p
end_word b h = chosen (eqb 63 b) h (λ s e. live_next (live_this 62 refl refl live_done) e) (λ s e. none-some e)

two_words : {p : Pattern} (b : ℕ) → ways (after standalone_word b) (after (say (ascii "?>") done) b) ≡ some p → Live p
two_words {p = p} b h =
    which 115 b (λ e. live_next (live_rest live_standalone) (subst Came (sym e) h))
    (λ k. which 63 b (λ e. live_next (live_this 62 refl refl live_done) (subst Came (sym e) h)) (λ i. none-some (rw (k, i) at h)))
  where
    Came : ℕ → Type 0
    Came x = ways (after standalone_word x) (after (say (ascii "?>") done) x) ≡ some p

three_words : {p : Pattern} (b : ℕ) → ways (after encoding_word b) (ways (after standalone_word b) (after (say (ascii "?>") done) b)) ≡ some p → Live p
three_words {p = p} b h =
    which 101 b (λ e. live_next (live_rest live_encoded) (subst Came (sym e) h)) (λ j. two_words b (rw j at h))
  where
    Came : ℕ → Type 0
    Came x = ways (after encoding_word x) (ways (after standalone_word x) (after (say (ascii "?>") done) x)) ≡ some p

reference_after : {p : Pattern} (b : ℕ) → after reference b ≡ some p → Live p
reference_after {p = p} b h =
    which 108 b (λ e. live_next (live_say (ascii "t;") (refl, refl, (refl, refl, tt)) live_done) (subst Came (sym e) h))
    (λ j.
    which 103 b (λ e. live_next (live_say (ascii "t;") (refl, refl, (refl, refl, tt)) live_done) (subst Came (sym e) h))
    (λ k.
    which 97 b
    (λ e.
    live_next
    (live_two (not_both 109 112 refl) (live_say (ascii "mp;") (refl, refl, (refl, refl, (refl, refl, tt))) live_done)
    (live_say (ascii "pos;") (refl, refl, (refl, refl, (refl, refl, (refl, refl, tt)))) live_done))
    (subst Came (sym e) h))
    (λ l.
    which 113 b (λ e. live_next (live_say (ascii "uot;") (refl, refl, (refl, refl, (refl, refl, (refl, refl, tt)))) live_done) (subst Came (sym e) h))
    (λ m. none-some (rw (j, k, l, m) at h)))))
  where
    Came : ℕ → Type 0
    Came x = after reference x ≡ some p

pub live_after : {p q : Pattern} (b : ℕ) → Live p → after p b ≡ some q → Live q
live_after b live_done h = none-some h
live_after b (live_one {set = set} c m n o l) h = chosen (set b) h (λ s e. live_next l e) (λ s e. none-some e)
live_after b (live_many {set = set} m n s d l) h = chosen (set b) h (λ t e. live_next (live_many m n s d l) e) (λ t e. live_after b l e)
live_after b (live_encoding d l) h = live_after b l h
live_after {q = q} b (live_two {set = set} {other = other} {p = p} {q = r} a l m) h =
    ⊎_elim (λ (k : set b ≡ true). let n = a b k in live_next (live_rest l) (rw (k, n) at h)) (λ (k : set b ≡ false). live_after b m (rw k at h)) (decide (set b))
live_after b at_version h =
    ⊎_elim (λ (k : white b ≡ true). live_next past-version (rw k at h)) (λ (k : white b ≡ false). end_word b (rw k at h)) (decide (white b))
live_after b past-version h =
    ⊎_elim (λ (k : white b ≡ true). live_next past-version (rw k at h)) (λ (k : white b ≡ false). three_words b (rw k at h)) (decide (white b))
live_after b at_encoding h =
    ⊎_elim (λ (k : white b ≡ true). live_next past-encoding (rw k at h)) (λ (k : white b ≡ false). end_word b (rw k at h)) (decide (white b))
live_after b past-encoding h =
    ⊎_elim (λ (k : white b ≡ true). live_next past-encoding (rw k at h)) (λ (k : white b ≡ false). two_words b (rw k at h)) (decide (white b))
live_after b in_reference h = reference_after b h

-- TO THE END.

-- Bytes that pass the pattern to its end.
pub data Finishes : Pattern → List ℕ → Type 0 where
  last : {p q : Pattern} {b : ℕ} → after p b ≡ some q → is_done q ≡ true → Finishes p (b ∷ [])
  further : {p q : Pattern} {b : ℕ} {bs : List ℕ} → after p b ≡ some q → is_done q ≡ false → Finishes q bs → Finishes p (b ∷ bs)

-- The same bytes for a pattern that goes on alike.
finishes_like : {p : Pattern} {bs : List ℕ} (r : Pattern) → ((b : ℕ) (q : Pattern) → after p b ≡ some q → after r b ≡ some q) → Finishes p bs → Finishes r bs
finishes_like r f (last h d) = last (f _ _ h) d
finishes_like r f (further h d k) = further (f _ _ h) d k

pub live_finishes : {p : Pattern} → Live p → is_done p ≡ false → (bs : List ℕ) × Finishes p bs
live_finishes live_done n = absurd (false≢true (sym n))
live_finishes (live_one {set = set} {p = p} b h i j l) n =
    go (is_done p) refl (λ d. live_finishes l d)
  where
    go : (d : Bool) → is_done p ≡ d → (is_done p ≡ false → (bs : List ℕ) × Finishes p bs) → (bs : List ℕ) × Finishes (one set p) bs
    go true e f = let s : after (one set p) b ≡ some p = rw h in (b ∷ [], last s e)
    go false e f = let s : after (one set p) b ≡ some p = rw h in let (bs, k) = f e in (b ∷ bs, further s e k)
live_finishes (live_many {set = set} {p = p} i j s d l) n =
    let (bs, k) = live_finishes l d in
    (bs, finishes_like (many set p) (λ b q h. ⊎_elim (λ t. none-some (sym (s b t) ∙ h)) (λ (t : set b ≡ false). rw t h) (decide (set b))) k)
live_finishes (live_encoding {quote = quote} {p = p} d l) n = let (bs, k) = live_finishes l d in (bs, finishes_like (encoding quote p) (λ b q h. h) k)
live_finishes (live_two {set = set} {other = other} {p = p} {q = r} a l m) n =
    let (bs, k) = live_finishes l refl in
    (bs, finishes_like (fork (one set p) (one other r)) (λ b q h. chosen (set b) h (λ t e. let o = a b t in rw (t, o) e) (λ t e. none-some e)) k)
live_finishes at_version n = (ascii "?>", further refl refl (last refl refl))
live_finishes past-version n = (ascii "?>", further refl refl (last refl refl))
live_finishes at_encoding n = (ascii "?>", further refl refl (last refl refl))
live_finishes past-encoding n = (ascii "?>", further refl refl (last refl refl))
live_finishes in_reference n = (ascii "lt;", further refl refl (further refl refl (last refl refl)))
