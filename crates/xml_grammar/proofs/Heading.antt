-- Reading goes over a declaration that is derived, to its end or behind the encoding's quote.
-- By induction over the bytes of each word; a pattern that waits for several words goes on with each. Assumes nothing.
use Prim.Native.Nat.{ℕ, suc, ◌+◌}
use native.Mathlib.Omega.{arith}
use mathlib.Core.Path.{◌≡◌, refl, sym, subst}
use mathlib.Core.Bool.{Bool, true, false}
use mathlib.Core.List.{List, [], ◌∷◌}
use mathlib.Core.Logic.{⊎_elim}
use mathlib.Core.Option.{some}
use lib.Dec.{eqb}
use borrow.Author.Tests.{eqb-true, eq-eqb}
use Rattle.paper.specs.Tools.{ascii}
use Rattle.paper.specs.Tokens.{white}
use Rattle.paper.specs.Xml.{Pattern, done, one, many, encoding, after, is_done, say, quoted, digit, any_case, declaration_end, after_encoding, after_version, declaration}
use Rattle.paper.specs.Xml.{State, start, heading, ahead, step}
use Rattle.paper.proofs.Tests.{or_true}
use Rattle.xml_grammar.specs.Productions.{SayIn, said, saying, ManyIn, no_more, one_more, at_least, equals, is_quote, GivenIn, gives, VersionIn, version}
use Rattle.xml_grammar.specs.Productions.{EncodingIn, encoded, not_encoded, StandaloneIn, alone_yes, alone_no, not_alone}
use Rattle.xml_grammar.proofs.Moves.{state, Goes, stays, goes, goes_then}
use Rattle.xml_grammar.proofs.Live.{version_value, encoding_value, standalone_value, past_version, past_encoding}
use Rattle.xml_grammar.proofs.Live as Live

abbrev pub head : Pattern → State
head p = state (heading p) []

-- One byte that leaves a pattern.
pub head_on : (p q : Pattern) (b : ℕ) (at : ℕ) → after p b ≡ some q → is_done q ≡ false → step at (head p) b ≡ some (head q)
head_on p q b at h d = rw (h, d)

say_waits : (ws : List ℕ) (p : Pattern) → is_done p ≡ false → is_done (say ws p) ≡ false
say_waits [] p d = d
say_waits (w ∷ ws) p d = refl

head_say : {ws bs rest : List ℕ} {at to : ℕ} (p : Pattern) → is_done p ≡ false → SayIn ws at bs to rest → Goes at (head (say ws p)) bs to (head p) rest
head_say p d said = stays
head_say p d (saying {b = b} {at = at} {ws = ws} s) =
    let same : eqb b b ≡ true = eq-eqb b b refl in
    let on : after (one (eqb b) (say ws p)) b ≡ some (say ws p) = rw same in
    goes (head_on (one (eqb b) (say ws p)) (say ws p) b at on (say_waits ws p d)) (head_say p d s)

-- Bytes of a set that leave the pattern as it is.
head_many : {set : ℕ → Bool} {bs rest : List ℕ} {at to : ℕ} (p : Pattern) → is_done p ≡ false → ((b : ℕ) → set b ≡ true → after p b ≡ some p) → ManyIn set at bs to rest
    → Goes at (head p) bs to (head p) rest
head_many p d loop no_more = stays
head_many p d loop (one_more {b = b} {at = at} h m) = goes (head_on p p b at (loop b h) d) (head_many p d loop m)

loops : (set : ℕ → Bool) (p : Pattern) (b : ℕ) → set b ≡ true → after (many set p) b ≡ some (many set p)
loops set p b h = rw h

-- A quote is one of two bytes.
pub quotes {ℓ} : (P : ℕ → Type ℓ) (q : ℕ) → is_quote q ≡ true → P 34 → P 39 → P q
quotes P q h x y = ⊎_elim (λ k. subst P (sym (eqb-true q 34 k)) x) (λ k. subst P (sym (eqb-true q 39 k)) y) (or_true (eqb q 34) (eqb q 39) h)

-- The pattern `p` waits for words behind white space; `past` is the one past white space.
record Awaits (p past : Pattern) : Type 0 where
  enters : (b : ℕ) → white b ≡ true → after p b ≡ some past
  stays : (b : ℕ) → white b ≡ true → after past b ≡ some past
  waits : is_done past ≡ false

-- Up to the quote that opens a value.
head_given : {c quote at to : ℕ} {ws bs rest : List ℕ} (p past : Pattern) (value : ℕ → Pattern) → Awaits p past → after past c ≡ some (say ws (Live.equals value)) → is_done (value quote) ≡ false
    → GivenIn (c ∷ ws) quote at bs to rest → Goes at (head p) bs to (head (value quote)) rest
head_given {c = c} {quote} {at} {ws = ws} p past value w word d (gives {r = n} (at_least {b = x} h m) (saying {at = mid} s) (equals {p = e} u v) i) =
    goes (head_on p past x at (w.enters x h) w.waits)
    (goes_then (head_many past w.waits w.stays m)
    (goes (head_on past (say ws (Live.equals value)) c mid word (say_waits ws (Live.equals value) refl))
    (goes_then (head_say (Live.equals value) refl s)
    (goes_then (head_many (Live.equals value) refl (loops white (one (eqb 61) (many white (quoted value)))) u)
    (goes refl (goes_then (head_many (many white (quoted value)) refl (loops white (quoted value)) v) (goes (open_quote quote i d n) stays)))))))
  where
    open_quote : (q : ℕ) → is_quote q ≡ true → is_done (value q) ≡ false → (n : ℕ) → step n (head (many white (quoted value))) q ≡ some (head (value q))
    open_quote q i = quotes (λ q. is_done (value q) ≡ false → (n : ℕ) → step n (head (many white (quoted value))) q ≡ some (head (value q))) q i (λ d n. rw d) (λ d n. rw d)

await_version : Awaits after_version past_version
await_version = record { enters = λ b h. rw h; stays = λ b h. rw h; waits = refl }

await_encoding : Awaits after_encoding past_encoding
await_encoding = record { enters = λ b h. rw h; stays = λ b h. rw h; waits = refl }

await_end : Awaits declaration_end declaration_end
await_end = record { enters = λ b h. rw h; stays = λ b h. rw h; waits = refl }

await_first : Awaits declaration (many white (say (ascii "version") (Live.equals version_value)))
await_first = record { enters = λ b h. rw h; stays = λ b h. rw h; waits = refl }

-- The version.
head_version : {at to : ℕ} {bs rest : List ℕ} → VersionIn at bs to rest → Goes at (head declaration) bs to (head after_version) rest
head_version (version {quote = quote} {r = n} g s (at_least {b = x} {at = k} h m)) =
    goes_then (head_given declaration (many white (say (ascii "version") (Live.equals version_value))) version_value await_first refl refl g)
    (goes_then (head_say (one digit (many digit (one (eqb quote) after_version))) refl s)
    (goes (head_on (one digit (many digit (one (eqb quote) after_version))) (many digit (one (eqb quote) after_version)) x k (first_digit h) refl)
    (goes_then (head_many (many digit (one (eqb quote) after_version)) refl (loops digit (one (eqb quote) after_version)) m) (goes (close_quote g) stays))))
  where
    first_digit : digit x ≡ true → after (one digit (many digit (one (eqb quote) after_version))) x ≡ some (many digit (one (eqb quote) after_version))
    first_digit h = rw h

    close_quote : {a b : ℕ} {ds es : List ℕ} → GivenIn (ascii "version") quote a ds b es → step n (head (many digit (one (eqb quote) after_version))) quote ≡ some (head after_version)
    close_quote (gives u v w i) = quotes (λ q. step n (head (many digit (one (eqb q) after_version))) q ≡ some (head after_version)) quote i refl refl

-- Behind it, the encoding's quote, and behind its value.
head_value : {quote at to : ℕ} {bs rest : List ℕ} → GivenIn (ascii "encoding") quote at bs to rest → Goes at (head after_version) bs to (head (encoding quote (encoding_value quote))) rest
head_value g = head_given after_version past_version (λ q. encoding q (encoding_value q)) await_version refl refl g

-- The patterns after the version, the encoding and standalone; may standalone come next?
data Later : Bool → Pattern → Type 0 where
  past_first : {more : Bool} → Later more after_version
  past_second : {more : Bool} → Later more after_encoding
  past_third : Later false declaration_end

-- A byte of a set; reading does not look at the place.
head_byte : (set : ℕ → Bool) (p : Pattern) (b : ℕ) → set b ≡ true → is_done p ≡ false → step 0 (head (one set p)) b ≡ some (head p)
head_byte set p b h d = rw (h, d)

head_this : (p : Pattern) (b : ℕ) → is_done p ≡ false → step 0 (head (one (eqb b) p)) b ≡ some (head p)
head_this p b d = head_byte (eqb b) p b (eq-eqb b b refl) d

head-encoding {ℓ} : {C : Type ℓ} {at to : ℕ} {bs rest : List ℕ} → EncodingIn at bs to rest → ((p : Pattern) → Later true p → Goes at (head after_version) bs to (head p) rest → C) → C
head-encoding (encoded {quote = quote} {u = u} {t = t} {f = f} {p = n} {rest = rest} g h i j) k =
    k after_encoding past_second
    (goes_then (head_value g)
    (goes (head_byte (any_case 117) (one (any_case 116) (one (any_case 102) (say (ascii "-8") (one (eqb quote) after_encoding)))) u h refl)
    (goes (head_byte (any_case 116) (one (any_case 102) (say (ascii "-8") (one (eqb quote) after_encoding))) t i refl)
    (goes (head_byte (any_case 102) (say (ascii "-8") (one (eqb quote) after_encoding)) f j refl)
    (goes refl (goes refl (goes (head_this after_encoding quote refl) (subst (λ m. Goes m (head after_encoding) rest (6 + n) (head after_encoding) rest) (omega arith) stays))))))))
head-encoding not_encoded k = k after_version past_first stays

-- Standalone.
head_yes : {quote at to : ℕ} {bs rest : List ℕ} → SayIn (ascii "yes") at bs to (quote ∷ rest) → Goes at (head (standalone_value quote)) bs (suc to) (head declaration_end) rest
head_yes {quote = quote} (saying (saying (saying said))) = goes refl (goes refl (goes refl (goes (head_this declaration_end quote refl) stays)))

head_no : {quote at to : ℕ} {bs rest : List ℕ} → SayIn (ascii "no") at bs to (quote ∷ rest) → Goes at (head (standalone_value quote)) bs (suc to) (head declaration_end) rest
head_no {quote = quote} (saying (saying said)) = goes refl (goes refl (goes (head_this declaration_end quote refl) stays))

standalone_given : {p : Pattern} {quote at to : ℕ} {bs rest : List ℕ} → Later true p → GivenIn (ascii "standalone") quote at bs to rest → Goes at (head p) bs to (head (standalone_value quote)) rest
standalone_given past_first g = head_given after_version past_version standalone_value await_version refl refl g
standalone_given past_second g = head_given after_encoding past_encoding standalone_value await_encoding refl refl g

later : {p : Pattern} → Later true p → Later false p
later past_first = past_first
later past_second = past_second

head-standalone {ℓ} : {C : Type ℓ} {p : Pattern} {at to : ℕ} {bs rest : List ℕ} → Later true p → StandaloneIn at bs to rest → ((q : Pattern) → Later false q → Goes at (head p) bs to (head q) rest → C) → C
head-standalone l (alone_yes g s) k = k declaration_end past_third (goes_then (standalone_given l g) (head_yes s))
head-standalone l (alone_no g s) k = k declaration_end past_third (goes_then (standalone_given l g) (head_no s))
head-standalone {p = p} l not_alone k = k p (later l) stays

-- The end.
ends_by : {past : Pattern} {at to : ℕ} {bs rest : List ℕ} → after past 63 ≡ some (one (eqb 62) done) → SayIn (ascii "?>") at bs to rest → Goes at (head past) bs to (state ahead []) rest
ends_by {past = past} h (saying {at = n} (saying said)) = goes (head_on past (one (eqb 62) done) 63 n h refl) (goes refl stays)

end_from : (p past : Pattern) {s t to : ℕ} {fs gs rest : List ℕ} → Awaits p past → after p 63 ≡ some (one (eqb 62) done) → after past 63 ≡ some (one (eqb 62) done) → ManyIn white s fs t gs
    → SayIn (ascii "?>") t gs to rest → Goes s (head p) fs to (state ahead []) rest
end_from p past w h k no_more s = ends_by h s
end_from p past w h k (one_more {b = b} {at = at} i m) s = goes (head_on p past b at (w.enters b i) w.waits) (goes_then (head_many past w.waits w.stays m) (ends_by k s))

head_end : {p : Pattern} {s t to : ℕ} {fs gs rest : List ℕ} → Later false p → ManyIn white s fs t gs → SayIn (ascii "?>") t gs to rest → Goes s (head p) fs to (state ahead []) rest
head_end past_first m s = end_from after_version past_version await_version refl refl m s
head_end past_second m s = end_from after_encoding past_encoding await_encoding refl refl m s
head_end past_third m s = end_from declaration_end declaration_end await_end refl refl m s

-- FROM THE START OF THE TEXT.

head_xml : {to : ℕ} {bs rest : List ℕ} → SayIn (ascii "<?xml") 0 bs to rest → Goes 0 (state start []) bs to (head declaration) rest
head_xml (saying (saying s)) = goes refl (goes refl (head_say declaration refl s))

pub declaration_goes : {p q r s t to : ℕ} {bs cs ds es fs gs rest : List ℕ} → SayIn (ascii "<?xml") 0 bs p cs → VersionIn p cs q ds → EncodingIn q ds r es → StandaloneIn r es s fs
    → ManyIn white s fs t gs → SayIn (ascii "?>") t gs to rest → Goes 0 (state start []) bs to (state ahead []) rest
declaration_goes x v e a m y =
    goes_then (head_xml x) (goes_then (head_version v) (head-encoding e (λ p l g. goes_then g (head-standalone l a (λ q k h. goes_then h (head_end k m y))))))

pub value_goes : {quote p q r : ℕ} {bs cs ds rest : List ℕ} → SayIn (ascii "<?xml") 0 bs p cs → VersionIn p cs q ds → GivenIn (ascii "encoding") quote q ds r rest
    → Goes 0 (state start []) bs r (head (encoding quote (encoding_value quote))) rest
value_goes x v g = goes_then (head_xml x) (goes_then (head_version v) (head_value g))
