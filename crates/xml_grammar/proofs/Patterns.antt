-- What passes a pattern, as a relation that allows every way: one byte more in front is `after`; and which of the productions such bytes are.
-- By induction over the pattern. Assumes nothing.
use Prim.Native.Nat.{ℕ, suc}
use Prim.Native.String.{String}
use mathlib.Core.Path.{◌≡◌, refl, sym, ◌∙◌, ap, subst}
use mathlib.Core.Bool.{Bool, true, false, cond}
use mathlib.Core.List.{List, [], ◌∷◌}
use mathlib.Core.Option.{Option, none, some}
use lib.Dec.{eqb}
use borrow.Author.Tests.{eqb-true}
use Rattle.paper.specs.Tools.{ascii}
use Rattle.paper.specs.Tokens.{white}
use Rattle.paper.specs.Xml.{Pattern, done, one, many, fork, encoding, ways, after, say, quoted, given}
use Rattle.paper.proofs.Tests.{some_inj, none-some}
use Rattle.xml_grammar.specs.Productions.{SayIn, said, saying, ManyIn, no_more, one_more, SomeIn, at_least, equals, GivenIn, gives, is_quote}

-- A choice made.
pub chosen {ℓ} : {A : Type 0} {C : Type ℓ} (b : Bool) {x y r : A} → cond b x y ≡ r → (b ≡ true → x ≡ r → C) → (b ≡ false → y ≡ r → C) → C
chosen true h f g = f refl h
chosen false h f g = g refl h

-- A way from a pattern to its end, or to where the encoding's value begins.
pub data Reach : Pattern → Pattern → ℕ → List ℕ → ℕ → List ℕ → Type 0 where
  ends : {at : ℕ} {bs : List ℕ} → Reach done done at bs at bs
  opened : {quote : ℕ} {p : Pattern} {at : ℕ} {bs : List ℕ} → Reach (encoding quote p) (encoding quote p) at bs at bs
  byte : {set : ℕ → Bool} {p q : Pattern} {b at to : ℕ} {bs rest : List ℕ} → set b ≡ true → Reach p q (suc at) bs to rest → Reach (one set p) q at (b ∷ bs) to rest
  past : {set : ℕ → Bool} {p q : Pattern} {at to : ℕ} {bs rest : List ℕ} → Reach p q at bs to rest → Reach (many set p) q at bs to rest
  again : {set : ℕ → Bool} {p q : Pattern} {b at to : ℕ} {bs rest : List ℕ} → set b ≡ true → Reach (many set p) q (suc at) bs to rest → Reach (many set p) q at (b ∷ bs) to rest
  left : {p r q : Pattern} {at to : ℕ} {bs rest : List ℕ} → Reach p q at bs to rest → Reach (fork p r) q at bs to rest
  right : {p r q : Pattern} {at to : ℕ} {bs rest : List ℕ} → Reach r q at bs to rest → Reach (fork p r) q at bs to rest
  behind : {quote : ℕ} {p q : Pattern} {at to : ℕ} {bs rest : List ℕ} → Reach p q at bs to rest → Reach (encoding quote p) q at bs to rest

-- A byte in front.
pub reach_back : (p : Pattern) {p' q : Pattern} {b at to : ℕ} {bs rest : List ℕ} → after p b ≡ some p' → Reach p' q (suc at) bs to rest → Reach p q at (b ∷ bs) to rest
reach_back done h r = none-some h
reach_back (one set p) {q = q} {b = b} {at = at} {to = to} {bs = bs} {rest = rest} h r = chosen (set b) h (λ s e. byte s (subst (λ x. Reach x q (suc at) bs to rest) (sym (some_inj e)) r)) (λ s e. none-some e)
reach_back (many set p) {q = q} {b = b} {at = at} {to = to} {bs = bs} {rest = rest} h r =
    chosen (set b) h (λ s e. again s (subst (λ x. Reach x q (suc at) bs to rest) (sym (some_inj e)) r)) (λ s e. past (reach_back p e r))
reach_back (fork l m) {p' = p'} {q = q} {b = b} {at = at} {to = to} {bs = bs} {rest = rest} h r =
    go (after l b) (after m b) h (λ x e s. reach_back l e s) (λ x e s. reach_back m e s) refl refl
  where
    both : {x y : Pattern} → Reach (fork x y) q (suc at) bs to rest → (Reach x q (suc at) bs to rest → Reach l q at (b ∷ bs) to rest) → (Reach y q (suc at) bs to rest → Reach m q at (b ∷ bs) to rest) → Reach (fork l m) q at (b ∷ bs) to rest
    both (left s) f g = left (f s)
    both (right s) f g = right (g s)

    go : (x y : Option Pattern) → ways x y ≡ some p' → ((z : Pattern) → after l b ≡ some z → Reach z q (suc at) bs to rest → Reach l q at (b ∷ bs) to rest)
        → ((z : Pattern) → after m b ≡ some z → Reach z q (suc at) bs to rest → Reach m q at (b ∷ bs) to rest) → after l b ≡ x → after m b ≡ y → Reach (fork l m) q at (b ∷ bs) to rest
    go none y e f g u v = right (g p' (v ∙ e) r)
    go (some x) none e f g u v = left (f p' (u ∙ e) r)
    go (some x) (some y) e f g u v = both (subst (λ z. Reach z q (suc at) bs to rest) (sym (some_inj e)) r) (f x u) (g y v)
reach_back (encoding quote p) h r = behind (reach_back p h r)

-- These very bytes.
pub say-reach {ℓ} : {C : Type ℓ} (ws : List ℕ) {p q : Pattern} {at to : ℕ} {bs rest : List ℕ} → Reach (say ws p) q at bs to rest
    → ((mid : ℕ) (cs : List ℕ) → SayIn ws at bs mid cs → Reach p q mid cs to rest → C) → C
say-reach [] r k = k _ _ said r
say-reach (w ∷ ws) (byte {b = b} {at = at} {bs = bs} h r) k =
    say-reach ws r (λ mid cs s t. k mid cs (subst (λ x. SayIn (w ∷ ws) at (x ∷ bs) mid cs) (eqb-true w b h) (saying s)) t)

-- Any number of bytes of a set.
pub many-reach {ℓ} : {C : Type ℓ} {set : ℕ → Bool} {p q : Pattern} {at to : ℕ} {bs rest : List ℕ} → Reach (many set p) q at bs to rest
    → ((mid : ℕ) (cs : List ℕ) → ManyIn set at bs mid cs → Reach p q mid cs to rest → C) → C
many-reach (past r) k = k _ _ no_more r
many-reach (again h r) k = many-reach r (λ mid cs m t. k mid cs (one_more h m) t)

-- At least one.
pub some-reach {ℓ} : {C : Type ℓ} {set : ℕ → Bool} {p q : Pattern} {at to : ℕ} {bs rest : List ℕ} → Reach (one set (many set p)) q at bs to rest
    → ((mid : ℕ) (cs : List ℕ) → SomeIn set at bs mid cs → Reach p q mid cs to rest → C) → C
some-reach (byte h r) k = many-reach r (λ mid cs m t. k mid cs (at_least h m) t)

-- One byte.
pub this-reach {ℓ} : {C : Type ℓ} (x : ℕ) {p q : Pattern} {at to : ℕ} {bs rest : List ℕ} → Reach (one (eqb x) p) q at bs to rest
    → ((cs : List ℕ) → bs ≡ x ∷ cs → Reach p q (suc at) cs to rest → C) → C
this-reach x (byte {bs = cs} h r) k = k cs (ap (λ z. z ∷ cs) (sym (eqb-true x _ h))) r

-- A quote of one of two kinds.
pub quoted-reach {ℓ} : {C : Type ℓ} (value : ℕ → Pattern) {q : Pattern} {at to : ℕ} {bs rest : List ℕ} → Reach (quoted value) q at bs to rest
    → ((quote : ℕ) (cs : List ℕ) → is_quote quote ≡ true → bs ≡ quote ∷ cs → Reach (value quote) q (suc at) cs to rest → C) → C
quoted-reach value (left r) k = this-reach 34 r (λ cs e t. k 34 cs refl e t)
quoted-reach value (right r) k = this-reach 39 r (λ cs e t. k 39 cs refl e t)

-- A word of the declaration, up to the quote that opens its value.
pub given-reach {ℓ} : {C : Type ℓ} (name : String) (value : ℕ → Pattern) {q : Pattern} {at to : ℕ} {bs rest : List ℕ} → Reach (given name value) q at bs to rest
    → ((quote mid : ℕ) (cs : List ℕ) → is_quote quote ≡ true → GivenIn (ascii name) quote at bs mid cs → Reach (value quote) q mid cs to rest → C) → C
given-reach {C = C} name value {q = q} {at = at} {to = to} {bs = bs} {rest = rest} r k =
    some-reach r
    (λ a ms u r1.
    say-reach (ascii name) r1
    (λ c cs v r2.
    many-reach r2
    (λ d ds w r3.
    this-reach 61 r3
    (λ es e r4.
    many-reach r4
    (λ f fs x r5.
    quoted-reach value r5
    (λ quote gs y z r6.
    k quote (suc f) gs y
    (gives u v (equals (subst (λ l. ManyIn white c cs d l) e w) (subst (λ l. ManyIn white (suc d) es f l) z x)) y)
    r6))))))
