-- What passes the pattern of the declaration is a declaration, and what leads behind the encoding's quote begins one.
-- By taking the way apart, word by word. Assumes nothing.
use Prim.Native.Nat.{ℕ, suc, ◌+◌}
use native.Mathlib.Omega.{arith}
use mathlib.Core.Path.{◌≡◌, refl, sym, ◌∙◌, ap, subst, subst₂}
use mathlib.Core.Bool.{Bool, true, false, ◌&&◌, false≢true}
use mathlib.Core.List.{List, ◌∷◌}
use Rattle.paper.specs.Tools.{ascii}
use Rattle.paper.specs.Tokens.{white}
use Rattle.paper.specs.Xml.{Pattern, done, one, many, fork, encoding, say, digit, any_case, declaration_end, after_encoding, after_version, declaration}
use Rattle.paper.proofs.Tests.{and_true}
use Rattle.xml_grammar.specs.Productions.{SayIn, said, saying, ManyIn, SomeIn, GivenIn, VersionIn, version, EncodingIn, encoded, not_encoded}
use Rattle.xml_grammar.specs.Productions.{StandaloneIn, alone_yes, alone_no, not_alone, DeclarationIn, declared}
use Rattle.xml_grammar.proofs.Patterns.{Reach, ends, opened, byte, past, again, left, right, behind, say-reach, many-reach, some-reach, this-reach, given-reach}
use Rattle.xml_grammar.proofs.Live.{version_value, encoding_value, standalone_value}

-- The end of the declaration.
pub data EndIn : ℕ → List ℕ → ℕ → List ℕ → Type 0 where
  end_in : {s t to : ℕ} {fs gs rest : List ℕ} → ManyIn white s fs t gs → SayIn (ascii "?>") t gs to rest → EndIn s fs to rest

end_passed : {at to : ℕ} {bs rest : List ℕ} → Reach declaration_end done at bs to rest → EndIn at bs to rest
end_passed {at} {to} {bs} {rest} r = many-reach r (λ mid cs m r1. say-reach (ascii "?>") r1 (λ t ds s r2. over m s r2))
  where
    over : {mid t : ℕ} {cs ds : List ℕ} → ManyIn white at bs mid cs → SayIn (ascii "?>") mid cs t ds → Reach done done t ds to rest → EndIn at bs to rest
    over m s ends = end_in m s

-- The standalone part, if it is there, and the end.
after-encoding {ℓ} : {C : Type ℓ} {at to : ℕ} {bs rest : List ℕ} → Reach after_encoding done at bs to rest → ((mid : ℕ) (cs : List ℕ) → StandaloneIn at bs mid cs → EndIn mid cs to rest → C) → C
after-encoding {C = C} {at} {to} {bs} {rest} (left r) k = given-reach "standalone" standalone_value r (λ quote mid cs q g t. yes-no quote mid cs g t)
  where
    yes-no : (quote mid : ℕ) (cs : List ℕ) → GivenIn (ascii "standalone") quote at bs mid cs → Reach (standalone_value quote) done mid cs to rest → C
    yes-no quote mid cs g (left r) =
        say-reach (ascii "yes") r (λ p ds s r1. this-reach quote r1 (λ es e r2. k (suc p) es (alone_yes g (subst (λ l. SayIn (ascii "yes") mid cs p l) e s)) (end_passed r2)))
    yes-no quote mid cs g (right r) =
        say-reach (ascii "no") r (λ p ds s r1. this-reach quote r1 (λ es e r2. k (suc p) es (alone_no g (subst (λ l. SayIn (ascii "no") mid cs p l) e s)) (end_passed r2)))
after-encoding (right r) k = k _ _ not_alone (end_passed r)

-- The encoding before it, if it is there.
after-version {ℓ} : {C : Type ℓ} {at to : ℕ} {bs rest : List ℕ} → Reach after_version done at bs to rest
    → ((mid : ℕ) (cs : List ℕ) → EncodingIn at bs mid cs → Reach after_encoding done mid cs to rest → C) → C
after-version {C = C} {at} {to} {bs} {rest} (left r) k = given-reach "encoding" (λ q. encoding q (encoding_value q)) r (λ quote mid cs q g t. utf quote mid cs g t)
  where
    utf : (quote mid : ℕ) (cs : List ℕ) → GivenIn (ascii "encoding") quote at bs mid cs → Reach (encoding quote (encoding_value quote)) done mid cs to rest → C
    utf quote mid cs g (behind (byte {b = x} h (byte {b = y} i (byte {b = z} {bs = fs} j r)))) =
        say-reach (ascii "-8") r
        (λ p ds s r1.
        this-reach quote r1 (λ es e r2. go x y z h i j g (subst (λ l. SayIn (ascii "-8") (suc (suc (suc mid))) fs p l) e s) r2))
      where
        go : (x y z : ℕ) {p : ℕ} {fs ds : List ℕ} → any_case 117 x ≡ true → any_case 116 y ≡ true → any_case 102 z ≡ true → GivenIn (ascii "encoding") quote at bs mid (x ∷ y ∷ z ∷ fs)
            → SayIn (ascii "-8") (suc (suc (suc mid))) fs p (quote ∷ ds) → Reach after_encoding done (suc p) ds to rest → C
        go x y z {ds = ds} h i j g (saying (saying said)) r = k (6 + mid) ds (encoded g h i j) (subst (λ n. Reach after_encoding done n ds to rest) (omega arith) r)
after-version (right r) k = k _ _ not_encoded r

-- Behind `<?xml`: the version.
behind-xml {ℓ} : {C : Type ℓ} {q : Pattern} {to : ℕ} {cs rest : List ℕ} → Reach (say (ascii "xml") declaration) q 2 cs to rest
    → ((p mid : ℕ) (ds es : List ℕ) → SayIn (ascii "<?xml") 0 (60 ∷ 63 ∷ cs) p ds → VersionIn p ds mid es → Reach after_version q mid es to rest → C) → C
behind-xml r k =
    say-reach (ascii "xml") r
    (λ p ds x r1.
    given-reach "version" version_value r1
    (λ quote a es q g r2.
    say-reach (ascii "1.") r2
    (λ b fs s r3.
    some-reach r3
    (λ c gs d r4.
    this-reach quote r4
    (λ hs e r5. k p (suc c) ds hs (saying (saying x)) (version g s (subst (λ l. SomeIn digit b fs c l) e d)) r5)))))

pub declaration_passed : {to : ℕ} {cs rest : List ℕ} → Reach (say (ascii "xml") declaration) done 2 cs to rest → DeclarationIn (60 ∷ 63 ∷ cs) to rest
declaration_passed {to} {cs} {rest} r =
    behind-xml r (λ p mid ds es x v r1. after-version r1 (λ a fs u r2. after-encoding r2 (λ b gs w z. over x v u w z)))
  where
    over : {p q r s : ℕ} {ds es fs gs : List ℕ} → SayIn (ascii "<?xml") 0 (60 ∷ 63 ∷ cs) p ds → VersionIn p ds q es → EncodingIn q es r fs → StandaloneIn r fs s gs → EndIn s gs to rest → DeclarationIn (60 ∷ 63 ∷ cs) to rest
    over x v u w (end_in m s) = declared x v u w m s

-- NO OTHER WAY TO THE ENCODING'S VALUE.

-- Is there no encoding in the pattern?
abbrev free : Pattern → Bool
free done = true
free (one set p) = free p
free (many set p) = free p
free (fork p q) = free p && free q
free (encoding quote p) = false

never_opened : {p q : Pattern} {quote at to : ℕ} {bs rest : List ℕ} → free p ≡ true → Reach p (encoding quote q) at bs to rest → ⊥
never_opened f opened = false≢true f
never_opened f (byte h r) = never_opened f r
never_opened f (past r) = never_opened f r
never_opened f (again h r) = never_opened f r
never_opened f (left {p = p} {r = m} r) = never_opened (and_true (free p) (free m) f).0 r
never_opened f (right {p = p} {r = m} r) = never_opened (and_true (free p) (free m) f).1 r
never_opened f (behind r) = false≢true f

value_here : {w v : Pattern} {q quote a to : ℕ} {fs rest : List ℕ} → free w ≡ true → Reach (encoding q w) (encoding quote v) a fs to rest → (q ≡ quote) × (w ≡ v) × (a ≡ to) × (fs ≡ rest)
value_here f opened = (refl, refl, refl, refl)
value_here f (behind r) = absurd (never_opened f r)

pub value-passed {ℓ} : {C : Type ℓ} {v : Pattern} {quote to : ℕ} {cs rest : List ℕ} → Reach (say (ascii "xml") declaration) (encoding quote v) 2 cs to rest
    → ((p mid : ℕ) (ds es : List ℕ) → SayIn (ascii "<?xml") 0 (60 ∷ 63 ∷ cs) p ds → VersionIn p ds mid es → GivenIn (ascii "encoding") quote mid es to rest → encoding_value quote ≡ v → C) → C
value-passed {C = C} {v} {quote} {to} {cs} {rest} r k = behind-xml r (λ p mid ds es x u r1. given_there p mid ds es x u r1)
  where
    there : (p mid a q : ℕ) (ds es fs : List ℕ) → SayIn (ascii "<?xml") 0 (60 ∷ 63 ∷ cs) p ds → VersionIn p ds mid es → GivenIn (ascii "encoding") q mid es a fs
        → (q ≡ quote) × (encoding_value q ≡ v) × (a ≡ to) × (fs ≡ rest) → C
    there p mid a q ds es fs x u g (d, e, f, h) =
        k p mid ds es x u (subst (λ n. GivenIn (ascii "encoding") n mid es to rest) d (subst₂ (λ n l. GivenIn (ascii "encoding") q mid es n l) f h g)) (ap encoding_value (sym d) ∙ e)

    given_there : (p mid : ℕ) (ds es : List ℕ) → SayIn (ascii "<?xml") 0 (60 ∷ 63 ∷ cs) p ds → VersionIn p ds mid es → Reach after_version (encoding quote v) mid es to rest → C
    given_there p mid ds es x u (left r) = given-reach "encoding" (λ q. encoding q (encoding_value q)) r (λ q a fs i g t. there p mid a q ds es fs x u g (value_here refl t))
    given_there p mid ds es x u (right r) = absurd (never_opened refl r)
