-- A character of several bytes: what passes the pattern is the UTF-8 of a character that XML 1.0 has, and the other way round.
-- By the ranges of the first bytes, each below the next, and by arithmetic. Assumes nothing.
use Prim.Native.Nat.{ℕ, suc, ◌+◌, ◌*◌, ◌-◌, ◌/◌, ◌%◌, ◌≤◌, ◌<◌}
use native.Mathlib.Omega.{arith}
use mathlib.Core.Path.{◌≡◌, refl, sym, ◌∙◌, ap, ap₂, subst}
use mathlib.Core.Bool.{Bool, true, false, ◌||◌}
use mathlib.Core.List.{List, [], ◌∷◌}
use mathlib.Core.Logic.{◌⊎◌, ⊎_elim}
use mathlib.Core.Option.{none, some}
use lib.Dec.{eqb, leb, ltb}
use borrow.Author.Tests.{leb-true, eqb-true, le-leb, lt-leb, eq-eqb, ne_eqb, lt-ltb, le-ltb, ltb-true, ltb-false}
use Rattle.paper.specs.Xml.{Pattern, done, one, fork, after, from, tail, wide}
use Rattle.paper.proofs.Tests.{and_true, true_and, or_true, or_left, or_right, some_inj, none-some, decide}
use Rattle.xml_grammar.specs.Productions.{SayIn, said, saying, is_char, utf8, char, AtomIn, a_char}
use Rattle.xml_grammar.proofs.Patterns.{Reach, ends, byte, left, right}
use Rattle.xml_grammar.proofs.Live.{Live, live_done, live_one, live_two, Finishes, last, further}

-- RANGES.

pub from_in : (lo hi b : ℕ) → lo ≤ b → b ≤ hi → from lo hi b ≡ true
from_in lo hi b l h = true_and (le-leb lo b l) (le-leb b hi h)

pub from_under : (lo hi b : ℕ) → b < lo → from lo hi b ≡ false
from_under lo hi b h = rw (lt-leb lo b h)

pub from_over : (lo hi b : ℕ) → hi < b → from lo hi b ≡ false
from_over lo hi b h = ⊎_elim (λ (k : leb lo b ≡ true). rw (k, lt-leb b hi h)) (λ (k : leb lo b ≡ false). rw k) (decide (leb lo b))

pub from_low : (lo hi b : ℕ) → from lo hi b ≡ true → lo ≤ b
from_low lo hi b h = leb-true lo b (and_true (leb lo b) (leb b hi) h).0

pub from_high : (lo hi b : ℕ) → from lo hi b ≡ true → b ≤ hi
from_high lo hi b h = leb-true b hi (and_true (leb lo b) (leb b hi) h).1

-- THE FIRST BYTE.

-- What follows it.
abbrev p3 : Pattern
p3 = one (from 160 191) (tail done)

abbrev p4 : Pattern
p4 = one (from 128 159) (tail done)

abbrev p6 : Pattern
p6 = fork (one (from 128 190) (tail done)) (one (eqb 191) (one (from 128 189) done))

abbrev p7 : Pattern
p7 = one (from 144 191) (tail (tail done))

abbrev p8 : Pattern
p8 = tail (tail (tail done))

abbrev p9 : Pattern
p9 = one (from 128 143) (tail (tail done))

-- The pattern from each of its ways on.
abbrev w9 : Pattern
w9 = one (eqb 244) p9

abbrev w8 : Pattern
w8 = fork (one (from 241 243) p8) w9

abbrev w7 : Pattern
w7 = fork (one (eqb 240) p7) w8

abbrev w6 : Pattern
w6 = fork (one (eqb 239) p6) w7

abbrev w5 : Pattern
w5 = fork (one (eqb 238) (tail (tail done))) w6

abbrev w4 : Pattern
w4 = fork (one (eqb 237) p4) w5

abbrev w3 : Pattern
w3 = fork (one (from 225 236) (tail (tail done))) w4

abbrev w2 : Pattern
w2 = fork (one (eqb 224) p3) w3

-- A byte that the first way does not take, and one that only it takes.
skipped : (set : ℕ → Bool) (p q : Pattern) (b : ℕ) → set b ≡ false → after (fork (one set p) q) b ≡ after q b
skipped set p q b h = rw h

taken : (set : ℕ → Bool) (p q : Pattern) (b : ℕ) → set b ≡ true → after q b ≡ none → after (fork (one set p) q) b ≡ some p
taken set p q b h k = rw (h, k)

under9 : (b : ℕ) → b < 244 → after w9 b ≡ none
under9 b h = rw (ne_eqb 244 b (λ e. omega arith))

under8 : (b : ℕ) → b < 241 → after w8 b ≡ none
under8 b h = skipped (from 241 243) p8 w9 b (from_under 241 243 b h) ∙ under9 b (omega arith)

under7 : (b : ℕ) → b < 240 → after w7 b ≡ none
under7 b h = skipped (eqb 240) p7 w8 b (ne_eqb 240 b (λ e. omega arith)) ∙ under8 b (omega arith)

under6 : (b : ℕ) → b < 239 → after w6 b ≡ none
under6 b h = skipped (eqb 239) p6 w7 b (ne_eqb 239 b (λ e. omega arith)) ∙ under7 b (omega arith)

under5 : (b : ℕ) → b < 238 → after w5 b ≡ none
under5 b h = skipped (eqb 238) (tail (tail done)) w6 b (ne_eqb 238 b (λ e. omega arith)) ∙ under6 b (omega arith)

under4 : (b : ℕ) → b < 237 → after w4 b ≡ none
under4 b h = skipped (eqb 237) p4 w5 b (ne_eqb 237 b (λ e. omega arith)) ∙ under5 b (omega arith)

under3 : (b : ℕ) → b < 225 → after w3 b ≡ none
under3 b h = skipped (from 225 236) (tail (tail done)) w4 b (from_under 225 236 b h) ∙ under4 b (omega arith)

under2 : (b : ℕ) → b < 224 → after w2 b ≡ none
under2 b h = skipped (eqb 224) p3 w3 b (ne_eqb 224 b (λ e. omega arith)) ∙ under3 b (omega arith)

pub under_wide : (b : ℕ) → b < 194 → after wide b ≡ none
under_wide b h = skipped (from 194 223) (tail done) w2 b (from_under 194 223 b h) ∙ under2 b (omega arith)

over1 : (b : ℕ) → 223 < b → after wide b ≡ after w2 b
over1 b h = skipped (from 194 223) (tail done) w2 b (from_over 194 223 b h)

over2 : (b : ℕ) → 224 < b → after wide b ≡ after w3 b
over2 b h = over1 b (omega arith) ∙ skipped (eqb 224) p3 w3 b (ne_eqb 224 b (λ e. omega arith))

over3 : (b : ℕ) → 236 < b → after wide b ≡ after w4 b
over3 b h = over2 b (omega arith) ∙ skipped (from 225 236) (tail (tail done)) w4 b (from_over 225 236 b h)

over4 : (b : ℕ) → 237 < b → after wide b ≡ after w5 b
over4 b h = over3 b (omega arith) ∙ skipped (eqb 237) p4 w5 b (ne_eqb 237 b (λ e. omega arith))

over5 : (b : ℕ) → 238 < b → after wide b ≡ after w6 b
over5 b h = over4 b (omega arith) ∙ skipped (eqb 238) (tail (tail done)) w6 b (ne_eqb 238 b (λ e. omega arith))

over6 : (b : ℕ) → 239 < b → after wide b ≡ after w7 b
over6 b h = over5 b (omega arith) ∙ skipped (eqb 239) p6 w7 b (ne_eqb 239 b (λ e. omega arith))

over7 : (b : ℕ) → 240 < b → after wide b ≡ after w8 b
over7 b h = over6 b (omega arith) ∙ skipped (eqb 240) p7 w8 b (ne_eqb 240 b (λ e. omega arith))

over8 : (b : ℕ) → 243 < b → after wide b ≡ after w9 b
over8 b h = over7 b (omega arith) ∙ skipped (from 241 243) p8 w9 b (from_over 241 243 b h)

first1 : (b : ℕ) → 194 ≤ b → b ≤ 223 → after wide b ≡ some (tail done)
first1 b l h = taken (from 194 223) (tail done) w2 b (from_in 194 223 b l h) (under2 b (omega arith))

first2 : (b : ℕ) → b ≡ 224 → after wide b ≡ some p3
first2 b e = over1 b (omega arith) ∙ taken (eqb 224) p3 w3 b (eq-eqb 224 b (sym e)) (under3 b (omega arith))

first3 : (b : ℕ) → 225 ≤ b → b ≤ 236 → after wide b ≡ some (tail (tail done))
first3 b l h = over2 b (omega arith) ∙ taken (from 225 236) (tail (tail done)) w4 b (from_in 225 236 b l h) (under4 b (omega arith))

first4 : (b : ℕ) → b ≡ 237 → after wide b ≡ some p4
first4 b e = over3 b (omega arith) ∙ taken (eqb 237) p4 w5 b (eq-eqb 237 b (sym e)) (under5 b (omega arith))

first5 : (b : ℕ) → b ≡ 238 → after wide b ≡ some (tail (tail done))
first5 b e = over4 b (omega arith) ∙ taken (eqb 238) (tail (tail done)) w6 b (eq-eqb 238 b (sym e)) (under6 b (omega arith))

first6 : (b : ℕ) → b ≡ 239 → after wide b ≡ some p6
first6 b e = over5 b (omega arith) ∙ taken (eqb 239) p6 w7 b (eq-eqb 239 b (sym e)) (under7 b (omega arith))

first7 : (b : ℕ) → b ≡ 240 → after wide b ≡ some p7
first7 b e = over6 b (omega arith) ∙ taken (eqb 240) p7 w8 b (eq-eqb 240 b (sym e)) (under8 b (omega arith))

first8 : (b : ℕ) → 241 ≤ b → b ≤ 243 → after wide b ≡ some p8
first8 b l h = over7 b (omega arith) ∙ taken (from 241 243) p8 w9 b (from_in 241 243 b l h) (under9 b (omega arith))

first9 : (b : ℕ) → b ≡ 244 → after wide b ≡ some p9
first9 b e = let k : eqb 244 b ≡ true = eq-eqb 244 b (sym e) in let f : after w9 b ≡ some p9 = rw k in over8 b (omega arith) ∙ f

-- What must come after the first byte can come.
live_tail : {p : Pattern} → Live p → Live (tail p)
live_tail l = live_one 128 refl refl refl l

live_way : (set : ℕ → Bool) {p r : Pattern} (q : Pattern) (b : ℕ) → Live p → (set b ≡ true → after q b ≡ none) → (after q b ≡ some r → Live r) → after (fork (one set p) q) b ≡ some r → Live r
live_way set {p = p} {r = r} q b l k more h =
    ⊎_elim (λ s. subst Live (some_inj (sym (taken set p q b s (k s)) ∙ h)) l) (λ s. more (sym (skipped set p q b s) ∙ h)) (decide (set b))

pub live_wide : {p : Pattern} (b : ℕ) → after wide b ≡ some p → Live p
live_wide b h =
    live_way (from 194 223) w2 b (live_tail live_done) (λ s. under2 b (let u = from_high 194 223 b s in omega arith))
    (live_way (eqb 224) w3 b (live_one 160 refl refl refl (live_tail live_done)) (λ s. under3 b (let u = eqb-true 224 b s in omega arith))
    (live_way (from 225 236) w4 b (live_tail (live_tail live_done)) (λ s. under4 b (let u = from_high 225 236 b s in omega arith))
    (live_way (eqb 237) w5 b (live_one 128 refl refl refl (live_tail live_done)) (λ s. under5 b (let u = eqb-true 237 b s in omega arith))
    (live_way (eqb 238) w6 b (live_tail (live_tail live_done)) (λ s. under6 b (let u = eqb-true 238 b s in omega arith))
    (live_way (eqb 239) w7 b
    (live_two (λ x s. let u = from_high 128 190 x s in ne_eqb 191 x (λ e. omega arith)) (live_one 128 refl refl refl (live_tail live_done)) (live_one 191 refl refl refl (live_one 128 refl refl refl live_done)))
    (λ s. under7 b (let u = eqb-true 239 b s in omega arith))
    (live_way (eqb 240) w8 b (live_one 144 refl refl refl (live_tail (live_tail live_done))) (λ s. under8 b (let u = eqb-true 240 b s in omega arith))
    (live_way (from 241 243) w9 b (live_tail (live_tail (live_tail live_done))) (λ s. under9 b (let u = from_high 241 243 b s in omega arith))
    (λ e. last_way e))))))))
    h
  where
    last_way : {r : Pattern} → after w9 b ≡ some r → Live r
    last_way {r = r} e =
        ⊎_elim (λ (k : eqb 244 b ≡ true). subst Live (some_inj (rw k at e)) (live_one 128 refl refl refl (live_tail (live_tail live_done)))) (λ (k : eqb 244 b ≡ false). none-some (rw k at e)) (decide (eqb 244 b))

-- ARITHMETIC.

pub two_bytes : (c : ℕ) → 128 ≤ c → c < 2048 → utf8 c ≡ (192 + c / 64) ∷ (128 + c % 64) ∷ []
two_bytes c l h = rw (le-ltb c 128 l, lt-ltb c 2048 h)

pub three_bytes : (c : ℕ) → 2048 ≤ c → c < 65536 → utf8 c ≡ (224 + c / 4096) ∷ (128 + c / 64 % 64) ∷ (128 + c % 64) ∷ []
three_bytes c l h = let m : 128 ≤ c = omega arith in rw (le-ltb c 128 m, le-ltb c 2048 l, lt-ltb c 65536 h)

pub four_bytes : (c : ℕ) → 65536 ≤ c → utf8 c ≡ (240 + c / 262144) ∷ (128 + c / 4096 % 64) ∷ (128 + c / 64 % 64) ∷ (128 + c % 64) ∷ []
four_bytes c l = let m : 128 ≤ c = omega arith in let n : 2048 ≤ c = omega arith in rw (le-ltb c 128 m, le-ltb c 2048 n, le-ltb c 65536 l)

-- The number of a character, from its bytes.
said_two : (c x y : ℕ) → 194 ≤ x → x ≤ 223 → 128 ≤ y → y ≤ 191 → c + 12416 ≡ x * 64 + y → utf8 c ≡ x ∷ y ∷ []
said_two c x y a b d e n =
    let p : 192 + c / 64 ≡ x = omega arith in
    let q : 128 + c % 64 ≡ y = omega arith in
    two_bytes c (omega arith) (omega arith) ∙ ap₂ (λ i j. i ∷ j ∷ []) p q

said_three : (c x y z : ℕ) → 224 ≤ x → x ≤ 239 → 128 ≤ y → y ≤ 191 → 128 ≤ z → z ≤ 191 → c + 925824 ≡ x * 4096 + y * 64 + z → 2048 ≤ c → utf8 c ≡ x ∷ y ∷ z ∷ []
said_three c x y z a b d e f g n l =
    let p : 224 + c / 4096 ≡ x = omega arith in
    let m : c / 64 + 14464 ≡ x * 64 + y = omega arith in
    let q : 128 + c / 64 % 64 ≡ y = omega arith in
    let r : 128 + c % 64 ≡ z = omega arith in
    three_bytes c l (omega arith) ∙ ap₂ (λ i j. i ∷ j ∷ (128 + c % 64) ∷ []) p q ∙ ap (λ k. x ∷ y ∷ k ∷ []) r

said_four : (c w x y z : ℕ) → 240 ≤ w → w ≤ 244 → 128 ≤ x → x ≤ 191 → 128 ≤ y → y ≤ 191 → 128 ≤ z → z ≤ 191 → c + 63447168 ≡ w * 262144 + x * 4096 + y * 64 + z → 65536 ≤ c
    → utf8 c ≡ w ∷ x ∷ y ∷ z ∷ []
said_four c w x y z a b d e f g i j n l =
    let o : 240 + c / 262144 ≡ w = omega arith in
    let k : c / 4096 + 15488 ≡ w * 64 + x = omega arith in
    let p : 128 + c / 4096 % 64 ≡ x = omega arith in
    let m : c / 64 + 991360 ≡ w * 4096 + x * 64 + y = omega arith in
    let q : 128 + c / 64 % 64 ≡ y = omega arith in
    let r : 128 + c % 64 ≡ z = omega arith in
    four_bytes c l ∙ ap₂ (λ s t. s ∷ t ∷ (128 + c / 64 % 64) ∷ (128 + c % 64) ∷ []) o p ∙ ap₂ (λ s t. w ∷ x ∷ s ∷ t ∷ []) q r

-- The characters that XML 1.0 has.
abbrev blanks : ℕ → Bool
blanks c = eqb c 9 || eqb c 10 || eqb c 13

pub is_low : (c : ℕ) → 32 ≤ c → c ≤ 55295 → is_char c ≡ true
is_low c l h = or_left (from 65536 1114111 c) (or_left (from 57344 65533 c) (or_right (blanks c) (from_in 32 55295 c l h)))

is_middle : (c : ℕ) → 57344 ≤ c → c ≤ 65533 → is_char c ≡ true
is_middle c l h = or_left (from 65536 1114111 c) (or_right (blanks c || from 32 55295 c) (from_in 57344 65533 c l h))

is_high : (c : ℕ) → 65536 ≤ c → c ≤ 1114111 → is_char c ≡ true
is_high c l h = or_right (blanks c || from 32 55295 c || from 57344 65533 c) (from_in 65536 1114111 c l h)

-- WHAT PASSES IS A CHARACTER.

-- A character of several bytes, with them.
pub record WideIn (at : ℕ) (bs : List ℕ) (to : ℕ) (rest : List ℕ) : Type 0 where
  pub number : ℕ
  pub beyond : 128 ≤ number
  pub atom : AtomIn at bs (char number) to rest

wide_in : {at to : ℕ} {bs rest : List ℕ} (c : ℕ) (ws : List ℕ) → utf8 c ≡ ws → 128 ≤ c → is_char c ≡ true → SayIn ws at bs to rest → WideIn at bs to rest
wide_in {at} {to} {bs} {rest} c ws e l h s =
    record {
      number = c;
      beyond = l;
      atom = a_char h (ne_eqb c 60 (λ k. omega arith)) (ne_eqb c 38 (λ k. omega arith)) (subst (λ u. SayIn u at bs to rest) (sym e) s);
    }

-- A number that is known by what must be added to it.
less : (k n : ℕ) → k ≤ n → (c : ℕ) × (c + k ≡ n)
less k n h = (n - k, omega arith)

module _ {at : ℕ} {bs : List ℕ} where
  in_two : (x y : ℕ) → from 194 223 x ≡ true → from 128 191 y ≡ true → WideIn at (x ∷ y ∷ bs) (suc (suc at)) bs
  in_two x y g h =
      let a = from_low 194 223 x g in
      let b = from_high 194 223 x g in
      let l = from_low 128 191 y h in
      let m = from_high 128 191 y h in
      let (c, n) = less 12416 (x * 64 + y) (omega arith) in
      by_number c n a b l m
    where
      by_number : (c : ℕ) → c + 12416 ≡ x * 64 + y → 194 ≤ x → x ≤ 223 → 128 ≤ y → y ≤ 191 → WideIn at (x ∷ y ∷ bs) (suc (suc at)) bs
      by_number c n a b l m = wide_in c (x ∷ y ∷ []) (said_two c x y a b l m n) (omega arith) (is_low c (omega arith) (omega arith)) (saying (saying said))

  in_three : (x lo hi y top z : ℕ) → 224 ≤ x → x ≤ 239 → 128 ≤ lo → hi ≤ 191 → top ≤ 191 → from lo hi y ≡ true → from 128 top z ≡ true
      → ((c : ℕ) → c + 925824 ≡ x * 4096 + y * 64 + z → lo ≤ y → y ≤ hi → 128 ≤ z → z ≤ top → (2048 ≤ c) × (is_char c ≡ true)) → WideIn at (x ∷ y ∷ z ∷ bs) (suc (suc (suc at))) bs
  in_three x lo hi y top z a b d e f g h k =
      let i = from_low lo hi y g in
      let j = from_high lo hi y g in
      let l = from_low 128 top z h in
      let m = from_high 128 top z h in
      let (c, n) = less 925824 (x * 4096 + y * 64 + z) (omega arith) in
      let (o, p) = k c n i j l m in
      wide_in c (x ∷ y ∷ z ∷ []) (said_three c x y z a b (omega arith) (omega arith) l (omega arith) n o) (omega arith) p (saying (saying (saying said)))

  in_four : (w lo hi x y z : ℕ) → 240 ≤ w → w ≤ 244 → 128 ≤ lo → hi ≤ 191 → from lo hi x ≡ true → from 128 191 y ≡ true → from 128 191 z ≡ true
      → ((c : ℕ) → c + 63447168 ≡ w * 262144 + x * 4096 + y * 64 + z → lo ≤ x → x ≤ hi → 128 ≤ y → y ≤ 191 → 128 ≤ z → z ≤ 191 → (65536 ≤ c) × (c ≤ 1114111))
      → WideIn at (w ∷ x ∷ y ∷ z ∷ bs) (suc (suc (suc (suc at)))) bs
  in_four w lo hi x y z a b d e g h i k =
      let j = from_low lo hi x g in
      let l = from_high lo hi x g in
      let m = from_low 128 191 y h in
      let n = from_high 128 191 y h in
      let o = from_low 128 191 z i in
      let p = from_high 128 191 z i in
      let (c, q) = less 63447168 (w * 262144 + x * 4096 + y * 64 + z) (omega arith) in
      let (r, s) = k c q j l m n o p in
      wide_in c (w ∷ x ∷ y ∷ z ∷ []) (said_four c w x y z a b (omega arith) (omega arith) m n o p q r) (omega arith) (is_high c r s) (saying (saying (saying (saying said))))

-- The bytes of a way of two, three or four.
way_two : {set : ℕ → Bool} {at to : ℕ} {bs rest : List ℕ} → Reach (one set (tail done)) done at bs to rest
    → ((x y : ℕ) (cs : List ℕ) → set x ≡ true → from 128 191 y ≡ true → WideIn at (x ∷ y ∷ cs) (suc (suc at)) cs) → WideIn at bs to rest
way_two (byte {b = x} h (byte {b = y} {bs = cs} i ends)) k = k x y cs h i

way_three : {set next third : ℕ → Bool} {at to : ℕ} {bs rest : List ℕ} → Reach (one set (one next (one third done))) done at bs to rest
    → ((x y z : ℕ) (cs : List ℕ) → set x ≡ true → next y ≡ true → third z ≡ true → WideIn at (x ∷ y ∷ z ∷ cs) (suc (suc (suc at))) cs) → WideIn at bs to rest
way_three (byte {b = x} h (byte {b = y} i (byte {b = z} {bs = cs} j ends))) k = k x y z cs h i j

way_four : {set next : ℕ → Bool} {at to : ℕ} {bs rest : List ℕ} → Reach (one set (one next (tail (tail done)))) done at bs to rest
    → ((w x y z : ℕ) (cs : List ℕ) → set w ≡ true → next x ≡ true → from 128 191 y ≡ true → from 128 191 z ≡ true → WideIn at (w ∷ x ∷ y ∷ z ∷ cs) (suc (suc (suc (suc at)))) cs)
    → WideIn at bs to rest
way_four (byte {b = w} g (byte {b = x} h (byte {b = y} i (byte {b = z} {bs = cs} j ends)))) k = k w x y z cs g h i j

-- Each way, from the last on.
passed8 : {at to : ℕ} {bs rest : List ℕ} → Reach w8 done at bs to rest → WideIn at bs to rest
passed8 (left r) =
    way_four r
    (λ w x y z cs g h i j.
    let d = from_low 241 243 w g in
    let e = from_high 241 243 w g in
    in_four w 128 191 x y z (omega arith) (omega arith) (omega arith) (omega arith) h i j (λ c q k l m n o p. (omega arith, omega arith)))
passed8 (right r) =
    way_four r
    (λ w x y z cs g h i j.
    let e = eqb-true 244 w g in
    in_four w 128 143 x y z (omega arith) (omega arith) (omega arith) (omega arith) h i j (λ c q k l m n o p. (omega arith, omega arith)))

passed7 : {at to : ℕ} {bs rest : List ℕ} → Reach w7 done at bs to rest → WideIn at bs to rest
passed7 (left r) =
    way_four r
    (λ w x y z cs g h i j.
    let e = eqb-true 240 w g in
    in_four w 144 191 x y z (omega arith) (omega arith) (omega arith) (omega arith) h i j (λ c q k l m n o p. (omega arith, omega arith)))
passed7 (right r) = passed8 r

passed6 : {at to : ℕ} {bs rest : List ℕ} → Reach w6 done at bs to rest → WideIn at bs to rest
passed6 (left (byte h (left r))) =
    way_three (byte h r)
    (λ x y z cs h i j.
    let e = eqb-true 239 x h in
    in_three x 128 190 y 191 z (omega arith) (omega arith) (omega arith) (omega arith) (omega arith) i j (λ c q l m n o. (omega arith, is_middle c (omega arith) (omega arith))))
passed6 (left (byte h (right r))) =
    way_three (byte h r)
    (λ x y z cs h i j.
    let e = eqb-true 239 x h in
    let f = eqb-true 191 y i in
    in_three x 191 191 y 189 z (omega arith) (omega arith) (omega arith) (omega arith) (omega arith) (from_in 191 191 y (omega arith) (omega arith)) j (λ c q l m n o. (omega arith, is_middle c (omega arith) (omega arith))))
passed6 (right r) = passed7 r

passed5 : {at to : ℕ} {bs rest : List ℕ} → Reach w5 done at bs to rest → WideIn at bs to rest
passed5 (left r) =
    way_three r
    (λ x y z cs h i j.
    let e = eqb-true 238 x h in
    in_three x 128 191 y 191 z (omega arith) (omega arith) (omega arith) (omega arith) (omega arith) i j (λ c q l m n o. (omega arith, is_middle c (omega arith) (omega arith))))
passed5 (right r) = passed6 r

passed4 : {at to : ℕ} {bs rest : List ℕ} → Reach w4 done at bs to rest → WideIn at bs to rest
passed4 (left r) =
    way_three r
    (λ x y z cs h i j.
    let e = eqb-true 237 x h in
    in_three x 128 159 y 191 z (omega arith) (omega arith) (omega arith) (omega arith) (omega arith) i j (λ c q l m n o. (omega arith, is_low c (omega arith) (omega arith))))
passed4 (right r) = passed5 r

passed3 : {at to : ℕ} {bs rest : List ℕ} → Reach w3 done at bs to rest → WideIn at bs to rest
passed3 (left r) =
    way_three r
    (λ x y z cs h i j.
    let d = from_low 225 236 x h in
    let e = from_high 225 236 x h in
    in_three x 128 191 y 191 z (omega arith) (omega arith) (omega arith) (omega arith) (omega arith) i j (λ c q l m n o. (omega arith, is_low c (omega arith) (omega arith))))
passed3 (right r) = passed4 r

passed2 : {at to : ℕ} {bs rest : List ℕ} → Reach w2 done at bs to rest → WideIn at bs to rest
passed2 (left r) =
    way_three r
    (λ x y z cs h i j.
    let e = eqb-true 224 x h in
    in_three x 160 191 y 191 z (omega arith) (omega arith) (omega arith) (omega arith) (omega arith) i j (λ c q l m n o. (omega arith, is_low c (omega arith) (omega arith))))
passed2 (right r) = passed3 r

pub wide_passed : {at to : ℕ} {bs rest : List ℕ} → Reach wide done at bs to rest → WideIn at bs to rest
wide_passed (left r) = way_two r (λ x y cs h i. in_two x y h i)
wide_passed (right r) = passed2 r

-- A CHARACTER PASSES.

in_range : (lo hi : ℕ) (p : Pattern) (b : ℕ) → lo ≤ b → b ≤ hi → after (one (from lo hi) p) b ≡ some p
in_range lo hi p b l h = rw (from_in lo hi b l h)

one_tail : (lo hi y : ℕ) → lo ≤ y → y ≤ hi → Finishes (one (from lo hi) done) (y ∷ [])
one_tail lo hi y l h = last (in_range lo hi done y l h) refl

two_tails : (lo hi y z : ℕ) → lo ≤ y → y ≤ hi → 128 ≤ z → z ≤ 191 → Finishes (one (from lo hi) (tail done)) (y ∷ z ∷ [])
two_tails lo hi y z l h m n = further (in_range lo hi (tail done) y l h) refl (one_tail 128 191 z m n)

three_tails : (lo hi x y z : ℕ) → lo ≤ x → x ≤ hi → 128 ≤ y → y ≤ 191 → 128 ≤ z → z ≤ 191 → Finishes (one (from lo hi) (tail (tail done))) (x ∷ y ∷ z ∷ [])
three_tails lo hi x y z l h i j m n = further (in_range lo hi (tail (tail done)) x l h) refl (two_tails 128 191 y z i j m n)

pub below {ℓ} : {C : Type ℓ} (c n : ℕ) → (c < n → C) → (n ≤ c → C) → C
below c n f g = ⊎_elim (λ h. f (ltb-true c n h)) (λ h. g (ltb-false c n h)) (decide (ltb c n))

-- No surrogate, not FFFE and FFFF, and none past the last.
record Allowed (c : ℕ) : Type 0 where
  surrogates : c < 57344 → c ≤ 55295
  specials : c < 65536 → c ≤ 65533
  last_one : c ≤ 1114111

allowed : (c : ℕ) → is_char c ≡ true → 128 ≤ c → Allowed c
allowed c h l =
    ⊎_elim
    (λ a.
    ⊎_elim
    (λ b.
    ⊎_elim (λ d. absurd (small d)) (λ d. let e = from_high 32 55295 c d in record { surrogates = λ k. e; specials = λ k. omega arith; last_one = omega arith })
    (or_true (blanks c) (from 32 55295 c) b))
    (λ b. let d = from_low 57344 65533 c b in let e = from_high 57344 65533 c b in record { surrogates = λ k. omega arith; specials = λ k. e; last_one = omega arith })
    (or_true (blanks c || from 32 55295 c) (from 57344 65533 c) a))
    (λ a. let d = from_low 65536 1114111 c a in let e = from_high 65536 1114111 c a in record { surrogates = λ k. omega arith; specials = λ k. omega arith; last_one = e })
    (or_true (blanks c || from 32 55295 c || from 57344 65533 c) (from 65536 1114111 c) h)
  where
    small : blanks c ≡ true → ⊥
    small d =
        ⊎_elim (λ a. ⊎_elim (λ b. let e = eqb-true c 9 b in omega arith) (λ b. let e = eqb-true c 10 b in omega arith) (or_true (eqb c 9) (eqb c 10) a)) (λ a. let e = eqb-true c 13 a in omega arith)
        (or_true (eqb c 9 || eqb c 10) (eqb c 13) d)

-- Three bytes, by their first.
three_finish : (x y z : ℕ) → 224 ≤ x → x ≤ 239 → 128 ≤ y → y ≤ 191 → 128 ≤ z → z ≤ 191 → (x ≡ 224 → 160 ≤ y) → (x ≡ 237 → y ≤ 159) → (x ≡ 239 → y ≡ 191 → z ≤ 189) → Finishes wide (x ∷ y ∷ z ∷ [])
three_finish x y z a b d e m n f g h =
    below x 225 (λ k. let u : x ≡ 224 = omega arith in further (first2 x u) refl (two_tails 160 191 y z (f u) e m n))
    (λ k.
    below x 237 (λ o. further (first3 x k (omega arith)) refl (two_tails 128 191 y z d e m n))
    (λ o.
    below x 238 (λ p. let u : x ≡ 237 = omega arith in further (first4 x u) refl (two_tails 128 159 y z d (g u) m n))
    (λ p.
    below x 239 (λ q. let u : x ≡ 238 = omega arith in further (first5 x u) refl (two_tails 128 191 y z d e m n))
    (λ q.
    let u : x ≡ 239 = omega arith in
    further (first6 x u) refl
    (below y 191
    (λ r.
    let none_there : after (one (eqb 191) (one (from 128 189) done)) y ≡ none = rw (ne_eqb 191 y (λ i. omega arith)) in
    further (taken (from 128 190) (tail done) (one (eqb 191) (one (from 128 189) done)) y (from_in 128 190 y d (omega arith)) none_there) refl (one_tail 128 191 z m n))
    (λ r.
    let v : y ≡ 191 = omega arith in
    let w : eqb 191 y ≡ true = eq-eqb 191 y (sym v) in
    let there : after (one (eqb 191) (one (from 128 189) done)) y ≡ some (one (from 128 189) done) = rw w in
    further (skipped (from 128 190) (tail done) (one (eqb 191) (one (from 128 189) done)) y (from_over 128 190 y (omega arith)) ∙ there) refl (one_tail 128 189 z m (h u v))))))))

-- Four, alike.
four_finish : (w x y z : ℕ) → 240 ≤ w → w ≤ 244 → 128 ≤ x → x ≤ 191 → 128 ≤ y → y ≤ 191 → 128 ≤ z → z ≤ 191 → (w ≡ 240 → 144 ≤ x) → (w ≡ 244 → x ≤ 143) → Finishes wide (w ∷ x ∷ y ∷ z ∷ [])
four_finish w x y z a b d e i j m n f g =
    below w 241 (λ k. let u : w ≡ 240 = omega arith in further (first7 w u) refl (three_tails 144 191 x y z (f u) e i j m n))
    (λ k.
    below w 244 (λ o. further (first8 w k (omega arith)) refl (three_tails 128 191 x y z d e i j m n))
    (λ o. let u : w ≡ 244 = omega arith in further (first9 w u) refl (three_tails 128 143 x y z d (g u) i j m n)))

-- A number by its digits to the base 64, the first of which may be larger.
pub record Digits (c a x y z : ℕ) : Type 0 where
  pub sum : c ≡ a * 262144 + x * 4096 + y * 64 + z
  pub second : x < 64
  pub third : y < 64
  pub fourth : z < 64

digits : (c : ℕ) → Digits c (c / 262144) (c / 4096 % 64) (c / 64 % 64) (c % 64)
digits c =
    let p : c / 4096 / 64 ≡ c / 262144 = omega arith in
    let q : c / 64 / 64 ≡ c / 4096 = omega arith in
    record { sum = omega arith; second = omega arith; third = omega arith; fourth = omega arith }

by_three : (c x y z : ℕ) → Allowed c → 2048 ≤ c → c < 65536 → c ≡ x * 4096 + y * 64 + z → y < 64 → z < 64 → Finishes wide ((224 + x) ∷ (128 + y) ∷ (128 + z) ∷ [])
by_three c x y z ok a b e m n =
    three_finish (224 + x) (128 + y) (128 + z) (omega arith) (omega arith) (omega arith) (omega arith) (omega arith) (omega arith) (λ f. omega arith)
    (λ f. let s = ok.surrogates (omega arith) in omega arith) (λ f g. let s = ok.specials b in omega arith)

by_four : (c w x y z : ℕ) → Allowed c → 65536 ≤ c → Digits c w x y z → Finishes wide ((240 + w) ∷ (128 + x) ∷ (128 + y) ∷ (128 + z) ∷ [])
by_four c w x y z ok b d =
    let t = ok.last_one in
    let e = d.sum in
    let m = d.second in
    let n = d.third in
    let o = d.fourth in
    four_finish (240 + w) (128 + x) (128 + y) (128 + z) (omega arith) (omega arith) (omega arith) (omega arith) (omega arith) (omega arith) (omega arith) (omega arith) (λ f. omega arith)
    (λ f. omega arith)

pub wide_finishes : (c : ℕ) → is_char c ≡ true → 128 ≤ c → Finishes wide (utf8 c)
wide_finishes c h l =
    let ok = allowed c h l in
    below c 2048
    (λ a. rw (two_bytes c l a) (further (first1 (192 + c / 64) (omega arith) (omega arith)) refl (one_tail 128 191 (128 + c % 64) (omega arith) (omega arith))))
    (λ a.
    below c 65536
    (λ b.
    let e : c ≡ c / 4096 * 4096 + c / 64 % 64 * 64 + c % 64 = three_sum c in
    rw (three_bytes c a b) (by_three c (c / 4096) (c / 64 % 64) (c % 64) ok a b e (digits c).third (digits c).fourth))
    (λ b. rw (four_bytes c b) (by_four c (c / 262144) (c / 4096 % 64) (c / 64 % 64) (c % 64) ok b (digits c))))
  where
    three_sum : (c : ℕ) → c ≡ c / 4096 * 4096 + c / 64 % 64 * 64 + c % 64
    three_sum c = let q : c / 64 / 64 ≡ c / 4096 = omega arith in omega arith
