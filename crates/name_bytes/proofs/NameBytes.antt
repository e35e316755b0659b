-- The bytes that refusal 12 takes for those of names are the first bytes of the characters of productions 4 and 4a.
-- Range by range, by arithmetic. Assumes nothing.
use Prim.Native.Nat.{ℕ, zero, suc, ◌+◌, ◌*◌, ◌-◌, ◌/◌, ◌≤◌, ◌<◌}
use native.Mathlib.Omega.{arith}
use mathlib.Core.Path.{◌≡◌, refl, sym, subst}
use mathlib.Core.Bool.{true, ◌&&◌, ◌||◌, false≢true}
use mathlib.Core.List.{List, [], ◌∷◌, ◌++◌}
use mathlib.Core.Logic.{◌⊎◌, inl, inr, ⊎_elim}
use lib.Dec.{eqb, leb}
use borrow.Author.Tests.{eqb-true, eq-eqb, lt-ltb}
use Rattle.paper.specs.Names.{letter, name_start, name_part}
use Rattle.paper.specs.Xml.{from, xml_start, xml_part, first_is}
use Rattle.paper.proofs.Tests.{or_true, or_left, or_right}
use Rattle.xml_grammar.specs.Productions.{utf8}
use Rattle.name_bytes.specs.NameBytes.{name_starts, name_more, in_some}
use Rattle.name_bytes.specs.NameBytes.{StartBytes, PartBytes}
use Rattle.xml_grammar.proofs.Wide.{from_in, from_low, from_high, below, two_bytes, three_bytes, four_bytes}

-- THE FIRST BYTE of a character, by its number of bytes.

-- A byte and a character that it begins.
record Leads (b c : ℕ) : Type 0 where
  single : c < 128 → b ≡ c
  double : 128 ≤ c → c < 2048 → b ≡ 192 + c / 64
  triple : 2048 ≤ c → c < 65536 → b ≡ 224 + c / 4096
  quadruple : 65536 ≤ c → b ≡ 240 + c / 262144

one_byte : (c : ℕ) → c < 128 → utf8 c ≡ c ∷ []
one_byte c l = rw (lt-ltb c 128 l)

leads : (b c : ℕ) → first_is (eqb b) (utf8 c) ≡ true → Leads b c
leads b c h =
    record {
      single = λ l. eqb-true b c (subst (λ w. first_is (eqb b) w ≡ true) (one_byte c l) h);
      double = λ l m. eqb-true b (192 + c / 64) (subst (λ w. first_is (eqb b) w ≡ true) (two_bytes c l m) h);
      triple = λ l m. eqb-true b (224 + c / 4096) (subst (λ w. first_is (eqb b) w ≡ true) (three_bytes c l m) h);
      quadruple = λ l. eqb-true b (240 + c / 262144) (subst (λ w. first_is (eqb b) w ≡ true) (four_bytes c l) h);
    }

led : (b c : ℕ) → Leads b c → first_is (eqb b) (utf8 c) ≡ true
led b c d =
    below c 128 (λ l. subst (λ w. first_is (eqb b) w ≡ true) (sym (one_byte c l)) (eq-eqb b c (d.single l)))
    (λ k.
    below c 2048 (λ l. subst (λ w. first_is (eqb b) w ≡ true) (sym (two_bytes c k l)) (eq-eqb b (192 + c / 64) (d.double k l)))
    (λ m.
    below c 65536 (λ l. subst (λ w. first_is (eqb b) w ≡ true) (sym (three_bytes c m l)) (eq-eqb b (224 + c / 4096) (d.triple m l)))
    (λ n. subst (λ w. first_is (eqb b) w ≡ true) (sym (four_bytes c n)) (eq-eqb b (240 + c / 262144) (d.quadruple n)))))

-- RANGES.

-- What holds of each range holds of all.
abbrev Every : (ℕ → Type 0) → List (ℕ × ℕ) → Type 0
Every P [] = Unit
Every P (r ∷ rs) = ((c : ℕ) → r.0 ≤ c → c ≤ r.1 → P c) × Every P rs

in_every : (P : ℕ → Type 0) (rs : List (ℕ × ℕ)) → Every P rs → (c : ℕ) → in_some rs c ≡ true → P c
in_every P [] e c h = absurd (false≢true h)
in_every P (r ∷ rs) e c h =
    ⊎_elim (λ k. e.0 c (from_low r.0 r.1 c k) (from_high r.0 r.1 c k)) (λ k. in_every P rs e.1 c k) (or_true (from r.0 r.1 c) (in_some rs c) h)

-- A character of the range with this number is of them.
abbrev nth : ℕ → List (ℕ × ℕ) → ℕ × ℕ
nth n [] = (1, 0)
nth zero (r ∷ rs) = r
nth (suc n) (r ∷ rs) = nth n rs

in_nth : (n : ℕ) (rs : List (ℕ × ℕ)) (c : ℕ) → (nth n rs).0 ≤ c → c ≤ (nth n rs).1 → in_some rs c ≡ true
in_nth n [] c l h = absurd (omega arith)
in_nth zero (r ∷ rs) c l h = or_left (in_some rs c) (from_in r.0 r.1 c l h)
in_nth (suc n) (r ∷ rs) c l h = or_right (from r.0 r.1 c) (in_nth n rs c l h)

-- FROM THE CHARACTER TO THE BYTE.

start_letter : (b : ℕ) → letter b ≡ true → xml_start b ≡ true
start_letter b h = or_left (from 239 243 b) (or_left (from 205 237 b) (or_left (from 195 203 b) (or_left (eqb b 58) (or_left (eqb b 95) h))))

start_low : (b : ℕ) → 195 ≤ b → b ≤ 203 → xml_start b ≡ true
start_low b l h = or_left (from 239 243 b) (or_left (from 205 237 b) (or_right (name_start b || eqb b 58) (from_in 195 203 b l h)))

start_middle : (b : ℕ) → 205 ≤ b → b ≤ 237 → xml_start b ≡ true
start_middle b l h = or_left (from 239 243 b) (or_right (name_start b || eqb b 58 || from 195 203 b) (from_in 205 237 b l h))

start_high : (b : ℕ) → 239 ≤ b → b ≤ 243 → xml_start b ≡ true
start_high b l h = or_right (name_start b || eqb b 58 || from 195 203 b || from 205 237 b) (from_in 239 243 b l h)

-- A range of one character.
this_start : (n c b : ℕ) → xml_start n ≡ true → n < 128 → n ≤ c → c ≤ n → Leads b c → xml_start b ≡ true
this_start n c b h m l u d = let e = d.single (omega arith) in subst (λ x. xml_start x ≡ true) (let f : n ≡ b = omega arith in f) h

from_starts : (c : ℕ) → in_some name_starts c ≡ true → (b : ℕ) → Leads b c → xml_start b ≡ true
from_starts c h b d =
    in_every (λ c. Leads b c → xml_start b ≡ true) name_starts (
      λ c l u d. this_start 58 c b refl (omega arith) l u d,
      (
        λ c l u d. let e = d.single (omega arith) in start_letter b (or_left (leb 97 b && leb b 122) (from_in 65 90 b (omega arith) (omega arith))),
        (
          λ c l u d. this_start 95 c b refl (omega arith) l u d,
          (
            λ c l u d. let e = d.single (omega arith) in start_letter b (or_right (leb 65 b && leb b 90) (from_in 97 122 b (omega arith) (omega arith))),
            (
              λ c l u d. let e = d.double (omega arith) (omega arith) in start_low b (omega arith) (omega arith),
              (
                λ c l u d. let e = d.double (omega arith) (omega arith) in start_low b (omega arith) (omega arith),
                (
                  λ c l u d. let e = d.double (omega arith) (omega arith) in start_low b (omega arith) (omega arith),
                  (
                    λ c l u d. let e = d.double (omega arith) (omega arith) in start_middle b (omega arith) (omega arith),
                    (
                      λ c l u d. below c 2048 (λ m. let e = d.double (omega arith) m in start_middle b (omega arith) (omega arith)) (λ m. let e = d.triple m (omega arith) in start_middle b (omega arith) (omega arith)),
                      (
                        λ c l u d. let e = d.triple (omega arith) (omega arith) in start_middle b (omega arith) (omega arith),
                        (
                          λ c l u d. let e = d.triple (omega arith) (omega arith) in start_middle b (omega arith) (omega arith),
                          (
                            λ c l u d. let e = d.triple (omega arith) (omega arith) in start_middle b (omega arith) (omega arith),
                            (
                              λ c l u d. let e = d.triple (omega arith) (omega arith) in start_middle b (omega arith) (omega arith),
                              (
                                λ c l u d. let e = d.triple (omega arith) (omega arith) in start_high b (omega arith) (omega arith),
                                (
                                  λ c l u d. let e = d.triple (omega arith) (omega arith) in start_high b (omega arith) (omega arith),
                                  (
                                    λ c l u d. let e = d.quadruple (omega arith) in start_high b (omega arith) (omega arith),
                                    tt,
                                  ),
                                ),
                              ),
                            ),
                          ),
                        ),
                      ),
                    ),
                  ),
                ),
              ),
            ),
          ),
        ),
      ),
    )
    c h d

-- FROM THE BYTE TO A CHARACTER.

abbrev Found : List (ℕ × ℕ) → ℕ → Type 0
Found rs b = (c : ℕ) × (in_some rs c ≡ true) × (first_is (eqb b) (utf8 c) ≡ true)

-- A character of the range with this number, of one byte, two, three or four.
module _ (rs : List (ℕ × ℕ)) (n : ℕ) where
  of_one : (b : ℕ) → b < 128 → (nth n rs).0 ≤ b → b ≤ (nth n rs).1 → Found rs b
  of_one b m l h = (b, in_nth n rs b l h, led b b (record { single = λ i. refl; double = λ i j. absurd (omega arith); triple = λ i j. absurd (omega arith); quadruple = λ i. absurd (omega arith) }))

  of_two : (b c : ℕ) → 128 ≤ c → c < 2048 → b ≡ 192 + c / 64 → (nth n rs).0 ≤ c → c ≤ (nth n rs).1 → Found rs b
  of_two b c k m e l h = (c, in_nth n rs c l h, led b c (record { single = λ i. absurd (omega arith); double = λ i j. e; triple = λ i j. absurd (omega arith); quadruple = λ i. absurd (omega arith) }))

  of_three : (b c : ℕ) → 2048 ≤ c → c < 65536 → b ≡ 224 + c / 4096 → (nth n rs).0 ≤ c → c ≤ (nth n rs).1 → Found rs b
  of_three b c k m e l h = (c, in_nth n rs c l h, led b c (record { single = λ i. absurd (omega arith); double = λ i j. absurd (omega arith); triple = λ i j. e; quadruple = λ i. absurd (omega arith) }))

  of_four : (b c : ℕ) → 65536 ≤ c → b ≡ 240 + c / 262144 → (nth n rs).0 ≤ c → c ≤ (nth n rs).1 → Found rs b
  of_four b c k e l h = (c, in_nth n rs c l h, led b c (record { single = λ i. absurd (omega arith); double = λ i j. absurd (omega arith); triple = λ i j. absurd (omega arith); quadruple = λ i. e }))

found_letter : (b : ℕ) → name_start b ≡ true → Found name_starts b
found_letter b h =
    ⊎_elim
    (λ k.
    ⊎_elim (λ i. let l = from_low 65 90 b i in let u = from_high 65 90 b i in of_one name_starts 1 b (omega arith) (omega arith) (omega arith))
    (λ i. let l = from_low 97 122 b i in let u = from_high 97 122 b i in of_one name_starts 3 b (omega arith) (omega arith) (omega arith)) (or_true (from 65 90 b) (from 97 122 b) k))
    (λ k. let e = eqb-true b 95 k in of_one name_starts 2 b (omega arith) (omega arith) (omega arith)) (or_true (letter b) (eqb b 95) h)

found_low : (b : ℕ) → 195 ≤ b → b ≤ 203 → Found name_starts b
found_low b l u =
    below b 196 (λ k. of_two name_starts 4 b 192 (omega arith) (omega arith) (omega arith) (omega arith) (omega arith))
    (λ k. of_two name_starts 6 b ((b - 192) * 64) (omega arith) (omega arith) (omega arith) (omega arith) (omega arith))

found_middle : (b : ℕ) → 205 ≤ b → b ≤ 237 → Found name_starts b
found_middle b l u =
    below b 206 (λ k. of_two name_starts 8 b 895 (omega arith) (omega arith) (omega arith) (omega arith) (omega arith))
    (λ i.
    below b 224 (λ k. of_two name_starts 8 b ((b - 192) * 64) (omega arith) (omega arith) (omega arith) (omega arith) (omega arith))
    (λ i.
    below b 225 (λ k. of_three name_starts 8 b 2048 (omega arith) (omega arith) (omega arith) (omega arith) (omega arith))
    (λ i.
    below b 226 (λ k. of_three name_starts 8 b 4096 (omega arith) (omega arith) (omega arith) (omega arith) (omega arith))
    (λ i.
    below b 227 (λ k. of_three name_starts 9 b 8204 (omega arith) (omega arith) (omega arith) (omega arith) (omega arith))
    (λ i.
    below b 228 (λ k. of_three name_starts 12 b 12289 (omega arith) (omega arith) (omega arith) (omega arith) (omega arith))
    (λ i. of_three name_starts 12 b ((b - 224) * 4096) (omega arith) (omega arith) (omega arith) (omega arith) (omega arith)))))))

found_high : (b : ℕ) → 239 ≤ b → b ≤ 243 → Found name_starts b
found_high b l u =
    below b 240 (λ k. of_three name_starts 13 b 63744 (omega arith) (omega arith) (omega arith) (omega arith) (omega arith))
    (λ i.
    below b 241 (λ k. of_four name_starts 15 b 65536 (omega arith) (omega arith) (omega arith) (omega arith))
    (λ i. of_four name_starts 15 b ((b - 240) * 262144) (omega arith) (omega arith) (omega arith) (omega arith)))

found_start : (b : ℕ) → xml_start b ≡ true → Found name_starts b
found_start b h =
    ⊎_elim
    (λ k.
    ⊎_elim
    (λ k.
    ⊎_elim (λ k. ⊎_elim (λ k. found_letter b k) (λ k. let e = eqb-true b 58 k in of_one name_starts 0 b (omega arith) (omega arith) (omega arith)) (or_true (name_start b) (eqb b 58) k))
    (λ k. found_low b (from_low 195 203 b k) (from_high 195 203 b k)) (or_true (name_start b || eqb b 58) (from 195 203 b) k))
    (λ k. found_middle b (from_low 205 237 b k) (from_high 205 237 b k)) (or_true (name_start b || eqb b 58 || from 195 203 b) (from 205 237 b) k))
    (λ k. found_high b (from_low 239 243 b k) (from_high 239 243 b k)) (or_true (name_start b || eqb b 58 || from 195 203 b || from 205 237 b) (from 239 243 b) h)

pub start_bytes : StartBytes
start_bytes b = (λ h. found_start b h, λ (c, i, f). from_starts c i b (leads b c f))

-- THE BYTES OF 4a.

part_start : (b : ℕ) → xml_start b ≡ true → xml_part b ≡ true
part_start b h = or_left (eqb b 204) (or_left (eqb b 194) (or_right (name_part b) h))

part_named : (b : ℕ) → name_part b ≡ true → xml_part b ≡ true
part_named b h = or_left (eqb b 204) (or_left (eqb b 194) (or_left (xml_start b) h))

this_part : (n b : ℕ) → n ≡ b → xml_part n ≡ true → xml_part b ≡ true
this_part n b e h = subst (λ x. xml_part x ≡ true) e h

from_more : (c : ℕ) → in_some name_more c ≡ true → (b : ℕ) → Leads b c → xml_part b ≡ true
from_more c h b d =
    in_every (λ c. Leads b c → xml_part b ≡ true) name_more (
      λ c l u d. let e = d.single (omega arith) in this_part 45 b (omega arith) refl,
      (
        λ c l u d. let e = d.single (omega arith) in this_part 46 b (omega arith) refl,
        (
          λ c l u d. let e = d.single (omega arith) in part_named b (or_left (eqb b 45) (or_left (eqb b 46) (or_right (name_start b) (from_in 48 57 b (omega arith) (omega arith))))),
          (
            λ c l u d. let e = d.double (omega arith) (omega arith) in this_part 194 b (omega arith) refl,
            (
              λ c l u d. let e = d.double (omega arith) (omega arith) in
                  below c 832 (λ m. this_part 204 b (omega arith) refl) (λ m. part_start b (start_middle b (omega arith) (omega arith))),
              (
                λ c l u d. let e = d.triple (omega arith) (omega arith) in part_start b (start_middle b (omega arith) (omega arith)),
                tt,
              ),
            ),
          ),
        ),
      ),
    )
    c h d

some_both : (rs ts : List (ℕ × ℕ)) (c : ℕ) → in_some (rs ++ ts) c ≡ true → (in_some rs c ≡ true) ⊎ (in_some ts c ≡ true)
some_both [] ts c h = inr h
some_both (r ∷ rs) ts c h =
    ⊎_elim (λ k. inl (or_left (in_some rs c) k)) (λ k. ⊎_elim (λ i. inl (or_right (from r.0 r.1 c) i)) (λ i. inr i) (some_both rs ts c k)) (or_true (from r.0 r.1 c) (in_some (rs ++ ts) c) h)

some_behind : (rs ts : List (ℕ × ℕ)) (c : ℕ) → in_some ts c ≡ true → in_some (rs ++ ts) c ≡ true
some_behind [] ts c h = h
some_behind (r ∷ rs) ts c h = or_right (from r.0 r.1 c) (some_behind rs ts c h)

found_behind : (b : ℕ) → Found name_starts b → Found (name_more ++ name_starts) b
found_behind b (c, i, f) = (c, some_behind name_more name_starts c i, f)

found_named : (b : ℕ) → name_part b ≡ true → Found (name_more ++ name_starts) b
found_named b h =
    ⊎_elim
    (λ k.
    ⊎_elim
    (λ k.
    ⊎_elim (λ k. found_behind b (found_letter b k))
    (λ k. let l = from_low 48 57 b k in let u = from_high 48 57 b k in of_one (name_more ++ name_starts) 2 b (omega arith) (omega arith) (omega arith)) (or_true (name_start b) (from 48 57 b) k))
    (λ k. let e = eqb-true b 46 k in of_one (name_more ++ name_starts) 1 b (omega arith) (omega arith) (omega arith)) (or_true (name_start b || from 48 57 b) (eqb b 46) k))
    (λ k. let e = eqb-true b 45 k in of_one (name_more ++ name_starts) 0 b (omega arith) (omega arith) (omega arith)) (or_true (name_start b || from 48 57 b || eqb b 46) (eqb b 45) h)

found_part : (b : ℕ) → xml_part b ≡ true → Found (name_more ++ name_starts) b
found_part b h =
    ⊎_elim
    (λ k.
    ⊎_elim (λ k. ⊎_elim (λ k. found_named b k) (λ k. found_behind b (found_start b k)) (or_true (name_part b) (xml_start b) k))
    (λ k. let e = eqb-true b 194 k in of_two (name_more ++ name_starts) 3 b 183 (omega arith) (omega arith) (omega arith) (omega arith) (omega arith)) (or_true (name_part b || xml_start b) (eqb b 194) k))
    (λ k. let e = eqb-true b 204 k in of_two (name_more ++ name_starts) 4 b 768 (omega arith) (omega arith) (omega arith) (omega arith) (omega arith))
    (or_true (name_part b || xml_start b || eqb b 194) (eqb b 204) h)

pub part_bytes : PartBytes
part_bytes b = (
  λ h. found_part b h,
  λ (c, i, f). ⊎_elim (λ k. from_more c k b (leads b c f)) (λ k. part_start b (from_starts c k b (leads b c f))) (some_both name_more name_starts c i),
)
