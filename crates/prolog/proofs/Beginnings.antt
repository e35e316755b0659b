-- The name of an encoding: how long it is, and whether it is UTF-8; and how a text begins. Assumes nothing.
use Prim.Native.Nat.{ℕ, suc, ◌+◌, ◌-◌, ◌≤◌, ◌<◌}
use native.Mathlib.Omega.{arith}
use borrow.Author.Tests.{eq-eqb, eqb-true, ne_eqb}
use mathlib.Core.Path.{◌≡◌, refl, sym, ◌∙◌, ap, ap₂}
use mathlib.Core.Bool.{Bool, true, false, not, ◌&&◌, ◌||◌, cond, false≢true}
use mathlib.Core.List.{List, [], ◌∷◌, map}
use mathlib.Core.Option.{some}
use lib.Dec.{eqb}
use lib.ListN.{length, get_or, take, drop, drop_of_length-le, length-drop}
use lib.Seq.{drop-cons, drop-drop, length-take-le}
use Rattle.paper.specs.Tools.{ascii, begins, same, run_of}
use Rattle.paper.specs.Names.{letter, name_part}
use Rattle.paper.specs.Tokens.{white}
use Rattle.paper.specs.Xml.{encoding_part, digit, lower, other_encoding, first_is, starts, declares}
use Rattle.paper.proofs.Tests.{agree, and_true}
use Rattle.paper.proofs.Same.{same_refl, same_equal}
use Rattle.std.specs.Char.{to_ascii_lowercase}
use Rattle.std.specs.List.{starts_with}
use Rattle.std.proofs.lemmas.Bool.Decides.{nat_tests}
use Rattle.paper.proofs.Lexing.{run_within}

-- A name of the paper goes on as an encoding name does.
part_alike : (b : ℕ) → encoding_part b ≡ name_part b
part_alike b = go (letter b) (digit b) (eqb b 46) (eqb b 95) (eqb b 45)
  where
    go : (l d p u m : Bool) → (l || d || p || u || m) ≡ (l || u || d || p || m)
    go true d p u m = refl
    go false true p true m = refl
    go false true p false m = refl
    go false false true true m = refl
    go false false true false m = refl
    go false false false true m = refl
    go false false false false m = refl

runs_alike : (bs : List ℕ) → run_of encoding_part bs ≡ run_of name_part bs
runs_alike [] = refl
runs_alike (b ∷ bs) = ap₂ (λ (t : Bool) (n : ℕ). cond t (suc n) 0) (part_alike b) (runs_alike bs)

and_none : (t : Bool) → (t && false) ≡ false
and_none true = refl
and_none false = refl

and_unit : (t : Bool) → (t && true) ≡ t
and_unit true = refl
and_unit false = refl

-- ANOTHER ENCODING.
module _ (text : List ℕ) (at q : ℕ) where
  pub other_cut : length text ≤ at → other_encoding (some q) (drop at text) ≡ false
  other_cut l = rw (drop_of_length-le text l)

  module _ (inside : at < length text) where
    pub other_sign : letter (get_or text at 0) ≡ false → other_encoding (some q) (drop at text) ≡ false
    other_sign h = rw (drop-cons text at 0 inside, h)

    pub other_is : (end : ℕ) → end ≡ at + run_of name_part (drop at text) → letter (get_or text at 0) ≡ true
        → other_encoding (some q) (drop at text) ≡ (begins q (drop end text) && not (same (map lower (take (end - at) (drop at text))) (ascii "utf-8")))
    other_is end e h =
        let first : first_is letter (drop at text) ≡ true = rw (drop-cons text at 0 inside) h in
        let long : run_of encoding_part (drop at text) ≡ end - at = let z = runs_alike (drop at text) in omega arith in
        let there : drop (end - at) (drop at text) ≡ drop end text = drop-drop (end - at) at text ∙ ap (λ n. drop n text) (let z : at + (end - at) ≡ end = omega arith in z) in
        ap (λ n. first_is letter (drop at text) && begins q (drop n (drop at text)) && not (same (map lower (take n (drop at text))) (ascii "utf-8"))) long
        ∙ ap₂ (λ (t : Bool) (l : List ℕ). t && begins q l && not (same (map lower (take (end - at) (drop at text))) (ascii "utf-8"))) first there

    pub other_within : (end : ℕ) → end ≡ at + run_of name_part (drop at text) → (at ≤ end) × (end ≤ length text)
    other_within end e = (omega arith, omega (arith, run_within name_part (drop at text), length-drop at text))

-- IS IT UTF-8? Small letters for capital ones, as the library makes them.
lower_alike : (b : ℕ) → to_ascii_lowercase b ≡ lower b
lower_alike b = grind (arith, nat_tests)

lowers_alike : (bs : List ℕ) → map to_ascii_lowercase bs ≡ map lower bs
lowers_alike [] = refl
lowers_alike (b ∷ bs) = ap₂ ◌∷◌ (lower_alike b) (lowers_alike bs)

pub named_same : (name word : List ℕ) (r : Bool) → (r ≡ true → map to_ascii_lowercase name ≡ map to_ascii_lowercase word) → (map to_ascii_lowercase name ≡ map to_ascii_lowercase word → r ≡ true) → map lower word ≡ word
    → r ≡ same (map lower name) word
named_same name word r there back small =
    agree r (same (map lower name) word)
    (λ h. let e : map lower name ≡ word = sym (lowers_alike name) ∙ there h ∙ lowers_alike word ∙ small in rw e (same_refl word))
    (λ h. back (lowers_alike name ∙ same_equal (map lower name) word h ∙ sym (lowers_alike word ∙ small)))

same_long : (xs ys : List ℕ) → same xs ys ≡ true → length xs ≡ length ys
same_long [] [] h = refl
same_long [] (y ∷ ys) h = absurd (false≢true h)
same_long (x ∷ xs) [] h = absurd (false≢true h)
same_long (x ∷ xs) (y ∷ ys) h = ap suc (same_long xs ys (and_true (eqb x y) (same xs ys) h).1)

map_long : (f : ℕ → ℕ) (xs : List ℕ) → length (map f xs) ≡ length xs
map_long f [] = refl
map_long f (x ∷ xs) = ap suc (map_long f xs)

module _ (text : List ℕ) (at end : ℕ) (l : at ≤ end) (m : end ≤ length text) where
  pub named_other : (end - at ≡ 5 → ⊥) → same (map lower (take (end - at) (drop at text))) (ascii "utf-8") ≡ false
  named_other h = go (same (map lower (take (end - at) (drop at text))) (ascii "utf-8")) refl
    where
      go : (t : Bool) → same (map lower (take (end - at) (drop at text))) (ascii "utf-8") ≡ t → t ≡ false
      go true e =
          absurd (h (sym (length-take-le (end - at) (drop at text) (let z = length-drop at text in omega arith)) ∙ sym (map_long lower (take (end - at) (drop at text))) ∙ same_long (map lower (take (end - at) (drop at text))) (ascii "utf-8") e))
      go false e = refl

  pub named_five : end - at ≡ 5
      → (eqb (lower (get_or text at 0)) 117 && (eqb (lower (get_or text (at + 1) 0)) 116 && (eqb (lower (get_or text (at + 2) 0)) 102 && (eqb (lower (get_or text (at + 3) 0)) 45 && eqb (lower (get_or text (at + 4) 0)) 56))))
      ≡ same (map lower (take (end - at) (drop at text))) (ascii "utf-8")
  named_five h = sym (ap (λ n. same (map lower (take n (drop at text))) (ascii "utf-8")) h ∙ ap (λ (w : List ℕ). same (map lower w) (ascii "utf-8")) five ∙ last)
    where
      e1 : suc at ≡ at + 1
      e1 = omega arith

      e2 : suc (at + 1) ≡ at + 2
      e2 = omega arith

      e3 : suc (at + 2) ≡ at + 3
      e3 = omega arith

      e4 : suc (at + 3) ≡ at + 4
      e4 = omega arith

      next : (n n' : ℕ) → n < length text → suc n ≡ n' → drop n text ≡ get_or text n 0 ∷ drop n' text
      next n n' i e = drop-cons text n 0 i ∙ ap (λ k. get_or text n 0 ∷ drop k text) e

      five : take 5 (drop at text) ≡ get_or text at 0 ∷ get_or text (at + 1) 0 ∷ get_or text (at + 2) 0 ∷ get_or text (at + 3) 0 ∷ get_or text (at + 4) 0 ∷ []
      five =
          ap (take 5) (next at (at + 1) (omega arith) e1)
          ∙ ap (λ (w : List ℕ). get_or text at 0 ∷ take 4 w) (next (at + 1) (at + 2) (omega arith) e2)
          ∙ ap (λ (w : List ℕ). get_or text at 0 ∷ get_or text (at + 1) 0 ∷ take 3 w) (next (at + 2) (at + 3) (omega arith) e3)
          ∙ ap (λ (w : List ℕ). get_or text at 0 ∷ get_or text (at + 1) 0 ∷ get_or text (at + 2) 0 ∷ take 2 w) (next (at + 3) (at + 4) (omega arith) e4)
          ∙ ap (λ (w : List ℕ). get_or text at 0 ∷ get_or text (at + 1) 0 ∷ get_or text (at + 2) 0 ∷ get_or text (at + 3) 0 ∷ take 1 w) (next (at + 4) (suc (at + 4)) (omega arith) refl)

      last : same (map lower (get_or text at 0 ∷ get_or text (at + 1) 0 ∷ get_or text (at + 2) 0 ∷ get_or text (at + 3) 0 ∷ get_or text (at + 4) 0 ∷ [])) (ascii "utf-8")
          ≡ (eqb (lower (get_or text at 0)) 117 && (eqb (lower (get_or text (at + 1) 0)) 116 && (eqb (lower (get_or text (at + 2) 0)) 102 && (eqb (lower (get_or text (at + 3) 0)) 45 && eqb (lower (get_or text (at + 4) 0)) 56))))
      last =
          ap (λ (t : Bool). eqb (lower (get_or text at 0)) 117 && (eqb (lower (get_or text (at + 1) 0)) 116 && (eqb (lower (get_or text (at + 2) 0)) 102 && (eqb (lower (get_or text (at + 3) 0)) 45 && t)))) (and_unit (eqb (lower (get_or text (at + 4) 0)) 56))

-- HOW A TEXT BEGINS, as the library says it.
eqb_turned : (a b : ℕ) → eqb a b ≡ eqb b a
eqb_turned a b = agree (eqb a b) (eqb b a) (λ h. eq-eqb b a (sym (eqb-true a b h))) (λ h. eq-eqb a b (sym (eqb-true b a h)))

pub starts_same : (word text : List ℕ) → starts_with eqb text word ≡ starts word text
starts_same [] text = refl
starts_same (x ∷ xs) [] = refl
starts_same (x ∷ xs) (b ∷ bs) = ap₂ ◌&&◌ (eqb_turned x b) (starts_same xs bs)

-- Byte by byte.
module _ (text word : List ℕ) (k : ℕ) (so_far : starts word text ≡ starts (drop k word) (drop k text)) where
  pub starts_all : length word ≤ k → starts word text ≡ true
  starts_all l = so_far ∙ ap (λ (w : List ℕ). starts w (drop k text)) (drop_of_length-le word l)

  module _ (left : k < length word) where
    pub starts_cut : length text ≤ k → starts word text ≡ false
    starts_cut l = so_far ∙ rw (drop-cons word k 0 left, drop_of_length-le text l)

    module _ (inside : k < length text) where
      pub starts_differs : (get_or text k 0 ≡ get_or word k 0 → ⊥) → starts word text ≡ false
      starts_differs h = so_far ∙ rw (drop-cons word k 0 left, drop-cons text k 0 inside, ne_eqb (get_or text k 0) (get_or word k 0) h)

      pub starts_more : get_or text k 0 ≡ get_or word k 0 → starts word text ≡ starts (drop (k + 1) word) (drop (k + 1) text)
      starts_more h =
          let e : suc k ≡ k + 1 = omega arith in
          so_far ∙ rw (drop-cons word k 0 left, drop-cons text k 0 inside, eq-eqb (get_or text k 0) (get_or word k 0) h) (ap (λ n. starts (drop n word) (drop n text)) e)

-- The declaration.
pub undeclared : (text : List ℕ) → starts (ascii "<?xml") text ≡ false → declares text ≡ false
undeclared text h = ap (λ (t : Bool). t && first_is white (drop 5 text)) h

pub declares_cut : (text : List ℕ) → length text ≤ 5 → declares text ≡ false
declares_cut text l = ap (λ (w : List ℕ). starts (ascii "<?xml") text && first_is white w) (drop_of_length-le text l) ∙ and_none (starts (ascii "<?xml") text)

pub declares_by : (text : List ℕ) → 5 < length text → starts (ascii "<?xml") text ≡ true → declares text ≡ white (get_or text 5 0)
declares_by text l h = ap₂ (λ (t : Bool) (w : List ℕ). t && first_is white w) h (drop-cons text 5 0 l)
