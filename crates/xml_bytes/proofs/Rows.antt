-- Bytes read one after the other, each of its set: one byte, one more after those read so far, a refusal handed upward, and how reading goes through them. Assumes nothing.
use Prim.Native.Nat.{ℕ, zero, suc, ◌+◌, ◌≤◌, ◌<◌}
use native.Mathlib.Omega.{arith}
use mathlib.Core.Path.{◌≡◌, refl, sym, ◌∙◌, ap, subst}
use mathlib.Core.Bool.{Bool, true, false}
use mathlib.Core.List.{List, [], ◌∷◌}
use mathlib.Core.Logic.{⊎_elim}
use Rattle.std.specs.Prelude.{Ok, Err}
use lib.Dec.{eqb, leb}
use lib.ListN.{length, get_or, drop, drop_of_length-le}
use lib.Seq.{drop-cons}
use borrow.Author.Tests.{eqb-true, leb-true}
use Rattle.paper.specs.Xml.{from, Pattern, one, say, State, left_out_anywhere}
use Rattle.paper.proofs.Tests.{and_true, decide}
use Rattle.paper.specs.declared.Refusal.{Refusal}
use Rattle.paper.specs.declared.Refusal.TheVariants.{NoXml}
use Rattle.xml_bytes.specs.Seeking.{Sought, refused, refusing, refusal_place}
use Rattle.xml_bytes.specs.Promised.{Reach, seek_at, reached, Between, refusal_at, row_of, Reads, calm, all_calm, spelling, tailing}
use Rattle.xml_bytes.proofs.Steps.{Calm, is_calm, in_or_out, Waits, wait_ends, wait_over, wait_refused}

-- A place is no refusal, and one place.
no_refusal : (to : ℕ) (why : Refusal) → ◌≡◌ {A = Reach} (Ok to) (Err why) → ⊥
no_refusal to why h = cc

same_place : (to place : ℕ) → ◌≡◌ {A = Reach} (Ok to) (Ok place) → to ≡ place
same_place to place h = cc

-- The place past a part is this one.
abbrev pub Exactly : ℕ → ℕ → Reach → Type 0
Exactly end most (Ok to) = (to ≡ end) × (to ≤ most)
Exactly end most (Err why) = refusal_place why ≤ most

refusal_within : (opens : Bool) (at end most : ℕ) → at ≤ most → Exactly end most (Err (refusal_at opens at))
refusal_within true at end most l = l
refusal_within false at end most l = l

-- WHAT THE FIRST BYTE OF A ROW MAKES OF IT.
module _ (text : List ℕ) (at : ℕ) (set : ℕ → Bool) where
  -- The text ends, a byte of the set comes, or another does.
  by_byte : {C : Type 0} → (length text ≤ at → C) → (at < length text → set (get_or text at 0) ≡ true → C) → (at < length text → set (get_or text at 0) ≡ false → C) → C
  by_byte ends takes other = in_or_out at (length text) (λ inside. ⊎_elim (takes inside) (other inside) (decide (set (get_or text at 0)))) ends

  module _ (sets : List (ℕ → Bool)) where
    row_ends : length text ≤ at → row_of at (set ∷ sets) (drop at text) ≡ Err (NoXml at)
    row_ends l = rw (drop_of_length-le text l)

    row_takes : at < length text → set (get_or text at 0) ≡ true → row_of at (set ∷ sets) (drop at text) ≡ row_of (suc at) sets (drop (suc at) text)
    row_takes inside h = rw (drop-cons text at 0 inside, h)

    row_other : at < length text → set (get_or text at 0) ≡ false → row_of at (set ∷ sets) (drop at text) ≡ Err (refusal_at (left_out_anywhere (drop at text)) at)
    row_other inside h = rw (drop-cons text at 0 inside, h)

  pub reads_end : length text ≤ at → Reads text at (set ∷ []) (Err (NoXml at))
  reads_end l = record { comes = sym (row_ends [] l) }

  pub reads_taken : (to : ℕ) → at < length text → set (get_or text at 0) ≡ true → to ≡ at + 1 → Reads text at (set ∷ []) (Ok to)
  reads_taken to inside h e = let next : to ≡ suc at = omega arith in record { comes = ap Ok next ∙ sym (row_takes [] inside h) }

  pub reads_other : (why : Refusal) → at < length text → set (get_or text at 0) ≡ false → why ≡ refusal_at (left_out_anywhere (drop at text)) at → Reads text at (set ∷ []) (Err why)
  reads_other why inside h e = record { comes = ap Err e ∙ sym (row_other [] inside h) }

  -- It is passed, and the rest of the row must come; or it is refused, and the row with it.
  pub row_next : (to : ℕ) → Reads text at (set ∷ []) (Ok to) → (sets : List (ℕ → Bool)) → row_of at (set ∷ sets) (drop at text) ≡ row_of to sets (drop to text)
  row_next to h sets =
      by_byte (λ l. absurd (no_refusal to _ (h.comes ∙ row_ends [] l)))
      (λ inside t. row_takes sets inside t ∙ ap (λ n. row_of n sets (drop n text)) (same_place _ _ (sym (h.comes ∙ row_takes [] inside t))))
      (λ inside t. absurd (no_refusal to _ (h.comes ∙ row_other [] inside t)))

  pub row_stuck : (why : Refusal) → Reads text at (set ∷ []) (Err why) → (sets : List (ℕ → Bool)) → Reads text at (set ∷ sets) (Err why)
  row_stuck why h sets =
      record {
        comes = by_byte (λ l. h.comes ∙ row_ends [] l ∙ sym (row_ends sets l)) (λ inside t. absurd (no_refusal _ why (sym (h.comes ∙ row_takes [] inside t))))
            (λ inside t. h.comes ∙ row_other [] inside t ∙ sym (row_other sets inside t));
      }

-- THE PLACE PAST A ROW.
row_bounds : (text : List ℕ) (at : ℕ) (sets : List (ℕ → Bool)) → at ≤ length text → Exactly (at + length sets) (length text) (row_of at sets (drop at text))
row_bounds text at [] l = (omega arith, l)
row_bounds text at (set ∷ sets) l =
    by_byte text at set (λ m. subst (Exactly (at + suc (length sets)) (length text)) (sym (row_ends text at set sets m)) l)
    (λ inside t. subst (Exactly (at + suc (length sets)) (length text)) (sym (row_takes text at set sets inside t)) (further (row_bounds text (suc at) sets (omega arith))))
    (λ inside t. subst (Exactly (at + suc (length sets)) (length text)) (sym (row_other text at set sets inside t)) (refusal_within (left_out_anywhere (drop at text)) at (at + suc (length sets)) (length text) l))
  where
    further : Exactly (suc at + length sets) (length text) (row_of (suc at) sets (drop (suc at) text)) → Exactly (at + suc (length sets)) (length text) (row_of (suc at) sets (drop (suc at) text))
    further h = let e : suc at + length sets ≡ at + suc (length sets) = omega arith in subst (λ n. Exactly n (length text) (row_of (suc at) sets (drop (suc at) text))) e h

pub reads_bounds : (text : List ℕ) (at : ℕ) (sets : List (ℕ → Bool)) (r : Reach) → at ≤ length text → Reads text at sets r → Exactly (at + length sets) (length text) r
reads_bounds text at sets r l h = subst (Exactly (at + length sets) (length text)) (sym h.comes) (row_bounds text at sets l)

pub exactly_between : (end least most : ℕ) (r : Reach) → least ≤ end → Exactly end most r → Between least most r
exactly_between end least most (Ok to) l h = (omega (arith, h.0), h.1)
exactly_between end least most (Err why) l h = h

-- A ROW READ BYTE BY BYTE. What is left of it from a place on comes to the same.
module _ (text : List ℕ) (at : ℕ) (sets : List (ℕ → Bool)) where
  abbrev pub Passed : ℕ → List (ℕ → Bool) → Type 0
  Passed place rest = row_of at sets (drop at text) ≡ row_of place rest (drop place text)

  pub passed_on : (place to : ℕ) (set : ℕ → Bool) (rest : List (ℕ → Bool)) → Passed place (set ∷ rest) → Reads text place (set ∷ []) (Ok to) → Passed to rest
  passed_on place to set rest p h = p ∙ row_next text place set to h rest

  pub passed_stuck : (place : ℕ) (set : ℕ → Bool) (rest : List (ℕ → Bool)) (why : Refusal) → Passed place (set ∷ rest) → Reads text place (set ∷ []) (Err why) → Reads text at sets (Err why)
  passed_stuck place set rest why p h = record { comes = (row_stuck text place set why h rest).comes ∙ sym p }

-- HOW READING GOES THROUGH A ROW of calm bytes, whatever it comes to behind it.
abbrev pub landed : (ℕ → Sought) → Reach → Sought
landed f (Ok to) = f to
landed f (Err why) = refusing why

abbrev pub CalmSet : (ℕ → Bool) → Type 0
CalmSet set = (b : ℕ) → set b ≡ true → Calm b

abbrev pub CalmSets : List (ℕ → Bool) → Type 0
CalmSets [] = Unit
CalmSets (set ∷ sets) = CalmSet set × CalmSets sets

module _ (text : List ℕ) (f : ℕ → List (ℕ → Bool) → Sought)
    (ends : (at : ℕ) (set : ℕ → Bool) (sets : List (ℕ → Bool)) → length text ≤ at → f at (set ∷ sets) ≡ refused 11 at)
    (takes : (at : ℕ) (set : ℕ → Bool) (sets : List (ℕ → Bool)) → at < length text → set (get_or text at 0) ≡ true → Calm (get_or text at 0) → f at (set ∷ sets) ≡ f (suc at) sets)
    (other : (at : ℕ) (set : ℕ → Bool) (sets : List (ℕ → Bool)) → at < length text → set (get_or text at 0) ≡ false
    → f at (set ∷ sets) ≡ landed (λ to. f to []) (Err (refusal_at (left_out_anywhere (drop at text)) at))) where
  pub row_goes : (at : ℕ) (sets : List (ℕ → Bool)) → CalmSets sets → f at sets ≡ landed (λ to. f to []) (row_of at sets (drop at text))
  row_goes at [] calm = refl
  row_goes at (set ∷ sets) calm =
      by_byte text at set (λ l. ends at set sets l ∙ ap (landed (λ to. f to [])) (sym (row_ends text at set sets l)))
      (λ inside t. takes at set sets inside t (calm.0 (get_or text at 0) t) ∙ row_goes (suc at) sets calm.1 ∙ ap (landed (λ to. f to [])) (sym (row_takes text at set sets inside t)))
      (λ inside t. other at set sets inside t ∙ ap (landed (λ to. f to [])) (sym (row_other text at set sets inside t)))

-- A state that waits for one such byte.
pub wait_read : (text : List ℕ) (at : ℕ) (set : ℕ → Bool) (s t : State) (r : Reach) → Waits s at set t → CalmSet set → Reads text at (set ∷ []) r → seek_at text at s ≡ reached text t r
wait_read text at set s t r w calm h =
    by_byte text at set (λ l. wait_ends text at set s t w l ∙ ap (reached text t) (sym (h.comes ∙ row_ends text at set [] l)))
    (λ inside u. wait_over text at set s t w inside u (calm (get_or text at 0) u) ∙ ap (reached text t) (sym (h.comes ∙ row_takes text at set [] inside u)))
    (λ inside u. wait_refused text at set s t w t inside u ∙ ap (reached text t) (sym (h.comes ∙ row_other text at set [] inside u)))

-- The bytes of a word, and those that go on with a character.
pub byte_calm : (b : ℕ) → calm b ≡ true → CalmSet (eqb b)
byte_calm b h n e = subst Calm (eqb-true b n e) (is_calm b h)

pub word_calm : (word : List ℕ) → all_calm word ≡ true → CalmSets (spelling word)
word_calm [] h = tt
word_calm (b ∷ bs) h = let both = and_true (calm b) (all_calm bs) h in (byte_calm b both.0, word_calm bs both.1)

pub range_calm : (low high : ℕ) → 60 < low → CalmSet (from low high)
range_calm low high l b h = let m = leb-true low b (and_true (leb low b) (leb b high) h).0 in record { no_tag = λ e. omega arith; no-reference = λ e. omega arith }

pub tails_calm : (n : ℕ) → CalmSets (tailing n)
tails_calm zero = tt
tails_calm (suc n) = (range_calm 128 191 (omega arith), tails_calm n)

-- The pattern of a row; a word is one.
abbrev pub ones : List (ℕ → Bool) → Pattern → Pattern
ones [] p = p
ones (set ∷ sets) p = one set (ones sets p)

pub say_ones : (word : List ℕ) (p : Pattern) → say word p ≡ ones (spelling word) p
say_ones [] p = refl
say_ones (b ∷ bs) p = ap (one (eqb b)) (say_ones bs p)
