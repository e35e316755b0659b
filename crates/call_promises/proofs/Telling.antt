-- Answers that tell the same are the same: what an answer tells gives the answer back. Assumes nothing.
use Prim.Native.Nat.{ℕ}
use mathlib.Core.Path.{◌≡◌, refl, sym, ◌∙◌, ap, ap₂}
use mathlib.Core.Bool.{cond}
use mathlib.Core.List.{List, [], ◌∷◌}
use lib.Dec.{eqb}
use Rattle.paper.specs.Answers.{value, refusal}
use Rattle.paper.specs.Answers.{Answer as Told}
use Rattle.std.specs.Prelude.{Ok, Err}
use Rattle.paper.specs.Told.{Answer, told}
use Rattle.paper.specs.declared.Refusal.{Refusal}
use Rattle.paper.specs.declared.Refusal.TheVariants.{TooLong, BadName, NoQuery, TooDeep, UnknownName, BadQuery, BadTable, BadMarks, TooNested, Short, NoXml, LeftOut, NoElement, OtherText, NoRole, NoView, UnreadView, Unreadable}

-- The refusal of this number and place.
abbrev refusing : ℕ → ℕ → Refusal
refusing number place =
    cond (eqb number 1) TooLong
    (cond (eqb number 2) (BadName place)
    (cond (eqb number 3) (NoQuery place)
    (cond (eqb number 4) (TooDeep place)
    (cond (eqb number 5) (UnknownName place)
    (cond (eqb number 6) (BadQuery place)
    (cond (eqb number 7) (BadTable place)
    (cond (eqb number 8) (BadMarks place)
    (cond (eqb number 9) (TooNested place)
    (cond (eqb number 10) (Short place)
    (cond (eqb number 11) (NoXml place)
    (cond (eqb number 12) (LeftOut place)
    (cond (eqb number 13) NoElement
    (cond (eqb number 14) OtherText
    (cond (eqb number 15) (NoRole place)
    (cond (eqb number 16) (NoView place) (cond (eqb number 17) (UnreadView place) Unreadable))))))))))))))))

-- The answer that tells this.
abbrev telling : Told → Answer
telling (value n) = Ok n
telling (refusal number place) = Err (refusing number place)

telling_told : (r : Answer) → telling (told r) ≡ r
telling_told (Ok n) = refl
telling_told (Err TooLong) = refl
telling_told (Err (BadName place)) = refl
telling_told (Err (NoQuery place)) = refl
telling_told (Err (TooDeep place)) = refl
telling_told (Err (UnknownName place)) = refl
telling_told (Err (BadQuery place)) = refl
telling_told (Err (BadTable place)) = refl
telling_told (Err (BadMarks place)) = refl
telling_told (Err (TooNested place)) = refl
telling_told (Err (Short place)) = refl
telling_told (Err (NoXml place)) = refl
telling_told (Err (LeftOut place)) = refl
telling_told (Err NoElement) = refl
telling_told (Err OtherText) = refl
telling_told (Err (NoRole place)) = refl
telling_told (Err (NoView place)) = refl
telling_told (Err (UnreadView place)) = refl
telling_told (Err Unreadable) = refl

pub told_same : (r s : Answer) → told r ≡ told s → r ≡ s
told_same r s h = sym (telling_told r) ∙ ap telling h ∙ telling_told s

-- Two things that a contract says to be a third are the same.
pub same {ℓ} : {A : Type ℓ} {x y z : A} → x ≡ z → y ≡ z → x ≡ y
same p q = p ∙ sym q

-- So are two answers that tell a third, and the contents of one slice or of two.
pub same_told : {r s : Answer} {t : Told} → told r ≡ t → told s ≡ t → r ≡ s
same_told {r} {s} p q = told_same r s (same p q)

pub same_slice : {x y z : List ℕ} → x ≡ z → y ≡ z → x ∷ [] ≡ y ∷ []
same_slice p q = ap (λ l. l ∷ []) (same p q)

pub same_slices : {x y z x' y' z' : List ℕ} → x ≡ z → x' ≡ z' → y ≡ z → y' ≡ z' → x ∷ x' ∷ [] ≡ y ∷ y' ∷ []
same_slices p p' q q' = ap₂ (λ l m. l ∷ m ∷ []) (same p q) (same p' q')

pub same_more : {x y z : List ℕ} {xs ys : List (List ℕ)} → x ≡ z → y ≡ z → xs ≡ ys → x ∷ xs ≡ y ∷ ys
same_more p q more = ap₂ (λ l m. l ∷ m) (same p q) more
