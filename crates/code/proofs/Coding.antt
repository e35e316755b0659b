-- An answer in one number: what `code` gives is the code of what the answer tells. By cases of the answer. Assumes nothing.
use Prim.Native.Nat.{ℕ, ◌+◌, ◌*◌, ◌%◌, ◌<◌}
use native.Mathlib.Omega.{arith}
use mathlib.Core.Path.{◌≡◌, sym, ◌∙◌, ap, ap₂, subst}
use Rattle.paper.specs.Answers.{value, refusal}
use Rattle.paper.specs.Answers.{Answer as Told}
use Rattle.std.specs.Prelude.{Ok, Err}
use Rattle.paper.specs.Told.{Answer, told, told_refusal}
use Rattle.paper.specs.declared.Refusal.{Refusal}
use Rattle.paper.specs.declared.Refusal.TheVariants.{TooLong, BadName, NoQuery, TooDeep, UnknownName, BadQuery, BadTable, BadMarks, TooNested, Short, NoXml, LeftOut, NoElement, OtherText, NoRole, NoView, UnreadView, Unreadable}
use Rattle.paper.proofs.Refusing.{refusal_told}
use Rattle.answer_bounds.specs.Bounds.{Small}
use Rattle.code.specs.Codes.{number_told, place_told, high, code_of, cut_code}

-- The number of a refusal stands below 2^32.
pub number_small : (a : Answer) → number_told (told a) < high
number_small (Ok n) = omega arith
number_small (Err TooLong) = omega arith
number_small (Err (BadName place)) = omega arith
number_small (Err (NoQuery place)) = omega arith
number_small (Err (TooDeep place)) = omega arith
number_small (Err (UnknownName place)) = omega arith
number_small (Err (BadQuery place)) = omega arith
number_small (Err (BadTable place)) = omega arith
number_small (Err (BadMarks place)) = omega arith
number_small (Err (TooNested place)) = omega arith
number_small (Err (Short place)) = omega arith
number_small (Err (NoXml place)) = omega arith
number_small (Err (LeftOut place)) = omega arith
number_small (Err NoElement) = omega arith
number_small (Err OtherText) = omega arith
number_small (Err (NoRole place)) = omega arith
number_small (Err (NoView place)) = omega arith
number_small (Err (UnreadView place)) = omega arith
number_small (Err Unreadable) = omega arith

-- The number of an answer that tells a refusal, and its place.
pub number_is : {t : Told} {number place : ℕ} → t ≡ refusal number place → number ≡ number_told t
number_is e = sym (ap number_told e)

pub place_is : {t : Told} {number place : ℕ} → t ≡ refusal number place → place ≡ place_told t
place_is e = sym (ap place_told e)

-- What `code` promises of an answer that tells this.
abbrev pub Codes : Told → ℕ → Type 0
Codes t r = (Small t → r ≡ code_of t) × (r ≡ cut_code t)

pub value_code : (t : Told) (n r : ℕ) → t ≡ value n → r ≡ n → Codes t r
value_code t n r is e = (λ s. e ∙ ap code_of (sym is), e ∙ ap cut_code (sym is))

pub refusal_code : (why : Refusal) (number place r : ℕ) → number ≡ number_told (told_refusal why) → place ≡ place_told (told_refusal why)
    → (place < high → r ≡ number * high + place) × (r ≡ number * high + place % high) → Codes (told_refusal why) r
refusal_code why number place r n p e =
    let (k, l, t) = refusal_told why in
    let number_same : number ≡ k = n ∙ ap number_told t in
    let place_same : place ≡ l = p ∙ ap place_told t in (
      λ s. e.0 (subst (λ x. x < high) (sym place_same) (subst Small t s)) ∙ ap₂ (λ x y. x * high + y) number_same place_same ∙ ap code_of (sym t),
      e.1 ∙ ap₂ (λ x y. x * high + y % high) number_same place_same ∙ ap cut_code (sym t),
    )

-- The code of an answer that tells what a call owes, where that is small.
pub coded : {owed tells : Told} {r : ℕ} → tells ≡ owed → Small owed → (Small tells → r ≡ code_of tells) → r ≡ code_of owed
coded is s e = e (subst Small (sym is) s) ∙ ap code_of is
