-- What an answer that is a value says of the lines before it, and that a refusal leaves what is lent as it was. Assumes nothing.
use Prim.Native.Nat.{ℕ}
use native.Mathlib.Omega.{arith}
use mathlib.Core.Path.{◌≡◌, refl, sym, ap}
use mathlib.Core.Bool.{Bool, true, false, ◌||◌, false≢true}
use mathlib.Core.List.{List}
use mathlib.Core.Option.{Option, none, some}
use Rattle.paper.specs.Tools.{when}
use Rattle.paper.specs.Answers.{value, refusal, line, at_exit}
use Rattle.paper.specs.Answers.{Answer as Told}
use Rattle.paper.specs.Told.{told_refusal}
use Rattle.paper.specs.declared.Refusal.{Refusal}
use Rattle.paper.specs.declared.Refusal.TheVariants.{TooLong, BadName, NoQuery, TooDeep, UnknownName, BadQuery, BadTable, BadMarks, TooNested, Short, NoXml, LeftOut, NoElement, OtherText, NoRole, NoView, UnreadView, Unreadable}

-- Where a value is answered, no line before it holds.
pub line_value : (number n : ℕ) (o : Option ℕ) (later : Told) → line number o later ≡ value n → (o ≡ none) × (later ≡ value n)
line_value number n none later h = (refl, h)
line_value number n (some place) later h = absurd (let z : ◌≡◌ {A = ℕ} 0 1 = cc in omega arith)

pub when_none : (b : Bool) (place : ℕ) → when b place ≡ none → b ≡ false
when_none true place h = absurd (let z : ◌≡◌ {A = ℕ} 0 1 = cc in omega arith)
when_none false place h = refl

-- Of two tests none holds exactly if neither does.
pub or_none : (a b : Bool) → (a || b) ≡ false → (a ≡ false) × (b ≡ false)
or_none true b h = absurd (false≢true (sym h))
or_none false b h = (refl, h)

-- A refusal tells its number and place.
pub refusal_told : (why : Refusal) → (number : ℕ) × (place : ℕ) × (told_refusal why ≡ refusal number place)
refusal_told TooLong = (1, 0, refl)
refusal_told (BadName place) = (2, place, refl)
refusal_told (NoQuery place) = (3, place, refl)
refusal_told (TooDeep place) = (4, place, refl)
refusal_told (UnknownName place) = (5, place, refl)
refusal_told (BadQuery place) = (6, place, refl)
refusal_told (BadTable place) = (7, place, refl)
refusal_told (BadMarks place) = (8, place, refl)
refusal_told (TooNested place) = (9, place, refl)
refusal_told (Short place) = (10, place, refl)
refusal_told (NoXml place) = (11, place, refl)
refusal_told (LeftOut place) = (12, place, refl)
refusal_told NoElement = (13, 0, refl)
refusal_told OtherText = (14, 0, refl)
refusal_told (NoRole place) = (15, place, refl)
refusal_told (NoView place) = (16, place, refl)
refusal_told (UnreadView place) = (17, place, refl)
refusal_told Unreadable = (18, 0, refl)

-- A refused call writes nothing.
pub refused_keeps : (why : Refusal) (new old : List ℕ) → at_exit (told_refusal why) new old ≡ old
refused_keeps why new old = ap (λ answer. at_exit answer new old) (refusal_told why).2
