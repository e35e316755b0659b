-- A refusal is known by the number and the place that it tells. Assumes nothing.
use Prim.Native.Nat.{ℕ}
use mathlib.Core.Path.{◌≡◌, refl}
use mathlib.Core.Bool.{cond}
use lib.Dec.{eqb}
use Rattle.paper.specs.declared.Refusal.{Refusal}
use Rattle.paper.specs.declared.Refusal.TheVariants.{TooLong, BadName, NoQuery, TooDeep, UnknownName, BadQuery, BadTable, BadMarks, TooNested, Short, NoXml, LeftOut, NoElement, OtherText, NoRole, NoView, UnreadView, Unreadable}
use Rattle.xml_bytes.specs.Seeking.{refusal_number, refusal_place}

-- The refusal of this number and place.
abbrev pub refusal_back : ℕ → ℕ → Refusal
refusal_back number place =
    cond (eqb number 1) TooLong
    (cond (eqb number 2) (BadName place)
    (cond (eqb number 3) (NoQuery place)
    (cond (eqb number 4) (TooDeep place)
    (cond (eqb number 5) (UnknownName place)
    (cond (eqb number 6) (BadQuery place)
    (cond (eqb number 7) (BadTable place)
    (cond (eqb number 8) (BadMarks place)
    (cond (eqb number 9) (TooNested place)
    (cond (eqb number 10) (Short place)
    (cond (eqb number 11) (NoXml place)
    (cond (eqb number 12) (LeftOut place)
    (cond (eqb number 13) NoElement
    (cond (eqb number 14) OtherText
    (cond (eqb number 15) (NoRole place)
    (cond (eqb number 16) (NoView place)
    (cond (eqb number 17) (UnreadView place) Unreadable))))))))))))))))

pub told_back : (why : Refusal) → refusal_back (refusal_number why) (refusal_place why) ≡ why
told_back TooLong = refl
told_back (BadName place) = refl
told_back (NoQuery place) = refl
told_back (TooDeep place) = refl
told_back (UnknownName place) = refl
told_back (BadQuery place) = refl
told_back (BadTable place) = refl
told_back (BadMarks place) = refl
told_back (TooNested place) = refl
told_back (Short place) = refl
told_back (NoXml place) = refl
told_back (LeftOut place) = refl
told_back NoElement = refl
told_back OtherText = refl
told_back (NoRole place) = refl
told_back (NoView place) = refl
told_back (UnreadView place) = refl
told_back Unreadable = refl
