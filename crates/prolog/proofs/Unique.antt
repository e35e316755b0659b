-- The promise of `lead` leaves one answer: reading stops where the element begins. Assumes nothing.
use Prim.Native.Nat.{ℕ}
use mathlib.Core.Path.{◌≡◌, refl, sym, ◌∙◌, ap}
use mathlib.Core.Bool.{cond}
use mathlib.Core.List.{List}
use lib.Dec.{eqb}
use Rattle.std.specs.Prelude.{Ok, Err}
use Rattle.paper.specs.declared.Refusal.{Refusal}
use Rattle.paper.specs.declared.Refusal.TheVariants.{TooLong, BadName, NoQuery, TooDeep, UnknownName, BadQuery, BadTable, BadMarks, TooNested, Short, NoXml, LeftOut, NoElement, OtherText, NoRole, NoView, UnreadView, Unreadable}
use Rattle.xml_bytes.specs.Seeking.{Sought, stops, refused, refusal_number, refusal_place}
use Rattle.xml_bytes.specs.Promised.{Reach}
use Rattle.prolog.specs.Heading.{led, Leads}

-- A refusal by its number and its place.
abbrev numbered : ℕ → ℕ → Refusal
numbered number place =
    cond (eqb number 1) TooLong
    (cond (eqb number 2) (BadName place)
    (cond (eqb number 3) (NoQuery place)
    (cond (eqb number 4) (TooDeep place)
    (cond (eqb number 5) (UnknownName place)
    (cond (eqb number 6) (BadQuery place)
    (cond (eqb number 7) (BadTable place)
    (cond (eqb number 8) (BadMarks place)
    (cond (eqb number 9) (TooNested place)
    (cond (eqb number 10) (Short place)
    (cond (eqb number 11) (NoXml place)
    (cond (eqb number 12) (LeftOut place)
    (cond (eqb number 13) NoElement
    (cond (eqb number 14) OtherText
    (cond (eqb number 15) (NoRole place)
    (cond (eqb number 16) (NoView place)
    (cond (eqb number 17) (UnreadView place) Unreadable))))))))))))))))

refusal_back : (why : Refusal) → numbered (refusal_number why) (refusal_place why) ≡ why
refusal_back TooLong = refl
refusal_back (BadName place) = refl
refusal_back (NoQuery place) = refl
refusal_back (TooDeep place) = refl
refusal_back (UnknownName place) = refl
refusal_back (BadQuery place) = refl
refusal_back (BadTable place) = refl
refusal_back (BadMarks place) = refl
refusal_back (TooNested place) = refl
refusal_back (Short place) = refl
refusal_back (NoXml place) = refl
refusal_back (LeftOut place) = refl
refusal_back NoElement = refl
refusal_back OtherText = refl
refusal_back (NoRole place) = refl
refusal_back (NoView place) = refl
refusal_back (UnreadView place) = refl
refusal_back Unreadable = refl

-- THE PLACE OF THE ELEMENT. Reading stops there.
abbrev lead_back : Sought → Reach
lead_back (stops to s) = Ok to
lead_back (refused number place) = Err (numbered number place)

lead_answer : (r : Reach) → lead_back (led r) ≡ r
lead_answer (Ok to) = refl
lead_answer (Err why) = ap Err (refusal_back why)

pub lead_unique : (text : List ℕ) (r s : Reach) → Leads text r → Leads text s → r ≡ s
lead_unique text r s p q = sym (lead_answer r) ∙ ap lead_back (sym p.only ∙ q.only) ∙ lead_answer s
