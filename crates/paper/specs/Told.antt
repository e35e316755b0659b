-- docs/SCOPE.md, "Numbers refused": the number and the place that each case of the enum `Refusal` stands for.
use Rattle.std.specs.Prelude.{ℕ, Option, Some, None, Result, Ok, Err}
use Rattle.std.proofs.Math.Option as maybe
use Rattle.paper.specs.Answers.{value, refusal}
use Rattle.paper.specs.Answers.{Answer as Told}
use Rattle.paper.specs.declared.Refusal.{Refusal}
use Rattle.paper.specs.declared.Refusal.TheVariants.{TooLong, BadName, NoQuery, TooDeep, UnknownName, BadQuery, BadTable, BadMarks, TooNested, Short, NoXml, LeftOut, NoElement, OtherText, NoRole, NoView, UnreadView, Unreadable}

-- What an entry point answers: the value, or a refusal.
abbrev pub Answer : Type 0
Answer = Result ℕ Refusal

-- The number of a refusal, and its place.
abbrev pub told_refusal : Refusal → Told
told_refusal TooLong = refusal 1 0
told_refusal (BadName place) = refusal 2 place
told_refusal (NoQuery place) = refusal 3 place
told_refusal (TooDeep place) = refusal 4 place
told_refusal (UnknownName place) = refusal 5 place
told_refusal (BadQuery place) = refusal 6 place
told_refusal (BadTable place) = refusal 7 place
told_refusal (BadMarks place) = refusal 8 place
told_refusal (TooNested place) = refusal 9 place
told_refusal (Short place) = refusal 10 place
told_refusal (NoXml place) = refusal 11 place
told_refusal (LeftOut place) = refusal 12 place
told_refusal NoElement = refusal 13 0
told_refusal OtherText = refusal 14 0
told_refusal (NoRole place) = refusal 15 place
told_refusal (NoView place) = refusal 16 place
told_refusal (UnreadView place) = refusal 17 place
told_refusal Unreadable = refusal 18 0

abbrev pub told : Answer → Told
told (Ok n) = value n
told (Err why) = told_refusal why

-- An `Option` of the code as one of the definitions.
abbrev pub found : {A : Type 0} → Option A → maybe.Option A
found None = maybe.none
found (Some x) = maybe.some x
