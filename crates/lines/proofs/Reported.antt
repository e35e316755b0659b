-- What one part of the work makes of the report: the line of its refusal, or what the later parts print. By cases of the answer. Assumes nothing.
use Prim.Native.Nat.{ℕ, ◌≤◌}
use Prim.Native.String.{String}
use native.Mathlib.Omega.{arith}
use mathlib.Core.Path.{◌≡◌, sym, ◌∙◌, ap}
use mathlib.Core.List.{List}
use Rattle.paper.specs.Tools.{ascii}
use Rattle.paper.specs.Answers.{value}
use Rattle.paper.specs.Answers.{Answer as Told}
use Rattle.std.specs.Prelude.{Err}
use Rattle.paper.specs.Told.{Answer, told, told_refusal}
use Rattle.paper.specs.declared.Refusal.{Refusal}
use Rattle.paper.proofs.Refusing.{refusal_told}
use Rattle.paper.specs.Program.{refusal_line, unless_refused}
use Rattle.code.specs.Codes.{number_told, place_told}
use Rattle.lines.specs.Lines.{Reports, line_room}

module _ (part : String) (said : Told) (later : List ℕ) (most : ℕ) (old new : List ℕ) (count : ℕ) where
  -- A part that refuses is reported by its own line.
  pub refused_part : line_room ≤ most → (why : Refusal) → told_refusal why ≡ said
      → Reports (refusal_line (ascii part) (number_told (told_refusal why)) (place_told (told_refusal why))) line_room old new count
      → Reports (unless_refused part said later) most old new count
  refused_part room why e r =
      let (number, place, t) = refusal_told why in
      let line : unless_refused part said later ≡ refusal_line (ascii part) (number_told (told_refusal why)) (place_told (told_refusal why)) = rw (sym e, t) in
      record { puts = rw line r.puts; few = omega (arith, r.few) }

  -- The same of an answer that was found to be a refusal.
  pub refused_answer : line_room ≤ most → (a : Answer) (why : Refusal) → a ≡ Err why → told a ≡ said
      → Reports (refusal_line (ascii part) (number_told (told a)) (place_told (told a))) line_room old new count → Reports (unless_refused part said later) most old new count
  refused_answer room a why is e r = refused_part room why (ap told (sym is) ∙ e) (rw is at r)

  -- A part that gives a value leaves the report to the later ones.
  pub given_part : (n : ℕ) → value n ≡ said → Reports later most old new count → Reports (unless_refused part said later) most old new count
  given_part n e r = let line : unless_refused part said later ≡ later = rw (sym e) in rw line r
