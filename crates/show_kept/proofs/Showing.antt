-- What a run and writing make of what is shown: a run by the nodes that it keeps, and writing by the file that it leaves. By the lines of the answers. Assumes nothing.
use Prim.Native.Nat.{ℕ, ◌+◌, ◌≤◌}
use native.Mathlib.Omega.{arith}
use mathlib.Core.Path.{◌≡◌, sym, ◌∙◌, ap}
use mathlib.Core.Bool.{not, ◌||◌}
use mathlib.Core.List.{List, []}
use lib.Dec.{eqb, ltb}
use lib.ListN.{length, take, drop, length-append}
use borrow.Author.Tests.{ltb-false, eq-eqb, ne_eqb}
use Rattle.paper.specs.Tools.{when, written}
use Rattle.paper.specs.Limits.{text_limit, list_limit, node_limit}
use Rattle.paper.specs.Names.{names_fault}
use Rattle.paper.specs.Document.{Table, nodes, table_fault, marks_fault}
use Rattle.paper.specs.WriteXml.{kept_xml}
use Rattle.paper.specs.Answers.{value, too_long, short, element_marked, reads_as, write_xml_answer, write_xml_out}
use Rattle.paper.specs.Answers.{Answer as Told}
use Rattle.paper.specs.Program.{unless_refused}
use Rattle.paper.specs.Show.{file_room, unless_nothing}
use Rattle.paper.proofs.Refusing.{line_value, when_none}
use Rattle.paper.proofs.Giving.{Gives}
use Rattle.file_theorems.proofs.Answered.{granted, file_is}
use Rattle.pen.proofs.Putting.{puts_none}
use Rattle.lines.specs.Lines.{Reports}
use Rattle.lines.proofs.Reported.{given_part}

-- A run that keeps no node shows nothing, and one that keeps some leaves what is shown to the later parts.
module _ (ran : Told) (later old : List ℕ) (n : ℕ) (e : value n ≡ ran) where
  pub run_nothing : n ≡ 0 → Reports (unless_refused "run" ran (unless_nothing ran later)) (file_room + 1) old old 0
  run_nothing z =
      let none : unless_nothing ran later ≡ [] = rw (sym e, eq-eqb n 0 z) in
      let nothing : Reports [] (file_room + 1) old old 0 = record { puts = puts_none 0 old; few = omega arith } in
      given_part "run" ran (unless_nothing ran later) (file_room + 1) old old 0 n e (rw none nothing)

  pub run_some : (new : List ℕ) (count : ℕ) → (n ≡ 0 → ⊥) → Reports later (file_room + 1) old new count
      → Reports (unless_refused "run" ran (unless_nothing ran later)) (file_room + 1) old new count
  run_some new count some r =
      let all : unless_nothing ran later ≡ later = rw (sym e, ne_eqb n 0 some) in
      given_part "run" ran (unless_nothing ran later) (file_room + 1) old new count n e (rw all r)

-- Where writing answers with a value, there was room for the file,
module _ (text list : List ℕ) (t : Table) (begins ends marks : List ℕ) (room n : ℕ) where
  file_fits : write_xml_answer text list t begins ends marks room ≡ value n → n ≤ room
  unfolding write_xml_answer
  file_fits h =
      let needed = length (kept_xml text marks) in
      let wrong =
      too_long text text_limit || too_long list list_limit || ltb node_limit (nodes t) || not (eqb (length t.kinds) (nodes t)) || not (eqb (length begins) (nodes t))
      || not (eqb (length ends) (nodes t)) || not (eqb (length marks) (nodes t)) in
      let l1 = (line_value 1 n (when wrong 0) _ h).1 in
      let l2 = (line_value 2 n (names_fault list) _ l1).1 in
      let l7 = (line_value 7 n (table_fault t) _ l2).1 in
      let l8 = (line_value 8 n (marks_fault t marks) _ l7).1 in
      let l13 = (line_value 13 n (when (not (element_marked t marks)) 0) _ l8).1 in
      let l14 = (line_value 14 n (when (not (reads_as text list t begins ends)) 0) _ l13).1 in
      let l10 = line_value 10 n (short room needed) (value needed) l14 in
      let is : value needed ≡ value n = l10.1 in
      let many : needed ≡ n = cc in
      omega (arith, many, ltb-false room needed (when_none (ltb room needed) needed l10.0))

  -- and it stands at the start of the room.
  pub file_gives : (old out : List ℕ) → length old ≡ room → value n ≡ write_xml_answer text list t begins ends marks (length old) → out ≡ write_xml_out text list t begins ends marks old
      → Gives (kept_xml text marks) n room out
  unfolding write_xml_out
  file_gives old out long e w =
      let file = kept_xml text marks in
      let given : write_xml_answer text list t begins ends marks room ≡ value n = ap (write_xml_answer text list t begins ends marks) (sym long) ∙ sym e in
      let many : length file ≡ n = (granted text list t begins ends marks room n given).many in
      let starts : take n out ≡ file = rw w (file_is text list t begins ends marks old n (sym e)) in
      let all : out ≡ written file old = rw (sym e) at w in
      record {
        fits = file_fits given;
        inside = omega (arith, many, ap length all, length-append file (drop (length file) old));
        counts = sym (ap length starts ∙ many);
        starts = starts;
      }
