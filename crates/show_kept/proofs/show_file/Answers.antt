-- `show_kept::show_file` meets its contract: the line of a refusal, or the file and an LF. Assumes nothing.
use Prim.Native.Nat.{ℕ, ◌+◌}
use native.Mathlib.Omega.{arith}
use mathlib.Core.Path.{◌≡◌, sym, ◌∙◌, ap}
use mathlib.Core.List.{List}
use lib.ListN.{length, replicate, length-replicate}
use Rattle.std.specs.Prelude.{Ok}
use Rattle.paper.specs.Document.{Table, table_of}
use Rattle.paper.specs.WriteXml.{kept_xml}
use Rattle.paper.specs.Answers.{write_xml_answer, write_xml_out}
use Rattle.paper.specs.Told.{Answer, told}
use Rattle.paper.specs.Show.{file_room, file_shows}
use Rattle.paper.proofs.Giving.{Gives}
use Rattle.pen.proofs.Putting.{puts_as, puts_both}
use Rattle.lines.proofs.Reported.{refused_answer, given_part}
use Rattle.show_kept.proofs.Showing.{file_gives}
use Rattle.show_kept.proofs.show_file.Goals as goal

-- The file is written into a room of its own: what is answered, and what stands at its start.
answered : (text list : List ℕ) (t : Table) (begins ends marks : List ℕ) (said : Answer)
    → told said ≡ write_xml_answer text list t begins ends marks (length (replicate {A = ℕ} file_room 0)) → told said ≡ write_xml_answer text list t begins ends marks file_room
answered text list t begins ends marks said e = e ∙ ap (write_xml_answer text list t begins ends marks) (length-replicate {A = ℕ} file_room 0)

file : (text list : List ℕ) (t : Table) (begins ends marks : List ℕ) (said : Answer) (n : ℕ) (out : List ℕ) → said ≡ Ok n
    → told said ≡ write_xml_answer text list t begins ends marks (length (replicate {A = ℕ} file_room 0)) → out ≡ write_xml_out text list t begins ends marks (replicate file_room 0)
    → Gives (kept_xml text marks) n file_room out
file text list t begins ends marks said n out is e w =
    let room : List ℕ = replicate file_room 0 in
    file_gives text list t begins ends marks file_room n room out (length-replicate {A = ℕ} file_room 0) (ap told (sym is) ∙ e) w

pub returns-in_default : goal.returns-in_default
unfolding file_shows
returns-in_default c =
    let said = c.write_xml-answer in
    refused_answer "write" _ _ (file_room + 1) _ _ _ (omega arith) said.result _ c.in_default.is (answered _ _ (table_of c.args.parent.now c.args.kind.now) _ _ _ _ said.ensures.result_value) c.put_refusal.ensures

pub slice_bounds-file-end : goal.slice_bounds-file-end
slice_bounds-file-end c =
    let said = c.write_xml-answer in
    (file _ _ (table_of c.args.parent.now c.args.kind.now) _ _ _ said.result c.in-Ok.count _ c.in-Ok.is said.ensures.result_value said.ensures.out_after).inside

pub put-shown-requires : goal.put-shown-requires
put-shown-requires c =
    let said = c.write_xml-answer in
    let g = file _ _ (table_of c.args.parent.now c.args.kind.now) _ _ _ said.result c.in-Ok.count _ c.in-Ok.is said.ensures.result_value said.ensures.out_after in
    omega (arith, g.counts, g.fits)

pub put-requires : goal.put-requires
put-requires c =
    let said = c.write_xml-answer in
    let g = file _ _ (table_of c.args.parent.now c.args.kind.now) _ _ _ said.result c.in-Ok.count _ c.in-Ok.is said.ensures.result_value said.ensures.out_after in
    omega (arith, c.put-shown.ensures.moved, g.counts, g.fits)

pub returns : goal.returns
unfolding file_shows
returns c =
    let said = c.write_xml-answer in
    let g = file _ _ (table_of c.args.parent.now c.args.kind.now) _ _ _ said.result c.in-Ok.count _ c.in-Ok.is said.ensures.result_value said.ensures.out_after in
    given_part "write" _ _ _ _ _ _ _ (ap told (sym c.in-Ok.is) ∙ answered _ _ (table_of c.args.parent.now c.args.kind.now) _ _ _ _ said.ensures.result_value)
    (record {
      puts = puts_both (puts_as g.starts c.put-shown.ensures) c.put.ensures;
      few = omega (arith, c.put-shown.ensures.moved, c.put.ensures.moved, g.counts, g.fits);
    })

pub slice_bounds-put-end : goal.slice_bounds-put-end
slice_bounds-put-end c =
    let said = c.write_xml-answer in
    (file _ _ (table_of c.args.parent.now c.args.kind.now) _ _ _ said.result c.in-Ok.count _ c.in-Ok.is said.ensures.result_value said.ensures.out_after).counts
