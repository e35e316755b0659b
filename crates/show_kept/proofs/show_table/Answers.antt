-- `show_kept::show_table` meets its contract: the line of a refusal, nothing, or the file of what is kept. Assumes nothing.
use Prim.Native.Nat.{ℕ, ◌+◌}
use native.Mathlib.Omega.{arith}
use mathlib.Core.Path.{◌≡◌, sym, ◌∙◌, ap}
use mathlib.Core.List.{List}
use Rattle.paper.specs.Document.{Table, nodes, table_of}
use Rattle.paper.specs.Answers.{run_answer}
use Rattle.paper.specs.Told.{Answer, told}
use Rattle.paper.specs.Sheet.{all_marked}
use Rattle.paper.specs.Show.{file_room, scratch_lent, table_shows}
use Rattle.lines.proofs.Reported.{refused_answer}
use Rattle.whole.proofs.Kept.{marks_kept}
use Rattle.show_kept.proofs.Showing.{run_nothing, run_some}
use Rattle.show_kept.proofs.show_table.Goals as goal

-- The query is run with as many marks as nodes.
answered : (query : List ℕ) (t : Table) (room : ℕ) (said : Answer) → told said ≡ run_answer query t (all_marked t) room scratch_lent → room ≡ nodes t
    → told said ≡ run_answer query t (all_marked t) (nodes t) scratch_lent
answered query t room said e long = e ∙ ap (λ (n : ℕ). run_answer query t (all_marked t) n scratch_lent) long

pub returns-in_default : goal.returns-in_default
unfolding table_shows
returns-in_default c =
    let ran = c.run_within-ran in
    refused_answer "run" _ _ (file_room + 1) _ _ _ (omega arith) ran.result _ c.in_default.is (answered _ (table_of c.args.parent.now c.args.kind.now) _ _ ran.ensures.result_value c.requires.1) c.put_refusal.ensures

pub returns-then-kept-eq0 : goal.returns-then-kept-eq0
unfolding table_shows
returns-then-kept-eq0 c =
    run_nothing _ _ _ c.in-Ok.kept (ap told (sym c.in-Ok.is) ∙ answered _ (table_of c.args.parent.now c.args.kind.now) _ _ c.run_within-ran.ensures.result_value c.requires.1) (omega (arith, c.if-kept-eq0.true))

pub returns : goal.returns
unfolding table_shows
returns c =
    let ran = c.run_within-ran in
    let t = table_of c.args.parent.now c.args.kind.now in
    let marked = marks_kept c.args.query.now t _ c.args.marks.now _ c.in-Ok.kept (ap told (sym c.in-Ok.is) ∙ ran.ensures.result_value) c.requires.1 ran.ensures.marks_after in
    run_some _ _ _ _ (ap told (sym c.in-Ok.is) ∙ answered _ t _ _ ran.ensures.result_value c.requires.1) _ _ c.if-kept-eq0.false (rw marked at c.show_file.ensures)
