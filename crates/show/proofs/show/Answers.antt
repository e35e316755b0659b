-- `show::show` meets its contract: an input too long is refused, and any other is cut into its parts. Assumes nothing.
use Prim.Native.Nat.{◌+◌}
use native.Mathlib.Omega.{arith}
use mathlib.Core.Path.{◌∙◌, ap}
use mathlib.Core.Bool.{true}
use Rattle.paper.specs.declared.Refusal.TheVariants.{TooLong}
use Rattle.paper.specs.Sheet.{list_part, files_part}
use Rattle.paper.specs.Show.{file_room, show_prints}
use Rattle.lines.proofs.Splitting.{next_whole}
use Rattle.lines.proofs.Reported.{refused_part, given_part}
use Rattle.show.proofs.Inputs.{input_long, input_taken}
use Rattle.show.proofs.show.Goals as goal

pub returns-then-input-gt-INPUT_LIMIT : goal.returns-then-input-gt-INPUT_LIMIT
unfolding show_prints
returns-then-input-gt-INPUT_LIMIT c =
    refused_part "input" _ _ (file_room + 1) _ _ _ (omega arith) TooLong (input_long c.args.input.now (omega (arith, c.if-input-gt-INPUT_LIMIT.true))) c.put_refusal.ensures

pub returns : goal.returns
unfolding show_prints
returns c =
    let input = c.args.input.now in
    let first = c.line_end-query_end.ensures in
    let parts = c.list_end-list_end.ensures in
    let after = next_whole input _ _ c.line_start-list_start.ensures ∙ first.rest in
    let list = parts.names ∙ ap (list_part true) after in
    let text = next_whole _ _ _ c.line_start-text_start.ensures ∙ parts.rest ∙ ap (files_part true) after in
    given_part "input" _ _ _ _ _ _ _ (input_taken input (omega (arith, c.if-input-gt-INPUT_LIMIT.false))) (rw (first.says, list, text) at c.show_query.ensures)
