-- `sheet::put_line` meets its contract: the name, then its three numbers. Assumes nothing.
use mathlib.Core.Path.{◌≡◌, sym}
use mathlib.Core.List.{[], ◌++◌}
use lib.ListN.{get_or}
use Rattle.paper.specs.Names.{names_of}
use Rattle.paper.specs.Sheet.{sheet_line}
use Rattle.pen.proofs.Putting.{puts_both, puts_as}
use Rattle.sheet.specs.Sheets.{at, counts_text}
use Rattle.sheet.proofs.Growing.{line_whole}
use Rattle.sheet.proofs.put_line.Goals as goal

pub returns-clause-puts : goal.returns-clause-puts
returns-clause-puts c =
    let v = c.args.v in
    let name = get_or (names_of c.args.names.now) v [] in
    let whole : name ++ counts_text c.number_at-in_all.result c.number_at-in_kept.result c.number_at-in_hidden.result
    ≡ sheet_line name (at c.args.all.now v) (at c.args.kept.now v) (at c.args.hidden.now v) =
    rw (sym c.number_at-in_all.ensures.0, sym c.number_at-in_kept.ensures.0, sym c.number_at-in_hidden.ensures.0) (line_whole name _ _ _) in
    puts_as whole (puts_both c.put_name-named.ensures.puts c.put_counts.ensures.puts)
