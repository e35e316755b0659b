-- The invariant of `sheet_main::add_all`: both places stand in the bytes read.
use Rattle.std.proofs.Common.{◌≤◌}
use Rattle.sheet.specs.Sheets.{head_room}
use Rattle.sheet_main.proofs.add_all.Given as goal

abbrev pub invariant-loop : goal.invariant-loop
invariant-loop l = (l.left.at ≤ l.left.end) × (l.left.end ≤ head_room)
