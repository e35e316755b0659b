-- The invariant of `sheet_main::next_name`: the places stand in the bytes read, the name in its room, and both rooms stay as long as they were.
use Rattle.std.proofs.Common.{◌≡◌, ◌≤◌, length}
use Rattle.sheet_main.proofs.next_name.Given as goal

abbrev pub invariant-loop : goal.invariant-loop
invariant-loop l =
    (length l.chunk ≡ length l.initial.chunk) × (length l.path ≡ length l.initial.path)
    × (l.left.at ≤ l.left.end) × (l.left.end ≤ length l.chunk) × (l.len ≤ length l.path)
