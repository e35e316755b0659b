-- 02, 2026-14: a program that reads the beginning of its input before it knows the view reads enough: what it makes of the view and of the names is what the whole input says, and the names of files go on where the beginning ends.
use Rattle.std.specs.Prelude.{ℕ, ◌≡◌, true, List, ◌++◌, take, drop}
use Rattle.paper.specs.Limits.{item_limit}
use Rattle.paper.specs.Answers.{Answer, value, read_answer}
use Rattle.paper.specs.Program.{first_line, after_line}
use Rattle.paper.specs.Sheet.{list_part, files_part}
use Rattle.sheet.specs.Sheets.{head_room}

-- How the view of an input is read.
abbrev pub view_answer : List ℕ → Answer
view_answer input = read_answer (first_line input) 1 (list_part true (after_line input)) item_limit

-- THE BEGINNING IS ENOUGH.
abbrev pub HeadEnough : Type 0
HeadEnough =
    (input : List ℕ) → let head = take head_room input in
    (view_answer head ≡ view_answer input)
    × ((n : ℕ) → view_answer input ≡ value n →
    (first_line head ≡ first_line input)
    × (list_part true (after_line head) ≡ list_part true (after_line input))
    × (files_part true (after_line input) ≡ files_part true (after_line head) ++ drop head_room input))
