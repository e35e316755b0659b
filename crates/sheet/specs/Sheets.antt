-- What is promised of a sheet: the numbers that stand in columns, and how many bytes it has at most.
use Rattle.std.specs.Prelude.{ℕ, ◌+◌, ◌*◌, List, ◌++◌, get_or}
use Rattle.paper.specs.Tools.{ascii}
use Rattle.paper.specs.Limits.{text_limit, list_limit, names_limit}
use Rattle.paper.specs.Program.{decimal}
use Rattle.paper.specs.Sheet.{number_limit}
use Rattle.lines.specs.Lines.{line_room}

-- The number at a place of a column; past its end it is 0.
abbrev pub at : List ℕ → ℕ → ℕ
at column v = get_or column v 0

-- Three numbers, each behind a space, and LF.
abbrev pub counts_text : ℕ → ℕ → ℕ → List ℕ
counts_text all kept hidden = ascii " " ++ decimal all ++ ascii " " ++ decimal kept ++ ascii " " ++ decimal hidden ++ ascii "\n"

-- A view and a list that can be read fit here with the LF behind each.
abbrev pub head_room : ℕ
head_room = text_limit + 1 + list_limit + 1

-- The names, and no line with more than 64 bytes beside a name: of names, of refusal numbers, and the sums, which take two.
abbrev pub sheet_limit : ℕ
sheet_limit = list_limit + (names_limit + (1 + number_limit) + 2) * line_room
