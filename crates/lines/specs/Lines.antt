-- What is promised of the lines of an input and of those of a report.
use Rattle.std.specs.Prelude.{ℕ, suc, ◌≤◌, ◌+◌, ◌≡◌, true, List, length, take, drop}
use Rattle.paper.specs.Limits.{text_limit}
use Rattle.pen.specs.Putting.{Puts}
use Rattle.paper.specs.Program.{first_line, after_line}
use Rattle.paper.specs.Sheet.{list_part, files_part}

-- The first line of the bytes ends at `end`.
pub record Ends (bytes : List ℕ) (end : ℕ) : Type 0 where
  pub within : end ≤ length bytes
  pub says : take end bytes ≡ first_line bytes
  pub rest : drop (suc end) bytes ≡ after_line bytes

-- The line after it starts at `start`.
pub record Starts (bytes : List ℕ) (end start : ℕ) : Type 0 where
  pub inside : start ≤ length bytes
  pub follows : drop start bytes ≡ drop (suc end) bytes

-- The name list at the start of the bytes ends at `end`, and a blank line stands between it and the rest.
pub record Parts (bytes : List ℕ) (end : ℕ) : Type 0 where
  pub inside : end ≤ length bytes
  pub names : take end bytes ≡ list_part true bytes
  pub rest : drop (suc end) bytes ≡ files_part true bytes

-- No report has more bytes beside the text of a query.
abbrev pub line_room : ℕ
line_room = 64

-- No report has more bytes.
abbrev pub report_limit : ℕ
report_limit = text_limit + line_room

-- The text is put from the start on, as far as the room goes, and has at most so many bytes.
pub record Reports (text : List ℕ) (most : ℕ) (old new : List ℕ) (count : ℕ) : Type 0 where
  pub puts : Puts text 0 old new count
  pub few : count ≤ most
