-- What the kept starts of lines say: where each line stands, and what it says.
use Rattle.std.specs.Prelude.{ℕ, suc, ◌+◌, ◌-◌, ◌≤◌, ◌<◌, List, length, get_or, take, drop}
use Rattle.paper.specs.Limits.{names_limit}
use Rattle.name_lines.specs.declared.Part.{Part}

-- How many starts are kept: one a name, and the end of the list.
abbrev pub starts_count : ℕ
starts_count = names_limit + 1

-- Where line v stands: from its start up to its LF, right before the next line's start.
abbrev pub part_of : List ℕ → ℕ → Part
part_of starts v = record { start = get_or starts v 0; len = get_or starts (suc v) 0 - 1 - get_or starts v 0 }

-- The bytes of a part of the list.
abbrev pub bytes_of : List ℕ → Part → List ℕ
bytes_of list p = take p.len (drop p.start list)

-- What line v says.
abbrev pub said : List ℕ → List ℕ → ℕ → List ℕ
said list starts v = bytes_of list (part_of starts v)

-- The starts of the first `count` lines rise within the list.
pub record Rising (list starts : List ℕ) (count : ℕ) : Type 0 where
  pub few : count ≤ names_limit
  pub rises : (v : ℕ) → v < count → get_or starts v 0 < get_or starts (suc v) 0
  pub within : (v : ℕ) → v < count → get_or starts (suc v) 0 ≤ length list
