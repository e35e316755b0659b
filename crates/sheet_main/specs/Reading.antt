-- What is promised of a file that is read, and of how far the file names have been read.
use Rattle.std.specs.Prelude.{ℕ, ◌≡◌, ◌≤◌, List, length, take, Option, Some, None}
use Rattle.sheet_main.specs.declared.Name.{Name}

-- So many bytes are no more than the room.
abbrev pub Fits : Option ℕ → ℕ → Type 0
Fits (Some n) room = n ≤ room
Fits None room = Unit {0}

-- So many bytes stand first.
abbrev pub Holds : Option ℕ → List ℕ → Type 0
Holds (Some n) text = (n ≤ length text) × (n ≡ length (take n text))
Holds None text = Unit {0}

-- The places stand in the bytes read, and the name in its room.
pub record Within (r : Name) (chunk path : ℕ) : Type 0 where
  pub before : r.left.at ≤ r.left.end
  pub inside : r.left.end ≤ chunk
  pub fits : r.len ≤ path

-- The same of a name, if there is one.
abbrev pub Reached : Option Name → ℕ → ℕ → Type 0
Reached (Some r) chunk path = Within r chunk path
Reached None chunk path = Unit {0}
