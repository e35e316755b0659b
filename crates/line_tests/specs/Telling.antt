-- What a test tells of a lent column: a number at an index, or the kind of a name that the list has.
use Rattle.std.specs.Prelude.{ℕ, ◌<◌, ◌≡◌, Bool, true, false, List, length, get_or}
use Rattle.std.proofs.Math.Option.{Option}
use Rattle.paper.specs.Xml.{named, kind_by, lacks}

-- The test says whether the fact holds.
abbrev pub Tells : Bool → Type 0 → Type 0
Tells b P = (b ≡ true → P) × (b ≡ false → P → ⊥)

-- The column has this number at an index.
abbrev pub Has : List ℕ → ℕ → ℕ → Type 0
Has column n number = (n < length column) × (get_or column n 0 ≡ number)

-- The list has this name, and the column the kind of its elements.
abbrev pub NamedAt : (List ℕ → Option ℕ) → List ℕ → List ℕ → ℕ → Type 0
NamedAt look name kinds n = (lacks look (named name) ≡ false) × Has kinds n (kind_by look (named name))
