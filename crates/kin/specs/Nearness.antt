-- What asking how two nodes stand to each other needs of the parents.
use Rattle.std.specs.Prelude.{ℕ, List}
use Rattle.paper.specs.Document.{table_of}
use Rattle.paper.proofs.Trees.{Tree}

-- A parent column that can be climbed in.
abbrev pub near : List ℕ → Type 0
near parents = (kinds : List ℕ) → Tree (table_of parents kinds)
