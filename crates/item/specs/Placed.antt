-- What stands in a lent slice once items are written from a place on.
use Rattle.std.specs.Prelude.{ℕ, ◌+◌, List, ◌++◌, length, take, drop}

-- These items written from a place on; the rest is untouched.
abbrev pub placed : List ℕ → ℕ → List ℕ → List ℕ
placed new at old = take at old ++ (new ++ drop (at + length new) old)
