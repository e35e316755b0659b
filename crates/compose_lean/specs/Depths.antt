-- How deep the guarded steps of items stand.
use Rattle.std.specs.Prelude.{ℕ}
use Rattle.std.proofs.Math.Option.{Option, none, some}
use Rattle.paper.specs.Query.{Query}
use Rattle.paper.specs.Composition.{guard_depth}

abbrev pub depth_got : Option Query → ℕ
depth_got none = 0
depth_got (some q) = guard_depth q
