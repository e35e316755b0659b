-- The nesting that the shape of items says, and that of items which are no query. Assumes nothing.
use Prim.Native.Nat.{ℕ}
use mathlib.Core.Path.{◌≡◌, sym, ◌∙◌, ap}
use mathlib.Core.Option.{Option}
use Rattle.std.specs.Prelude.{Some, None}
use Rattle.paper.specs.Query.{Query}
use Rattle.paper.specs.Program.{nesting_got}
use Rattle.shape.specs.Walks.{shape_of}
use Rattle.shape.specs.declared.Shape.{Shape}
use Rattle.shape.proofs.Shaping.{shaped_none, shaped_some}

pub shape_nesting : (o : Option Query) (found : Shape) → Some found ≡ shape_of o → found.nesting ≡ nesting_got o
shape_nesting o found h = let q = shaped_some o found h in q.nests ∙ ap nesting_got (sym q.decodes)

pub shape_nothing : (o : Option Query) → None ≡ shape_of o → ◌≡◌ {A = ℕ} 0 (nesting_got o)
shape_nothing o h = ap nesting_got (sym (shaped_none o h))
