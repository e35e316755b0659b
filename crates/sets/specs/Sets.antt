-- Sets of nodes as bytes, one a node, 0 or 1.
use Rattle.std.specs.Prelude.{ℕ, Bool, cond, ◌&&◌, List}
use Rattle.paper.specs.Tools.{some_below, column}
use Rattle.paper.specs.Query.{Axis}
use Rattle.paper.specs.Document.{Table, nodes}
use Rattle.paper.specs.Selection.{leads}

-- The bytes of the set of all i below n that pass the test.
abbrev pub bits : ℕ → (ℕ → Bool) → List ℕ
bits n f = column n (λ i. cond (f i) 1 0)

-- The nodes to which the axis leads from a node of the set.
unfoldable pub image : Table → Axis → (ℕ → Bool) → ℕ → Bool
image t a f i = some_below (nodes t) (λ j. f j && leads t a j i)
