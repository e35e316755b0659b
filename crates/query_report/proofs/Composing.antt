-- What an accepted composition answers and writes, in either way of composing. Assumes nothing.
use Prim.Native.Nat.{ℕ}
use mathlib.Core.Path.{◌≡◌}
use mathlib.Core.Bool.{Bool, true, false}
use mathlib.Core.List.{List}
use lib.ListN.{length}
use Rattle.paper.specs.Items.{decode}
use Rattle.paper.specs.Composition.{composed}
use Rattle.paper.specs.Answers.{value, compose_answer, compose_out}
use Rattle.paper.specs.Lean.{composed_lean, compose_lean_answer, compose_lean_out}
use Rattle.query_report.specs.Ways.{way_answer, way_out, way_got}
use Rattle.paper.proofs.Giving.{Gives, composing_gives}

-- There was room for the composition, and it stands at the start of what was lent.
pub compose_gives : (n : ℕ) (old out : List ℕ) (lean : Bool) (outer inner : List ℕ) → value n ≡ way_answer lean outer inner (length old) → out ≡ way_out lean outer inner old
    → Gives (way_got lean (decode outer) (decode inner)) n (length old) out
unfolding compose_answer compose_out compose_lean_answer compose_lean_out
compose_gives n old out true outer inner e w = composing_gives n old out composed_lean outer inner e w
compose_gives n old out false outer inner e w = composing_gives n old out composed outer inner e w
