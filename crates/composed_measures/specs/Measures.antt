-- docs/SCOPE.md, demand 3: the size, the nesting and the height of a composition, and the scratch that a run of it needs. The proofs are in proofs/.
use Rattle.std.specs.Prelude.{◌+◌, ◌≤◌, max, ◌≡◌, length}
use Rattle.paper.specs.Query.{Query, paths}
use Rattle.paper.specs.Document.{Table, nodes}
use Rattle.paper.specs.Measures.{size, nesting, height}
use Rattle.paper.specs.Answers.{scratch_of}
use Rattle.paper.specs.Room.{path_count, scratch_bytes}
use Rattle.paper.specs.Composition.{composed, composed_size, composed_nesting}

-- SIZE, NESTING, HEIGHT: size and nesting of a composition are their formulas, 01's nesting bounds the latter, and the height has a bound.
abbrev pub Size : Type 0
Size = (outer inner : Query) → size (composed outer inner) ≡ composed_size outer inner

abbrev pub Nesting : Type 0
Nesting = (outer inner : Query) → nesting (composed outer inner) ≡ composed_nesting outer inner

abbrev pub NestingBound : Type 0
NestingBound = (outer inner : Query) → nesting (composed outer inner) ≤ nesting outer + 2 + max 2 (nesting inner)

abbrev pub Height : Type 0
Height = (outer inner : Query) → height (composed outer inner) ≤ height outer + max 3 (height inner) + length (paths inner) + 1

-- SCRATCH: a run of the composition needs no more than the bytes that 2026-10 tells of the two queries before composing.
abbrev pub ScratchEnough : Type 0
ScratchEnough =
    (t : Table) (outer inner : Query) → scratch_of t (composed outer inner) ≤ scratch_bytes (nodes t) (height outer) (height inner) (path_count inner)
