-- What the shape of items says of the query that they are. Assumes nothing.
use Rattle.std.specs.Prelude.{Some, None, Ok, Err}
use Rattle.std.specs.Prelude.{Option as Shapes}
use Rattle.std.specs.Option.{ok_or}
use mathlib.Core.Path.{◌≡◌, refl}
use mathlib.Core.Option.{Option, none, some}
use Rattle.paper.specs.Query.{Query}
use Rattle.paper.specs.Measures.{nesting, height}
use Rattle.paper.specs.Composition.{guard_depth}
use Rattle.shape.specs.Walks.{shape_of}
use Rattle.shape.specs.declared.Shape.{Shape}

pub shaped_none : (o : Option Query) → None ≡ shape_of o → o ≡ none
shaped_none none h = refl
shaped_none (some q) h = absurd (cc)

-- A query and its measures.
pub record Shaped (o : Option Query) (s : Shape) : Type 0 where
  pub query : Query
  pub decodes : o ≡ some query
  pub nests : s.nesting ≡ nesting query
  pub heights : s.height ≡ height query
  pub guards : s.guards ≡ guard_depth query

pub shaped_some : (o : Option Query) (s : Shape) → Some s ≡ shape_of o → Shaped o s
shaped_some none s h = absurd (cc)
shaped_some (some q) s h = record { query = q; decodes = refl; nests = cc; heights = cc; guards = cc }

-- Items that are refused are no query, and the refusal is the one given.
pub shape_refused : {E : Type 0} (o : Option Query) (s : Shapes Shape) (given why : E) → s ≡ shape_of o → Err why ≡ ok_or s given → (o ≡ none) × (why ≡ given)
shape_refused o None given why e h = (shaped_none o e, cc)
shape_refused o (Some s) given why e h = absurd (cc)

-- Items that are not are a query of that shape.
pub shape_accepted : {E : Type 0} (o : Option Query) (s : Shapes Shape) (given : E) (found : Shape) → s ≡ shape_of o → Ok found ≡ ok_or s given → Shaped o found
shape_accepted o None given found e h = absurd (cc)
shape_accepted o (Some s) given found e h = shaped_some o found (let same : s ≡ found = cc in rw (← same) e)
