-- What putting a text promises: its bytes are put escaped, with the `]` at the end of what is written counted.
use Rattle.std.specs.Prelude.{ℕ, ◌≡◌, List}
use Rattle.paper.specs.WriteXml.{squares_past, escaped}
use Rattle.pen.specs.Putting.{Puts}

pub record PutsText (bytes : List ℕ) (k pen : ℕ) (old new : List ℕ) (next squares : ℕ) : Type 0 where
  pub puts : Puts (escaped k bytes) pen old new next
  pub counts : squares ≡ squares_past k bytes
