-- What putting promises: bytes are put from a place on as far as the room goes, and the place moves on by all of them.
use Rattle.std.specs.Prelude.{ℕ, ◌+◌, ◌≡◌, cond, List, [], ltb, length}
use Rattle.std.proofs.lemmas.List.Edits.{sets}

-- The text is put from `pen` on; what does not fit is only counted. With no room this is a count, with room enough the text stands there.
pub record Puts (text : List ℕ) (pen : ℕ) (old new : List ℕ) (next : ℕ) : Type 0 where
  pub moved : next ≡ pen + length text
  pub wrote : new ≡ sets old pen text

-- A sign, where something is left to print after it.
abbrev pub between : List ℕ → ℕ → List ℕ
between sign left = cond (ltb 0 left) sign []
