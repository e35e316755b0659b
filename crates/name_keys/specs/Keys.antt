-- What the lines before one say, and their keys.
use Rattle.std.specs.Prelude.{ℕ, zero, suc, ◌+◌, ◌-◌, ◌*◌, ◌<◌, ◌≡◌, List, [], ◌∷◌, length, get_or}
use Rattle.name_lines.specs.Lines.{said}

-- What the first `count` lines say, the last first.
abbrev pub earlier : List ℕ → List ℕ → ℕ → List (List ℕ)
earlier list starts zero = []
earlier list starts (suc count) = said list starts count ∷ earlier list starts count

-- The key of a line: its length and its first and last byte in one number, below 65,536 for a line that is no longer than a name may be.
abbrev pub key_of : List ℕ → ℕ
key_of line = length line * 256 + get_or line 0 0 + get_or line (length line - 1) 0 * 191

-- The keys are those of the first `count` lines.
abbrev pub Keyed : List ℕ → List ℕ → List ℕ → ℕ → Type 0
Keyed list starts keys count = (v : ℕ) → v < count → get_or keys v 0 ≡ key_of (said list starts v)
