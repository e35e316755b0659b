-- Bytes that are looked at several at a time.
use Rattle.std.specs.Prelude.{ℕ, ◌+◌, ◌*◌, ◌≤◌, ◌<◌, ◌≡◌, Bool, true, cond, ltb}
use mir.Val.{bool_byte}

-- So many bytes are looked at together.
abbrev pub block : ℕ
block = 16

-- The first n of a row fit.
abbrev pub AllFit : (ℕ → Bool) → ℕ → Type 0
AllFit set n = (i : ℕ) → i < n → set i ≡ true

-- The first place that does not fit, with one place more looked at, which counts as past the block if it fits.
abbrev pub soonest : ℕ → ℕ → Bool → ℕ
soonest stop i fit = let here = bool_byte fit * block + i in cond (ltb here stop) here stop

-- It lies not behind `stop`, nor behind `i` if that one does not fit.
pub record Sooner (stop i : ℕ) (fit : Bool) (r : ℕ) : Type 0 where
  pub most : r ≤ stop
  pub fits : i < r → fit ≡ true
  pub is : r ≡ soonest stop i fit
