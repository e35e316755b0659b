-- An answer fits in 32 bits: its value, or its place.
use Rattle.std.specs.Prelude.{◌<◌}
use Rattle.paper.specs.Answers.{Answer, value, refusal}

-- The value, or the place, is below 2^32.
abbrev pub Small : Answer → Type 0
Small (value n) = n < 4294967296
Small (refusal number place) = place < 4294967296
