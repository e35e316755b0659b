-- An answer in numbers: the number and the place of a refusal, and as one number for C the value, or the refusal number times 2^32 plus the place.
use Rattle.std.specs.Prelude.{ℕ, ◌+◌, ◌*◌, ◌%◌}
use Rattle.paper.specs.Answers.{Answer, value, refusal}

-- The number of a refusal, and its place.
abbrev pub number_told : Answer → ℕ
number_told (value n) = 0
number_told (refusal number place) = number

abbrev pub place_told : Answer → ℕ
place_told (value n) = 0
place_told (refusal number place) = place

-- 2^32.
abbrev pub high : ℕ
high = 4294967296

abbrev pub code_of : Answer → ℕ
code_of (value n) = n
code_of (refusal number place) = number * high + place

-- The same with the lowest 32 bits of any place.
abbrev pub cut_code : Answer → ℕ
cut_code (value n) = n
cut_code (refusal number place) = number * high + place % high
