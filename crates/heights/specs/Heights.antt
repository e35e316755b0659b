-- Heights of parts that are joined, and the brackets open at a step.
use Rattle.std.specs.Prelude.{ℕ, zero, suc, ◌+◌, ◌-◌, max}
use Rattle.paper.specs.Limits.{bracket_limit}

-- How many brackets are open where so many more may be opened.
unfoldable pub opened : ℕ → ℕ
opened depth = bracket_limit - depth

-- The height of a part joined to what was read before it, whose height is 0 where nothing was.
abbrev pub joined_height : ℕ → ℕ → ℕ
joined_height zero height = height
joined_height (suc high) height = 1 + max (suc high) height
