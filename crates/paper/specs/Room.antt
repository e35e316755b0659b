-- 02, 2026-10: how much scratch to lend for a run of a composition, and the heights and path counts that tell it before composing.
use Rattle.std.specs.Prelude.{ℕ, ◌+◌, ◌*◌, max, Bool, ◌||◌, List, eqb, ltb, length}
use Rattle.paper.specs.Tools.{when}
use Rattle.paper.specs.Limits.{item_limit, node_limit}
use Rattle.paper.specs.Query.{Query, paths}
use Rattle.paper.specs.Items.{decode}
use Rattle.paper.specs.Measures.{height}
use Rattle.paper.specs.Answers.{Answer, value, line, line_query, too_long}

-- A query in memory measured: 1, 6; it answers the measure.
unfoldable pub measure_answer : (Query → ℕ) → List ℕ → Answer
measure_answer measure query = line 1 (when (too_long query item_limit) 0) (line_query 6 0 (decode query) (λ q. value (measure q)))

-- HEIGHT and PATHS of a query in memory.
abbrev pub height_answer : List ℕ → Answer
height_answer query = measure_answer height query

abbrev pub path_count : Query → ℕ
path_count q = length (paths q)

abbrev pub paths_answer : List ℕ → Answer
paths_answer query = measure_answer path_count query

-- The bound on the composed height: the outer height, plus the larger of 3 and the inner height, plus the number of inner paths, plus 1.
abbrev pub height_bound : ℕ → ℕ → ℕ → ℕ
height_bound outer_height inner_height inner_paths = outer_height + max 3 inner_height + inner_paths + 1

-- 01's rule for a run with this bound as the height.
abbrev pub scratch_bytes : ℕ → ℕ → ℕ → ℕ → ℕ
scratch_bytes count outer_height inner_height inner_paths = count * 2 * (height_bound outer_height inner_height inner_paths + 1)

-- A number that is 0 or over its limit.
abbrev pub outside : ℕ → ℕ → Bool
outside limit n = eqb n 0 || ltb limit n

-- SCRATCH: 1 where the node count, a height or a path count is 0 or over 4,096; it answers the bytes.
unfoldable pub scratch_answer : ℕ → ℕ → ℕ → ℕ → ℕ → Answer
scratch_answer count outer_height outer_paths inner_height inner_paths =
    line 1
    (when
    (outside node_limit count || outside item_limit outer_height || outside item_limit outer_paths || outside item_limit inner_height || outside item_limit inner_paths)
    0)
    (value (scratch_bytes count outer_height inner_height inner_paths))
