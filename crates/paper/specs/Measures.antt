-- docs/SCOPE.md, "The query in memory": size, nesting and height.
use Rattle.std.specs.Prelude.{ℕ, ◌+◌, max, Bool, true, false, ◌||◌, List, [], ◌∷◌}
use Rattle.paper.specs.Query.{Expr, path, both, either, negated, Steps, stop, step, Preds, bare, pred, Query, paths}

-- Size is the number of items.
abbrev mutual
  pub size_expr : Expr → ℕ
  size_expr (path steps) = 1 + size_steps steps
  size_expr (both a b) = 1 + (size_expr a + size_expr b)
  size_expr (either a b) = 1 + (size_expr a + size_expr b)
  size_expr (negated a) = 1 + size_expr a

  pub size_steps : Steps → ℕ
  size_steps stop = 0
  size_steps (step a t ps rest) = 1 + (size_preds ps + size_steps rest)

  pub size_preds : Preds → ℕ
  size_preds bare = 0
  size_preds (pred e ps) = size_expr e + size_preds ps

abbrev pub size_paths : List Steps → ℕ
size_paths [] = 0
size_paths (p ∷ ps) = size_expr (path p) + size_paths ps

unfoldable pub size : Query → ℕ
size q = size_paths (paths q)

-- Which operator an expression is.
abbrev pub is_and : Expr → Bool
is_and (path steps) = false
is_and (both a b) = true
is_and (either a b) = false
is_and (negated a) = false

abbrev pub is_or : Expr → Bool
is_or (path steps) = false
is_or (both a b) = false
is_or (either a b) = true
is_or (negated a) = false

-- Round brackets stand around an `or` left or right of `and`, an `and` right of `and`, an `or` right of `or`, and nothing else.
abbrev pub round_left_of_and : Expr → Bool
round_left_of_and e = is_or e

abbrev pub round_right_of_and : Expr → Bool
round_right_of_and e = is_or e || is_and e

abbrev pub round_right_of_or : Expr → Bool
round_right_of_or e = is_or e

-- One bracket more, where it is printed.
abbrev pub in_brackets : Bool → ℕ → ℕ
in_brackets true n = 1 + n
in_brackets false n = n

-- Nesting is the most `[`, `(` and `not(` open at once in the printed text.
abbrev mutual
  pub nest_expr : Expr → ℕ
  nest_expr (path steps) = nest_steps steps
  nest_expr (both a b) = max (in_brackets (round_left_of_and a) (nest_expr a)) (in_brackets (round_right_of_and b) (nest_expr b))
  nest_expr (either a b) = max (nest_expr a) (in_brackets (round_right_of_or b) (nest_expr b))
  nest_expr (negated a) = 1 + nest_expr a

  pub nest_steps : Steps → ℕ
  nest_steps stop = 0
  nest_steps (step a t ps rest) = max (nest_preds ps) (nest_steps rest)

  pub nest_preds : Preds → ℕ
  nest_preds bare = 0
  nest_preds (pred e ps) = max (1 + nest_expr e) (nest_preds ps)

abbrev pub nest_paths : List Steps → ℕ
nest_paths [] = 0
nest_paths (p ∷ ps) = max (nest_steps p) (nest_paths ps)

unfoldable pub nesting : Query → ℕ
nesting q = nest_paths (paths q)

-- Height of a path is 1 + the greatest height of its predicates (0 if none); of `not`, `and`, `or` it is 1 + the greatest below.
abbrev mutual
  pub height_expr : Expr → ℕ
  height_expr (path steps) = 1 + height_steps steps
  height_expr (both a b) = 1 + max (height_expr a) (height_expr b)
  height_expr (either a b) = 1 + max (height_expr a) (height_expr b)
  height_expr (negated a) = 1 + height_expr a

  pub height_steps : Steps → ℕ
  height_steps stop = 0
  height_steps (step a t ps rest) = max (height_preds ps) (height_steps rest)

  pub height_preds : Preds → ℕ
  height_preds bare = 0
  height_preds (pred e ps) = max (height_expr e) (height_preds ps)

abbrev pub height_paths : List Steps → ℕ
height_paths [] = 0
height_paths (p ∷ ps) = max (height_expr (path p)) (height_paths ps)

-- Height of a query is the greatest of its paths.
unfoldable pub height : Query → ℕ
height q = height_paths (paths q)
