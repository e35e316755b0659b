-- What the parts of the gateway promise: the views counted, the list judged.
use Rattle.std.specs.Prelude.{ℕ, suc, cond, List, length}
use Rattle.paper.specs.Tools.{when}
use Rattle.paper.specs.Limits.{list_limit}
use Rattle.paper.specs.Names.{names_fault}
use Rattle.paper.specs.Answers.{Answer, value, line, too_long}
use Rattle.paper.specs.Roles.{view_limit, views_of, unended}

-- The number of views; one more than there may be where no LF ends the last.
abbrev pub views_counted : List ℕ → ℕ
views_counted views = cond (unended views) (suc view_limit) (length (views_of views))

-- What judging the list alone answers: 1, 2, and otherwise the one item of `/`.
abbrev pub list_answer : List ℕ → Answer
list_answer list = line 1 (when (too_long list list_limit) 0) (line 2 (names_fault list) (value 1))
