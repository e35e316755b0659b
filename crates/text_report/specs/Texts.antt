-- What is printed of the texts of the outer and the inner query, by the way of composing.
use Rattle.std.specs.Prelude.{ℕ, Bool, List}
use Rattle.paper.specs.Limits.{item_limit}
use Rattle.paper.specs.Answers.{read_answer, read_items}
use Rattle.paper.specs.Program.{unless_refused}
use Rattle.query_report.specs.Ways.{queries_print_by}

unfoldable pub texts_print_by : Bool → List ℕ → List ℕ → List ℕ → List ℕ
texts_print_by lean outer inner list =
    unless_refused "outer" (read_answer outer 1 list item_limit)
    (unless_refused "inner" (read_answer inner 1 list item_limit) (queries_print_by lean (read_items outer 1 list) (read_items inner 1 list) list))
