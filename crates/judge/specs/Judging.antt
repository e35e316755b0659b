-- How what is lent for a run is judged.
use Rattle.std.specs.Prelude.{ℕ, not, ◌||◌, List, eqb, ltb, length}
use Rattle.paper.specs.Tools.{when}
use Rattle.paper.specs.Limits.{item_limit, node_limit}
use Rattle.paper.specs.Document.{Table, nodes, table_fault, marks_fault}
use Rattle.paper.specs.Items.{decode}
use Rattle.paper.specs.Measures.{height}
use Rattle.paper.specs.Answers.{Answer, value, line, line_query, too_long}

-- What refuses a run but short scratch, and otherwise the height of the query: 1, 6, 7, 8.
unfoldable pub judged : List ℕ → Table → List ℕ → ℕ → Answer
judged query t given marks_room =
    line 1
    (when
    (too_long query item_limit || ltb node_limit (nodes t) || not (eqb (length t.kinds) (nodes t)) || not (eqb (length given) (nodes t)) || not (eqb marks_room (nodes t)))
    0)
    (line_query 6 0 (decode query) (λ q. line 7 (table_fault t) (line 8 (marks_fault t given) (value (height q)))))
