-- The two ways of composing, with `true` the lean one, and what is printed of two queries by each.
use Rattle.std.specs.Prelude.{ℕ, Bool, true, false, List}
use Rattle.std.proofs.Math.Option.{Option}
use Rattle.paper.specs.Limits.{item_limit}
use Rattle.paper.specs.Query.{Query}
use Rattle.paper.specs.Items.{decode}
use Rattle.paper.specs.Answers.{Answer, made_got, composed_got, compose_answer, compose_out}
use Rattle.paper.specs.Lean.{composed_lean, compose_lean_answer, compose_lean_out}
use Rattle.paper.specs.Program.{unless_refused, query_prints}

abbrev pub way_answer : Bool → List ℕ → List ℕ → ℕ → Answer
way_answer true outer inner room = compose_lean_answer outer inner room
way_answer false outer inner room = compose_answer outer inner room

abbrev pub way_out : Bool → List ℕ → List ℕ → List ℕ → List ℕ
way_out true outer inner out = compose_lean_out outer inner out
way_out false outer inner out = compose_out outer inner out

abbrev pub way_got : Bool → Option Query → Option Query → List ℕ
way_got true o i = made_got composed_lean o i
way_got false o i = composed_got o i

-- What is printed of the outer and the inner query.
unfoldable pub queries_print_by : Bool → List ℕ → List ℕ → List ℕ → List ℕ
queries_print_by lean outer inner list =
    unless_refused "compose" (way_answer lean outer inner item_limit) (query_prints (way_got lean (decode outer) (decode inner)) list)
