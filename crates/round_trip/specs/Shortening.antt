-- docs/SCOPE.md, "Short text": what the two forms of a text have to do with each other.
use Rattle.std.specs.Prelude.{ℕ, ◌≤◌, ◌≡◌, Bool, List, length}
use Rattle.paper.specs.Query.{Query}
use Rattle.paper.specs.Measures.{nesting}
use Rattle.paper.specs.Printing.{long_form, short_form, pieces, printed, most_open}
use Rattle.paper.specs.Answers.{value, print_answer}

-- THE SHORT TEXT IS NEVER LONGER than the long one, with any names.
abbrev pub NeverLonger : Type 0
NeverLonger = (names : List (List ℕ)) (q : Query) → length (printed short_form names q) ≤ length (printed long_form names q)

-- So where the long form is printed, the short form is, in the same room, with no more bytes.
abbrev pub ShorterAnswer : Type 0
ShorterAnswer =
    (query list : List ℕ) (room n : ℕ) → print_answer long_form query list room ≡ value n →
    (m : ℕ) × (print_answer short_form query list room ≡ value m) × (m ≤ n)

-- NESTING IS THE SAME: in either form as many brackets are open at once as the query is nested.
abbrev pub SameNesting : Type 0
SameNesting = (brief : Bool) (q : Query) → most_open 0 (pieces brief q) ≡ nesting q
