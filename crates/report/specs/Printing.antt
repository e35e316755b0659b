-- What the printing programs print, by the way of composing: with `false` it is what docs/SCOPE.md asks of the printing program (`program_prints`), with `true` the same of the lean composition.
use Rattle.std.specs.Prelude.{ℕ, Bool, true, List}
use Rattle.paper.specs.Program.{first_line, after_line, unless_refused, input_answer}
use Rattle.text_report.specs.Texts.{texts_print_by}

-- What is printed of an input.
unfoldable pub program_prints_by : Bool → List ℕ → List ℕ
program_prints_by lean input =
    unless_refused "input" (input_answer input)
    (texts_print_by lean (first_line input) (first_line (after_line input)) (after_line (after_line input)))

-- WHAT THE PROGRAM PRINTS WITH `--lean`.
unfoldable pub lean_prints : List ℕ → List ℕ
lean_prints input = program_prints_by true input
