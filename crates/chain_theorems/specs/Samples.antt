-- 02, 2026-09: three views in a row on 01's table, by computation. Neither grouping is refused, and both leave the marks of the three runs in turn.
use Rattle.std.specs.Prelude.{ℕ, Bool, ◌&&◌, List, [], ◌∷◌, T, length, replicate}
use Prim.Native.String.{String}
use Rattle.paper.specs.Tools.{same}
use Rattle.paper.specs.Names.{names_fault, names_of, bad_line}
use Rattle.paper.specs.Tokens.{tokens, token_at}
use Rattle.paper.specs.Reading.{read_text, read_tail, read_tested, read_step, read_operand, read_term, read_expr, read_path}
use Rattle.paper.specs.Items.{path_at, step_at, encode, decode, take_operand, take_term, take_expr}
use Rattle.paper.specs.Measures.{size, nesting, height}
use Rattle.paper.specs.Document.{over, good_node, table_fault, good_mark, marks_fault}
use Rattle.paper.specs.Selection.{reaches, selects, keeps, kept}
use Rattle.paper.specs.Composition.{reversed, selected_by, visible, last_step, composed_path, composed}
use Rattle.paper.specs.Answers.{read_answer, read_out, read_items, compose_answer, compose_out, run_answer, run_marks}
use Rattle.paper.specs.Samples.{table, items_of, joined_items, marks_of, marks}

-- The items of A with (B with C), and of (A with B) with C.
abbrev pub last_two : String → String → String → List ℕ
last_two a b c = joined_items (items_of a) (joined_items (items_of b) (items_of c))

abbrev pub first_two : String → String → String → List ℕ
first_two a b c = joined_items (joined_items (items_of a) (items_of b)) (items_of c)

-- The marks of the items run inside marks, and of the three runs in turn.
abbrev pub marks_inside : List ℕ → List ℕ → List ℕ
marks_inside query given = run_marks query table given (replicate 7 7) 1000

abbrev pub in_turn : String → String → String → List ℕ
in_turn a b c = marks_inside (items_of a) (marks_inside (items_of b) (marks_of (items_of c)))

-- Do both groupings have so many items, and leave these marks, as the runs in turn do?
abbrev pub grouped : String → String → String → List ℕ → List ℕ → Bool
grouped a b c sizes expected =
    same (length (last_two a b c) ∷ length (first_two a b c) ∷ []) sizes && same (in_turn a b c) expected && same (marks_of (last_two a b c)) expected &&
    same (marks_of (first_two a b c)) expected

abbrev pub chains : Bool
chains =
    grouped "/" "/a" "/a/b/d" (42 ∷ 42 ∷ []) (marks "1100011") &&
    grouped "/." "/a[not(..)]" "/" (37 ∷ 37 ∷ []) (marks "0000000") &&
    grouped "/ancestor-or-self::node()" "//c" "/a/b" (60 ∷ 41 ∷ []) (marks "1111100")

-- All of this holds, by computation.
pub chains_hold : T chains
unfolding height over good_node table_fault good_mark marks_fault reaches selects keeps kept run_answer run_marks read_answer read_out read_items compose_answer compose_out names_fault names_of bad_line tokens token_at read_text read_tail read_tested read_step read_operand read_term read_expr read_path path_at step_at encode decode take_operand take_term take_expr size nesting reversed selected_by visible last_step composed_path composed
chains_hold = tt
