-- docs/SCOPE.md, "Samples on both sides": P1 to P12 by one table and one statement, then 01's samples of reading and of printing by another, and of the printing program by a third.
-- The tables go by the definitions of the entry points and of the program, and by texts.
use Rattle.std.specs.Prelude.{ℕ, zero, suc, ◌+◌, ◌*◌, ◌-◌, Bool, true, ◌&&◌, List, [], ◌∷◌, ◌++◌, map, T, replicate, take}
use Prim.Native.String.{String}
use Rattle.paper.specs.Tools.{ascii, same}
use Rattle.paper.specs.Names.{names_fault, names_of, bad_line}
use Rattle.paper.specs.Tokens.{tokens, token_at}
use Rattle.paper.specs.Reading.{read_text, read_tail, read_tested, read_step, read_operand, read_term, read_expr, read_path}
use Rattle.paper.specs.Items.{path_at, step_at, encode, decode, take_operand, take_term, take_expr}
use Rattle.paper.specs.Measures.{size, nesting, height}
use Rattle.paper.specs.Printing.{long_form, head_pieces, deepened, printed, pieces}
use Rattle.paper.specs.Document.{Table, over, good_node, table_fault, good_mark, marks_fault}
use Rattle.paper.specs.Selection.{reaches, selects, keeps, kept}
use Rattle.paper.specs.Composition.{reversed, selected_by, visible, last_step, composed_path, composed}
use Rattle.paper.specs.Program.{decimal, query_prints, queries_print, texts_print, program_prints}
use Rattle.paper.specs.Answers.{Answer, value, refusal, read_answer, read_out, read_items, compose_answer, compose_out, run_answer, run_marks, print_answer, print_out}
use Rattle.paper.specs.Room.{measure_answer, height_answer, paths_answer, scratch_answer}

-- The names a b c d, and the table.
abbrev pub names : List ℕ
names = ascii "a\nb\nc\nd\n"

abbrev pub table : Table
table = record { parents = 0 ∷ 0 ∷ 1 ∷ 2 ∷ 3 ∷ 1 ∷ 5 ∷ []; kinds = 0 ∷ 2 ∷ 3 ∷ 4 ∷ 1 ∷ 3 ∷ 5 ∷ [] }

-- What a slice of 100 holds after a call that answers so, up to the answer's count.
abbrev pub counted : Answer → List ℕ → List ℕ
counted (value n) out = take n out
counted (refusal number place) out = []

abbrev pub blank : List ℕ
blank = replicate 100 7

-- The items of a text, those of a composition, and the marks that a run writes where all given marks are 1.
abbrev pub items_of : String → List ℕ
items_of text = counted (read_answer (ascii text) 1 names 100) (read_out (ascii text) 1 names blank)

abbrev pub joined_items : List ℕ → List ℕ → List ℕ
joined_items outer inner = counted (compose_answer outer inner 100) (compose_out outer inner blank)

abbrev pub marks_of : List ℕ → List ℕ
marks_of query = run_marks query table (replicate 7 1) (replicate 7 7) 1000

-- What a row asks of its two queries: the marks of the outer alone, those of the composition, or what composing answers.
pub data Question : Type 0 where
  alone through sized : Question

-- What composing answers, as a list of one number.
abbrev pub size_given : Answer → List ℕ
size_given (value n) = n ∷ []
size_given (refusal number place) = []

abbrev pub answered : Question → String → String → List ℕ
answered alone outer inner = marks_of (items_of outer)
answered through outer inner = marks_of (joined_items (items_of outer) (items_of inner))
answered sized outer inner = size_given (compose_answer (items_of outer) (items_of inner) 100)

-- A row: a question, the outer and the inner text, and the answer expected.
pub record Row : Type 0 where
  pub asks : Question
  pub outer : String
  pub inner : String
  pub expected : List ℕ

-- Does the row hold?
abbrev pub row_holds : Row → Bool
row_holds r = same (answered r.asks r.outer r.inner) r.expected

abbrev pub all_rows : List Row → Bool
all_rows [] = true
all_rows (r ∷ rs) = row_holds r && all_rows rs

-- Marks from their digits.
abbrev pub marks : String → List ℕ
marks s = map (λ d. d - 48) (ascii s)

abbrev row : Question → String → String → List ℕ → Row
row asks outer inner expected = record { asks = asks; outer = outer; inner = inner; expected = expected }

-- P1 to P12.
abbrev pub rows : List Row
rows =
    row alone "/" "" (marks "1111111") ∷
    row alone "/b" "" (marks "0000000") ∷
    row alone "/a/b[c]" "" (marks "1111100") ∷
    row alone "/a/b[not(c)]" "" (marks "1100011") ∷
    row alone "//text()" "" (marks "1111100") ∷
    row alone "//d/../.." "" (marks "1111111") ∷
    row alone "/.." "" (marks "0000000") ∷
    row through "/a[not(b/c)]" "/a/b/d" (marks "1100011") ∷
    row through "/" "/a/b/d" (marks "1100011") ∷
    row through "/" "/b" (marks "0000000") ∷
    row sized "/" "/" (9 ∷ []) ∷
    row sized "//a" "/b|/c" (81 ∷ []) ∷
    []

-- Every row holds, by computation.
pub rows_hold : T (all_rows rows)
unfolding read_answer read_out read_items compose_answer compose_out run_answer run_marks names_fault names_of bad_line tokens token_at read_text read_tail read_tested read_step read_operand read_term read_expr read_path path_at step_at encode decode take_operand take_term take_expr size nesting height over good_node table_fault good_mark marks_fault reaches selects keeps kept reversed selected_by visible last_step composed_path composed
rows_hold = tt

-- An answer as numbers: the value, or refusal number and place.
abbrev pub numbers : Answer → List ℕ
numbers (value n) = n ∷ []
numbers (refusal number place) = number ∷ place ∷ []

-- So many round brackets around b, in a predicate.
abbrev pub bracketed : ℕ → List ℕ
bracketed n = ascii "/a[" ++ replicate n 40 ++ ascii "b" ++ replicate n 41 ++ ascii "]"

-- What the printing program prints first of two texts and a list.
abbrev pub room : List ℕ
room = replicate 400 7

abbrev pub printed_in : Bool → List ℕ → List ℕ → List ℕ
printed_in brief list query = counted (print_answer brief query list 400) (print_out brief query list room)

abbrev pub printed_items : List ℕ → List ℕ → List ℕ
printed_items list query = printed_in long_form list query

abbrev pub composed_text : String → String → String → List ℕ
composed_text list outer inner =
    let items : String → List ℕ = λ text. counted (read_answer (ascii text) 1 (ascii list) 100) (read_out (ascii text) 1 (ascii list) blank) in
    printed_items (ascii list) (joined_items (items outer) (items inner))

-- Does reading the text by version 1, with the names a b c d, answer so?
abbrev pub reads : List ℕ → List ℕ → Bool
reads text expected = same (numbers (read_answer text 1 names 100)) expected

-- 01's texts, each with its answer, and the printed sample.
abbrev pub texts_read : Bool
texts_read =
    reads (ascii "") (3 ∷ 0 ∷ []) &&
    reads (ascii "//") (3 ∷ 2 ∷ []) &&
    reads (ascii "/.[a]") (3 ∷ 2 ∷ []) &&
    reads (ascii "/a[/b]") (3 ∷ 3 ∷ []) &&
    reads (ascii "/a[b|c]") (3 ∷ 4 ∷ []) &&
    reads (ascii "/a[(b)/c]") (3 ∷ 6 ∷ []) &&
    reads (ascii "/a/preceding::b") (3 ∷ []) &&
    reads (ascii "/a/attribute::b") (3 ∷ 12 ∷ []) &&
    reads (ascii "/e") (5 ∷ 1 ∷ []) &&
    reads (bracketed 63) (4 ∷ []) &&
    reads (bracketed 64) (4 ∷ 66 ∷ []) &&
    reads (ascii "/ and") (5 ∷ 2 ∷ []) &&
    reads (ascii "/a and") (3 ∷ 3 ∷ []) &&
    reads (ascii "/a[not(b) or not]") (5 ∷ 13 ∷ []) &&
    reads (ascii "/a\t| \n/b [ c ]") (6 ∷ []) &&
    reads (ascii "/a\r\n| /b\r[\rc ]\r") (6 ∷ []) &&
    reads (ascii "/a\r\n/b\n/\r\n/c") (3 ∷ 10 ∷ [])

abbrev pub text_printed : Bool
text_printed =
    same (composed_text "a\nb\n" "/a" "/b")
    (ascii "/child::a[descendant-or-self::node()[self::b/parent::node()[not(parent::node())]] or ancestor-or-self::node()[self::b/parent::node()[not(parent::node())]]]/descendant-or-self::node()[ancestor-or-self::node()[self::b/parent::node()[not(parent::node())]]]")

-- `*` selects neither the root nor text.
abbrev pub star_rows : List Row
star_rows =
    row alone "/self::*" "" (marks "0000000") ∷
    row alone "//c/*" "" (marks "0000000") ∷
    row alone "/*" "" (marks "1111111") ∷
    []

-- All of this holds, by computation.
pub texts_hold : T (texts_read && text_printed && all_rows star_rows)
unfolding height over good_node table_fault good_mark marks_fault reaches selects keeps kept run_answer run_marks read_answer read_out read_items compose_answer compose_out print_answer print_out head_pieces deepened printed pieces names_fault names_of bad_line tokens token_at read_text read_tail read_tested read_step read_operand read_term read_expr read_path path_at step_at encode decode take_operand take_term take_expr size nesting reversed selected_by visible last_step composed_path composed
texts_hold = tt

-- Steps along self, parent and ancestor-or-self lead from visible nodes to visible nodes, and get no V: what such compositions keep, and how many items they have.
abbrev pub guard_rows : List Row
guard_rows =
    row through "/." "/b" (marks "0000000") ∷
    row through "/." "/a/b/d" (marks "1100011") ∷
    row through "//d/ancestor-or-self::b" "/a/b/c" (marks "0000000") ∷
    row through "//text()/../.." "/a/b/c" (marks "1111100") ∷
    row through "/a/b[not(d)]/ancestor-or-self::a" "/a/b/c" (marks "1111100") ∷
    row sized "/." "/b" (11 ∷ []) ∷
    row sized "/.." "/b" (11 ∷ []) ∷
    row sized "/ancestor-or-self::a" "/b" (11 ∷ []) ∷
    row sized "/a" "/b" (28 ∷ []) ∷
    row sized "//." "/b" (29 ∷ []) ∷
    row sized "/a[../b]" "/b" (48 ∷ []) ∷
    []

-- The axes of 02, 2026-06, on this table: descendant and ancestor leave the node itself out, the root has no sibling and is none of its child's, what is below a node does not follow it, and what is above it does not precede it.
abbrev pub axis_rows : List Row
axis_rows =
    row alone "/descendant::c" "" (marks "1111100") ∷
    row alone "/descendant::node()[not(..)]" "" (marks "0000000") ∷
    row alone "//b/descendant::b" "" (marks "0000000") ∷
    row alone "//d/ancestor::b" "" (marks "1100011") ∷
    row alone "//c/ancestor::c" "" (marks "0000000") ∷
    row alone "/a/ancestor::node()" "" (marks "1111111") ∷
    row alone "/a/b/following-sibling::b" "" (marks "1100011") ∷
    row alone "//c/following-sibling::node()" "" (marks "0000000") ∷
    row alone "/following-sibling::node()|/a/following-sibling::node()" "" (marks "0000000") ∷
    row alone "/a/b/preceding-sibling::b" "" (marks "1111100") ∷
    row alone "//d/preceding-sibling::node()" "" (marks "0000000") ∷
    row alone "/preceding-sibling::node()|/a/preceding-sibling::node()" "" (marks "0000000") ∷
    row alone "//c/following::node()" "" (marks "1100011") ∷
    row alone "//text()/following::d" "" (marks "1100011") ∷
    row alone "/following::node()|/a/following::node()|//c/following::text()|//d/following::node()" "" (marks "0000000") ∷
    row alone "//d/preceding::text()" "" (marks "1111100") ∷
    row alone "/a/b/preceding::c" "" (marks "1111100") ∷
    row alone "/preceding::node()|/a/preceding::node()|//d/preceding::a|//c/preceding::node()" "" (marks "0000000") ∷
    row alone "//b[following::d and not(preceding::c)]" "" (marks "1111100") ∷
    row through "/" "/descendant::d" (marks "1100011") ∷
    row through "/" "//text()/ancestor::c" (marks "1111100") ∷
    row through "/" "//b/following-sibling::b" (marks "1100011") ∷
    row through "/" "//b/preceding-sibling::b" (marks "1111100") ∷
    row through "/" "//c/following::d" (marks "1100011") ∷
    row through "/" "//d/preceding::c" (marks "1111100") ∷
    row through "/a[not(descendant::c)]" "/a/b/d" (marks "1100011") ∷
    row through "/a/b[not(preceding-sibling::b)]" "/a/b/d" (marks "1100011") ∷
    row through "/a/b[not(following-sibling::b)]" "/a/b/c" (marks "1111100") ∷
    row through "//d[not(preceding::c)]" "/a/b/d" (marks "1100011") ∷
    row through "//c[not(following::d)]" "/a/b/c" (marks "1111100") ∷
    row through "//d/ancestor::b" "/a/b/d" (marks "1100011") ∷
    row sized "/descendant::a" "/b" (28 ∷ []) ∷
    row sized "/ancestor::a" "/b" (11 ∷ []) ∷
    row sized "/following-sibling::a" "/b" (28 ∷ []) ∷
    row sized "/preceding-sibling::a" "/b" (28 ∷ []) ∷
    row sized "/following::a" "/b" (28 ∷ []) ∷
    row sized "/preceding::a" "/b" (28 ∷ []) ∷
    []

-- A path of one step along the axis of this number, with `node()`, printed.
abbrev pub along_number : ℕ → List ℕ
along_number axis = printed_items names (8 ∷ (1 + axis * 8) ∷ [])

-- What printing the items answers.
abbrev pub prints_items : List ℕ → List ℕ → Bool
prints_items query expected = same (numbers (print_answer long_form query names 400)) expected

-- Each number of the six has its word, `[8, 73]` among them, and a number over 10 has none.
abbrev pub axis_words : Bool
axis_words =
    same (along_number 5) (ascii "/descendant::node()") &&
    same (along_number 6) (ascii "/ancestor::node()") &&
    same (along_number 7) (ascii "/following-sibling::node()") &&
    same (along_number 8) (ascii "/preceding-sibling::node()") &&
    same (printed_items names (8 ∷ 73 ∷ [])) (ascii "/following::node()") &&
    same (along_number 10) (ascii "/preceding::node()") &&
    prints_items (8 ∷ (1 + 11 * 8) ∷ []) (6 ∷ 0 ∷ []) &&
    prints_items (8 ∷ (1 + 15 * 8) ∷ []) (6 ∷ 0 ∷ [])

-- All of this holds, by computation.
pub axes_hold : T (all_rows axis_rows && axis_words)
unfolding height over good_node table_fault good_mark marks_fault reaches selects keeps kept run_answer run_marks read_answer read_out read_items compose_answer compose_out print_answer print_out head_pieces deepened printed pieces names_fault names_of bad_line tokens token_at read_text read_tail read_tested read_step read_operand read_term read_expr read_path path_at step_at encode decode take_operand take_term take_expr size nesting reversed selected_by visible last_step composed_path composed
axes_hold = tt

-- So many `not(` around a text.
abbrev pub denied_times : ℕ → List ℕ → List ℕ
denied_times zero text = text
denied_times (suc n) text = ascii "not(" ++ denied_times n text ++ ascii ")"

abbrev pub denied : ℕ → List ℕ
denied n = denied_times n (ascii "b")

-- What composing an outer text with `/b` answers.
abbrev pub on_b : List ℕ → List ℕ
on_b outer = numbers (compose_answer (counted (read_answer outer 1 names 100) (read_out outer 1 names blank)) (items_of "/b") 200)

-- Nesting 64 by steps that get no guard is accepted, and 61 is refused where a guarded step stands in the deepest bracket; a guarded step further out counts where it stands.
abbrev pub nestings : Bool
nestings =
    same (on_b (ascii "/self::a[" ++ denied_times 63 (ascii ".") ++ ascii "]")) (76 ∷ []) &&
    same (on_b (ascii "/self::a[" ++ denied_times 59 (ascii "b") ++ ascii "]")) (89 ∷ []) &&
    same (on_b (ascii "/self::a[" ++ denied_times 60 (ascii "b") ++ ascii "]")) (9 ∷ 65 ∷ []) &&
    same (on_b (ascii "/self::a[" ++ denied_times 63 (ascii "b") ++ ascii "]")) (9 ∷ 68 ∷ []) &&
    same (on_b (ascii "/a[" ++ denied_times 63 (ascii "..") ++ ascii "]")) (93 ∷ []) &&
    same (on_b (ascii "/self::a[" ++ denied_times 60 (ascii "self::a[.]/b") ++ ascii "]")) (9 ∷ 65 ∷ [])

-- All of this holds, by computation.
pub guards_hold : T (all_rows guard_rows && nestings)
unfolding height over good_node table_fault good_mark marks_fault reaches selects keeps kept run_answer run_marks read_answer read_out read_items compose_answer compose_out names_fault names_of bad_line tokens token_at read_text read_tail read_tested read_step read_operand read_term read_expr read_path path_at step_at encode decode take_operand take_term take_expr size nesting reversed selected_by visible last_step composed_path composed
guards_hold = tt

-- Does the program print this of the input?
abbrev pub prints_of : List ℕ → String → Bool
prints_of input expected = same (program_prints input) (ascii expected)

-- 01's sample, missing lines, a list without its last LF, and nesting 61 on `/b`.
abbrev pub inputs_printed : Bool
inputs_printed =
    prints_of (ascii "/a\n/b\na\nb\n")
    "/child::a[descendant-or-self::node()[self::b/parent::node()[not(parent::node())]] or ancestor-or-self::node()[self::b/parent::node()[not(parent::node())]]]/descendant-or-self::node()[ancestor-or-self::node()[self::b/parent::node()[not(parent::node())]]]\nsize 28 nesting 4\n" &&
    prints_of (ascii "") "refused outer 3 0\n" &&
    prints_of (ascii "/") "refused inner 3 0\n" &&
    prints_of (ascii "/a") "refused outer 5 1\n" &&
    prints_of (ascii "/\n/[\n") "refused inner 3 1\n" &&
    prints_of (ascii "/a\n/b\na\nb") "refused outer 2 2\n" &&
    prints_of (ascii "/\r\n/\r\n") "/descendant-or-self::node()[ancestor-or-self::node()[self::node()[not(parent::node())]]]\nsize 9 nesting 4\n" &&
    prints_of (ascii "/a\r\n/b\r\na\nb\r\n") "refused outer 2 2\n" &&
    prints_of (ascii "/a[" ++ denied 60 ++ ascii "]\n/b\na\nb\n") "refused compose 9 65\n"

-- All of it is printed so, by computation.
pub inputs_hold : T inputs_printed
unfolding decimal query_prints queries_print texts_print program_prints read_answer read_items compose_answer print_answer head_pieces deepened printed pieces names_fault names_of bad_line tokens token_at read_text read_tail read_tested read_step read_operand read_term read_expr read_path path_at step_at encode decode take_operand take_term take_expr size nesting reversed selected_by visible last_step composed_path composed
inputs_hold = tt

-- 02, 2026-10: what a run of a composition on the table answers, lent so many bytes of scratch.
abbrev pub run_with : String → String → ℕ → List ℕ
run_with outer inner room = numbers (run_answer (joined_items (items_of outer) (items_of inner)) table (replicate 7 1) 7 room)

-- Heights, path counts and the scratch told by them; the bound is reached, so that a byte less is refused, and the five numbers are judged at their edges.
abbrev pub scratch_told : Bool
scratch_told =
    same (numbers (height_answer (items_of "/a[not(b)]|/c"))) (3 ∷ []) &&
    same (numbers (paths_answer (items_of "/a[not(b)]|/c"))) (2 ∷ []) &&
    same (numbers (height_answer [])) (6 ∷ 0 ∷ []) &&
    same (numbers (paths_answer (1 ∷ []))) (6 ∷ 0 ∷ []) &&
    same (numbers (scratch_answer 7 1 1 1 1)) (98 ∷ []) &&
    same (run_with "/a" "/b" 98) (0 ∷ []) &&
    same (run_with "/a" "/b" 97) (10 ∷ 98 ∷ []) &&
    same (numbers (scratch_answer 7 1 1 1 2)) (112 ∷ []) &&
    same (run_with "/a" "/b|/c" 112) (0 ∷ []) &&
    same (run_with "/a" "/b|/c" 111) (10 ∷ 112 ∷ []) &&
    same (numbers (scratch_answer 4096 4096 4096 4096 4096)) (100679680 ∷ []) &&
    same (numbers (scratch_answer 4097 1 1 1 1)) (1 ∷ 0 ∷ []) &&
    same (numbers (scratch_answer 1 0 1 1 1)) (1 ∷ 0 ∷ []) &&
    same (numbers (scratch_answer 1 1 4097 1 1)) (1 ∷ 0 ∷ []) &&
    same (numbers (scratch_answer 1 1 1 0 1)) (1 ∷ 0 ∷ []) &&
    same (numbers (scratch_answer 1 1 1 1 4097)) (1 ∷ 0 ∷ [])

-- All of this holds, by computation.
pub scratch_holds : T scratch_told
unfolding measure_answer scratch_answer height over good_node table_fault good_mark marks_fault reaches selects keeps kept run_answer read_answer read_out read_items compose_answer compose_out names_fault names_of bad_line tokens token_at read_text read_tail read_tested read_step read_operand read_term read_expr read_path path_at step_at encode decode take_operand take_term take_expr size nesting reversed selected_by visible last_step composed_path composed
scratch_holds = tt

-- 02, 2026-08: does reading the text, with the names a, b and union, answer so by version 1, and so by version 2?
abbrev pub reads_by : String → List ℕ → List ℕ → Bool
reads_by text first second =
    let answers : ℕ → List ℕ = λ version. numbers (read_answer (ascii text) version (ascii "a\nb\nunion\n") 100) in
    same (answers 1) first && same (answers 2) second

-- The items of a text read by version 2, with those names; of two texts, are they the same?
abbrev pub items_by : String → List ℕ
items_by text = read_items (ascii text) 2 (ascii "a\nb\nunion\n")

abbrev pub means_by : String → String → Bool
means_by text other = same (items_by text) (items_by other)

-- Predicates after `.` and `..`; `union` between paths, as a name and in a predicate; versions that there are not.
abbrev pub versions_read : Bool
versions_read =
    reads_by "/.[a]" (3 ∷ 2 ∷ []) (4 ∷ []) &&
    reads_by "/a/..[b][a]" (3 ∷ 5 ∷ []) (7 ∷ []) &&
    reads_by "/a[.[b]/..[a]]" (3 ∷ 4 ∷ []) (9 ∷ []) &&
    reads_by "/.[a" (3 ∷ 2 ∷ []) (3 ∷ 4 ∷ []) &&
    reads_by "/a union /b" (3 ∷ 3 ∷ []) (4 ∷ []) &&
    reads_by "/ union /b" (3 ∷ []) (3 ∷ []) &&
    reads_by "/ union /" (3 ∷ 9 ∷ []) (3 ∷ 9 ∷ []) &&
    reads_by "//union union /union" (3 ∷ 8 ∷ []) (5 ∷ []) &&
    reads_by "/a | / union union //union" (3 ∷ 13 ∷ []) (7 ∷ []) &&
    reads_by "/a union" (3 ∷ 3 ∷ []) (3 ∷ 8 ∷ []) &&
    reads_by "/a unions /b" (3 ∷ 3 ∷ []) (3 ∷ 3 ∷ []) &&
    reads_by "/a[a union b]" (3 ∷ 5 ∷ []) (3 ∷ 5 ∷ []) &&
    reads_by "/a[. | b]" (3 ∷ 5 ∷ []) (3 ∷ 5 ∷ []) &&
    reads_by "/a[union]" (4 ∷ []) (4 ∷ []) &&
    means_by "/.[a]" "/self::node()[a]" &&
    means_by "/a/..[b][a]" "/a/parent::node()[b][a]" &&
    means_by "/a union /b" "/a | /b" &&
    means_by "/ union /b" "/union/b" &&
    same (numbers (read_answer (ascii "/") 0 names 100)) (1 ∷ 0 ∷ []) &&
    same (numbers (read_answer (ascii "/") 3 names 100)) (1 ∷ 0 ∷ [])

-- All of this holds, by computation.
pub versions_hold : T versions_read
unfolding read_answer read_items names_fault names_of bad_line tokens token_at read_text read_tail read_tested read_step read_operand read_term read_expr read_path encode size
versions_hold = tt
