-- docs/SCOPE.md, "Lean composition", by computation: the sizes and the text that are stated there, small documents on which each slip in the decision shows, and the composition itself as the other side.
use Rattle.std.specs.Prelude.{ℕ, Bool, ◌&&◌, List, [], ◌∷◌, ◌++◌, T, replicate}
use Prim.Native.String.{String}
use Rattle.paper.specs.Tools.{ascii, same}
use Rattle.paper.specs.Names.{names_fault, names_of, bad_line}
use Rattle.paper.specs.Tokens.{tokens, token_at}
use Rattle.paper.specs.Reading.{read_text, read_tail, read_tested, read_step, read_operand, read_term, read_expr, read_path}
use Rattle.paper.specs.Items.{path_at, step_at, encode, decode, take_operand, take_term, take_expr}
use Rattle.paper.specs.Measures.{size, nesting, height}
use Rattle.paper.specs.Printing.{head_pieces, deepened, printed, pieces}
use Rattle.paper.specs.Document.{Table, over, good_node, table_fault, good_mark, marks_fault}
use Rattle.paper.specs.Selection.{reaches, selects, keeps, kept}
use Rattle.paper.specs.Composition.{reversed, selected_by, visible, last_step, composed_path, composed}
use Rattle.paper.specs.Answers.{read_answer, read_out, read_items, compose_answer, compose_out, run_answer, run_marks, print_answer, print_out}
use Rattle.paper.specs.Lean.{composed_path_by, composed_by, compose_lean_answer, compose_lean_out}
use Rattle.paper.specs.Samples.{items_of, counted, marks_of, marks, numbers, names, printed_items, denied_times}

-- The items of a lean composition, of a text with other names, and what the two compositions of two texts answer.
abbrev pub lean_items : List ℕ → List ℕ → List ℕ
lean_items outer inner = counted (compose_lean_answer outer inner 400) (compose_lean_out outer inner (replicate 400 7))

abbrev pub items_by : String → String → List ℕ
items_by list text = counted (read_answer (ascii text) 1 (ascii list) 100) (read_out (ascii text) 1 (ascii list) (replicate 100 7))

abbrev pub lean_sized : List ℕ → List ℕ → ℕ → Bool
lean_sized outer inner expected = same (numbers (compose_lean_answer outer inner 400)) (expected ∷ [])

-- The queries of document 000.
abbrev pub site : String
site = "site\nregions\neurope\nitem\nquantity\nlocation\ndesc\n"

abbrev pub q1 : List ℕ
q1 = items_by site "/site/regions/europe"

abbrev pub q2 : List ℕ
q2 = items_by site "//item[not(quantity)]|//item/location"

abbrev pub q3 : List ℕ
q3 = items_by site "//item[location or desc]"

-- Sizes; `/a` on `/b` as text; nesting by the steps that are guarded, and the last step in no bracket; and the refusals.
abbrev pub lean_stated : Bool
lean_stated =
    lean_sized q3 q1 61 && lean_sized q2 q1 53 && lean_sized q3 q2 116 && lean_sized (lean_items q3 q2) q1 316 &&
    lean_sized (items_of "/a") (items_of "/b") 11 &&
    same (printed_items names (lean_items (items_of "/a") (items_of "/b")))
    (ascii "/child::a/descendant-or-self::node()[ancestor-or-self::node()[self::b/parent::node()[not(parent::node())]]]") &&
    lean_sized (items_of "/a/..") (items_of "/b") 29 &&
    lean_sized (items_of "/a[b/c]") (items_of "/b") 31 &&
    lean_sized (items_of "/a[b/./.]") (items_of "/b") 32 &&
    same (numbers (compose_lean_answer (items_by "a\nb\n" "/a") (items_by "a\nb\n" "/b") 10)) (10 ∷ 11 ∷ []) &&
    same (numbers (compose_lean_answer [] (1 ∷ []) 10)) (6 ∷ 0 ∷ []) &&
    same (numbers (compose_lean_answer (items_of "/") (1 ∷ []) 10)) (6 ∷ 1 ∷ [])

-- What the lean composition with `/b` answers for an outer text.
abbrev pub lean_on_b : List ℕ → List ℕ
lean_on_b outer = numbers (compose_lean_answer (counted (read_answer outer 1 names 100) (read_out outer 1 names (replicate 100 7))) (items_of "/b") 200)

-- Nesting 64 by steps in whose path a step that goes down follows, and 61 refused where the deepest bracket has a guarded step.
abbrev pub lean_nestings : Bool
lean_nestings =
    same (lean_on_b (ascii "/a[" ++ denied_times 63 (ascii ".") ++ ascii "]")) (76 ∷ []) &&
    same (lean_on_b (ascii "/a[" ++ denied_times 59 (ascii "b") ++ ascii "]")) (89 ∷ []) &&
    same (lean_on_b (ascii "/a[" ++ denied_times 60 (ascii "b") ++ ascii "]")) (9 ∷ 65 ∷ []) &&
    same (lean_on_b (ascii "/a[" ++ denied_times 60 (ascii "b/..") ++ ascii "]")) (9 ∷ 65 ∷ [])

-- The names r a b, and a document with an element r, in it an a and a b.
abbrev pub few : String
few = "r\na\nb\n"

abbrev pub small : Table
small = record { parents = 0 ∷ 0 ∷ 1 ∷ 1 ∷ []; kinds = 0 ∷ 2 ∷ 3 ∷ 4 ∷ [] }

-- The marks on it of the lean composition with `/r/b`, which hides a.
abbrev pub hiding_a : String → List ℕ
hiding_a outer = run_marks (lean_items (items_by few outer) (items_by few "/r/b")) small (replicate 4 1) (replicate 4 7) 1000

-- A guard before a step that goes up or sideways, at the end of a path in a predicate, behind self; the last step.
abbrev pub lean_slips : Bool
lean_slips =
    same (hiding_a "/r[not(a/..)]") (marks "1101") &&
    same (hiding_a "/r/a/../b") (marks "0000") &&
    same (hiding_a "/r[not(a/following-sibling::b)]") (marks "1101") &&
    same (hiding_a "/r[not(a/following::b)]") (marks "1101") &&
    same (hiding_a "/r[not(b/preceding-sibling::a)]") (marks "1101") &&
    same (hiding_a "/r[not(a)]") (marks "1101") &&
    same (hiding_a "/r[not(a/self::node())]") (marks "1101") &&
    same (hiding_a "/r[not(a/self::node()/..)]") (marks "1101") &&
    same (hiding_a "/") (marks "1101") &&
    same (hiding_a "/r/a") (marks "0000")

-- Do both compositions leave the same marks on 01's table?
abbrev pub guarded_items : List ℕ → List ℕ → List ℕ
guarded_items outer inner = counted (compose_answer outer inner 400) (compose_out outer inner (replicate 400 7))

abbrev pub alike : String → String → Bool
alike outer inner = same (marks_of (lean_items (items_of outer) (items_of inner))) (marks_of (guarded_items (items_of outer) (items_of inner)))

abbrev pub lean_alike : Bool
lean_alike =
    alike "/a[not(b/c)]" "/a/b/d" && alike "/" "/a/b/d" && alike "/" "/b" && alike "//d/ancestor::b" "/a/b/d" && alike "//b[not(.//c)]" "//d" &&
    alike "//c[not(text()/..)]" "//c" && alike "/a/b[not(preceding-sibling::b/c)]" "/a/b/d" && alike "//node()[not(./c)]" "//d" && alike "/a/b[not(d)]/c" "/a/b/c"

-- All of this holds, by computation.
pub lean_holds : T (lean_stated && lean_nestings && lean_slips && lean_alike)
unfolding compose_lean_answer compose_lean_out composed_path_by composed_by height over good_node table_fault good_mark marks_fault reaches selects keeps kept run_answer run_marks read_answer read_out read_items compose_answer compose_out print_answer print_out head_pieces deepened printed pieces names_fault names_of bad_line tokens token_at read_text read_tail read_tested read_step read_operand read_term read_expr read_path path_at step_at encode decode take_operand take_term take_expr size nesting reversed selected_by visible last_step composed_path composed
lean_holds = tt
